-- The capability reply: the fields that the Rust's `query_dev_cap` reads, at their offsets, and the tests on it, 12 to 15, in their order.
-- Public document: ConnectX-3 Programmer's Reference Manual, QUERY_DEV_CAP. It was not at hand: the
-- offsets of the ten entry sizes, of input L and of the tests are document 01's, the others the
-- Rust's.
use Rattle.std.specs.Prelude.{ℕ, ◌+◌, ◌*◌, ◌/◌, ◌%◌, ◌^◌, ◌≤◌, ◌<◌, max, Bool, false, ◌||◌, not, ◌≡◌, List, [], ◌∷◌, length, get_or, set, replicate, ltb, eqb, Option, Some, None, Result, Ok, Err}
use Rattle.fields.specs.Fields.{be}
use Rattle.fields.specs.Outcome.{Outcome, value, refused, pick}
use Rattle.reply.specs.declared.Place.{Place}
use Rattle.reply.specs.declared.DevCap.{DevCap}
use Rattle.reply.specs.declared.CapRefusal.{CapRefusal}
use Rattle.reply.specs.declared.CapRefusal.TheVariants.{Short, MinPage, Ports, Uar, UarArea}

abbrev pub byte : List ℕ → ℕ → ℕ
byte s off = be s off 1

-- the low and the high four bits of the byte at off, and bit i of a number
abbrev pub low : List ℕ → ℕ → ℕ
low s off = byte s off % 16

abbrev pub high : List ℕ → ℕ → ℕ
high s off = byte s off / 16

abbrev pub bit : ℕ → ℕ → Bool
bit i n = eqb (n / 2 ^ i % 2) 1

-- "Reply offsets of the ten read entry sizes stand in one constant table": which table's entry size stands where
abbrev place : (table offset : ℕ) → Place
place t o = record { table = t; offset = o }

abbrev pub entry_places : List Place
entry_places =
    place 0 0x82 ∷ place 1 0x80 ∷ place 2 0x86 ∷ place 3 0x84 ∷ place 4 0x8c ∷ place 5 0x8a ∷ place 6 0x88 ∷ place 7 0x92 ∷ place 8 0x8e ∷ place 9 0x90 ∷ []

-- the sizes that the places give, written over those already there
unfoldable pub read_into : List ℕ → List Place → List ℕ → List ℕ
read_into s [] out = out
read_into s (p ∷ ps) out = read_into s ps (set out p.table (be s p.offset 2))

-- the MCG entry is fixed, "the MCG entry exponent 10"; the others are read
abbrev pub entries_of : List ℕ → List ℕ
entries_of s = read_into s entry_places (set (replicate 11 0) 10 (2 ^ 10))

-- what the tests look at: the exponent of the smallest page, the number of ports, and the UAR exponent field, "low six bits"
abbrev pub min_page : List ℕ → ℕ
min_page s = byte s 0x4b

abbrev pub ports_in : List ℕ → ℕ
ports_in s = low s 0x37

abbrev pub uar_field : List ℕ → ℕ
uar_field s = byte s 0x49 % 64

-- the UAR area: 2^field megabytes
abbrev pub uar_area : List ℕ → ℕ
uar_area s = 2 ^ (uar_field s + 20)

abbrev pub sys_eqs : List ℕ → ℕ
sys_eqs s = be s 0x26 2 % 4096

-- the reserved EQs: where the card has no system EQs, at least four for each reserved UAR
abbrev pub rsvd_eqs_value : List ℕ → ℕ
rsvd_eqs_value s = pick (eqb (sys_eqs s) 0) (max (2 ^ low s 0x1e) (4 * high s 0x48)) (2 ^ low s 0x1e)

-- every field, as the Rust's `query_dev_cap` decodes it
abbrev pub dev_cap_of : List ℕ → DevCap
dev_cap_of s =
    record {
      rsvd_qps = 2 ^ low s 0x12;
      rsvd_srqs = 2 ^ high s 0x14;
      rsvd_cqs = 2 ^ low s 0x1a;
      rsvd_eqs = rsvd_eqs_value s;
      max_eqs = 2 ^ low s 0x1f;
      rsvd_mtts = 2 ^ high s 0x20;
      rsvd_mpts = 2 ^ low s 0x22;
      rsvd_uars = high s 0x48;
      rsvd_pds = high s 0x64;
      num_sys_eqs = sys_eqs s;
      ports = ports_in s;
      log_max_qp_wqes = byte s 0x11;
      log_max_cqes = byte s 0x19;
      log_min_page = min_page s;
      flags = be s 0x40 8;
      flags2 = be s 0x70 4;
      bmme = be s 0x94 4;
      eth_prot_ctrl = bit 5 (byte s 0x7a);
      eth_backpl_an_rep = bit 0 (be s 0x9c 4);
      uar_bytes = uar_area s;
      entry = entries_of s;
      max_icm = be s 0xa0 8;
    }

-- no capabilities: what stands in for those of a reply that is refused
abbrev pub no_caps : DevCap
no_caps =
    record {
      rsvd_qps = 0;
      rsvd_srqs = 0;
      rsvd_cqs = 0;
      rsvd_eqs = 0;
      max_eqs = 0;
      rsvd_mtts = 0;
      rsvd_mpts = 0;
      rsvd_uars = 0;
      rsvd_pds = 0;
      num_sys_eqs = 0;
      ports = 0;
      log_max_qp_wqes = 0;
      log_max_cqes = 0;
      log_min_page = 0;
      flags = 0;
      flags2 = 0;
      bmme = 0;
      eth_prot_ctrl = false;
      eth_backpl_an_rep = false;
      uar_bytes = 0;
      entry = replicate 11 0;
      max_icm = 0;
    }

abbrev pub one_or_two : ℕ → Bool
one_or_two n = eqb n 1 || eqb n 2

-- the area is above the BAR's size; never, where that is unknown
abbrev pub above_size : Option ℕ → ℕ → Bool
above_size (Some n) area = ltb n area
above_size None area = false

-- Document 01's table, in its order: 21 slice too short; "12 min page exponent above 12 (exponent)"; "13 ports not 1 or 2 (ports)"; "14 UAR
-- exponent field at 0x49, low six bits, above 43 (field)"; "15 UAR area above known BAR size (area)"
abbrev pub capability_of : List ℕ → Option ℕ → Outcome DevCap
capability_of s bar =
    pick (ltb (length s) 168) (refused 21 [])
    (pick (ltb 12 (min_page s)) (refused 12 (min_page s ∷ []))
    (pick (not (one_or_two (ports_in s))) (refused 13 (ports_in s ∷ []))
    (pick (ltb 43 (uar_field s)) (refused 14 (uar_field s ∷ []))
    (pick (above_size bar (uar_area s)) (refused 15 (uar_area s ∷ []))
    (value (dev_cap_of s))))))

-- what each answer stands for
abbrev pub refused_by : CapRefusal → Outcome DevCap
refused_by Short = refused 21 []
refused_by (MinPage e) = refused 12 (e ∷ [])
refused_by (Ports n) = refused 13 (n ∷ [])
refused_by (Uar f) = refused 14 (f ∷ [])
refused_by (UarArea a) = refused 15 (a ∷ [])

abbrev pub capability : Result DevCap CapRefusal → Outcome DevCap
capability (Ok c) = value c
capability (Err k) = refused_by k

-- how large the fields of a reply can be (law `decoded_bounds`)
pub record Bounds (c : DevCap) : Type 0 where
  pub qps : c.rsvd_qps ≤ 2 ^ 15
  pub srqs : c.rsvd_srqs ≤ 2 ^ 15
  pub cqs : c.rsvd_cqs ≤ 2 ^ 15
  pub mtts : c.rsvd_mtts ≤ 2 ^ 15
  pub mpts : c.rsvd_mpts ≤ 2 ^ 15
  pub sys : c.num_sys_eqs < 2 ^ 12
  pub eleven : length c.entry ≡ 11
  pub entries : (i : ℕ) → get_or c.entry i 0 < 2 ^ 16
