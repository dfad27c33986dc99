-- What the card and the host have said, as words.
use Rattle.std.specs.Prelude.{ℕ, ◌%◌, List, [], ◌∷◌, eqb, Option, Some, None}
use Rattle.fields.specs.Outcome.{pick}
use Rattle.words.specs.Words.{at, bit_of}
use Rattle.bars.specs.declared.How.{How}
use Rattle.bars.specs.declared.How.TheVariants as hv
use Rattle.bars.specs.declared.Pick.{Pick}
use Rattle.reply.specs.declared.FuncInfo.{FuncInfo}
use Rattle.words_info.specs.declared.Told.{Told}
use Rattle.reply.specs.declared.DevCap.{DevCap}
use Rattle.reply.specs.declared.PortInfo.{PortInfo}

-- the length of a BAR
abbrev pub size_words : Option ℕ → List ℕ
size_words (Some x) = 0 ∷ x ∷ []
size_words None = 1 ∷ 0 ∷ []

abbrev pub size_of : (tag a : ℕ) → Option ℕ
size_of tag a =
    pick (eqb tag 1) None (
    Some a)

-- how an index was chosen
abbrev pub how_words : How → List ℕ
how_words hv.BaseMatches = 0 ∷ []
how_words hv.Scan = 1 ∷ []
how_words hv.OnlyAnswer = 2 ∷ []
how_words hv.NoMatch = 3 ∷ []
how_words hv.NoAnswer = 4 ∷ []

abbrev pub how_of : (tag : ℕ) → How
how_of tag =
    pick (eqb tag 1) hv.Scan (
    pick (eqb tag 2) hv.OnlyAnswer (
    pick (eqb tag 3) hv.NoMatch (
    pick (eqb tag 4) hv.NoAnswer (
    hv.BaseMatches))))

abbrev pub pick_words : Pick → List ℕ
pick_words v = v.index ∷ at (size_words v.size) 0 ∷ at (size_words v.size) 1 ∷ at (how_words v.how) 0 ∷ []

abbrev pub pick_of : (a b d e : ℕ) → Pick
pick_of a b d e = record {
  index = a % 256;
  size = size_of b d;
  how = how_of e;
}

abbrev pub func_words : FuncInfo → List ℕ
func_words v = v.rsvd_eqs ∷ v.max_eqs ∷ v.rsvd_uars ∷ []

abbrev pub func_of : (a b d : ℕ) → FuncInfo
func_of a b d = record {
  rsvd_eqs = a % 65536;
  max_eqs = b % 65536;
  rsvd_uars = d % 256;
}

-- the UAR BAR, what QUERY_FUNC said, and the revision
abbrev pub told_words : Told → List ℕ
told_words v = at (pick_words v.uar) 0 ∷ at (pick_words v.uar) 1 ∷ at (pick_words v.uar) 2 ∷ at (pick_words v.uar) 3 ∷ at (func_words v.func) 0 ∷ at (func_words v.func) 1 ∷ at (func_words v.func) 2 ∷ bit_of v.rev3 ∷ []

abbrev pub told_of : List ℕ → Told
told_of w = record {
  uar = pick_of (at w 0) (at w 1) (at w 2) (at w 3);
  func = func_of (at w 4) (at w 5) (at w 6);
  rev3 = eqb (at w 7) 1;
}

-- the capabilities
abbrev pub cap_words : DevCap → List ℕ
cap_words v = v.rsvd_qps ∷ v.rsvd_srqs ∷ v.rsvd_cqs ∷ v.rsvd_eqs ∷ v.max_eqs ∷ v.rsvd_mtts ∷ v.rsvd_mpts ∷ v.rsvd_uars ∷ v.rsvd_pds ∷ v.num_sys_eqs ∷ v.ports ∷ v.log_max_qp_wqes ∷ v.log_max_cqes ∷ v.log_min_page ∷ v.flags ∷ v.flags2 ∷ v.bmme ∷ bit_of v.eth_prot_ctrl ∷ bit_of v.eth_backpl_an_rep ∷ v.uar_bytes ∷ v.max_icm ∷ at v.entry 0 ∷ at v.entry 1 ∷ at v.entry 2 ∷ at v.entry 3 ∷ at v.entry 4 ∷ at v.entry 5 ∷ at v.entry 6 ∷ at v.entry 7 ∷ at v.entry 8 ∷ at v.entry 9 ∷ at v.entry 10 ∷ []

-- the entry sizes by table index
abbrev pub entry_of : List ℕ → List ℕ
entry_of w = at w 21 % 65536 ∷ at w 22 % 65536 ∷ at w 23 % 65536 ∷ at w 24 % 65536 ∷ at w 25 % 65536 ∷ at w 26 % 65536 ∷ at w 27 % 65536 ∷ at w 28 % 65536 ∷ at w 29 % 65536 ∷ at w 30 % 65536 ∷ at w 31 % 65536 ∷ []

abbrev pub cap_of : List ℕ → DevCap
cap_of w = record {
  rsvd_qps = at w 0 % 65536;
  rsvd_srqs = at w 1 % 65536;
  rsvd_cqs = at w 2 % 65536;
  rsvd_eqs = at w 3 % 65536;
  max_eqs = at w 4 % 65536;
  rsvd_mtts = at w 5 % 65536;
  rsvd_mpts = at w 6 % 65536;
  rsvd_uars = at w 7 % 256;
  rsvd_pds = at w 8 % 256;
  num_sys_eqs = at w 9 % 65536;
  ports = at w 10 % 256;
  log_max_qp_wqes = at w 11 % 256;
  log_max_cqes = at w 12 % 256;
  log_min_page = at w 13 % 256;
  flags = at w 14;
  flags2 = at w 15 % 4294967296;
  bmme = at w 16 % 4294967296;
  eth_prot_ctrl = eqb (at w 17) 1;
  eth_backpl_an_rep = eqb (at w 18) 1;
  uar_bytes = at w 19;
  max_icm = at w 20;
  entry = entry_of w;
}

-- a port
abbrev pub port_words : PortInfo → List ℕ
port_words v = v.num ∷ bit_of v.link_up ∷ v.b0 ∷ v.mtu_cap ∷ v.log_macs ∷ bit_of v.autoneg ∷ bit_of v.an_complete ∷ v.speed ∷ v.xcvr ∷ v.wavelength ∷ v.xcvr_code ∷ at v.mac 0 ∷ at v.mac 1 ∷ at v.mac 2 ∷ at v.mac 3 ∷ at v.mac 4 ∷ at v.mac 5 ∷ []

abbrev pub port_of : List ℕ → PortInfo
port_of w = record {
  num = at w 0 % 256;
  link_up = eqb (at w 1) 1;
  b0 = at w 2 % 256;
  mtu_cap = at w 3 % 65536;
  log_macs = at w 4 % 256;
  autoneg = eqb (at w 5) 1;
  an_complete = eqb (at w 6) 1;
  speed = at w 7 % 256;
  xcvr = at w 8 % 4294967296;
  wavelength = at w 9 % 65536;
  xcvr_code = at w 10;
  mac = at w 11 % 256 ∷ at w 12 % 256 ∷ at w 13 % 256 ∷ at w 14 % 256 ∷ at w 15 % 256 ∷ at w 16 % 256 ∷ [];
}
