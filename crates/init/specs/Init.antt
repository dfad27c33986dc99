-- The mailboxes of INIT_HCA and MOD_STAT_CFG, each as a table of fields (offset, width, value) over zeros: "unset bytes are 0".
-- Public document: ConnectX-3 Programmer's Reference Manual, these two commands. It was not at
-- hand: bases and logs are document 01's, the other bytes the Rust's.
use Rattle.std.specs.Prelude.{ℕ, ◌+◌, ◌/◌, ◌%◌, Bool, ◌&&◌, ◌||◌, List, [], ◌∷◌, eqb, length, replicate}
use Rattle.std.specs.Int.Count.{count_trailing_zeros}
use Rattle.fields.specs.Fields.{put_at}
use Rattle.fields.specs.Outcome.{Outcome, value, refused, pick}
use Rattle.fields.specs.declared.Order.TheVariants.{Big}
use Rattle.reply.specs.Capability.{bit}
use Rattle.reply.specs.declared.DevCap.{DevCap}
use Rattle.layout.specs.declared.Table.{Table}
use Rattle.layout.specs.Layout.{table_in}
use Rattle.init.specs.declared.Field.{Field}
use Rattle.init.specs.declared.InitHca.{InitHca}

abbrev pub field : (offset width value : ℕ) → Field
field o w v = record { offset = o; width = w; value = v }

-- the bytes once each field, in turn, is written
unfoldable pub put_all : List ℕ → List Field → List ℕ
put_all s [] = s
put_all s (f ∷ fs) = put_all (put_at Big s f.offset f.width f.value) fs

-- a mailbox of 4,096 bytes with these fields
abbrev pub mailbox_of : List Field → List ℕ
mailbox_of fs = put_all (replicate 4096 0) fs

-- "21 .. mailbox not 4,096 bytes": then it stays as it was
abbrev pub filled_by : List ℕ → List Field → List ℕ
filled_by s fs = pick (eqb (length s) 4096) (mailbox_of fs) s

abbrev pub fill_of : List ℕ → Outcome Unit
fill_of s = pick (eqb (length s) 4096) (value tt) (refused 21 [])

-- INIT_HCA. "Bases with a log in byte 7: 0x30 QPC, 0x48 SRQC, 0x50 CQC, 0x80 EQC (0x1f if num_sys_eqs is not 0), 0x90 RDMARC (4). Bases alone: 0x60 ALTC,
-- 0x70 AUXC, 0xc0 MCG, 0xf0 dMPT, 0x100 MTT, 0x108 cMPT. Other bytes as `init_hca` sets them."
abbrev pub fields_of : InitHca → List Field
fields_of h =
    field 0x000 1 2
    ∷ field 0x00e 1 0x50
    ∷ field 0x014 4 h.flags
    ∷ field 0x030 8 h.qpc
    ∷ field 0x037 1 h.log_qps
    ∷ field 0x048 8 h.srqc
    ∷ field 0x04f 1 h.log_srqs
    ∷ field 0x050 8 h.cqc
    ∷ field 0x057 1 h.log_cqs
    ∷ field 0x060 8 h.altc
    ∷ field 0x070 8 h.auxc
    ∷ field 0x080 8 h.eqc
    ∷ field 0x087 1 h.log_eqs
    ∷ field 0x08a 2 h.num_sys_eqs
    ∷ field 0x090 8 h.rdmarc
    ∷ field 0x097 1 h.log_rdmarcs
    ∷ field 0x0c0 8 h.mcg
    ∷ field 0x0d3 1 h.log_mcg_entry
    ∷ field 0x0d7 1 h.log_mcg_hash
    ∷ field 0x0d8 1 h.steering
    ∷ field 0x0db 1 h.log_mcgs
    ∷ field 0x0f0 8 h.dmpt
    ∷ field 0x0f8 1 h.windows
    ∷ field 0x0fb 1 h.log_mpts
    ∷ field 0x100 8 h.mtt
    ∷ field 0x108 8 h.cmpt
    ∷ field 0x12a 1 h.log_uar_pages
    ∷ field 0x12b 1 0
    ∷ []

-- the exponent of a table's count, and what a bit is worth where it is set
abbrev pub log_of : ℕ → ℕ
log_of n = count_trailing_zeros 64 n

abbrev pub worth : Bool → ℕ → ℕ
worth b n = pick b n 0

-- be32 at 0x14: bit 0 always, bit 3 for flag 7, bit 4 for flag 48, bit 13 for flag 52
abbrev pub flags_of : DevCap → ℕ
flags_of c = 1 + worth (bit 7 c.flags) 8 + worth (bit 48 c.flags) 16 + worth (bit 52 c.flags) 8192

-- what the mailbox says, from the capabilities and the tables
abbrev pub init_of : DevCap → List Table → InitHca
init_of c rows =
    record {
      flags = flags_of c;
      qpc = (table_in 0 rows).base;
      log_qps = log_of (table_in 0 rows).count;
      srqc = (table_in 4 rows).base;
      log_srqs = log_of (table_in 4 rows).count;
      cqc = (table_in 5 rows).base;
      log_cqs = log_of (table_in 5 rows).count;
      altc = (table_in 2 rows).base;
      auxc = (table_in 3 rows).base;
      eqc = (table_in 6 rows).base;
      log_eqs = pick (eqb c.num_sys_eqs 0) (log_of (table_in 6 rows).count) 0x1f;
      num_sys_eqs = c.num_sys_eqs;
      rdmarc = (table_in 1 rows).base;
      log_rdmarcs = 4;
      mcg = (table_in 10 rows).base;
      log_mcg_entry = 10;
      log_mcg_hash = (log_of (table_in 10 rows).count + 255) % 256;
      steering = worth (bit 41 c.flags && bit 42 c.flags) 8;
      log_mcgs = log_of (table_in 10 rows).count;
      dmpt = (table_in 7 rows).base;
      windows = worth (bit 16 c.flags || bit 9 c.bmme) 0x80;
      log_mpts = log_of (table_in 7 rows).count;
      mtt = (table_in 9 rows).base;
      cmpt = (table_in 8 rows).base;
      log_uar_pages = log_of (c.uar_bytes / 4096);
    }

-- MOD_STAT_CFG: "byte 0x02 = 1", 4 KiB pages for the device
abbrev pub mod_stat_cfg : List Field
mod_stat_cfg = field 0x02 1 1 ∷ field 0x03 1 0 ∷ []
