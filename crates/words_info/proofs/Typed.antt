-- A value of its type fits, part by part of what the card has said: each number is below the bound of its width. How what the language says of a value is read: words/proofs/Typed.antt.
use Rattle.std.specs.Prelude.{ℕ, Option, Some, None}
use mathlib.Core.List.{List}
use mir.Syntax.{w8, w16}
use mir.Val.{Val}
use denote.Laws.{Is}
use denote.Builtin.{u64}
use Rattle.words.proofs.Typed.{array_below}
use Rattle.bars.specs.declared.How.{How}
use Rattle.bars.specs.declared.Pick.{Pick}
use Rattle.reply.specs.declared.FuncInfo.{FuncInfo}
use Rattle.reply.specs.declared.DevCap.{DevCap}
use Rattle.reply.specs.declared.PortInfo.{PortInfo}
use Rattle.bars.specs.declared.How.TheVariants as how
use Rattle.std.specs.contracts.option.Option.{the_field as option-of, the_type as option-type}
use Rattle.bars.specs.contracts.How.{the_row as how-row}
use Rattle.bars.specs.contracts.Pick.{the_row as pick-row}
use Rattle.reply.specs.contracts.FuncInfo.{the_row as func-row}
use Rattle.reply.specs.contracts.DevCap.{the_row as cap-row}
use Rattle.reply.specs.contracts.PortInfo.{the_row as port-row}
use Rattle.words_info.specs.Fits.{SizeFits, HowFits, PickFits, FuncFits, CapFits, PortFits}

pub size_typed : (v : Option ℕ) (vs : List Val) → Is (option-of u64).row ((option-type u64).to v) vs → SizeFits v
size_typed (Some x) vs h = h.1.1.1.1.0.1
size_typed None vs h = tt

pub how_typed : (v : How) (vs : List Val) → Is how-row v vs → HowFits v
how_typed how.BaseMatches vs h = tt
how_typed how.Scan vs h = tt
how_typed how.OnlyAnswer vs h = tt
how_typed how.NoMatch vs h = tt
how_typed how.NoAnswer vs h = tt

pub pick_typed : (v : Pick) (vs : List Val) → Is pick-row v vs → PickFits v
pick_typed v vs h = record {
  index = h.1.1.0.1;
  size = size_typed v.size _ h.1.1.1.0;
  how = how_typed v.how _ h.1.1.1.1.0;
}

pub func_typed : (v : FuncInfo) (vs : List Val) → Is func-row v vs → FuncFits v
func_typed v vs h = record {
  rsvd_eqs_lem = h.1.1.0.1;
  max_eqs = h.1.1.1.0.1;
  rsvd_uars = h.1.1.1.1.0.1;
}

pub cap_typed : (v : DevCap) (vs : List Val) → Is cap-row v vs → CapFits v
cap_typed v vs h = record {
  rsvd_qps = h.1.1.0.1;
  rsvd_srqs = h.1.1.1.0.1;
  rsvd_cqs = h.1.1.1.1.0.1;
  rsvd_eqs_lem = h.1.1.1.1.1.0.1;
  max_eqs = h.1.1.1.1.1.1.0.1;
  rsvd_mtts = h.1.1.1.1.1.1.1.0.1;
  rsvd_mpts = h.1.1.1.1.1.1.1.1.0.1;
  rsvd_uars = h.1.1.1.1.1.1.1.1.1.0.1;
  rsvd_pds = h.1.1.1.1.1.1.1.1.1.1.0.1;
  num_sys_eqs = h.1.1.1.1.1.1.1.1.1.1.1.0.1;
  ports = h.1.1.1.1.1.1.1.1.1.1.1.1.0.1;
  log_max_qp_wqes = h.1.1.1.1.1.1.1.1.1.1.1.1.1.0.1;
  log_max_cqes = h.1.1.1.1.1.1.1.1.1.1.1.1.1.1.0.1;
  log_min_page = h.1.1.1.1.1.1.1.1.1.1.1.1.1.1.1.0.1;
  flags = h.1.1.1.1.1.1.1.1.1.1.1.1.1.1.1.1.0.1;
  flags2 = h.1.1.1.1.1.1.1.1.1.1.1.1.1.1.1.1.1.0.1;
  bmme = h.1.1.1.1.1.1.1.1.1.1.1.1.1.1.1.1.1.1.0.1;
  uar_bytes = h.1.1.1.1.1.1.1.1.1.1.1.1.1.1.1.1.1.1.1.1.1.0.1;
  entry = array_below w16 11 v.entry _ h.1.1.1.1.1.1.1.1.1.1.1.1.1.1.1.1.1.1.1.1.1.1.0;
  max_icm = h.1.1.1.1.1.1.1.1.1.1.1.1.1.1.1.1.1.1.1.1.1.1.1.0.1;
}

pub port_typed : (v : PortInfo) (vs : List Val) → Is port-row v vs → PortFits v
port_typed v vs h = record {
  num = h.1.1.0.1;
  b0 = h.1.1.1.1.0.1;
  mtu_cap = h.1.1.1.1.1.0.1;
  log_macs = h.1.1.1.1.1.1.0.1;
  mac = array_below w8 6 v.mac _ h.1.1.1.1.1.1.1.0;
  speed = h.1.1.1.1.1.1.1.1.1.1.0.1;
  xcvr = h.1.1.1.1.1.1.1.1.1.1.1.0.1;
  wavelength = h.1.1.1.1.1.1.1.1.1.1.1.1.0.1;
  xcvr_code = h.1.1.1.1.1.1.1.1.1.1.1.1.1.0.1;
}
