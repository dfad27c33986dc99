-- Each number is one of its type, and each array has its length.
use Rattle.std.specs.Prelude.{◌^◌, ◌<◌, ◌≡◌, length, ℕ, Option, Some, None}
use Rattle.words.specs.Words.{Below}
use Rattle.bars.specs.declared.How.{How}
use Rattle.bars.specs.declared.How.TheVariants as hv
use Rattle.bars.specs.declared.Pick.{Pick}
use Rattle.reply.specs.declared.FuncInfo.{FuncInfo}
use Rattle.words_info.specs.declared.Told.{Told}
use Rattle.reply.specs.declared.DevCap.{DevCap}
use Rattle.reply.specs.declared.PortInfo.{PortInfo}

abbrev pub SizeFits : Option ℕ → Type 0
SizeFits (Some x) = x < 2 ^ 64
SizeFits None = Unit {0}

abbrev pub HowFits : How → Type 0
HowFits hv.BaseMatches = Unit {0}
HowFits hv.Scan = Unit {0}
HowFits hv.OnlyAnswer = Unit {0}
HowFits hv.NoMatch = Unit {0}
HowFits hv.NoAnswer = Unit {0}

pub record PickFits (v : Pick) : Type 0 where
  pub index : v.index < 2 ^ 8
  pub size : SizeFits v.size
  pub how : HowFits v.how

pub record FuncFits (v : FuncInfo) : Type 0 where
  pub rsvd_eqs_lem : v.rsvd_eqs < 2 ^ 16
  pub max_eqs : v.max_eqs < 2 ^ 16
  pub rsvd_uars : v.rsvd_uars < 2 ^ 8

pub record ToldFits (v : Told) : Type 0 where
  pub uar : PickFits v.uar
  pub func : FuncFits v.func

pub record CapFits (v : DevCap) : Type 0 where
  pub rsvd_qps : v.rsvd_qps < 2 ^ 16
  pub rsvd_srqs : v.rsvd_srqs < 2 ^ 16
  pub rsvd_cqs : v.rsvd_cqs < 2 ^ 16
  pub rsvd_eqs_lem : v.rsvd_eqs < 2 ^ 16
  pub max_eqs : v.max_eqs < 2 ^ 16
  pub rsvd_mtts : v.rsvd_mtts < 2 ^ 16
  pub rsvd_mpts : v.rsvd_mpts < 2 ^ 16
  pub rsvd_uars : v.rsvd_uars < 2 ^ 8
  pub rsvd_pds : v.rsvd_pds < 2 ^ 8
  pub num_sys_eqs : v.num_sys_eqs < 2 ^ 16
  pub ports : v.ports < 2 ^ 8
  pub log_max_qp_wqes : v.log_max_qp_wqes < 2 ^ 8
  pub log_max_cqes : v.log_max_cqes < 2 ^ 8
  pub log_min_page : v.log_min_page < 2 ^ 8
  pub flags : v.flags < 2 ^ 64
  pub flags2 : v.flags2 < 2 ^ 32
  pub bmme : v.bmme < 2 ^ 32
  pub uar_bytes : v.uar_bytes < 2 ^ 64
  pub max_icm : v.max_icm < 2 ^ 64
  pub entry : (length v.entry ≡ 11) × Below (2 ^ 16) v.entry

pub record PortFits (v : PortInfo) : Type 0 where
  pub num : v.num < 2 ^ 8
  pub b0 : v.b0 < 2 ^ 8
  pub mtu_cap : v.mtu_cap < 2 ^ 16
  pub log_macs : v.log_macs < 2 ^ 8
  pub speed : v.speed < 2 ^ 8
  pub xcvr : v.xcvr < 2 ^ 32
  pub wavelength : v.wavelength < 2 ^ 16
  pub xcvr_code : v.xcvr_code < 2 ^ 64
  pub mac : (length v.mac ≡ 6) × Below (2 ^ 8) v.mac
