-- What was put into words is read back from them.
use Rattle.std.specs.Prelude.{ℕ, Option, Some, None}
use mathlib.Core.Path.{◌≡◌, refl}
use native.Mathlib.Nat.{mod-eq_of_lt}
use native.Mathlib.Omega.{arith}
use lib.Dec.{lit<}
use Rattle.words.specs.Words.{at, cut}
use Rattle.words.proofs.Laws.{Words, words_at, bit_back, bit_small, cut_back}
use Rattle.words_info.specs.Coding.{size_words, size_of, how_words, how_of, pick_words, pick_of, func_words, func_of, told_words, told_of, cap_words, cap_of, port_words, port_of}
use Rattle.words_info.specs.Fits.{SizeFits, HowFits, PickFits, FuncFits, ToldFits, CapFits, PortFits}
use Rattle.bars.specs.declared.How.{How}
use Rattle.bars.specs.declared.How.TheVariants as hv
use Rattle.bars.specs.declared.Pick.{Pick}
use Rattle.reply.specs.declared.FuncInfo.{FuncInfo}
use Rattle.words_info.specs.declared.Told.{Told}
use Rattle.reply.specs.declared.DevCap.{DevCap}
use Rattle.reply.specs.declared.PortInfo.{PortInfo}

pub size_back : (v : Option ℕ) → SizeFits v → size_of (at (size_words v) 0) (at (size_words v) 1) ≡ v
size_back (Some x) f = refl
size_back None f = refl

pub size_small : (v : Option ℕ) → SizeFits v → Words (size_words v)
unfolding Words
size_small (Some x) f = (lit< tt, (f, tt))
size_small None f = (lit< tt, (lit< tt, tt))

pub how_back : (v : How) → HowFits v → how_of (at (how_words v) 0) ≡ v
how_back hv.BaseMatches f = refl
how_back hv.Scan f = refl
how_back hv.OnlyAnswer f = refl
how_back hv.NoMatch f = refl
how_back hv.NoAnswer f = refl

pub how_small : (v : How) → HowFits v → Words (how_words v)
unfolding Words
how_small hv.BaseMatches f = (lit< tt, tt)
how_small hv.Scan f = (lit< tt, tt)
how_small hv.OnlyAnswer f = (lit< tt, tt)
how_small hv.NoMatch f = (lit< tt, tt)
how_small hv.NoAnswer f = (lit< tt, tt)

pub pick_back : (v : Pick) → PickFits v → pick_of (at (pick_words v) 0) (at (pick_words v) 1) (at (pick_words v) 2) (at (pick_words v) 3) ≡ v
pick_back v f = simp (
  mod-eq_of_lt f.index,
  size_back v.size f.size,
  how_back v.how f.how,
)

pub pick_small : (v : Pick) → PickFits v → Words (pick_words v)
unfolding Words
pick_small v f = (omega (arith, f.index), (words_at (size_words v.size) (size_small v.size f.size) 0, (words_at (size_words v.size) (size_small v.size f.size) 1, (words_at (how_words v.how) (how_small v.how f.how) 0, tt))))

pub func_back : (v : FuncInfo) → FuncFits v → func_of (at (func_words v) 0) (at (func_words v) 1) (at (func_words v) 2) ≡ v
func_back v f = simp (
  mod-eq_of_lt f.rsvd_eqs_lem,
  mod-eq_of_lt f.max_eqs,
  mod-eq_of_lt f.rsvd_uars,
)

pub func_small : (v : FuncInfo) → FuncFits v → Words (func_words v)
unfolding Words
func_small v f = (omega (arith, f.rsvd_eqs_lem), (omega (arith, f.max_eqs), (omega (arith, f.rsvd_uars), tt)))

pub told_back : (v : Told) → ToldFits v → told_of (told_words v) ≡ v
told_back v f = simp (
  pick_back v.uar f.uar,
  func_back v.func f.func,
  bit_back v.rev3,
)

pub told_small : (v : Told) → ToldFits v → Words (told_words v)
unfolding Words
told_small v f = (words_at (pick_words v.uar) (pick_small v.uar f.uar) 0, (words_at (pick_words v.uar) (pick_small v.uar f.uar) 1, (words_at (pick_words v.uar) (pick_small v.uar f.uar) 2, (words_at (pick_words v.uar) (pick_small v.uar f.uar) 3, (words_at (func_words v.func) (func_small v.func f.func) 0, (words_at (func_words v.func) (func_small v.func f.func) 1, (words_at (func_words v.func) (func_small v.func f.func) 2, (bit_small v.rev3, tt))))))))

pub cap_back : (v : DevCap) → CapFits v → cap_of (cap_words v) ≡ v
unfolding cut
cap_back v f = simp (
  mod-eq_of_lt f.rsvd_qps,
  mod-eq_of_lt f.rsvd_srqs,
  mod-eq_of_lt f.rsvd_cqs,
  mod-eq_of_lt f.rsvd_eqs_lem,
  mod-eq_of_lt f.max_eqs,
  mod-eq_of_lt f.rsvd_mtts,
  mod-eq_of_lt f.rsvd_mpts,
  mod-eq_of_lt f.rsvd_uars,
  mod-eq_of_lt f.rsvd_pds,
  mod-eq_of_lt f.num_sys_eqs,
  mod-eq_of_lt f.ports,
  mod-eq_of_lt f.log_max_qp_wqes,
  mod-eq_of_lt f.log_max_cqes,
  mod-eq_of_lt f.log_min_page,
  mod-eq_of_lt f.flags2,
  mod-eq_of_lt f.bmme,
  bit_back v.eth_prot_ctrl,
  bit_back v.eth_backpl_an_rep,
  cut_back 65536 v.entry f.entry.0 f.entry.1,
)

pub cap_small : (v : DevCap) → CapFits v → Words (cap_words v)
unfolding Words
cap_small v f = (omega (arith, f.rsvd_qps), (omega (arith, f.rsvd_srqs), (omega (arith, f.rsvd_cqs), (omega (arith, f.rsvd_eqs_lem), (omega (arith, f.max_eqs), (omega (arith, f.rsvd_mtts), (omega (arith, f.rsvd_mpts), (omega (arith, f.rsvd_uars), (omega (arith, f.rsvd_pds), (omega (arith, f.num_sys_eqs), (omega (arith, f.ports), (omega (arith, f.log_max_qp_wqes), (omega (arith, f.log_max_cqes), (omega (arith, f.log_min_page), (f.flags, (omega (arith, f.flags2), (omega (arith, f.bmme), (bit_small v.eth_prot_ctrl, (bit_small v.eth_backpl_an_rep, (f.uar_bytes, (f.max_icm, (omega (arith, f.entry.1 0), (omega (arith, f.entry.1 1), (omega (arith, f.entry.1 2), (omega (arith, f.entry.1 3), (omega (arith, f.entry.1 4), (omega (arith, f.entry.1 5), (omega (arith, f.entry.1 6), (omega (arith, f.entry.1 7), (omega (arith, f.entry.1 8), (omega (arith, f.entry.1 9), (omega (arith, f.entry.1 10), tt))))))))))))))))))))))))))))))))

pub port_back : (v : PortInfo) → PortFits v → port_of (port_words v) ≡ v
unfolding cut
port_back v f = simp (
  mod-eq_of_lt f.num,
  bit_back v.link_up,
  mod-eq_of_lt f.b0,
  mod-eq_of_lt f.mtu_cap,
  mod-eq_of_lt f.log_macs,
  bit_back v.autoneg,
  bit_back v.an_complete,
  mod-eq_of_lt f.speed,
  mod-eq_of_lt f.xcvr,
  mod-eq_of_lt f.wavelength,
  cut_back 256 v.mac f.mac.0 f.mac.1,
)

pub port_small : (v : PortInfo) → PortFits v → Words (port_words v)
unfolding Words
port_small v f = (omega (arith, f.num), (bit_small v.link_up, (omega (arith, f.b0), (omega (arith, f.mtu_cap), (omega (arith, f.log_macs), (bit_small v.autoneg, (bit_small v.an_complete, (omega (arith, f.speed), (omega (arith, f.xcvr), (omega (arith, f.wavelength), (f.xcvr_code, (omega (arith, f.mac.1 0), (omega (arith, f.mac.1 1), (omega (arith, f.mac.1 2), (omega (arith, f.mac.1 3), (omega (arith, f.mac.1 4), (omega (arith, f.mac.1 5), tt)))))))))))))))))
