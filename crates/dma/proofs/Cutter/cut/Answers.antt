use Rattle.std.specs.Prelude.{Option, Some, None}
use Rattle.std.specs.Option.{unwrap_or}
use Rattle.std.proofs.Common.{◌≡◌, ℕ, refl, ◌∙◌, arith, ne_eqb}
use Rattle.dma.specs.Blocks.{virt_of}
use Rattle.dma.proofs.Exponent.{exponent_stands, exponent_le}
use Rattle.dma.proofs.Cutter.cut.Goals as goal

or_zero : (virt : Option ℕ) → unwrap_or virt 0 ≡ virt_of virt
or_zero (Some at) = refl
or_zero None = refl

pub after-requires : goal.after-requires
after-requires c = let a = c.args in let s = a.self in
    let top = exponent_le a.largest (virt_of s.virt) s.phys s.left in
    let fits = (exponent_stands a.largest (virt_of s.virt) s.phys s.left (omega arith)).within in
    (omega (arith, c.next_log-log.ensures, top), rw c.next_log-log.ensures fits)

pub returns : goal.returns
returns c = simp (ne_eqb _ _ c.if-self-eq0.false, c.after.ensures, c.next_log-log.ensures, c.unwrap_or.ensures ∙ or_zero c.args.self.virt)
