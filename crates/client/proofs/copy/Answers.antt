use Prim.Native.Nat.{ℕ, ◌+◌}
use mathlib.Core.Path.{◌≡◌, refl, ap, ◌∙◌}
use mathlib.Core.List.{List}
use native.Mathlib.Omega.{arith}
use lib.ListN.{length, set, get_or, length-set}
use Rattle.client_plan.proofs.Copies.{copy_none, copy_more, copy_all}
use Rattle.client.proofs.copy.Goals as goal

pub loop-i-init : goal.loop-i-init
loop-i-init c = let p = c.args in (refl, copy_none p.from.now p.to.now)

pub loop-i-preserved : goal.loop-i-preserved
loop-i-preserved c =
    let p = c.args in let l = c.loop-i in let e = c.min-n.ensures in (
      simp length-set l.invariant.0,
      ap (λ (x : List ℕ). set x l.i (get_or p.from.now l.i 0)) l.invariant.1 ∙ copy_more l.i p.from.now p.to.now (omega (arith, e)) (omega (arith, e)),
    )

pub returns : goal.returns
returns c =
    let p = c.args in let l = c.loop-i in let e = c.min-n.ensures in
    l.invariant.1 ∙ copy_all l.i p.from.now p.to.now (omega (arith, e)) (omega (arith, e)) (λ h k. let z : ⊥ = omega (arith, e, h, k) in z)
