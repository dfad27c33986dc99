use Prim.Native.Nat.{◌<◌, ◌≤◌, ◌+◌}
use mathlib.Core.Bool.{Bool}
use mathlib.Core.Path.{ap, sym, ◌∙◌}
use native.Mathlib.Omega.{arith}
use borrow.Author.Tests.{le-ltb, lt-ltb}
use Rattle.fields.specs.Outcome.{pick}
use Rattle.layout.specs.declared.Range.{Range}
use Rattle.session.specs.declared.Core.{Core}
use Rattle.session.specs.Core.{full}
use Rattle.session.specs.Course.{slot, neither}
use Rattle.behind.specs.Behind.{behind_in}
use Rattle.opening_plan.specs.Values.{range_at}
use borrow.Author.Rules.{rules}
use Rattle.booking.proofs.range_place.Goals as goal

pub returns-then-i : goal.returns-then-i
returns-then-i c =
    let p = c.args in
    let e = lt-ltb (64 + p.i) 82 (let h : 64 + p.i < 82 = omega (arith, c.if-i.true) in h) in
    λ (s : Core).
    let virt = (range_at (full s (behind_in p.m.now)).info p.i).virt in
    ap (λ (r : Range). slot (64 + p.i) r.virt) c.range_at.ensures ∙ sym (ap (λ (t : Bool). pick t (slot (64 + p.i) virt) neither) e)

pub returns : goal.returns
returns c =
    let p = c.args in
    let e = le-ltb (64 + p.i) 82 (let h : 82 ≤ 64 + p.i = omega (arith, c.if-i.false) in h) in
    λ (s : Core).
    let virt = (range_at (full s (behind_in p.m.now)).info p.i).virt in
    sym (ap (λ (t : Bool). pick t (slot (64 + p.i) virt) neither) e)
