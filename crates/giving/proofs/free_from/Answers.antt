use Prim.Native.Nat.{◌-◌}
use mathlib.Core.Bool.{true, false}
use mathlib.Core.Path.{◌≡◌, refl, ap, sym, ◌∙◌}
use native.Mathlib.Omega.{arith}
use borrow.Author.Rules.{rules}
use Rattle.session.specs.Session.{slot_at, is_held}
use Rattle.session.specs.Core.{full}
use Rattle.behind.specs.Behind.{behind_in}
use Rattle.closing_plan.specs.Plan.{frees_plan}
use Rattle.giving.proofs.Slots.{frees_none, frees_here, frees_on}
use Rattle.giving.proofs.free_from.Goals as goal

pub returns-then-is_held : goal.returns-then-is_held
returns-then-is_held c =
    let p = c.args in
    let l = c.loop-k in
    let b = behind_in p.m.now in
    let y = c.slot_at-slot.ensures in
    let h : is_held (slot_at b.slots l.k) ≡ true = ap is_held (sym y) ∙ sym c.is_held.ensures ∙ c.if-is_held.true in
    c.free.ensures b ∙ simp (c.buffer_of.ensures, y) (sym (frees_here (full p.s b) l.k p.undo (omega arith) h) ∙ l.invariant)

pub loop-k-preserved : goal.loop-k-preserved
loop-k-preserved c =
    let p = c.args in
    let l = c.loop-k in
    let b = behind_in p.m.now in
    let h : is_held (slot_at b.slots l.k) ≡ false = ap is_held (sym c.slot_at-slot.ensures) ∙ sym c.is_held.ensures ∙ c.if-is_held.false in
    frees_on (full p.s b) l.k p.undo (omega arith) h ∙ l.invariant

pub returns : goal.returns
returns c =
    let p = c.args in
    let l = c.loop-k in
    let b = behind_in p.m.now in
    c.release.ensures b ∙ sym (frees_none (full p.s b) l.k p.undo (omega arith)) ∙ l.invariant

pub loop-k-init : goal.loop-k-init
loop-k-init c = refl
