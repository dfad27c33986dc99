use Prim.Native.Nat.{◌-◌, ◌%◌, ◌^◌}
use mathlib.Core.Path.{ap, sym, ◌∙◌}
use borrow.Author.Rules.{rules}
use Rattle.session.specs.declared.Slot.{Slot}
use Rattle.session.specs.Core.{full}
use Rattle.behind.specs.Behind.{behind_in}
use Rattle.closing_plan.specs.Plan.{send_plan}
use Rattle.closing_plan.proofs.Steps.{unmap_none, unmap_more}
use Rattle.session.specs.declared.Close.TheVariants as k
use Rattle.closing.proofs.unmap.Goals as goal

pub returns-then-i-eq0 : goal.returns-then-i-eq0
returns-then-i-eq0 c =
    let p = c.args in
    let s = full p.s (behind_in p.m.now) in
    c.unmap_aux.ensures ∙ sym (unmap_none s p.i p.undo c.if-i-eq0.true)

pub returns : goal.returns
returns c =
    let p = c.args in
    let b = behind_in p.m.now in
    let s = full p.s b in
    c.send.ensures b
    ∙ ap (λ (y : Slot). send_plan s (k.Unmap (p.i - 1)) 0xff9 (y.pages % 2 ^ 32) y.virt p.undo) c.icm_at-range.ensures
    ∙ sym (unmap_more s p.i p.undo c.if-i-eq0.false)
