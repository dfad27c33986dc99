use mathlib.Core.Path.{ap, sym, ◌∙◌}
use borrow.Author.Rules.{rules}
use Rattle.session.specs.declared.Core.{Core}
use Rattle.session.specs.Core.{full}
use Rattle.client_plan.specs.Plan.{rest_plan, undo_plan}
use Rattle.client.proofs.Steps.{undone_good, undone_bad}
use Rattle.pci.specs.declared.Refusal.TheVariants as x
use Rattle.session.specs.declared.Gave.TheVariants as v
use Rattle.session.specs.Core.{break_of}
use Rattle.client.proofs.undone.Goals as goal

pub returns-then-is_done : goal.returns-then-is_done
returns-then-is_done c = λ b.
    let p = c.args in
    c.undo.ensures b
    ∙ ap (λ (y : Core). undo_plan (full y b) p.mark p.more p.top) c.took-t.ensures
    ∙ undone_good (full p.s b) p.mark p.more p.x p.top (sym c.is_done.ensures ∙ c.if-is_done.true)

pub returns : goal.returns
returns c = λ b.
    let p = c.args in
    c.rest.ensures b
    ∙ ap (λ (y : Core). rest_plan (full y b) (v.Failed x.Undo) p.top.count) (c.breaks.ensures ∙ ap (λ (y : Core). break_of y) c.took-t.ensures)
    ∙ undone_bad (full p.s b) p.mark p.more p.x p.top (sym c.is_done.ensures ∙ c.if-is_done.false)
