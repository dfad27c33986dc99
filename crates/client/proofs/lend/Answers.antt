use mathlib.Core.Path.{ap, sym, ◌∙◌}
use borrow.Author.Rules.{rules}
use Rattle.buffer.specs.declared.MakeStep.{MakeStep}
use Rattle.session.specs.declared.Core.{Core}
use Rattle.session.specs.declared.Plan.{Plan}
use Rattle.session.specs.Core.{full, plan_in, leads}
use Rattle.client_plan.proofs.Steps.{lend_by, lend_by_lem}
use Rattle.session.specs.declared.Fill.TheVariants as w
use Rattle.client.proofs.lend.Goals as goal

pub returns-in-More : goal.returns-in-More
returns-in-More c = λ b.
    let p = c.args in
    let s = full p.s b in
    ap (λ (y : Plan). plan_in y b) (c.new.ensures ∙ ap (λ (y : Core). leads y w.Nothing p.undo) c.start-in-More.ensures)
    ∙ ap (λ (y : MakeStep). lend_by s y p.undo) (sym c.in-More.is ∙ c.start.ensures)
    ∙ sym (lend_by_lem s p.bytes p.undo)

pub returns-in-Ended : goal.returns-in-Ended
returns-in-Ended c = λ b.
    let p = c.args in
    let s = full p.s b in
    c.rest.ensures b
    ∙ ap (λ (y : MakeStep). lend_by s y p.undo) (sym c.in-Ended.is ∙ c.start.ensures)
    ∙ sym (lend_by_lem s p.bytes p.undo)
