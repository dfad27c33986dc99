use mathlib.Core.Path.{ap, sym, ◌∙◌}
use borrow.Author.Rules.{rules}
use Rattle.buffer.specs.declared.Made.{Made}
use Rattle.session.specs.declared.Session.{Session}
use Rattle.session.specs.Core.{full}
use Rattle.client_plan.specs.Plan.{rest_plan, lend_ended}
use Rattle.session.specs.declared.Gave.TheVariants as v
use Rattle.client.proofs.lent.Goals as goal

pub returns-in-Ready : goal.returns-in-Ready
returns-in-Ready c = λ b.
    let p = c.args in
    c.rest.ensures b
    ∙ ap (λ (y : Session). rest_plan y (v.Lent p.i) p.undo) (c.lend.ensures b)
    ∙ ap (λ (y : Made). lend_ended (full p.s b) p.i y p.undo) (sym c.in-Ready.is)

pub returns-in-Refused : goal.returns-in-Refused
returns-in-Refused c = λ b. c.rest-in-Refused.ensures b ∙ simp (c.in-Refused.is, c.fault_of.ensures)
