use mathlib.Core.Path.{ap, ◌∙◌}
use borrow.Author.Rules.{rules}
use Rattle.session.specs.declared.Session.{Session}
use Rattle.client_plan.specs.Plan.{rest_plan}
use Rattle.client.proofs.commanded.Goals as goal

pub returns : goal.returns
returns c = λ b.
    let p = c.args in
    c.rest.ensures b
    ∙ ap (λ (y : Session). rest_plan y c.gave_by.result p.undo) (c.broken_by.ensures b)
    ∙ simp (c.took-t.ensures, c.gave_by.ensures)
