use mathlib.Core.Path.{ap, ◌∙◌}
use borrow.Author.Rules.{rules}
use Rattle.session.specs.declared.Core.{Core}
use Rattle.session.specs.Core.{full}
use Rattle.behind.specs.Behind.{behind_in}
use Rattle.closing_plan.specs.Plan.{frees_plan}
use Rattle.giving.proofs.give.Goals as goal

pub returns : goal.returns
returns c = c.free_from.ensures ∙ ap (λ (x : Core). frees_plan 82 0 (full x (behind_in c.args.m.now)) c.args.undo) c.closes.ensures
