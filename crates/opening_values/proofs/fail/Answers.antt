use borrow.Author.Rules.{rules}
use Rattle.opening_plan.specs.Plan.{fail_plan}
use Rattle.opening_values.proofs.fail.Goals as goal

pub returns : goal.returns
unfolding fail_plan
returns c = c.stop.ensures
