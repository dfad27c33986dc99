use borrow.Author.Rules.{rules}
use Rattle.behind.specs.Behind.{behind_in}
use Rattle.opening_plan.specs.Plan.{fail_by_plan}
use Rattle.opening_values.proofs.fail_by.Goals as goal

pub returns : goal.returns
unfolding fail_by_plan
returns c = simp (c.fail.ensures, c.failure_of.ensures, c.broken_by.ensures (behind_in c.args.m.now))
