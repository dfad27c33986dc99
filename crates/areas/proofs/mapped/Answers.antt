use borrow.Author.Rules.{rules}
use Rattle.behind.specs.Behind.{behind_in}
use Rattle.opening_plan.specs.Plan.{mapped_plan}
use Rattle.areas.proofs.mapped.Goals as goal

pub returns-in-Fa : goal.returns-in-Fa
unfolding mapped_plan
returns-in-Fa c = simp (c.in-Fa.is, c.imm.ensures (behind_in c.args.m.now))

pub returns-in-Aux : goal.returns-in-Aux
unfolding mapped_plan
returns-in-Aux c = simp (c.make_range.ensures, c.in-Aux.is)

pub returns-in-Range : goal.returns-in-Range
unfolding mapped_plan
returns-in-Range c = simp (c.next_range.ensures, c.in-Range.is)
