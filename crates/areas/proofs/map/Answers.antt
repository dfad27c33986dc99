use borrow.Author.Rules.{rules}
use borrow.Author.Tests.{eq-eqb, ne_eqb}
use Rattle.opening_plan.specs.Plan.{map_plan}
use Rattle.areas.proofs.map.Goals as goal

pub returns-then-rest-eq0 : goal.returns-then-rest-eq0
unfolding map_plan
returns-then-rest-eq0 c = simp (c.mapped.ensures, eq-eqb _ _ c.if-rest-eq0.true)

pub returns : goal.returns
unfolding map_plan
returns c = simp (c.plan.ensures, c.start.ensures, ne_eqb _ _ c.if-rest-eq0.false)
