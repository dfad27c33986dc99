use borrow.Author.Rules.{rules}
use borrow.Author.Tests.{lt-ltb, le-ltb, lt-leb, le-leb}
use Rattle.opening_plan.specs.Plan.{next_range}
use Rattle.areas.proofs.next_range.Goals as goal

pub returns-then-i-lt13 : goal.returns-then-i-lt13
unfolding next_range
returns-then-i-lt13 c = simp (c.make_range.ensures, lt-ltb _ _ c.if-i-lt13.true)

pub returns : goal.returns
unfolding next_range
returns c = simp (c.give.ensures, le-ltb _ _ c.if-i-lt13.false)
