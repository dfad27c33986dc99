use borrow.Author.Rules.{rules}
use Rattle.preparing.proofs.found.Goals as goal

pub returns-in-Ok : goal.returns-in-Ok
returns-in-Ok c = λ b. simp (c.box_plan.ensures b, c.in-Ok.is)

pub returns-in-Refused : goal.returns-in-Refused
returns-in-Refused c = λ b. simp (c.part.ensures b, c.in-Err.is, c.in-Refused.is)

pub returns-in-BadList : goal.returns-in-BadList
returns-in-BadList c = λ b. simp (c.part-in-BadList.ensures b, c.in-Err.is, c.in-BadList.is)
