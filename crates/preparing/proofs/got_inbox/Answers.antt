use borrow.Author.Rules.{rules}
use Rattle.preparing.proofs.got_inbox.Goals as goal

pub returns-in-Ready : goal.returns-in-Ready
returns-in-Ready c = λ b. simp (c.box_plan.ensures b, c.in-Ready.is)

pub returns-in-Refused : goal.returns-in-Refused
returns-in-Refused c = λ b. simp (c.part.ensures b, c.fault_of.ensures, c.in-Refused.is)
