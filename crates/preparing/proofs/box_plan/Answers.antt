use borrow.Author.Rules.{rules}
use Rattle.preparing.proofs.box_plan.Goals as goal

pub returns : goal.returns
returns c = λ b. simp (c.new.ensures, c.start.ensures)
