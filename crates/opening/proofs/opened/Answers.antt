use borrow.Author.Rules.{rules}
use Rattle.opening.proofs.opened.Goals as goal

pub returns : goal.returns
returns c = λ b. simp (c.new.ensures, c.rests.ensures)
