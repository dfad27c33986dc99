use borrow.Author.Rules.{rules}
use Rattle.giving.proofs.free.Goals as goal

pub returns : goal.returns
returns c = λ b. simp (c.new.ensures, c.start-2.ensures, c.start.ensures)
