use borrow.Author.Rules.{rules}
use Rattle.giving.proofs.release.Goals as goal

pub returns : goal.returns
returns c = λ b. simp (c.new.ensures, c.start.ensures)
