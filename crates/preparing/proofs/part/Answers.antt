use borrow.Author.Rules.{rules}
use Rattle.preparing.proofs.part.Goals as goal

pub returns : goal.returns
returns c = λ b. simp (c.release.ensures b, c.gives_up.ensures)
