use borrow.Author.Rules.{rules}
use Rattle.client.proofs.undo_to.Goals as goal

pub returns : goal.returns
returns c = λ b. c.undo.ensures b
