use borrow.Author.Rules.{rules}
use Rattle.preparing.proofs.gives_inbox.Goals as goal

pub returns : goal.returns
returns c = simp (c.free_from.ensures, c.gives_up.ensures, c.fault_of.ensures)
