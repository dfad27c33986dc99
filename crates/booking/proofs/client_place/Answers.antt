use borrow.Author.Rules.{rules}
use Rattle.booking.proofs.client_place.Goals as goal

pub returns-in-Lend : goal.returns-in-Lend
returns-in-Lend c = simp (c.in-Lend.is, c.lend_place.ensures)
