use borrow.Author.Rules.{rules}
use Rattle.booking.proofs.close_place.Goals as goal

pub returns-in-Free : goal.returns-in-Free
returns-in-Free c = simp (c.in-Free.is, c.slot_place.ensures)
