use borrow.Author.Tests.{le-ltb, lt-ltb}
use Rattle.booking.proofs.slot_place.Goals as goal

pub returns-then-i-lt-COUNT : goal.returns-then-i-lt-COUNT
returns-then-i-lt-COUNT c = simp (lt-ltb _ _ c.if-i-lt-COUNT.true)

pub returns : goal.returns
returns c = simp (le-ltb _ _ c.if-i-lt-COUNT.false)
