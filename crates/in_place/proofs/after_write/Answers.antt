use borrow.Author.Tests.{lt-ltb, le-ltb}
use Rattle.in_place.proofs.after_write.Goals as goal

pub returns-then-i-lt5 : goal.returns-then-i-lt5
returns-then-i-lt5 c = simp (lt-ltb _ _ c.if-i-lt5.true)

pub returns : goal.returns
returns c = simp (le-ltb _ _ c.if-i-lt5.false)
