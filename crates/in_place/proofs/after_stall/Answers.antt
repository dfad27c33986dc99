use borrow.Author.Tests.{lt-ltb, le-ltb}
use Rattle.in_place.proofs.after_stall.Goals as goal

pub returns-then-stalls-lt600990 : goal.returns-then-stalls-lt600990
returns-then-stalls-lt600990 c = simp (lt-ltb _ _ c.if-stalls-lt600990.true)

pub returns : goal.returns
returns c = simp (le-ltb _ _ c.if-stalls-lt600990.false)
