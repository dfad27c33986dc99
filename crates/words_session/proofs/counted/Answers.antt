use borrow.Author.Tests.{lt-ltb, le-ltb}
use Rattle.words_session.proofs.counted.Goals as goal

pub returns-then-c-gt14 : goal.returns-then-c-gt14
returns-then-c-gt14 c = rw (lt-ltb _ _ c.if-c-gt14.true)

pub returns : goal.returns
returns c = rw (le-ltb _ _ c.if-c-gt14.false)
