use Rattle.std.proofs.Common.{le-leb}
use borrow.Author.Tests.{lt-leb}
use Rattle.bars.proofs.base.Goals as goal

pub returns-then-reg-gt-LAST : goal.returns-then-reg-gt-LAST
returns-then-reg-gt-LAST c = simp (lt-leb _ _ c.if-reg-gt-LAST.true)

pub returns : goal.returns
returns c = simp (le-leb _ _ c.if-reg-gt-LAST.false, c.whole.ensures)
