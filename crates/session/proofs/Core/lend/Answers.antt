use borrow.Author.Tests.{le-ltb, lt-ltb}
use Rattle.session.proofs.Core.lend.Goals as goal

pub returns-then-n-lt-LENT : goal.returns-then-n-lt-LENT
returns-then-n-lt-LENT c = λ b. simp (lt-ltb _ _ c.if-n-lt-LENT.true)

pub returns : goal.returns
returns c = λ b. simp (le-ltb _ _ c.if-n-lt-LENT.false)
