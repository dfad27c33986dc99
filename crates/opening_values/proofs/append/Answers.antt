use borrow.Author.Rules.{rules}
use borrow.Author.Tests.{lt-ltb, le-ltb}
use Rattle.opening_values.proofs.append.Reads as reads
use Rattle.opening_values.proofs.append.Lts as lts
use Rattle.opening_values.proofs.append.Goals as goal

pub returns-then-n-lt-RANGES : goal.returns-then-n-lt-RANGES
returns-then-n-lt-RANGES c = λ b. simp (lt-ltb _ _ c.if-n-lt-RANGES.true)

pub returns : goal.returns
returns c = λ b. simp (le-ltb _ _ c.if-n-lt-RANGES.false)
