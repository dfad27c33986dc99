use borrow.Author.Rules.{rules}
use Rattle.preparing.proofs.was_reset.Goals as goal

pub returns-then-is_good : goal.returns-then-is_good
returns-then-is_good c = λ b. simp (c.find.ensures b, c.if-is_good.true, ← c.is_good.ensures)

pub returns : goal.returns
returns c = λ b. simp (c.part.ensures b, c.if-is_good.false, ← c.is_good.ensures)
