use borrow.Author.Rules.{rules}
use Rattle.closing.proofs.quiet.Goals as goal

pub returns : goal.returns
returns c = λ b. simp (c.breaks.ensures, c.closes-u.ensures, c.start.ensures, c.new.ensures)
