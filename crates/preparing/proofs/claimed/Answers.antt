use borrow.Author.Rules.{rules}
use Rattle.preparing.proofs.claimed.Goals as goal

pub returns-in-Good : goal.returns-in-Good
returns-in-Good c = λ b. simp (c.new.ensures, c.start.ensures, c.in-Good.is)

pub returns-in-Refused : goal.returns-in-Refused
returns-in-Refused c = λ b. simp (c.restore.ensures b, c.gives_up.ensures, c.in-Refused.is)
