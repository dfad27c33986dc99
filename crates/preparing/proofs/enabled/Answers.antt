use borrow.Author.Rules.{rules}
use Rattle.preparing.proofs.enabled.Goals as goal

pub returns-in-Enabled : goal.returns-in-Enabled
returns-in-Enabled c = λ b. simp (c.new.ensures, c.start.ensures, c.with_original-t.ensures, c.in-Enabled.is)

pub returns-in-Refused : goal.returns-in-Refused
returns-in-Refused c = λ b. simp (c.new-in-Refused.ensures, c.ends.ensures, c.gives_up.ensures, c.in-Refused.is)
