use borrow.Author.Rules.{rules}
use Rattle.preparing.proofs.got_outbox.Goals as goal

pub returns-in-Ready : goal.returns-in-Ready
returns-in-Ready c = simp (c.new.ensures, c.start.ensures, c.in-Ready.is)

pub returns-in-Refused : goal.returns-in-Refused
returns-in-Refused c = simp (c.gives_inbox.ensures, c.in-Refused.is)
