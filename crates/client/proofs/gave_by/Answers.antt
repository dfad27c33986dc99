use borrow.Author.Rules.{rules}
use Rattle.client.proofs.gave_by.Goals as goal

pub returns-then-gives_immediate : goal.returns-then-gives_immediate
returns-then-gives_immediate c = simp (
  c.in-Done.is,
  ← c.gives_immediate.ensures,
  c.if-gives_immediate.true,
)

pub returns-else-gives_immediate : goal.returns-else-gives_immediate
returns-else-gives_immediate c = simp (
  c.in-Done.is,
  ← c.gives_immediate.ensures,
  c.if-gives_immediate.false,
)

pub returns-in-Status : goal.returns-in-Status
returns-in-Status c = simp (
  c.in-Status.is,
  c.failure_of.ensures,
)

pub returns-in-Timeout : goal.returns-in-Timeout
returns-in-Timeout c = simp (
  c.in-Timeout.is,
  c.failure_of-in-Timeout.ensures,
)

pub returns-in-Busy : goal.returns-in-Busy
returns-in-Busy c = simp (
  c.in-Busy.is,
  c.failure_of-in-Busy.ensures,
)

pub returns-in-Bus : goal.returns-in-Bus
returns-in-Bus c = simp (
  c.in-Bus.is,
  c.failure_of-in-Bus.ensures,
)
