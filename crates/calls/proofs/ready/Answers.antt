use Rattle.calls.proofs.ready.Goals as goal

pub returns-in-Open : goal.returns-in-Open
returns-in-Open c = simp c.in-Open.is

pub returns-in-Command : goal.returns-in-Command
returns-in-Command c = simp (
  c.in-Command.is,
  c.write_input.ensures,
)

pub returns-in-Lend : goal.returns-in-Lend
returns-in-Lend c = simp c.in-Lend.is

pub returns-in-UndoTo : goal.returns-in-UndoTo
returns-in-UndoTo c = simp c.in-UndoTo.is

pub returns-in-Quiesce : goal.returns-in-Quiesce
returns-in-Quiesce c = simp c.in-Quiesce.is

pub returns-in-Close : goal.returns-in-Close
returns-in-Close c = simp c.in-Close.is
