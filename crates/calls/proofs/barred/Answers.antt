use Rattle.calls.proofs.barred.Goals as goal

pub returns-in-Open : goal.returns-in-Open
returns-in-Open c = λ b. simp c.in-Open.is

pub returns-in-Command : goal.returns-in-Command
returns-in-Command c = λ b. simp (c.in-Command.is, c.reserved.ensures, c.by_opcode.ensures)

pub returns-in-Lend : goal.returns-in-Lend
returns-in-Lend c = λ b. simp (c.in-Lend.is, c.by_list.ensures)

pub returns-in-UndoTo : goal.returns-in-UndoTo
returns-in-UndoTo c = λ b. simp (c.in-UndoTo.is, c.by_opcode-in-UndoTo.ensures)

pub returns-in-Quiesce : goal.returns-in-Quiesce
returns-in-Quiesce c = λ b. simp c.in-Quiesce.is

pub returns-in-Close : goal.returns-in-Close
returns-in-Close c = λ b. simp c.in-Close.is
