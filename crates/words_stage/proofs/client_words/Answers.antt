use borrow.Author.Rules.{rules}
use Rattle.words_stage.proofs.client_words.Goals as goal

pub returns-in-Command : goal.returns-in-Command
returns-in-Command c = simp (
  c.in-Command.is,
  c.form_words-w.ensures,
)

pub returns-in-Lend : goal.returns-in-Lend
returns-in-Lend c = simp (
  c.in-Lend.is,
  c.long.ensures,
)

pub returns-in-UndoTo : goal.returns-in-UndoTo
returns-in-UndoTo c = simp (
  c.in-UndoTo.is,
  c.long-in-UndoTo.ensures,
  c.wide32.ensures,
)
