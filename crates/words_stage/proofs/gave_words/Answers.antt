use borrow.Author.Rules.{rules}
use Rattle.words_stage.proofs.gave_words.Goals as goal

pub returns-in-Command : goal.returns-in-Command
returns-in-Command c = simp c.in-Command.is

pub returns-in-Lent : goal.returns-in-Lent
returns-in-Lent c = simp (
  c.in-Lent.is,
  c.long.ensures,
)

pub returns-in-Failed : goal.returns-in-Failed
returns-in-Failed c = simp (
  c.in-Failed.is,
  c.refusal_words-w.ensures,
)
