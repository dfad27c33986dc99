use borrow.Author.Rules.{rules}
use Rattle.words_stage.proofs.close_words.Goals as goal

pub returns-in-Undo : goal.returns-in-Undo
returns-in-Undo c = simp (
  c.in-Undo.is,
  c.wide32.ensures,
)

pub returns-in-Unmap : goal.returns-in-Unmap
returns-in-Unmap c = simp (
  c.in-Unmap.is,
  c.long.ensures,
)

pub returns-in-Free : goal.returns-in-Free
returns-in-Free c = simp (
  c.in-Free.is,
  c.long-in-Free.ensures,
)
