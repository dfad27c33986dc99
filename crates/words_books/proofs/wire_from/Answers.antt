use borrow.Author.Rules.{rules}
use Rattle.words_books.proofs.wire_from.Goals as goal

pub returns : goal.returns
returns c = simp (
  c.flag.ensures,
  c.flag-2.ensures,
  c.flag-3.ensures,
  c.flag-4.ensures,
  c.catas_from.ensures,
)
