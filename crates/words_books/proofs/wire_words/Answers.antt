use borrow.Author.Rules.{rules}
use Rattle.words_books.proofs.wire_words.Goals as goal

pub returns : goal.returns
returns c = simp (
  c.catas_words-catas_w.ensures,
  c.bit.ensures,
  c.bit-2.ensures,
  c.bit-3.ensures,
  c.bit-4.ensures,
)
