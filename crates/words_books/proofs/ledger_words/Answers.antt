use borrow.Author.Rules.{rules}
use Rattle.words_books.proofs.ledger_words.Goals as goal

pub returns : goal.returns
returns c = simp (
  c.wire_words-wire_w.ensures,
  c.failure_words-failure_w.ensures,
  c.closing_words-closing_w.ensures,
  c.ledger_row.ensures,
)
