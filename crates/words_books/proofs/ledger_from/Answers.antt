use borrow.Author.Rules.{rules}
use Rattle.words_books.proofs.ledger_from.Goals as goal

pub returns : goal.returns
returns c = simp (
  c.size.ensures,
  c.size-2.ensures,
  c.flag.ensures,
  c.wire_from.ensures,
  c.failure_from.ensures,
  c.closing_from.ensures,
)
