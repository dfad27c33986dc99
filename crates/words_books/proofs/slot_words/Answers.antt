use borrow.Author.Rules.{rules}
use Rattle.words_books.proofs.slot_words.Goals as goal

pub returns : goal.returns
returns c = simp c.bit.ensures
