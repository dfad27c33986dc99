use borrow.Author.Rules.{rules}
use Prim.Native.Nat.{ℕ}
use mathlib.Core.List.{List}
use mathlib.Core.Path.{ap, ◌∙◌}
use lib.ListN.{length}
use Rattle.words_books.specs.Coding.{ledger_words}
use Rattle.words_session.specs.Image.{ledger_for}
use Rattle.behind.specs.Behind.{behind_in}
use Rattle.results.specs.Books.{ranges_of, lent_of, head_row}
use Rattle.results.proofs.head_words.Goals as goal

pub returns : goal.returns
returns c =
    let p = c.args in
    let l = (behind_in p.m.now).slots in
    let w = c.ledger_words-w.result in
    let a = c.areas_words-a.result in
    c.head_row.ensures ∙ ap (λ (n : ℕ). head_row n c.long-2.result w a) (c.long.ensures ∙ c.held_in-ranges.ensures)
    ∙ ap (λ (n : ℕ). head_row (length (ranges_of l)) n w a) (c.long-2.ensures ∙ c.held_in-lent.ensures)
    ∙ ap (λ (v : List ℕ). head_row (length (ranges_of l)) (length (lent_of l)) v a) (c.ledger_words-w.ensures ∙ ap ledger_words c.ledger_of.ensures)
    ∙ ap (head_row (length (ranges_of l)) (length (lent_of l)) (ledger_words (ledger_for p.s))) c.areas_words-a.ensures
