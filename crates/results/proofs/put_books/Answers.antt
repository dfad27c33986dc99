use borrow.Author.Rules.{rules}
use Prim.Native.Nat.{◌*◌}
use mathlib.Core.Bool.{Bool}
use mathlib.Core.Path.{refl, ap, sym, ◌∙◌}
use native.Mathlib.Omega.{arith}
use borrow.Author.Tests.{le-ltb, lt-ltb}
use lib.ListN.{length}
use Rattle.fields.specs.Outcome.{pick}
use Rattle.words.specs.Words.{put_words}
use Rattle.words_session.proofs.Laws.{stored, three}
use Rattle.session.specs.Core.{full}
use Rattle.behind.specs.Behind.{behind_in}
use Rattle.results.specs.Books.{RANGES, LENT, HEAD, BOOKS, range_words, lent_words, ranges_of, lent_of, rows_words, head_words, books_words, books_in}
use Rattle.results.proofs.put_books.Goals as goal

pub returns-then-out-lt-BOOKS : goal.returns-then-out-lt-BOOKS
unfolding books_in
returns-then-out-lt-BOOKS c =
    let p = c.args in
    let w = p.out.now in
    sym (ap (λ (b : Bool). pick b w (put_words w 0 (books_words (full p.s (behind_in p.m.now))))) (lt-ltb (length w) (BOOKS * 8) c.if-out-lt-BOOKS.true))

pub returns : goal.returns
unfolding books_in rows_words
returns c =
    let p = c.args in
    let w = p.out.now in
    let s = full p.s (behind_in p.m.now) in
    let l = (behind_in p.m.now).slots in
    let room = c.if-out-lt-BOOKS.false in
    three w 0 HEAD (RANGES * 4) (head_words s) (rows_words range_words RANGES 0 (ranges_of l)) (rows_words lent_words LENT 0 (lent_of l))
    c.put_lent.ensures c.put_ranges.ensures (stored w 0 HEAD c.store.ensures c.head_words-head.ensures refl (omega arith)) refl refl
    ∙ sym (ap (λ (b : Bool). pick b w (put_words w 0 (books_words s))) (le-ltb (length w) (BOOKS * 8) room))
