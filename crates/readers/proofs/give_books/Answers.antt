use borrow.Author.Rules.{rules}
use Prim.Native.Nat.{◌*◌}
use mathlib.Core.Path.{◌∙◌}
use Rattle.results.specs.Books.{BOOKS, books_in}
use Rattle.session.specs.Core.{full}
use Rattle.behind.specs.Behind.{behind_in}
use Rattle.abi.specs.Readers.{reads, books_known}
use Rattle.readers.proofs.Laws.{no_room, has_room_lem, both}
use Rattle.readers.proofs.give_books.Goals as goal

pub returns-then-out-lt-BOOKS : goal.returns-then-out-lt-BOOKS
unfolding books_known
returns-then-out-lt-BOOKS c =
    let p = c.args in
    let w = p.out.now in
    let parts = both (no_room (BOOKS * 8) w (reads 0 (books_in w (full p.s (behind_in p.state.now)))) c.if-out-lt-BOOKS.true) in record { value = parts.0; out_after = parts.1 }

pub returns : goal.returns
unfolding books_known
returns c =
    let p = c.args in
    let w = p.out.now in
    let g = both (has_room_lem (BOOKS * 8) w (reads 0 (books_in w (full p.s (behind_in p.state.now)))) c.if-out-lt-BOOKS.false) in
    record { value = g.0; out_after = c.put_books.ensures ∙ g.1 }
