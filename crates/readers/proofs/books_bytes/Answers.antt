use borrow.Author.Rules.{rules}
use mathlib.Core.Path.{ap, ◌∙◌}
use Rattle.session.specs.declared.Session.{Session}
use Rattle.abi.specs.Readers.{Read, books_known, books}
use Rattle.readers.proofs.Laws.{good, short, none, both}
use Rattle.readers.proofs.books_bytes.Goals as goal

pub returns-in-Good : goal.returns-in-Good
unfolding books
returns-in-Good c =
    let p = c.args in
    let g = good (λ (x : Session). books_known x p.out.now) p.state.now p.out.now c.head_at.ensures c.keeps.ensures c.in-Good.is in
    record { value = c.give_books.ensures.value ∙ ap (λ (r : Read). r.code) g; out_after = c.give_books.ensures.out_after ∙ ap (λ (r : Read). r.out) g }

pub returns-in-Short : goal.returns-in-Short
unfolding books
returns-in-Short c = let p = c.args in
    let parts = both (short (λ (x : Session). books_known x p.out.now) p.state.now p.out.now c.keeps.ensures c.in-Short.is) in record { value = parts.0; out_after = parts.1 }

pub returns-in-NoSession : goal.returns-in-NoSession
unfolding books
returns-in-NoSession c = let p = c.args in
    let parts = both (none (λ (x : Session). books_known x p.out.now) p.state.now p.out.now c.keeps.ensures c.in-NoSession.is) in record { value = parts.0; out_after = parts.1 }
