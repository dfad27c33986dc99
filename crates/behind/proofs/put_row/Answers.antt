use mathlib.Core.Path.{refl}
use native.Mathlib.Omega.{arith}
use borrow.Author.Rules.{rules}
use Rattle.words.specs.Places.{SLOT}
use Rattle.behind.proofs.Laws.{stored}
use Rattle.behind.proofs.put_row.Goals as goal

pub returns : goal.returns
returns c =
    let p = c.args in
    let h = c.requires in
    stored p.m.now p.k SLOT c.store.ensures c.slot_words-w.ensures refl (omega arith)
