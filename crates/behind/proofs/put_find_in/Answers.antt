use mathlib.Core.Path.{refl}
use native.Mathlib.Omega.{arith}
use borrow.Author.Rules.{rules}
use Rattle.words.specs.Places.{FIND, find_at}
use Rattle.behind.proofs.Laws.{stored}
use Rattle.behind.proofs.put_find_in.Goals as goal

pub returns : goal.returns
returns c =
    let p = c.args in
    let h = c.requires in
    stored p.m.now find_at FIND c.store.ensures c.find_words-w.ensures refl (omega arith)
