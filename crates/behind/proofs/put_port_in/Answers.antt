use mathlib.Core.Path.{refl}
use native.Mathlib.Omega.{arith}
use borrow.Author.Rules.{rules}
use Rattle.words.specs.Places.{PORT}
use Rattle.behind.proofs.Laws.{stored}
use Rattle.behind.proofs.put_port_in.Goals as goal

pub returns : goal.returns
returns c =
    let p = c.args in
    let h = c.requires in
    stored p.m.now p.k PORT c.store.ensures c.port_words-w.ensures refl (omega arith)
