use mathlib.Core.Path.{refl}
use native.Mathlib.Omega.{arith}
use borrow.Author.Rules.{rules}
use Rattle.words.specs.Places.{CAP, cap_at}
use Rattle.behind.proofs.Laws.{stored}
use Rattle.behind.proofs.put_cap_in.Goals as goal

pub returns : goal.returns
returns c =
    let p = c.args in
    let h = c.requires in
    stored p.m.now cap_at CAP c.store.ensures c.cap_words-w.ensures refl (omega arith)
