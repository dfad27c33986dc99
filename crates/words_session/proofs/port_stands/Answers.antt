use mathlib.Core.Path.{refl}
use native.Mathlib.Omega.{arith}
use borrow.Author.Rules.{rules}
use Rattle.words.specs.Places.{PORT}
use Rattle.words_session.proofs.Laws.{compared}
use Rattle.words_session.proofs.port_stands.Goals as goal

pub returns : goal.returns
returns c = let p = c.args in let h = c.requires in compared p.s.now p.k PORT c.same.ensures c.port_words-w.ensures refl (omega arith)
