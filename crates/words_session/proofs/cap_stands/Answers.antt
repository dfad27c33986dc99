use mathlib.Core.Path.{refl}
use native.Mathlib.Omega.{arith}
use borrow.Author.Rules.{rules}
use Rattle.words.specs.Places.{CAP, cap_at}
use Rattle.words_session.proofs.Laws.{compared}
use Rattle.words_session.proofs.cap_stands.Goals as goal

pub returns : goal.returns
returns c = let p = c.args in let h = c.requires in compared p.s.now cap_at CAP c.same.ensures c.cap_words-w.ensures refl (omega arith)
