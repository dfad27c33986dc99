use mathlib.Core.Path.{refl}
use native.Mathlib.Omega.{arith}
use borrow.Author.Rules.{rules}
use Rattle.words.specs.Places.{RESET, reset_at}
use Rattle.words_session.proofs.Laws.{compared}
use Rattle.words_session.proofs.reset_stands.Goals as goal

pub returns : goal.returns
returns c = let p = c.args in let h = c.requires in compared p.s.now reset_at RESET c.same.ensures c.reset_words-w.ensures refl (omega arith)
