use mathlib.Core.Path.{refl}
use native.Mathlib.Omega.{arith}
use borrow.Author.Rules.{rules}
use Rattle.words.specs.Places.{TOLD, told_at}
use Rattle.words_session.proofs.Laws.{stored}
use Rattle.words_session.proofs.put_told.Goals as goal

pub returns : goal.returns
returns c = let p = c.args in let h = c.requires in stored p.s.now told_at TOLD c.store.ensures c.told_words-w.ensures refl (omega arith)
