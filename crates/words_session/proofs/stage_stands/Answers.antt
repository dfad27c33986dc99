use native.Mathlib.Omega.{arith}
use borrow.Author.Rules.{rules}
use Rattle.words.specs.Places.{STAGE, stage_at}
use Rattle.words_stage.proofs.Trip.{stage_length}
use Rattle.words_session.proofs.Laws.{compared}
use Rattle.words_session.proofs.stage_stands.Goals as goal

pub returns : goal.returns
returns c = let p = c.args in let h = c.requires in compared p.s.now stage_at STAGE c.same.ensures c.stage_words-w.ensures (stage_length p.v) (omega arith)
