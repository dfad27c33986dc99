use mathlib.Core.Path.{refl, ap, ◌∙◌}
use native.Mathlib.Omega.{arith}
use borrow.Author.Rules.{rules}
use Rattle.words.specs.Places.{STAGE, stage_at}
use Rattle.words_stage.specs.Coding.{stage_of}
use Rattle.words_session.proofs.Laws.{loaded}
use lib.ListN.{replicate}
use Rattle.words_session.proofs.stage_at.Goals as goal

pub returns : goal.returns
returns c = let p = c.args in let h = c.requires in c.stage_from.ensures ∙ ap stage_of (loaded p.s.now stage_at STAGE (replicate STAGE 0) c.load.ensures refl (omega arith))
