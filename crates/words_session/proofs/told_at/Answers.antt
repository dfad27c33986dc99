use mathlib.Core.Path.{refl, ap, ◌∙◌}
use native.Mathlib.Omega.{arith}
use borrow.Author.Rules.{rules}
use Rattle.words.specs.Places.{TOLD, told_at}
use Rattle.words_info.specs.Coding.{told_of}
use Rattle.words_session.proofs.Laws.{loaded}
use lib.ListN.{replicate}
use Rattle.words_session.proofs.told_at.Goals as goal

pub returns : goal.returns
returns c = let p = c.args in let h = c.requires in c.told_from.ensures ∙ ap told_of (loaded p.s.now told_at TOLD (replicate TOLD 0) c.load.ensures refl (omega arith))
