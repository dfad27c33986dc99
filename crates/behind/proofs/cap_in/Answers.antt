use mathlib.Core.Path.{refl, ap, ◌∙◌}
use native.Mathlib.Omega.{arith}
use borrow.Author.Rules.{rules}
use lib.ListN.{replicate}
use Rattle.words.specs.Places.{CAP, cap_at}
use Rattle.words_info.specs.Coding.{cap_of}
use Rattle.behind.proofs.Laws.{loaded}
use Rattle.behind.proofs.cap_in.Goals as goal

pub returns : goal.returns
returns c =
    let p = c.args in
    let h = c.requires in
    c.cap_from.ensures ∙ ap cap_of (loaded p.m.now cap_at CAP (replicate CAP 0) c.load.ensures refl (omega arith))
