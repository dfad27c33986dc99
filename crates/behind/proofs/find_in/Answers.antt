use mathlib.Core.Path.{refl, ap, ◌∙◌}
use native.Mathlib.Omega.{arith}
use borrow.Author.Rules.{rules}
use lib.ListN.{replicate}
use Rattle.words.specs.Places.{FIND, find_at}
use Rattle.words_beside.specs.Coding.{find_of}
use Rattle.behind.proofs.Laws.{loaded}
use Rattle.behind.proofs.find_in.Goals as goal

pub returns : goal.returns
returns c =
    let p = c.args in
    let h = c.requires in
    c.find_from.ensures ∙ ap find_of (loaded p.m.now find_at FIND (replicate FIND 0) c.load.ensures refl (omega arith))
