use mathlib.Core.Path.{refl, ap, ◌∙◌}
use native.Mathlib.Omega.{arith}
use borrow.Author.Rules.{rules}
use lib.ListN.{replicate}
use Rattle.words.specs.Places.{RESET, reset_at}
use Rattle.words_beside.specs.Coding.{reset_of}
use Rattle.behind.proofs.Laws.{loaded}
use Rattle.behind.proofs.reset_in.Goals as goal

pub returns : goal.returns
returns c =
    let p = c.args in
    let h = c.requires in
    c.reset_from.ensures ∙ ap reset_of (loaded p.m.now reset_at RESET (replicate RESET 0) c.load.ensures refl (omega arith))
