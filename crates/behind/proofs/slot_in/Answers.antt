use mathlib.Core.Path.{refl, ap, ◌∙◌}
use native.Mathlib.Omega.{arith}
use borrow.Author.Rules.{rules}
use lib.ListN.{replicate}
use Rattle.words.specs.Places.{SLOT}
use Rattle.words_books.specs.Coding.{slot_of}
use Rattle.behind.proofs.Laws.{loaded}
use Rattle.behind.proofs.slot_in.Goals as goal

pub returns : goal.returns
returns c =
    let p = c.args in
    let h = c.requires in
    c.slot_from.ensures ∙ ap slot_of (loaded p.m.now p.k SLOT (replicate SLOT 0) c.load.ensures refl (omega arith))
