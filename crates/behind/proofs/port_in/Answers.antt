use mathlib.Core.Path.{refl, ap, ◌∙◌}
use native.Mathlib.Omega.{arith}
use borrow.Author.Rules.{rules}
use lib.ListN.{replicate}
use Rattle.words.specs.Places.{PORT}
use Rattle.words_info.specs.Coding.{port_of}
use Rattle.behind.proofs.Laws.{loaded}
use Rattle.behind.proofs.port_in.Goals as goal

pub returns : goal.returns
returns c =
    let p = c.args in
    let h = c.requires in
    c.port_from.ensures ∙ ap port_of (loaded p.m.now p.k PORT (replicate PORT 0) c.load.ensures refl (omega arith))
