use mathlib.Core.Path.{◌∙◌}
use borrow.Author.Rules.{rules}
use Rattle.session.specs.Core.{full}
use Rattle.behind.specs.Behind.{behind_in}
use Rattle.closing.proofs.Steps.{stop_reset, stop_undo}
use Rattle.closing.proofs.stop.Goals as goal

pub returns-then-wire : goal.returns-then-wire
returns-then-wire c =
    let p = c.args in
    let b = behind_in p.m.now in
    let s = full p.s b in
    c.reset.ensures b ∙ stop_reset s p.top c.if-wire.true

pub returns : goal.returns
returns c =
    let p = c.args in
    let s = full p.s (behind_in p.m.now) in
    c.undo.ensures ∙ stop_undo s p.top c.if-wire.false
