use mathlib.Core.Path.{◌∙◌}
use borrow.Author.Rules.{rules}
use Rattle.session.specs.Core.{full}
use Rattle.behind.specs.Behind.{behind_in}
use Rattle.closing.proofs.Steps.{stopped_quiet, stopped_reset, stopped_give}
use Rattle.closing.proofs.stopped.Goals as goal

pub returns-then-wire : goal.returns-then-wire
returns-then-wire c =
    let p = c.args in
    let b = behind_in p.m.now in
    let s = full p.s b in
    c.quiet.ensures b ∙ stopped_quiet s p.undo c.if-wire.true

pub returns-then-wire-2 : goal.returns-then-wire-2
returns-then-wire-2 c =
    let p = c.args in
    let b = behind_in p.m.now in
    let s = full p.s b in
    c.reset.ensures b ∙ stopped_reset s p.undo c.if-wire.false c.if-wire-2.true

pub returns : goal.returns
returns c =
    let p = c.args in
    let s = full p.s (behind_in p.m.now) in
    c.give.ensures ∙ stopped_give s p.undo c.if-wire.false c.if-wire-2.false
