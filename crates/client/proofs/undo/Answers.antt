use mathlib.Core.Path.{◌∙◌}
use borrow.Author.Rules.{rules}
use borrow.Author.Tests.{le-leb, lt-leb}
use Rattle.session.specs.Core.{full}
use Rattle.client.proofs.Steps.{undo_over, undo_broken, undo_left}
use Rattle.client.proofs.undo.Goals as goal

pub returns-then-top-mark : goal.returns-then-top-mark
returns-then-top-mark c = λ b. let p = c.args in c.rest.ensures b ∙ undo_over (full p.s b) p.mark p.more p.top (le-leb _ _ c.if-top-mark.true)

pub returns-then-wire : goal.returns-then-wire
returns-then-wire c = λ b. let p = c.args in c.rest-then-wire.ensures b ∙ undo_broken (full p.s b) p.mark p.more p.top (lt-leb _ _ c.if-top-mark.false) c.if-wire.true

pub returns : goal.returns
returns c = λ b. let p = c.args in c.undo_one.ensures b ∙ undo_left (full p.s b) p.mark p.more p.top (lt-leb _ _ c.if-top-mark.false) c.if-wire.false
