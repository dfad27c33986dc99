use mathlib.Core.Path.{◌∙◌}
use borrow.Author.Rules.{rules}
use borrow.Author.Tests.{eq-eqb, ne_eqb}
use Rattle.session.specs.Core.{full}
use Rattle.behind.specs.Behind.{behind_in}
use Rattle.closing.proofs.Steps.{undo_over, undo_left}
use Rattle.closing.proofs.undo.Goals as goal

pub returns-then-top-eq0 : goal.returns-then-top-eq0
returns-then-top-eq0 c =
    let p = c.args in
    let s = full p.s (behind_in p.m.now) in
    c.close_hca.ensures ∙ undo_over s p.top p.more (eq-eqb _ _ c.if-top-eq0.true)

pub returns : goal.returns
returns c =
    let p = c.args in
    let b = behind_in p.m.now in
    let s = full p.s b in
    c.undo_one.ensures b ∙ undo_left s p.top p.more (ne_eqb _ _ c.if-top-eq0.false)
