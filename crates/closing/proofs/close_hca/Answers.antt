use mathlib.Core.Path.{◌∙◌}
use borrow.Author.Rules.{rules}
use Rattle.session.specs.Core.{full}
use Rattle.behind.specs.Behind.{behind_in}
use Rattle.closing.proofs.Steps.{hca_started, hca_not}
use Rattle.closing.proofs.close_hca.Goals as goal

pub returns-then-s : goal.returns-then-s
returns-then-s c =
    let p = c.args in
    let b = behind_in p.m.now in
    let s = full p.s b in
    c.send.ensures b ∙ hca_started s p.undo c.if-s.true

pub returns : goal.returns
returns c =
    let p = c.args in
    let s = full p.s (behind_in p.m.now) in
    c.unmap.ensures ∙ hca_not s p.undo c.if-s.false
