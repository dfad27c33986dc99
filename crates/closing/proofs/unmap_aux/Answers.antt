use mathlib.Core.Path.{ap, sym, ◌∙◌}
use borrow.Author.Rules.{rules}
use Rattle.session.specs.Session.{is_held}
use Rattle.session.specs.Core.{full}
use Rattle.behind.specs.Behind.{behind_in}
use Rattle.closing.proofs.Steps.{aux_held, aux_none}
use Rattle.closing.proofs.unmap_aux.Goals as goal

pub returns-then-is_held : goal.returns-then-is_held
returns-then-is_held c =
    let p = c.args in
    let b = behind_in p.m.now in
    let s = full p.s b in
    c.send.ensures b ∙ aux_held s p.undo (sym (c.is_held.ensures ∙ ap is_held c.slot_at.ensures) ∙ c.if-is_held.true)

pub returns : goal.returns
returns c =
    let p = c.args in
    let s = full p.s (behind_in p.m.now) in
    c.unmap_fa.ensures ∙ aux_none s p.undo (sym (c.is_held.ensures ∙ ap is_held c.slot_at.ensures) ∙ c.if-is_held.false)
