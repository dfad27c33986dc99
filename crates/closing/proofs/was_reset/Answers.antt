use mathlib.Core.Path.{ap, sym, ◌∙◌}
use borrow.Author.Rules.{rules}
use Rattle.session.specs.declared.Core.{Core}
use Rattle.session.specs.Core.{full}
use Rattle.behind.specs.Behind.{behind_in}
use Rattle.closing_plan.specs.Plan.{release_plan}
use Rattle.closing.proofs.Steps.{reset_good, reset_bad}
use Rattle.closing.proofs.was_reset.Goals as goal

pub returns-then-is_good : goal.returns-then-is_good
returns-then-is_good c =
    let p = c.args in
    let s = full p.s (behind_in p.m.now) in
    c.give.ensures ∙ reset_good s p.undo p.end (sym c.is_good.ensures ∙ c.if-is_good.true)

pub returns : goal.returns
returns c =
    let p = c.args in
    let b = behind_in p.m.now in
    let s = full p.s b in
    c.release.ensures b
    ∙ ap (λ (y : Core). release_plan (full y b) p.undo) c.closes.ensures
    ∙ reset_bad s p.undo p.end (sym c.is_good.ensures ∙ c.if-is_good.false)
