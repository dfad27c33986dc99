use mathlib.Core.Path.{ap, ◌∙◌}
use borrow.Author.Rules.{rules}
use Rattle.session.specs.declared.Core.{Core}
use Rattle.session.specs.Core.{full}
use Rattle.behind.specs.Behind.{behind_in}
use Rattle.closing_plan.specs.Closing.{UNDOS}
use Rattle.closing_plan.specs.Plan.{quiet_plan, undo_plan}
use Rattle.closing.proofs.Steps.{quiesce_quiet, quiesce_undo}
use Rattle.closing.proofs.quiesce.Goals as goal

pub returns-then-wire : goal.returns-then-wire
returns-then-wire c =
    let p = c.args in
    let b = behind_in p.m.now in
    let s = full p.s b in
    c.quiet.ensures b ∙ ap (λ (y : Core). quiet_plan (full y b) p.top.count) c.silenced.ensures ∙ quiesce_quiet s p.top c.if-wire.true

pub returns : goal.returns
returns c =
    let p = c.args in
    let b = behind_in p.m.now in
    let s = full p.s b in
    c.undo.ensures ∙ ap (λ (y : Core). undo_plan (full y b) UNDOS p.top) c.silenced-2.ensures ∙ quiesce_undo s p.top c.if-wire.false
