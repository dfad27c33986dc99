use mathlib.Core.Path.{ap, sym, ◌∙◌}
use Rattle.session.specs.declared.Session.{Session}
use Rattle.session.specs.declared.Core.{Core}
use Rattle.session.specs.Core.{Behind, full, plan_in, none_behind}
use Rattle.closing_plan.specs.Plan.{stop_plan, quiesce_plan}
use Rattle.client_plan.specs.Plan.{command_plan}
use Rattle.opening_plan.specs.Plan.{open_plan}
use Rattle.calls_plan.specs.declared.Call.{Call}
use Rattle.calls_plan.specs.Calls.{plan_for}
use Rattle.calls.specs.Begins.{behind_for}
use Rattle.calls.proofs.plan.Goals as goal

pub returns-in-Open : goal.returns-in-Open
returns-in-Open c = λ b h.
    let p = c.args in
    let e = h ∙ ap (λ (y : Call). behind_for y b) c.in-Open.is in
    ap (λ (y : Behind). plan_in c.open.result y) e
    ∙ c.open.ensures none_behind
    ∙ ap (λ (y : Session). open_plan y p.top) c.fresh.ensures
    ∙ ap (λ (y : Call). plan_for (full p.s b) y p.top) (sym c.in-Open.is)

pub returns-in-Command : goal.returns-in-Command
returns-in-Command c = λ b h.
    let p = c.args in
    let e = h ∙ ap (λ (y : Call). behind_for y b) c.in-Command.is in
    c.command.ensures ∙ ap (λ (y : Behind). command_plan (full p.s y) c.in-Command.r p.top.count) e
    ∙ ap (λ (y : Call). plan_for (full p.s b) y p.top) (sym c.in-Command.is)

pub returns-in-Lend : goal.returns-in-Lend
returns-in-Lend c = λ b h.
    let p = c.args in
    let e = h ∙ ap (λ (y : Call). behind_for y b) c.in-Lend.is in
    ap (λ (y : Behind). plan_in c.lend.result y) e ∙ c.lend.ensures b
    ∙ ap (λ (y : Call). plan_for (full p.s b) y p.top) (sym c.in-Lend.is)

pub returns-in-UndoTo : goal.returns-in-UndoTo
returns-in-UndoTo c = λ b h.
    let p = c.args in
    let e = h ∙ ap (λ (y : Call). behind_for y b) c.in-UndoTo.is in
    ap (λ (y : Behind). plan_in c.undo_to.result y) e ∙ c.undo_to.ensures b
    ∙ ap (λ (y : Call). plan_for (full p.s b) y p.top) (sym c.in-UndoTo.is)

pub returns-in-Quiesce : goal.returns-in-Quiesce
returns-in-Quiesce c = λ b h.
    let p = c.args in
    let e = h ∙ ap (λ (y : Call). behind_for y b) c.in-Quiesce.is in
    c.quiesce.ensures ∙ ap (λ (y : Behind). quiesce_plan (full p.s y) p.top) e
    ∙ ap (λ (y : Call). plan_for (full p.s b) y p.top) (sym c.in-Quiesce.is)

pub returns-in-Close : goal.returns-in-Close
returns-in-Close c = λ b h.
    let p = c.args in
    let e = h ∙ ap (λ (y : Call). behind_for y b) c.in-Close.is in
    c.stop.ensures
    ∙ ap (λ (y : Behind). stop_plan (full c.without_failure.result y) p.top) e
    ∙ ap (λ (y : Core). stop_plan (full y b) p.top) c.without_failure.ensures
    ∙ ap (λ (y : Call). plan_for (full p.s b) y p.top) (sym c.in-Close.is)
