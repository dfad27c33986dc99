use mathlib.Core.Path.{ap, sym, ◌∙◌}
use borrow.Author.Rules.{rules}
use Rattle.command.specs.declared.CmdEnd.{CmdEnd}
use Rattle.buffer.specs.declared.Made.{Made}
use Rattle.session.specs.declared.Client.{Client}
use Rattle.session.specs.Core.{full}
use Rattle.client_plan.specs.Plan.{command_ended, lend_ended, undo_ended, client_plan}
use Rattle.client.proofs.served.Goals as goal

pub returns-in-Command : goal.returns-in-Command
unfolding client_plan
returns-in-Command c = λ b.
    let p = c.args in
    let s = full p.s b in
    c.commanded.ensures b
    ∙ ap (λ (y : CmdEnd). command_ended s c.in-Command.form y p.top.count) c.cmd_in.ensures
    ∙ ap (λ (y : Client). client_plan (full p.s b) y p.end p.top) (sym c.in-Command.is)

pub returns-in-Lend : goal.returns-in-Lend
unfolding client_plan
returns-in-Lend c = λ b.
    let p = c.args in
    let s = full p.s b in
    c.lent.ensures b
    ∙ ap (λ (y : Made). lend_ended s c.in-Lend.i y p.top.count) c.made_in.ensures
    ∙ ap (λ (y : Client). client_plan (full p.s b) y p.end p.top) (sym c.in-Lend.is)

pub returns-in-UndoTo : goal.returns-in-UndoTo
unfolding client_plan
returns-in-UndoTo c = λ b.
    let p = c.args in
    let s = full p.s b in
    c.undone.ensures b
    ∙ ap (λ (y : CmdEnd). undo_ended s c.in-UndoTo.mark c.in-UndoTo.more y p.top) c.cmd_in-in-UndoTo.ensures
    ∙ ap (λ (y : Client). client_plan (full p.s b) y p.end p.top) (sym c.in-UndoTo.is)
