use mathlib.Core.Path.{ap}
use Rattle.pci.specs.declared.Question.{Question}
use Rattle.words_task.proofs.Typed.{task_typed}
use Rattle.fw_step.proofs.Laws.{task_keeps}
use borrow.Author.Rules.{rules}
use Rattle.fw_step.proofs.go_on.Goals as goal

pub wipes-requires : goal.wipes-requires
wipes-requires c = search rules

pub asks-question-requires : goal.asks-question-requires
asks-question-requires c = search rules

pub put_task-requires : goal.put_task-requires
put_task-requires c = search rules

pub shape_of-inbox : goal.shape_of-inbox
shape_of-inbox c = search rules

pub shape_of-outbox : goal.shape_of-outbox
shape_of-outbox c = search rules

pub shape_of-m : goal.shape_of-m
shape_of-m c = search rules

pub returns : goal.returns
returns c =
    let p = c.args in
    let wrote = c.put_task.ensures in record { value = ap (λ (q : Question). record { question = q; undo = p.undo }) c.asks-question.ensures; inbox_after = c.wipes.ensures.inbox_after; outbox_after = c.wipes.ensures.outbox_after; m_after = wrote; keeps = task_keeps p.s p.task p.m.now _ (task_typed p.task _ c.well_formed.1.0) wrote }
