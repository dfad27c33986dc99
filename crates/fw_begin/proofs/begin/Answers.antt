use mathlib.Core.Path.{refl, ap, sym, subst, ◌∙◌}
use mathlib.Core.List.{List}
use Prim.Native.Nat.{ℕ}
use Rattle.pci.specs.declared.Question.{Question}
use Rattle.session.specs.Core.{full, begun}
use Rattle.session.specs.declared.Session.{Session}
use Rattle.behind.specs.Behind.{behind_in}
use Rattle.bytes_plan.specs.Left.{headed_in}
use Rattle.fw_plan.specs.Calls.{asks_of}
use Rattle.abi.specs.Kept.{Writes}
use Rattle.abi.proofs.Left.{begun_slots, begun_caps}
use Rattle.fw_begin.specs.declared.Said.{Said}
use Rattle.fw_begin.proofs.Laws.{opened}
use borrow.Author.Rules.{rules}
use Rattle.fw_begin.proofs.begin.Goals as goal

pub fill-c-requires : goal.fill-c-requires
fill-c-requires c = search rules

pub open_task-question-requires : goal.open_task-question-requires
open_task-question-requires c = search rules

pub shape_of-inbox : goal.shape_of-inbox
shape_of-inbox c = search rules

pub shape_of-outbox : goal.shape_of-outbox
shape_of-outbox c = search rules

pub shape_of-m : goal.shape_of-m
shape_of-m c = search rules

pub returns : goal.returns
returns c =
    let a = c.args in
    let old = a.m.now in
    let st = a.p.core.stage in
    let k = a.p.core.task in
    let behind = behind_in old in
    let z = opened a.p c.fill-c.result behind a.inbox.now (c.fill-c.ensures.with_slots (begun st k behind) (begun_slots st k behind)) in record { value = ap (λ (q : Question). record { question = q; undo = a.p.undo }) (c.open_task-question.ensures.value ∙ ap asks_of z); inbox_after = c.fill-c.ensures.with_caps (begun st k behind) (begun_caps st k behind); outbox_after = c.fill-c.ensures.outbox_after; m_after = c.open_task-question.ensures.m_after ∙ ap (λ (y : Session). headed_in y old) z; writes = subst (Writes old _) z c.open_task-question.ensures.writes }
