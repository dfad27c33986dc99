use mathlib.Core.Path.{ap, sym, ◌∙◌}
use Rattle.fw_plan.specs.declared.Wipe.{Wipe}
use Rattle.fw_plan.specs.Calls.{wiped_in, wiped_out}
use borrow.Author.Rules.{rules}
use Rattle.fw_step.proofs.wipes.Goals as goal

pub enum_told-1 : goal.enum_told-1
enum_told-1 c = search rules

pub enum_told-in-Inbox : goal.enum_told-in-Inbox
enum_told-in-Inbox c = search rules

pub zero-requires : goal.zero-requires
zero-requires c = search rules

pub enum_told-in-Outbox : goal.enum_told-in-Outbox
enum_told-in-Outbox c = search rules

pub zero-requires-in-Outbox : goal.zero-requires-in-Outbox
zero-requires-in-Outbox c = search rules

pub shape_of-inbox : goal.shape_of-inbox
shape_of-inbox c = search rules

pub returns-in-Inbox : goal.returns-in-Inbox
returns-in-Inbox c =
    let p = c.args in
    record { inbox_after = c.zero.ensures ∙ sym (ap (λ (z : Wipe). wiped_in z p.inbox.now) c.in-Inbox.is); outbox_after = sym (ap (λ (z : Wipe). wiped_out z p.outbox.now) c.in-Inbox.is) }

pub shape_of-outbox : goal.shape_of-outbox
shape_of-outbox c = search rules

pub returns-in-Outbox : goal.returns-in-Outbox
returns-in-Outbox c =
    let p = c.args in
    record { inbox_after = sym (ap (λ (z : Wipe). wiped_in z p.inbox.now) c.in-Outbox.is); outbox_after = c.zero-in-Outbox.ensures ∙ sym (ap (λ (z : Wipe). wiped_out z p.outbox.now) c.in-Outbox.is) }
