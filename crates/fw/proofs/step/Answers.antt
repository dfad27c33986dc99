use mathlib.Core.Path.{refl, ap, sym, subst, ◌∙◌}
use Rattle.fw.proofs.Steps.{going-said, going-inbox, going-outbox, going-left, going_steps, ended-said, ended-inbox, ended-outbox, ended-left, ended-steps}
use borrow.Author.Rules.{rules}
use Rattle.fw.proofs.step.Goals as goal

pub take-took-requires : goal.take-took-requires
take-took-requires c = search rules

pub enum_told-1 : goal.enum_told-1
enum_told-1 c = search rules

pub go_on-requires : goal.go_on-requires
go_on-requires c = search rules

pub enum_known-ending : goal.enum_known-ending
enum_known-ending c = search rules

pub start-requires : goal.start-requires
start-requires c = search rules

pub end-requires : goal.end-requires
end-requires c = search rules

pub shape_of-inbox-in-Going : goal.shape_of-inbox-in-Going
shape_of-inbox-in-Going c = search rules

pub shape_of-outbox-in-Going : goal.shape_of-outbox-in-Going
shape_of-outbox-in-Going c = search rules

pub shape_of-m-in-Going : goal.shape_of-m-in-Going
shape_of-m-in-Going c = search rules

pub returns-in-Going : goal.returns-in-Going
returns-in-Going c =
    let p = c.args in
    let pre = c.requires in
    let goes = c.in-Going.is in
    record { value = going-said p.s p.a p.resource.now p.inbox.now p.outbox.now p.top p.m.now _ c.take-took.result pre c.take-took.ensures.value c.take-took.ensures.m_after c.take-took.ensures.rewrites goes _ c.go_on.ensures.value; inbox_after = going-inbox p.s p.a p.resource.now p.inbox.now p.outbox.now p.top p.m.now _ c.take-took.result pre c.take-took.ensures.value c.take-took.ensures.m_after c.take-took.ensures.rewrites goes _ c.go_on.ensures.inbox_after; outbox_after = going-outbox p.s p.a p.resource.now p.inbox.now p.outbox.now p.top p.m.now _ c.take-took.result pre c.take-took.ensures.value c.take-took.ensures.m_after c.take-took.ensures.rewrites goes _ c.go_on.ensures.outbox_after; m_after = going-left p.s p.a p.resource.now p.inbox.now p.outbox.now p.top p.m.now _ c.take-took.result pre c.take-took.ensures.value c.take-took.ensures.m_after c.take-took.ensures.rewrites goes _ c.go_on.ensures.m_after; steps = going_steps p.s p.a p.resource.now p.inbox.now p.outbox.now p.top p.m.now _ c.take-took.result pre c.take-took.ensures.value c.take-took.ensures.m_after c.take-took.ensures.rewrites goes _ c.go_on.ensures.keeps }

pub shape_of-inbox-in-Ended : goal.shape_of-inbox-in-Ended
shape_of-inbox-in-Ended c = search rules

pub shape_of-outbox-in-Ended : goal.shape_of-outbox-in-Ended
shape_of-outbox-in-Ended c = search rules

pub shape_of-m-in-Ended : goal.shape_of-m-in-Ended
shape_of-m-in-Ended c = search rules

pub returns-in-Ended : goal.returns-in-Ended
returns-in-Ended c =
    let p = c.args in
    let pre = c.requires in
    let ended = c.in-Ended.is in
    record { value = ended-said p.s p.a p.resource.now p.inbox.now p.outbox.now p.top p.m.now _ c.take-took.result pre c.take-took.ensures.value c.take-took.ensures.m_after c.take-took.ensures.rewrites _ _ ended c.start.ensures _ c.end.ensures.value; inbox_after = ended-inbox p.s p.a p.resource.now p.inbox.now p.outbox.now p.top p.m.now _ c.take-took.result pre c.take-took.ensures.value c.take-took.ensures.m_after c.take-took.ensures.rewrites _ _ ended c.start.ensures _ c.end.ensures.inbox_after; outbox_after = ended-outbox p.s p.a p.resource.now p.inbox.now p.outbox.now p.top p.m.now _ c.take-took.result pre c.take-took.ensures.value c.take-took.ensures.m_after c.take-took.ensures.rewrites _ _ ended c.start.ensures _ c.end.ensures.outbox_after; m_after = ended-left p.s p.a p.resource.now p.inbox.now p.outbox.now p.top p.m.now _ c.take-took.result pre c.take-took.ensures.value c.take-took.ensures.m_after c.take-took.ensures.rewrites _ _ ended c.start.ensures _ c.end.ensures.m_after; steps = ended-steps p.s p.a p.resource.now p.inbox.now p.outbox.now p.top p.m.now _ c.take-took.result pre c.take-took.ensures.value c.take-took.ensures.m_after c.take-took.ensures.rewrites _ _ ended c.start.ensures _ c.end.ensures.writes }
