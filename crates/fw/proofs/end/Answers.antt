use mathlib.Core.Path.{refl, ap, sym, subst, ◌∙◌}
use Rattle.fw.proofs.Ends.{said, inbox_is, outbox_is, left, writes}
use borrow.Author.Rules.{rules}
use Rattle.fw.proofs.end.Goals as goal

pub note-requires : goal.note-requires
note-requires c = search rules

pub follow-p-requires : goal.follow-p-requires
follow-p-requires c = search rules

pub begin-requires : goal.begin-requires
begin-requires c = search rules

pub shape_of-inbox : goal.shape_of-inbox
shape_of-inbox c = search rules

pub shape_of-outbox : goal.shape_of-outbox
shape_of-outbox c = search rules

pub shape_of-m : goal.shape_of-m
shape_of-m c = search rules

pub returns : goal.returns
returns c =
    let p = c.args in
    let pre = c.requires in
    let wrote = c.note.ensures.m_after in
    let rewrote = c.note.ensures.rewrites in
    record { value = said p.s p.end p.inbox.now p.outbox.now p.top p.m.now _ _ pre wrote rewrote c.follow-p.ensures _ c.begin.ensures.value; inbox_after = inbox_is p.s p.end p.inbox.now p.outbox.now p.top p.m.now _ _ pre wrote rewrote c.follow-p.ensures _ c.begin.ensures.inbox_after; outbox_after = outbox_is p.s p.end p.inbox.now p.outbox.now p.top p.m.now _ _ pre wrote rewrote c.follow-p.ensures _ c.begin.ensures.outbox_after; m_after = left p.s p.end p.inbox.now p.outbox.now p.top p.m.now _ _ pre wrote rewrote c.follow-p.ensures _ c.begin.ensures.m_after; writes = writes p.s p.end p.inbox.now p.outbox.now p.top p.m.now _ _ pre wrote rewrote c.follow-p.ensures _ c.begin.ensures.writes }
