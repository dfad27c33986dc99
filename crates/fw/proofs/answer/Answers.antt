use Rattle.fw.proofs.Answers.{too_few, no_head, a_head}
use mathlib.Core.Path.{refl, ap, sym, subst, ◌∙◌}
use borrow.Author.Tests.{not-true, not-false, lt-ltb, le-ltb}
use borrow.Author.Rules.{rules}
use mathlib.Core.Bool.{not}
use Rattle.fw.proofs.answer.Goals as goal

pub returns-then-state-lt-STATE_BYTES : goal.returns-then-state-lt-STATE_BYTES
returns-then-state-lt-STATE_BYTES c =
    let p = c.args in
    let parts = too_few p.a p.resource.now p.top p.state.now p.inbox.now p.outbox.now p.out.now c.if-state-lt-STATE_BYTES.true in record { out_after = parts.0; holds = parts.1 }

pub head_at-s-requires : goal.head_at-s-requires
head_at-s-requires c = search rules

pub head_stands-requires : goal.head_stands-requires
head_stands-requires c = search rules

pub shape_of-state-then-not-head_stands : goal.shape_of-state-then-not-head_stands
shape_of-state-then-not-head_stands c = search rules

pub returns-then-not-head_stands : goal.returns-then-not-head_stands
returns-then-not-head_stands c =
    let p = c.args in
    let parts = no_head p.a p.resource.now p.top p.state.now p.inbox.now p.outbox.now p.out.now c.head_at-s.result c.head_stands.result c.if-state-lt-STATE_BYTES.false c.head_at-s.ensures c.head_stands.ensures (not-true c.head_stands.result (ap not c.if-not-head_stands.true)) in record { out_after = parts.0; holds = parts.1 }

pub answer_of-requires : goal.answer_of-requires
answer_of-requires c = search rules

pub shape_of-state : goal.shape_of-state
shape_of-state c = search rules

pub shape_of-inbox : goal.shape_of-inbox
shape_of-inbox c = search rules

pub shape_of-outbox : goal.shape_of-outbox
shape_of-outbox c = search rules

pub shape_of-out : goal.shape_of-out
shape_of-out c = search rules

pub returns : goal.returns
returns c =
    let p = c.args in
    let parts = a_head p.a p.resource.now p.top p.state.now p.inbox.now p.outbox.now p.out.now c.head_at-s.result c.head_stands.result c.if-state-lt-STATE_BYTES.false c.head_at-s.ensures c.head_stands.ensures (not-false c.head_stands.result (ap not c.if-not-head_stands.false)) _ _ _ _ _ c.answer_of.ensures.out_after c.answer_of.ensures.keeps in record { out_after = parts.0; holds = parts.1 }
