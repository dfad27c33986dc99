use mathlib.Core.Path.{refl, ap, sym, subst, ◌∙◌}
use borrow.Author.Tests.{not-true, not-false, lt-ltb, le-ltb}
use Rattle.session.specs.Core.{full}
use Rattle.behind.specs.Behind.{behind_in}
use Rattle.fw.proofs.Answers.{late, no_room, unlent, taken, taken_keeps}
use borrow.Author.Rules.{rules}
use mathlib.Core.Bool.{not}
use Rattle.fw.proofs.answer_of.Goals as goal

pub answerable-requires : goal.answerable-requires
answerable-requires c = search rules

pub shape_of-state-then-not-answerable : goal.shape_of-state-then-not-answerable
shape_of-state-then-not-answerable c = search rules

pub returns-then-not-answerable : goal.returns-then-not-answerable
returns-then-not-answerable c =
    let p = c.args in
    let parts = late (full p.s (behind_in p.state.now)) p.a p.resource.now p.top p.state.now p.inbox.now p.outbox.now p.out.now (sym c.answerable.ensures ∙ not-true c.answerable.result (ap not c.if-not-answerable.true)) in record { out_after = parts.0; keeps = parts.1 }

pub shape_of-state-then-out-lt-TURN : goal.shape_of-state-then-out-lt-TURN
shape_of-state-then-out-lt-TURN c = search rules

pub returns-then-out-lt-TURN : goal.returns-then-out-lt-TURN
returns-then-out-lt-TURN c =
    let p = c.args in
    let parts = no_room (full p.s (behind_in p.state.now)) p.a p.resource.now p.top p.state.now p.inbox.now p.outbox.now p.out.now (sym c.answerable.ensures ∙ not-false c.answerable.result (ap not c.if-not-answerable.false)) (lt-ltb _ _ c.if-out-lt-TURN.true) in record { out_after = parts.0; keeps = parts.1 }

pub is_lent-requires : goal.is_lent-requires
is_lent-requires c = search rules

pub shape_of-inbox-then-not-is_lent : goal.shape_of-inbox-then-not-is_lent
shape_of-inbox-then-not-is_lent c = search rules

pub shape_of-outbox-then-not-is_lent : goal.shape_of-outbox-then-not-is_lent
shape_of-outbox-then-not-is_lent c = search rules

pub shape_of-state-then-not-is_lent : goal.shape_of-state-then-not-is_lent
shape_of-state-then-not-is_lent c = search rules

pub returns-then-not-is_lent : goal.returns-then-not-is_lent
returns-then-not-is_lent c =
    let p = c.args in
    let parts = unlent (full p.s (behind_in p.state.now)) p.a p.resource.now p.top p.state.now p.inbox.now p.outbox.now p.out.now (sym c.answerable.ensures ∙ not-false c.answerable.result (ap not c.if-not-answerable.false)) (le-ltb _ _ c.if-out-lt-TURN.false) (sym c.is_lent.ensures ∙ not-true c.is_lent.result (ap not c.if-not-is_lent.true)) in record { out_after = parts.0; keeps = parts.1 }

pub step-said-requires : goal.step-said-requires
step-said-requires c = search rules

pub put_turn-requires : goal.put_turn-requires
put_turn-requires c = search rules

pub shape_of-inbox : goal.shape_of-inbox
shape_of-inbox c = search rules

pub shape_of-outbox : goal.shape_of-outbox
shape_of-outbox c = search rules

pub shape_of-state : goal.shape_of-state
shape_of-state c = search rules

pub shape_of-out : goal.shape_of-out
shape_of-out c = search rules

pub returns : goal.returns
returns c =
    let p = c.args in
    let able = sym c.answerable.ensures ∙ not-false c.answerable.result (ap not c.if-not-answerable.false) in
    let room = le-ltb _ _ c.if-out-lt-TURN.false in
    let lent = sym c.is_lent.ensures ∙ not-false c.is_lent.result (ap not c.if-not-is_lent.false) in
    record { out_after = taken (full p.s (behind_in p.state.now)) p.a p.resource.now p.top p.state.now p.inbox.now p.outbox.now p.out.now able room lent c.step-said.result _ _ _ _ c.step-said.ensures.value c.step-said.ensures.m_after c.step-said.ensures.inbox_after c.step-said.ensures.outbox_after c.put_turn.ensures; keeps = taken_keeps (full p.s (behind_in p.state.now)) p.a p.resource.now p.top p.state.now p.inbox.now p.outbox.now p.out.now able room lent _ c.step-said.ensures.steps }
