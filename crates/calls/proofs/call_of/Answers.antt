use mathlib.Core.Path.{sym, ◌∙◌}
use borrow.Author.Tests.{lt-ltb, le-ltb}
use Rattle.session.specs.Core.{full}
use Rattle.behind.specs.Behind.{behind_in}
use Rattle.abi.proofs.Kept.{call_late, call_short}
use Rattle.calls.proofs.Laws.{late_known, short_known, unlent-known, unlent-keeps, admitted-known, admitted-keeps}
use borrow.Author.Rules.{rules}
use Rattle.calls.proofs.call_of.Goals as goal

pub callable-requires : goal.callable-requires
callable-requires c = search rules

pub returns-then-out-lt-TURN : goal.returns-then-out-lt-TURN
returns-then-out-lt-TURN c =
    let a = c.args in
    let s = a.m.now in
    let b = behind_in s in
    let x = full a.s b in
    let time = sym (c.callable.ensures b) ∙ c.if-callable.true in
    let room = lt-ltb _ _ c.if-out-lt-TURN.true in
    record { out_after = short_known x a.call a.input.now a.top s a.inbox.now a.outbox.now a.out.now time room; keeps = call_short x a.call a.input.now a.top a.inbox.now a.outbox.now a.out.now s time room }

pub is_lent-requires : goal.is_lent-requires
is_lent-requires c = search rules

pub admit-requires : goal.admit-requires
admit-requires c = search rules

pub shape_of-inbox-then-is_lent : goal.shape_of-inbox-then-is_lent
shape_of-inbox-then-is_lent c = search rules

pub shape_of-outbox-then-is_lent : goal.shape_of-outbox-then-is_lent
shape_of-outbox-then-is_lent c = search rules

pub shape_of-m-then-is_lent : goal.shape_of-m-then-is_lent
shape_of-m-then-is_lent c = search rules

pub shape_of-out-then-is_lent : goal.shape_of-out-then-is_lent
shape_of-out-then-is_lent c = search rules

pub returns-then-is_lent : goal.returns-then-is_lent
returns-then-is_lent c =
    let a = c.args in
    let s = a.m.now in
    let b = behind_in s in
    let x = full a.s b in
    let time = sym (c.callable.ensures b) ∙ c.if-callable.true in
    let room = le-ltb _ _ c.if-out-lt-TURN.false in
    let lent = sym c.is_lent.ensures ∙ c.if-is_lent.true in
    record { out_after = c.admit.ensures.out_after ∙ admitted-known x a.call a.input.now a.top s a.inbox.now a.outbox.now a.out.now time room lent; keeps = admitted-keeps x a.call a.input.now a.top s a.inbox.now a.outbox.now a.out.now time room lent _ c.admit.ensures.keeps }

pub shape_of-inbox-then-callable : goal.shape_of-inbox-then-callable
shape_of-inbox-then-callable c = search rules

pub shape_of-outbox-then-callable : goal.shape_of-outbox-then-callable
shape_of-outbox-then-callable c = search rules

pub returns-then-callable : goal.returns-then-callable
returns-then-callable c =
    let a = c.args in
    let s = a.m.now in
    let b = behind_in s in
    let x = full a.s b in
    let time = sym (c.callable.ensures b) ∙ c.if-callable.true in
    let room = le-ltb _ _ c.if-out-lt-TURN.false in
    let lent = sym c.is_lent.ensures ∙ c.if-is_lent.false in
    record { out_after = unlent-known x a.call a.input.now a.top s a.inbox.now a.outbox.now a.out.now time room lent; keeps = unlent-keeps x a.call a.input.now a.top s a.inbox.now a.outbox.now a.out.now time room lent }

pub returns : goal.returns
returns c =
    let a = c.args in
    let s = a.m.now in
    let b = behind_in s in
    let x = full a.s b in
    let time = sym (c.callable.ensures b) ∙ c.if-callable.false in
    record { out_after = late_known x a.call a.input.now a.top s a.inbox.now a.outbox.now a.out.now time; keeps = call_late x a.call a.input.now a.top a.inbox.now a.outbox.now a.out.now s time }
