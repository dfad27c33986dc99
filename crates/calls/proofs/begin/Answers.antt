use mathlib.Core.Path.{ap, ◌∙◌}
use Rattle.session.specs.Core.{full}
use Rattle.behind.specs.Behind.{behind_in}
use Rattle.fw_begin.specs.Begins.{said_of}
use Rattle.calls.proofs.Laws.{cleared_behind, begins_as, begins_in, begins_out, begun_left, begun_held}
use borrow.Author.Rules.{rules}
use Rattle.calls.proofs.begin.Goals as goal

pub ready-requires : goal.ready-requires
ready-requires c = search rules

pub clear-requires : goal.clear-requires
clear-requires c = search rules

pub plan-p-requires : goal.plan-p-requires
plan-p-requires c = search rules

pub begin-requires : goal.begin-requires
begin-requires c = search rules

pub shape_of-inbox : goal.shape_of-inbox
shape_of-inbox c = search rules

pub shape_of-outbox : goal.shape_of-outbox
shape_of-outbox c = search rules

pub shape_of-m : goal.shape_of-m
shape_of-m c = search rules

pub returns : goal.returns
returns c =
    let a = c.args in
    let s = a.m.now in
    let b = behind_in s in
    let x = full a.s b in
    let planned = c.plan-p.ensures b (ap behind_in c.clear.ensures ∙ cleared_behind a.call s) in
    let turn = begins_as x a.call a.input.now a.inbox.now a.top planned c.ready.ensures in record { value = c.begin.ensures.value ∙ ap said_of turn; inbox_after = c.begin.ensures.inbox_after ∙ begins_in x a.call a.input.now a.inbox.now a.top planned c.ready.ensures; outbox_after = c.begin.ensures.outbox_after ∙ begins_out x a.call a.input.now a.inbox.now a.top a.outbox.now planned; m_after = begun_left x a.call a.input.now a.inbox.now a.top s c.begin.ensures.m_after c.clear.ensures turn; keeps = begun_held x a.call a.input.now a.inbox.now a.top s _ c.clear.ensures turn c.begin.ensures.writes }
