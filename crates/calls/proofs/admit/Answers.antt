use mathlib.Core.Path.{refl, ap, sym, ◌∙◌}
use Rattle.words_calls.specs.Calls.{turn_in}
use Rattle.session.specs.Core.{full}
use Rattle.behind.specs.Behind.{behind_in}
use Rattle.fw_begin.specs.declared.Said.{Said}
use Rattle.abi.proofs.Turns.{whole}
use Rattle.calls.proofs.Laws.{good_admitted, good_keeps, barred_admitted, barred_keeps}
use borrow.Author.Rules.{rules}
use Rattle.calls.proofs.admit.Goals as goal

pub barred-why-requires : goal.barred-why-requires
barred-why-requires c = search rules

pub enum_told-1 : goal.enum_told-1
enum_told-1 c = search rules

pub begin-said-requires : goal.begin-said-requires
begin-said-requires c = search rules

pub put_turn-requires : goal.put_turn-requires
put_turn-requires c = search rules

pub enum_known-why : goal.enum_known-why
enum_known-why c = search rules

pub number-requires : goal.number-requires
number-requires c = search rules

pub shape_of-inbox : goal.shape_of-inbox
shape_of-inbox c = search rules

pub shape_of-outbox : goal.shape_of-outbox
shape_of-outbox c = search rules

pub shape_of-m : goal.shape_of-m
shape_of-m c = search rules

pub shape_of-out : goal.shape_of-out
shape_of-out c = search rules

pub returns-in-Nothing : goal.returns-in-Nothing
returns-in-Nothing c =
    let a = c.args in
    let s = a.m.now in
    let b = behind_in s in
    let x = full a.s b in
    let free = sym (c.barred-why.ensures b) ∙ c.in-Nothing.is in
    record {
      out_after = whole refl c.begin-said.ensures.m_after c.begin-said.ensures.inbox_after c.begin-said.ensures.outbox_after (c.put_turn.ensures ∙ ap (λ (z : Said). turn_in a.out.now z.question z.undo) c.begin-said.ensures.value)
          ∙ good_admitted x a.call a.input.now a.top s a.inbox.now a.outbox.now a.out.now free;
      keeps = good_keeps x a.call a.input.now a.top s a.inbox.now a.outbox.now a.out.now _ free c.begin-said.ensures.keeps;
    }

pub returns-in-By : goal.returns-in-By
returns-in-By c =
    let a = c.args in
    let s = a.m.now in
    let b = behind_in s in
    let x = full a.s b in
    let why = sym (c.barred-why.ensures b) ∙ c.in-By.is in record { out_after = whole c.number.ensures refl refl refl refl ∙ barred_admitted x a.call a.input.now a.top s a.inbox.now a.outbox.now a.out.now _ why; keeps = barred_keeps x a.call a.input.now a.top s a.inbox.now a.outbox.now a.out.now _ why }
