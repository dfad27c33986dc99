use mathlib.Core.Path.{refl, ap, sym, ◌∙◌}
use native.Mathlib.Omega.{arith}
use borrow.Author.Rules.{rules}
use Rattle.words.specs.Places.{SLOT, SLOTS, slots_at}
use Rattle.words_books.specs.Coding.{slot_of}
use Rattle.session.specs.Session.{no_slot, slot_at}
use Rattle.session.specs.Core.{Behind}
use Rattle.behind.proofs.Laws.{rows_get, rows_none, long, none_there}
use Rattle.behind.proofs.slot_at.Goals as goal

pub returns-then-m-lt-STATE_BYTES : goal.returns-then-m-lt-STATE_BYTES
returns-then-m-lt-STATE_BYTES c = let p = c.args in c.no_slot.ensures ∙ sym (none_there p.m.now p.i c.if-m-lt-STATE_BYTES.true)

pub slot_in-requires : goal.slot_in-requires
slot_in-requires c = (omega arith, omega arith)

pub returns-then-i-lt-COUNT : goal.returns-then-i-lt-COUNT
returns-then-i-lt-COUNT c =
    let p = c.args in
    c.slot_in.ensures ∙ sym (ap (λ (b : Behind). slot_at b.slots p.i) (long p.m.now c.if-m-lt-STATE_BYTES.false) ∙ rows_get slot_of SLOT p.m.now slots_at SLOTS p.i no_slot c.if-i-lt-COUNT.true)

pub returns : goal.returns
returns c =
    let p = c.args in
    c.no_slot-2.ensures ∙ sym (ap (λ (b : Behind). slot_at b.slots p.i) (long p.m.now c.if-m-lt-STATE_BYTES.false) ∙ rows_none slot_of SLOT p.m.now slots_at SLOTS p.i no_slot c.if-i-lt-COUNT.false)
