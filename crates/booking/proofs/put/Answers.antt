use mathlib.Core.Path.{ap, ◌∙◌}
use Rattle.session.specs.declared.Slot.{Slot}
use Rattle.behind.specs.Behind.{slot_put}
use Rattle.booking.specs.Booking.{turned}
use Rattle.words_books.proofs.Typed.{slot_typed}
use Rattle.booking.proofs.Rewrites.{turn_rewrites}
use borrow.Author.Rules.{rules}
use Rattle.booking.proofs.put.Goals as goal

pub returns : goal.returns
returns c =
    let p = c.args in
    let d = c.turn.ensures ∙ ap (turned p.virt p.q p.a) c.slot_at-x.ensures in record { m_after = c.put_slot.ensures ∙ ap (λ (v : Slot). slot_put p.i v p.m.now) d; rewrites = turn_rewrites p.m.now _ p.i p.virt p.q p.a c.turn.result (slot_typed _ _ c.turn.type_inv) d c.put_slot.ensures }
