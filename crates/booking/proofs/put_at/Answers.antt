use mathlib.Core.Path.{refl, ap, sym, ◌∙◌}
use Rattle.session.specs.Course.{neither}
use Rattle.behind.specs.Behind.{behind_in}
use Rattle.words_laws.proofs.Rewrites.{rewrites_none}
use Rattle.booking.specs.declared.Place.{Place}
use Rattle.booking.specs.Booking.{place_of, put_at}
use Rattle.booking.proofs.Rewrites.{place_rewrites}
use borrow.Author.Rules.{rules}
use Rattle.booking.proofs.put_at.Goals as goal

pub returns-in-Neither : goal.returns-in-Neither
returns-in-Neither c =
    let p = c.args in
    let m = p.m.now in
    let e = sym c.in-Neither.is in record { m_after = ap (λ (y : Place). put_at (place_of y) p.q p.a m) e; rewrites = place_rewrites m m p.q p.a neither (place_of p.p) (ap place_of e) (rewrites_none m (behind_in m) refl) }

pub returns-in-Inbox : goal.returns-in-Inbox
returns-in-Inbox c =
    let p = c.args in
    let e = sym c.in-Inbox.is in record { m_after = c.put.ensures.m_after ∙ ap (λ (y : Place). put_at (place_of y) p.q p.a p.m.now) e; rewrites = place_rewrites p.m.now _ p.q p.a _ (place_of p.p) (ap place_of e) c.put.ensures.rewrites }

pub returns-in-Outbox : goal.returns-in-Outbox
returns-in-Outbox c =
    let p = c.args in
    let e = sym c.in-Outbox.is in record { m_after = c.put-in-Outbox.ensures.m_after ∙ ap (λ (y : Place). put_at (place_of y) p.q p.a p.m.now) e; rewrites = place_rewrites p.m.now _ p.q p.a _ (place_of p.p) (ap place_of e) c.put-in-Outbox.ensures.rewrites }

pub returns-in-Slot : goal.returns-in-Slot
returns-in-Slot c =
    let p = c.args in
    let e = sym c.in-Slot.is in record { m_after = c.put-in-Slot.ensures.m_after ∙ ap (λ (y : Place). put_at (place_of y) p.q p.a p.m.now) e; rewrites = place_rewrites p.m.now _ p.q p.a _ (place_of p.p) (ap place_of e) c.put-in-Slot.ensures.rewrites }
