use mathlib.Core.Bool.{Bool}
use mathlib.Core.Path.{ap, sym, ◌∙◌}
use Rattle.fields.specs.Outcome.{pick}
use Rattle.session.specs.Core.{full}
use Rattle.session.specs.Course.{Place}
use Rattle.behind.specs.Behind.{behind_in}
use Rattle.fw_plan.specs.Calls.{wants, booked_by}
use Rattle.booking.specs.Booking.{left_at, put_at}
use Rattle.booking.proofs.Laws.{slots_length, left_in_lem}
use Rattle.booking.proofs.Rewrites.{book_rewrites, quiet_rewrites}
use borrow.Author.Rules.{rules}
use Rattle.booking.proofs.book.Goals as goal

pub returns-then-is_deal : goal.returns-then-is_deal
returns-then-is_deal c =
    let p = c.args in
    let m = p.m.now in
    let x = full p.s (behind_in m) in
    let e = sym c.is_deal.ensures ∙ c.if-is_deal.true in
    let w = c.wants-place.ensures p.s in record {
      m_after = c.put_at.ensures.m_after
          ∙ (ap (λ (y : Place). put_at y p.q p.a m) w
          ∙ (left_in_lem (wants x) p.q p.a x.books m (slots_length m)
          ∙ sym (ap (λ (t : Bool). pick t (left_at (wants x) (booked_by (wants x) p.q p.a x.books) m) m) e)));
      rewrites = book_rewrites m _ p.s p.q p.a _ w c.put_at.ensures.rewrites;
    }

pub returns-else-is_deal : goal.returns-else-is_deal
returns-else-is_deal c =
    let p = c.args in
    let m = p.m.now in
    let x = full p.s (behind_in m) in
    let e = sym c.is_deal.ensures ∙ c.if-is_deal.false in record { m_after = sym (ap (λ (t : Bool). pick t (left_at (wants x) (booked_by (wants x) p.q p.a x.books) m) m) e); rewrites = quiet_rewrites m p.s p.q p.a e }
