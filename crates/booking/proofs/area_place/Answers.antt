use mathlib.Core.Path.{ap, sym, ◌∙◌}
use Rattle.session.specs.Core.{full}
use Rattle.session.specs.declared.Core.{Core}
use Rattle.behind.specs.Behind.{behind_in}
use Rattle.session.specs.declared.Area.{Area}
use Rattle.opening_plan.specs.Values.{place_for}
use Rattle.booking.specs.Booking.{within}
use borrow.Author.Rules.{rules}
use Rattle.booking.proofs.area_place.Goals as goal

pub returns-in-Fa : goal.returns-in-Fa
returns-in-Fa c =
    let p = c.args in
    λ (s : Core). sym (ap (λ (y : Area). within (place_for (full s (behind_in p.m.now)).info y)) c.in-Fa.is)

pub returns-in-Aux : goal.returns-in-Aux
returns-in-Aux c =
    let p = c.args in
    λ (s : Core). sym (ap (λ (y : Area). within (place_for (full s (behind_in p.m.now)).info y)) c.in-Aux.is)

pub returns-in-Range : goal.returns-in-Range
returns-in-Range c =
    let p = c.args in
    λ (s : Core). c.range_place.ensures s ∙ sym (ap (λ (y : Area). within (place_for (full s (behind_in p.m.now)).info y)) c.in-Range.is)
