use mathlib.Core.Path.{ap, sym, ◌∙◌}
use Rattle.session.specs.Core.{full}
use Rattle.session.specs.declared.Core.{Core}
use Rattle.behind.specs.Behind.{behind_in}
use Rattle.session.specs.declared.Stage.{Stage}
use Rattle.fw_plan.specs.Calls.{place_at}
use Rattle.booking.specs.Booking.{within}
use borrow.Author.Rules.{rules}
use Rattle.booking.proofs.wants.Goals as goal

pub returns-in-Fresh : goal.returns-in-Fresh
returns-in-Fresh c =
    let p = c.args in
    λ (s : Core). sym (ap (λ (y : Stage). within (place_at y (full s (behind_in p.m.now)).info)) c.in-Fresh.is)

pub returns-in-Open : goal.returns-in-Open
returns-in-Open c =
    let p = c.args in
    λ (s : Core). sym (ap (λ (y : Stage). within (place_at y (full s (behind_in p.m.now)).info)) c.in-Open.is)

pub returns-in-Ended : goal.returns-in-Ended
returns-in-Ended c =
    let p = c.args in
    λ (s : Core). sym (ap (λ (y : Stage). within (place_at y (full s (behind_in p.m.now)).info)) c.in-Ended.is)

pub returns-in-Prepare : goal.returns-in-Prepare
returns-in-Prepare c =
    let p = c.args in
    λ (s : Core). c.box_place.ensures ∙ sym (ap (λ (y : Stage). within (place_at y (full s (behind_in p.m.now)).info)) c.in-Prepare.is)

pub returns-in-Boot : goal.returns-in-Boot
returns-in-Boot c =
    let p = c.args in
    λ (s : Core). c.boot_place.ensures s ∙ sym (ap (λ (y : Stage). within (place_at y (full s (behind_in p.m.now)).info)) c.in-Boot.is)

pub returns-in-Client : goal.returns-in-Client
returns-in-Client c =
    let p = c.args in
    λ (s : Core). c.client_place.ensures ∙ sym (ap (λ (y : Stage). within (place_at y (full s (behind_in p.m.now)).info)) c.in-Client.is)

pub returns-in-Close : goal.returns-in-Close
returns-in-Close c =
    let p = c.args in
    λ (s : Core). c.close_place.ensures ∙ sym (ap (λ (y : Stage). within (place_at y (full s (behind_in p.m.now)).info)) c.in-Close.is)
