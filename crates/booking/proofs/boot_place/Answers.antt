use mathlib.Core.Path.{ap, sym, ◌∙◌}
use Rattle.session.specs.Core.{full}
use Rattle.session.specs.declared.Core.{Core}
use Rattle.behind.specs.Behind.{behind_in}
use Rattle.session.specs.declared.Boot.{Boot}
use Rattle.opening_plan.specs.Plan.{place_boot}
use Rattle.booking.specs.Booking.{within}
use borrow.Author.Rules.{rules}
use Rattle.booking.proofs.boot_place.Goals as goal

pub returns-in-QueryFw : goal.returns-in-QueryFw
returns-in-QueryFw c =
    let p = c.args in
    λ (s : Core). sym (ap (λ (y : Boot). within (place_boot y (full s (behind_in p.m.now)).info)) c.in-QueryFw.is)

pub returns-in-Make : goal.returns-in-Make
returns-in-Make c =
    let p = c.args in
    λ (s : Core). c.area_place.ensures s ∙ sym (ap (λ (y : Boot). within (place_boot y (full s (behind_in p.m.now)).info)) c.in-Make.is)

pub returns-in-Map : goal.returns-in-Map
returns-in-Map c =
    let p = c.args in
    λ (s : Core). sym (ap (λ (y : Boot). within (place_boot y (full s (behind_in p.m.now)).info)) c.in-Map.is)

pub returns-in-RunFw : goal.returns-in-RunFw
returns-in-RunFw c =
    let p = c.args in
    λ (s : Core). sym (ap (λ (y : Boot). within (place_boot y (full s (behind_in p.m.now)).info)) c.in-RunFw.is)

pub returns-in-ModStat : goal.returns-in-ModStat
returns-in-ModStat c =
    let p = c.args in
    λ (s : Core). sym (ap (λ (y : Boot). within (place_boot y (full s (behind_in p.m.now)).info)) c.in-ModStat.is)

pub returns-in-DevCap : goal.returns-in-DevCap
returns-in-DevCap c =
    let p = c.args in
    λ (s : Core). sym (ap (λ (y : Boot). within (place_boot y (full s (behind_in p.m.now)).info)) c.in-DevCap.is)

pub returns-in-Port : goal.returns-in-Port
returns-in-Port c =
    let p = c.args in
    λ (s : Core). sym (ap (λ (y : Boot). within (place_boot y (full s (behind_in p.m.now)).info)) c.in-Port.is)

pub returns-in-IcmSize : goal.returns-in-IcmSize
returns-in-IcmSize c =
    let p = c.args in
    λ (s : Core). sym (ap (λ (y : Boot). within (place_boot y (full s (behind_in p.m.now)).info)) c.in-IcmSize.is)

pub returns-in-InitHca : goal.returns-in-InitHca
returns-in-InitHca c =
    let p = c.args in
    λ (s : Core). sym (ap (λ (y : Boot). within (place_boot y (full s (behind_in p.m.now)).info)) c.in-InitHca.is)

pub returns-in-Func : goal.returns-in-Func
returns-in-Func c =
    let p = c.args in
    λ (s : Core). sym (ap (λ (y : Boot). within (place_boot y (full s (behind_in p.m.now)).info)) c.in-Func.is)

pub returns-in-Adapter : goal.returns-in-Adapter
returns-in-Adapter c =
    let p = c.args in
    λ (s : Core). sym (ap (λ (y : Boot). within (place_boot y (full s (behind_in p.m.now)).info)) c.in-Adapter.is)
