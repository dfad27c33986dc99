use mathlib.Core.Path.{ap, sym, ◌∙◌}
use Rattle.fields.specs.Outcome.{Outcome}
use Rattle.reply.specs.Capability.{capability}
use Rattle.reply.specs.declared.DevCap.{DevCap}
use Rattle.session.specs.Core.{full}
use Rattle.behind.specs.Behind.{behind_in}
use Rattle.opening_plan.specs.Plan as p
use Rattle.ports.specs.Replied.{after_cap}
use Rattle.ports.proofs.Replied.{cap_good}
use Rattle.ports.proofs.cap_replied.Goals as goal

pub returns-in-Ok : goal.returns-in-Ok
returns-in-Ok c = λ b h.
    let p = c.args in
    c.next_port.ensures ∙ cap_good p.s (behind_in p.m.now) b p.top c.with_cap.result _ (capability p.y) (ap capability c.in-Ok.is) h c.with_cap.ensures

pub returns-in-Err : goal.returns-in-Err
returns-in-Err c = λ b h.
    let a = c.args in
    let e = ap capability c.in-Err.is in
    c.cap_refused.ensures b (h ∙ ap (λ (z : Outcome DevCap). after_cap z b) e) ∙ sym (ap (λ (z : Outcome DevCap). p.cap_replied (full a.s b) z a.top) e)
