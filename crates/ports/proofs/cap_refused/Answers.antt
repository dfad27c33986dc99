use mathlib.Core.Path.{ap, ◌∙◌}
use Rattle.reply.specs.Capability.{refused_by}
use Rattle.behind.specs.Behind.{behind_in}
use Rattle.ports.proofs.Replied as replied
use Rattle.ports.proofs.cap_refused.Goals as goal

pub returns-in-Short : goal.returns-in-Short
returns-in-Short c = λ b h.
    let p = c.args in
    c.fail.ensures ∙ replied.cap_refused p.s (behind_in p.m.now) b p.top _ _ (refused_by p.why) (ap refused_by c.in-Short.is) h

pub returns-in-MinPage : goal.returns-in-MinPage
returns-in-MinPage c = λ b h.
    let p = c.args in
    c.fail-in-MinPage.ensures ∙ replied.cap_refused p.s (behind_in p.m.now) b p.top _ _ (refused_by p.why) (ap refused_by c.in-MinPage.is) h

pub returns-in-Ports : goal.returns-in-Ports
returns-in-Ports c = λ b h.
    let p = c.args in
    c.fail-in-Ports.ensures ∙ replied.cap_refused p.s (behind_in p.m.now) b p.top _ _ (refused_by p.why) (ap refused_by c.in-Ports.is) h

pub returns-in-Uar : goal.returns-in-Uar
returns-in-Uar c = λ b h.
    let p = c.args in
    c.fail-in-Uar.ensures ∙ replied.cap_refused p.s (behind_in p.m.now) b p.top _ _ (refused_by p.why) (ap refused_by c.in-Uar.is) h

pub returns-in-UarArea : goal.returns-in-UarArea
returns-in-UarArea c = λ b h.
    let p = c.args in
    c.fail-in-UarArea.ensures ∙ replied.cap_refused p.s (behind_in p.m.now) b p.top _ _ (refused_by p.why) (ap refused_by c.in-UarArea.is) h
