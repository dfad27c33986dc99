-- What stands behind the head once a reply was noted: what a good one says, or what stood there before.
use Rattle.std.specs.Prelude.{ℕ, ◌≡◌, eqb}
use Rattle.fields.specs.Outcome.{Outcome, value, refused, pick}
use Rattle.reply.specs.declared.DevCap.{DevCap}
use Rattle.reply.specs.declared.PortInfo.{PortInfo}
use Rattle.session.specs.declared.Core.{Core}
use Rattle.session.specs.declared.Plan.{Plan}
use Rattle.session.specs.declared.Top.{Top}
use Rattle.session.specs.Core.{Behind, behind, full, plan_in}
use Rattle.opening_values.specs.Heads.{capped}
use Rattle.opening_plan.specs.Plan.{cap_replied, port_replied}

abbrev pub after_cap : Outcome DevCap → Behind → Behind
after_cap (value c) b = capped c b
after_cap (refused i vs) b = b

-- port n is the first one, or the second
abbrev pub ported : (n : ℕ) → PortInfo → Behind → Behind
ported n i b =
    behind b.reset b.find b.cap (pick (eqb n 1) i b.port1) (pick (eqb n 1) b.port2 i) b.slots

abbrev pub after_port : (n : ℕ) → Outcome PortInfo → Behind → Behind
after_port n (value i) b = ported n i b
after_port n (refused k vs) b = b

-- A PLAN THAT FOLLOWS A REPLY: it finds noted what the reply left
abbrev pub CapPlan : Plan → Core → Outcome DevCap → Top → Behind → Type 0
CapPlan r s y top a = (b : Behind) → a ≡ after_cap y b → plan_in r a ≡ cap_replied (full s b) y top

abbrev pub PortPlan : Plan → Core → ℕ → Outcome PortInfo → Top → Behind → Type 0
PortPlan r s n y top a = (b : Behind) → a ≡ after_port n y b → plan_in r a ≡ port_replied (full s b) n y top
