-- What follows a reply that was noted is what follows it on the session as it stood before.
use Prim.Native.Nat.{ℕ}
use mathlib.Core.Bool.{Bool, true, false}
use mathlib.Core.List.{List}
use mathlib.Core.Path.{◌≡◌, refl, ap, sym, ◌∙◌}
use lib.Dec.{eqb}
use Rattle.fields.specs.Outcome.{Outcome, value, refused, pick}
use Rattle.reply.specs.declared.DevCap.{DevCap}
use Rattle.reply.specs.declared.PortInfo.{PortInfo}
use Rattle.session.specs.declared.Core.{Core}
use Rattle.session.specs.declared.Session.{Session}
use Rattle.session.specs.declared.Top.{Top}
use Rattle.session.specs.Session.{informs}
use Rattle.session.specs.Core.{Behind, behind, full}
use Rattle.opening_values.specs.Heads.{capped, CapIs}
use Rattle.opening_plan.specs.Values.{refusal_of, info, with_port}
use Rattle.opening_plan.specs.Plan.{fail_plan, port_plan, cap_replied, port_replied}
use Rattle.ports.specs.Replied.{after_cap, after_port, ported}

module _ (s : Core) (a b : Behind) (top : Top) where
  pub cap_good : (t : Core) (c : DevCap) (y : Outcome DevCap) → y ≡ value c → a ≡ after_cap y b → CapIs t c s
      → port_plan (full t a) 0 top ≡ cap_replied (full s b) y top
  unfolding cap_replied
  cap_good t c y e h k =
      ap (λ (x : Behind). port_plan (full t x) 0 top) (h ∙ ap (λ (z : Outcome DevCap). after_cap z b) e)
      ∙ ap (λ (x : Session). port_plan x 0 top) (k b)
      ∙ sym (ap (λ (z : Outcome DevCap). cap_replied (full s b) z top) e)

  pub cap_refused : (i : ℕ) (vs : List ℕ) (y : Outcome DevCap) → y ≡ refused i vs → a ≡ after_cap y b
      → fail_plan (full s a) (refusal_of i vs) top ≡ cap_replied (full s b) y top
  unfolding cap_replied
  cap_refused i vs y e h =
      ap (λ (x : Behind). fail_plan (full s x) (refusal_of i vs) top) (h ∙ ap (λ (z : Outcome DevCap). after_cap z b) e)
      ∙ sym (ap (λ (z : Outcome DevCap). cap_replied (full s b) z top) e)

  port_noted : (i : PortInfo) (z : Bool)
      → full s (behind b.reset b.find b.cap (pick z i b.port1) (pick z b.port2 i) b.slots)
      ≡ informs (full s b) (pick z (info s.uar b.cap s.func i b.port2 s.rev3) (info s.uar b.cap s.func b.port1 i s.rev3))
  port_noted i true = refl
  port_noted i false = refl

  pub port_good : (n : ℕ) (i : PortInfo) (y : Outcome PortInfo) → y ≡ value i → a ≡ after_port n y b
      → port_plan (full s a) n top ≡ port_replied (full s b) n y top
  unfolding port_replied
  port_good n i y e h =
      ap (λ (x : Behind). port_plan (full s x) n top) (h ∙ ap (λ (z : Outcome PortInfo). after_port n z b) e)
      ∙ ap (λ (x : Session). port_plan x n top) (port_noted i (eqb n 1))
      ∙ sym (ap (λ (z : Outcome PortInfo). port_replied (full s b) n z top) e)

  pub port_refused : (n i : ℕ) (vs : List ℕ) (y : Outcome PortInfo) → y ≡ refused i vs → a ≡ after_port n y b
      → fail_plan (full s a) (refusal_of i vs) top ≡ port_replied (full s b) n y top
  unfolding port_replied
  port_refused n i vs y e h =
      ap (λ (x : Behind). fail_plan (full s x) (refusal_of i vs) top) (h ∙ ap (λ (z : Outcome PortInfo). after_port n z b) e)
      ∙ sym (ap (λ (z : Outcome PortInfo). port_replied (full s b) n z top) e)
