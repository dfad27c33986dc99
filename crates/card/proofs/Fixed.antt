-- The mailboxes, once both are mapped, stay where they are, whatever is asked of the host.
use mathlib.Core.List.{List}
use Prim.Native.Nat.{ℕ}
use mathlib.Core.Option.{Option, some}
use mathlib.Core.Path.{◌≡◌, ◌∙◌, ap}
use Rattle.pci.specs.Script.{Script, ret, ask, Ask, Reply, Spot, good, failed, config_read16, config_read32, config_write16, config_write32, read, write, attributes, resource, stall, allocate, mapped, unmap, free, fence}
use Rattle.card.specs.Card.{Host, HostStep, World, or_else, second}
use Rattle.card.specs.Safe.{Safe}

module _ (a b : Spot) where
  abbrev pub Fixed : Host → Type 0
  Fixed k = (k.inbox ≡ some a) × (k.outbox ≡ some b)

  same_fixed : (k l : Host) → l ≡ k → Fixed k → Fixed l
  same_fixed k l e x = (ap (λ (z : Host). z.inbox) e ∙ x.0, ap (λ (z : Host). z.outbox) e ∙ x.1)

  pub host_fixed : (q : Ask) (r : Reply q) (k l : Host) → HostStep k q r l → Fixed k → Fixed l
  host_fixed (config_read16 o) r k l st x = same_fixed k l st x
  host_fixed (config_read32 o) r k l st x = same_fixed k l st x
  host_fixed (config_write16 o v) r k l st x = same_fixed k l st x
  host_fixed (config_write32 o v) r k l st x = same_fixed k l st x
  host_fixed (read c o) r k l st x = same_fixed k l st x
  host_fixed (write c o v) r k l st x = same_fixed k l st x
  host_fixed (attributes o v) r k l st x = same_fixed k l st x
  host_fixed (resource c) r k l st x = same_fixed k l st x
  host_fixed (stall t) r k l st x = same_fixed k l st x
  host_fixed (allocate n) (good h) k l st x = (ap (λ (z : Host). z.inbox) st.1 ∙ x.0, ap (λ (z : Host). z.outbox) st.1 ∙ x.1)
  host_fixed (allocate n) failed k l st x = same_fixed k l st x
  host_fixed (mapped h n) (good s) k l st x = (
    ap (λ (z : Host). z.inbox) st.1 ∙ ap (λ (z : Option Spot). or_else z s) x.0,
    ap (λ (z : Host). z.outbox) st.1 ∙ ap (λ (z : Option Spot). second z k.outbox s) x.0 ∙ ap (λ (z : Option Spot). or_else z s) x.1,
  )
  host_fixed (mapped h n) failed k l st x = same_fixed k l st x
  host_fixed (unmap h) r k l st x = (ap (λ (z : Host). z.inbox) st ∙ x.0, ap (λ (z : Host). z.outbox) st ∙ x.1)
  host_fixed (free h n) r k l st x = (ap (λ (z : Host). z.inbox) st ∙ x.0, ap (λ (z : Host). z.outbox) st ∙ x.1)
  host_fixed (fence i) r k l st x = same_fixed k l st x

pub safe_fixed : {R : Type 0} (i : List ℕ) (t : Script R) (w : World) (M : World → R → Type 1) (a b : Spot) → w.host.inbox ≡ some a → w.host.outbox ≡ some b → Safe i w t M
    → Safe i w t (λ v x. M v x × ((v.host.inbox ≡ some a) × (v.host.outbox ≡ some b)))
safe_fixed i (ret r) w M a b p q x = (x, (p, q))
safe_fixed i (ask y k) w M a b p q x = (
  x.0,
  λ r v st. let z = host_fixed a b y r w.host v.host st.1 (p, q) in safe_fixed i (k r) v M a b z.0 z.1 (x.1 r v st),
)
