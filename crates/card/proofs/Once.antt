-- Once for each handing over: along all that is allowed the deals are in order, and what stands by them is in hand.
use Prim.Native.Nat.{ℕ}
use mathlib.Core.Bool.{Bool, true, false}
use mathlib.Core.List.{List, []}
use mathlib.Core.Option.{Option, some, none, none-ne-some}
use mathlib.Core.Path.{◌≡◌, refl, sym, ◌∙◌, ap, subst}
use lib.Dec.{eqb}
use borrow.Author.Tests.{eqb-true}
use Rattle.fields.specs.Outcome.{pick}
use Rattle.pci.specs.Script.{Ask, Reply, good, failed, config_read16, config_read32, config_write16, config_write32, read, write, attributes, resource, stall, allocate, mapped, unmap, free, fence}
use Rattle.card.specs.Card.{put, Hold, standing, Host, map_at, unmap_all, unmap_in, map_in, hand_out, hand_back, World, WorldStep, Allowed}
use Rattle.card.specs.Owns.{InOrder}

pub record Tied (k : Host) : Type 0 where
  pub order : InOrder k.log
  pub held : (h n : ℕ) → standing h k.log ≡ some n → (x : Hold) × (k.hand h ≡ some x)

-- nothing stands under a handle that is not handed out
none_stands : (k : Host) (h : ℕ) → Tied k → k.hand h ≡ none → (o : Option ℕ) → standing h k.log ≡ o → standing h k.log ≡ none
none_stands k h x e none q = q
none_stands k h x e (some n) q = let y = x.held h n q in absurd (none-ne-some y.0 (sym e ∙ y.1))

handed_out : (k : Host) (x n : ℕ) → k.hand x ≡ none → Tied k → Tied (hand_out k x n)
handed_out k x n e t = record { order = (none_stands k x t e (standing x k.log) refl, t.order); held = λ h m s. at h m (eqb h x) s }
  where
    at : (h m : ℕ) (b : Bool) → pick b (some n) (standing h k.log) ≡ some m → (y : Hold) × (pick b (some (record { pages = n; mapped = []; unmapped = [] })) (k.hand h) ≡ some y)
    at h m true s = (record { pages = n; mapped = []; unmapped = [] }, refl)
    at h m false s = t.held h m s

handed_back : (k : Host) (x n : ℕ) → standing x k.log ≡ some n → Tied k → Tied (hand_back k x n)
handed_back k x n e t = record { order = (e, t.order); held = λ h m s. at h m (eqb h x) s }
  where
    at : (h m : ℕ) (b : Bool) → pick b none (standing h k.log) ≡ some m → (y : Hold) × (pick b none (k.hand h) ≡ some y)
    at h m true s = absurd (none-ne-some m s)
    at h m false s = t.held h m s

-- what stands behind a handle is changed, and not whether something does
changed : (k j : Host) (x : ℕ) (f : Option Hold → Option Hold) → ((y : Hold) → (z : Hold) × (f (some y) ≡ some z)) → j.hand ≡ put k.hand x (f (k.hand x)) → j.log ≡ k.log → Tied k → Tied j
changed k j x f same e l t = record {
  order = subst InOrder (sym l) t.order;
  held = λ h m s.
      let y = t.held h m (ap (standing h) (sym l) ∙ s) in
      let z = at h y.0 y.1 (eqb h x) refl in
      (z.0, ap (λ (g : ℕ → Option Hold). g h) e ∙ z.1);
}
  where
    at : (h : ℕ) (y : Hold) → k.hand h ≡ some y → (b : Bool) → eqb h x ≡ b → (z : Hold) × (pick b (f (k.hand x)) (k.hand h) ≡ some z)
    at h y d true q = let z = same y in (z.0, ap f (ap k.hand (sym (eqb-true h x q)) ∙ d) ∙ z.1)
    at h y d false q = (y, d)

still : (w v : World) → v.host ≡ w.host → Tied w.host → Tied v.host
still w v e b = subst Tied (sym e) b

pub step_tied : (q : Ask) (r : Reply q) (i : List ℕ) (w v : World) → Allowed i w q → WorldStep w q r v → Tied w.host → Tied v.host
step_tied (config_read16 o) r i w v a st b = still w v st.1 b
step_tied (config_read32 o) r i w v a st b = still w v st.1 b
step_tied (config_write16 o x) r i w v a st b = still w v st.1 b
step_tied (config_write32 o x) r i w v a st b = still w v st.1 b
step_tied (read c o) r i w v a st b = still w v st.1 b
step_tied (write c o x) r i w v a st b = still w v st.1 b
step_tied (attributes o x) r i w v a st b = still w v st.1 b
step_tied (resource c) r i w v a st b = still w v st.1 b
step_tied (stall t) r i w v a st b = still w v st.1 b
step_tied (allocate n) (good h) i w v a st b = subst Tied (sym st.1.1) (handed_out w.host h n st.1.0 b)
step_tied (allocate n) failed i w v a st b = still w v st.1 b
step_tied (mapped h n) (good s) i w v a st b = subst Tied (sym st.1.1) (changed w.host (map_in w.host h s) h (map_at s) (λ y. (_, refl)) refl refl b)
step_tied (mapped h n) failed i w v a st b = still w v st.1 b
step_tied (unmap h) r i w v a st b = subst Tied (sym st.1) (changed w.host (unmap_in w.host h) h unmap_all (λ y. (_, refl)) refl refl b)
step_tied (free h n) r i w v a st b = subst Tied (sym st.1) (handed_back w.host h n (a.0.own ∙ ap some a.1) b)
step_tied (fence m) r i w v a st b = still w v st.1 b
