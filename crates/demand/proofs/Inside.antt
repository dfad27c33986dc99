-- What every step of the world keeps, if the question is allowed: what the card may use is the session's own; a buffer that the card uses stays handed over and mapped; and what is
-- given back is what the card may not use.
use Prim.Native.Nat.{ℕ, zero, suc}
use native.Mathlib.Omega.{arith}
use mathlib.Core.Bool.{Bool, true, false}
use mathlib.Core.List.{List, [], ◌∷◌, ◌++◌}
use mathlib.Core.Logic.{◌⊎◌, inl, inr, ⊎_elim}
use mathlib.Core.Option.{Option, some, none, none-ne-some, some-injective}
use mathlib.Core.Path.{◌≡◌, refl, sym, ◌∙◌, ap, subst}
use lib.Dec.{eqb}
use lib.ListN.{length}
use borrow.Author.Tests.{eqb-true, eqb-false}
use Rattle.fields.specs.Outcome.{pick}
use Rattle.dma.specs.declared.Buffer.{Buffer}
use Rattle.pci.specs.Script.{Ask, Reply, Spot, good, failed, config_read16, config_read32, config_write16, config_write32, read, write, attributes, resource, stall, allocate, mapped, unmap, free, fence}
use Rattle.card.specs.Card.{Card, Command, Settles, same, ends, written, begin, after_reset, store, take, go_of, Hold, Deal, out, back, standing, Host, Meets, On, Ours, map_at, map_in, unmap_all, unmap_in, hand_out, hand_back, HostStep, World, WorldStep, MayUse, Carries, Clear, Posts, Allowed}
use Rattle.card.specs.Owns.{spot_of, hold_of}
use Rattle.card.proofs.Owns.{put_same, put_other, out_other, back_other}
use Rattle.demand.specs.Demand.{GivesBack, Inside}
use Rattle.demand.proofs.Settle.{settled_uses}

-- A WRITE
module _ (c : Card) (b o v x : ℕ) where
  abbrev Goal : Type 0
  Goal = MayUse c x ⊎ ((b ≡ 0) × (o ≡ 0x80698) × Carries (written c v) x)

  on_go : (t : Bool) → MayUse (pick t (begin c (written c v)) c) x → b ≡ 0 → o ≡ 0x80698 → Goal
  on_go true (inl y) e f = inl (inl y)
  on_go true (inr (p, q, y)) e f = inr (e, f, subst (λ (k : Command). Carries k x) (sym (some-injective (written c v) p q)) y)
  on_go false y e f = inl y

  on_hcr : (t : Bool) → eqb o 0x80698 ≡ t → MayUse (pick t (pick (go_of v) (begin c (written c v)) c) (store c o v)) x → b ≡ 0 → Goal
  on_hcr true e y f = on_go (go_of v) y f (eqb-true o 0x80698 e)
  on_hcr false e y f = inl y

  on_one : (t : Bool) → MayUse (pick t (after_reset c) c) x → Goal
  on_one true (inl y) = absurd (⊎_elim (λ i. i.1) (λ u. ⊎_elim (λ f. f) (λ z. ⊎_elim (λ a. a) (λ l. l) z) u) y)
  on_one true (inr (p, q, y)) = absurd (none-ne-some p q)
  on_one false y = inl y

  on_reset : (t : Bool) → MayUse (pick t (pick (eqb v 1) (after_reset c) c) (pick (eqb o 0x80698) (pick (go_of v) (begin c (written c v)) c) (store c o v))) x → b ≡ 0 → Goal
  on_reset true y f = on_one (eqb v 1) y
  on_reset false y f = on_hcr (eqb o 0x80698) refl y f

  on_bar : (t : Bool) → eqb b 0 ≡ t
      → MayUse (pick t (pick (eqb o 0xf0010) (pick (eqb v 1) (after_reset c) c) (pick (eqb o 0x80698) (pick (go_of v) (begin c (written c v)) c) (store c o v))) c) x → Goal
  on_bar true e y = on_reset (eqb o 0xf0010) y (eqb-true b 0 e)
  on_bar false e y = inl y

  take_uses : MayUse (take c b o v) x → Goal
  take_uses y = on_bar (eqb b 0) refl y

written_settled : (c m : Card) (v : ℕ) → Settles c m → written m v ≡ written c v
written_settled c m v same = refl
written_settled c m v (ends p s e) = refl

-- a write that is taken, between two settlings
taken_uses : (c m d : Card) (b o v x : ℕ) → Settles c m → Settles (take m b o v) d → MayUse d x → MayUse c x ⊎ ((b ≡ 0) × (o ≡ 0x80698) × Carries (written c v) x)
taken_uses c m d b o v x s t y =
    ⊎_elim (λ z. inl (settled_uses c m s x z)) (λ z. inr (z.0, z.1, subst (λ (k : Command). Carries k x) (written_settled c m v s) z.2))
    (take_uses m b o v x (settled_uses (take m b o v) d t x y))

-- HOW THE HOST CHANGES: under one handle alone
record Beside (k l : Host) (h : ℕ) : Type 0 where
  pub hand : (a : ℕ) → (a ≡ h → ⊥) → l.hand a ≡ k.hand a
  pub log : (a : ℕ) → (a ≡ h → ⊥) → standing a l.log ≡ standing a k.log

hands_out : (k l : Host) (h n : ℕ) → l ≡ hand_out k h n → Beside k l h
hands_out k l h n e = record {
  hand = λ a z. ap (λ (j : Host). j.hand a) e ∙ put_other k.hand h _ a z;
  log = λ a z. ap (λ (j : Host). standing a j.log) e ∙ out_other a h n k.log z;
}

maps_in : (k l : Host) (h : ℕ) (s : Spot) → l ≡ map_in k h s → Beside k l h
maps_in k l h s e = record { hand = λ a z. ap (λ (j : Host). j.hand a) e ∙ put_other k.hand h _ a z; log = λ a z. ap (λ (j : Host). standing a j.log) e }

unmaps_in : (k l : Host) (h : ℕ) → l ≡ unmap_in k h → Beside k l h
unmaps_in k l h e = record { hand = λ a z. ap (λ (j : Host). j.hand a) e ∙ put_other k.hand h _ a z; log = λ a z. ap (λ (j : Host). standing a j.log) e }

hands_back : (k l : Host) (h n : ℕ) → l ≡ hand_back k h n → Beside k l h
hands_back k l h n e = record {
  hand = λ a z. ap (λ (j : Host). j.hand a) e ∙ put_other k.hand h _ a z;
  log = λ a z. ap (λ (j : Host). standing a j.log) e ∙ back_other a h n k.log z;
}

ours_keep : (k l : Host) (h d : ℕ) → Beside k l h → ((x : Hold) → k.hand h ≡ some x → standing h k.log ≡ some x.pages → On x.mapped d → Ours l d) → Ours k d → Ours l d
ours_keep k l h d f g (a, x, q, s, n) = at (eqb a h) refl
  where
    at : (t : Bool) → eqb a h ≡ t → Ours l d
    at true p = let e = sym (eqb-true a h p) in g x (ap k.hand e ∙ q) (ap (λ (z : ℕ). standing z k.log) e ∙ s) n
    at false p = let e = eqb-false a h p in (a, x, f.hand a e ∙ q, f.log a e ∙ s, n)

on_left : (ss us : List Spot) (d : ℕ) → On ss d → On (ss ++ us) d
on_left (s ∷ ss) us d (inl z) = inl z
on_left (s ∷ ss) us d (inr z) = inr (on_left ss us d z)
on_left [] us d x' = elim x' [ ]

-- what is behind a handle that is clear the card does not use
clear_not : (w : World) (h : ℕ) (x : Hold) (d : ℕ) → Clear w h → w.host.hand h ≡ some x → On x.mapped d → MayUse w.card d → ⊥
clear_not w h x d c q n u =
    let e : x ≡ c.hold = some-injective x c.hold (sym q ∙ c.handed) in
    c.unused d (on_left c.hold.mapped c.hold.unmapped d (subst (λ (z : Hold). On z.mapped d) e n)) u

-- INSIDE
still : (w v : World) → v.host ≡ w.host → ((d : ℕ) → MayUse v.card d → MayUse w.card d) → Inside w → Inside v
still w v e f (inl z) = inl (ap (λ (k : Host). k.log) e ∙ z)
still w v e f (inr g) = inr (λ d u. subst (λ (k : Host). Ours k d) (sym e) (g d (f d u)))

pub settled_inside : (w v : World) → v.host ≡ w.host → Settles w.card v.card → Inside w → Inside v
settled_inside w v e s x = still w v e (settled_uses w.card v.card s) x

-- a host that goes on under a handle
onward : (w v : World) (h : ℕ) → v.host.log ≡ w.host.log → Settles w.card v.card → Beside w.host v.host h
    → ((x : Hold) (d : ℕ) → w.host.hand h ≡ some x → standing h w.host.log ≡ some x.pages → On x.mapped d → MayUse w.card d → Ours v.host d) → Inside w → Inside v
onward w v h e s f g (inl z) = inl (e ∙ z)
onward w v h e s f g (inr y) = inr (λ d u.
    let m = settled_uses w.card v.card s d u in
    ours_keep w.host v.host h d f (λ x q p n. g x d q p n m) (y d m))

-- a write that was taken
taken : (w v : World) (b o y : ℕ) → (b ≡ 0 → o ≡ 0x80698 → Posts w y) → v.host ≡ w.host → (m : Card) × Settles w.card m × Settles (take m b o y) v.card → Inside w → Inside v
taken w v b o y p e s (inl z) = inl (ap (λ (k : Host). k.log) e ∙ z)
taken w v b o y p e s (inr g) = inr (λ d u.
    subst (λ (k : Host). Ours k d) (sym e) (⊎_elim (λ z. g d z) (λ z. (p z.0 z.1).carried d z.2) (taken_uses w.card s.0 v.card b o y d s.1 s.2 u)))

pub step_inside : (q : Ask) (r : Reply q) (i : List ℕ) (w v : World) → Allowed i w q → WorldStep w q r v → Inside w → Inside v
step_inside (config_read16 o) r i w v a st x = settled_inside w v st.1 st.0 x
step_inside (config_read32 o) r i w v a st x = settled_inside w v st.1 st.0 x
step_inside (config_write16 o y) r i w v a st x = settled_inside w v st.1 st.0 x
step_inside (config_write32 o y) r i w v a st x = settled_inside w v st.1 st.0 x
step_inside (read b o) (good y) i w v a st x = settled_inside w v st.1 st.0.0 x
step_inside (read b o) failed i w v a st x = settled_inside w v st.1 st.0 x
step_inside (write b o y) (good z) i w v a st x = taken w v b o y a.1 st.1 st.0 x
step_inside (write b o y) failed i w v a st x = ⊎_elim (λ s. settled_inside w v st.1 s x) (λ s. taken w v b o y a.1 st.1 s x) st.0
step_inside (attributes o y) r i w v a st x = settled_inside w v st.1 st.0 x
step_inside (resource b) r i w v a st x = settled_inside w v st.1 st.0 x
step_inside (stall t) r i w v a st x = settled_inside w v st.1 st.0 x
step_inside (allocate n) (good h) i w v a st x =
    inr (λ d u.
    let m = settled_uses w.card v.card st.0 d u in
    ⊎_elim (λ z. absurd (a z d m)) (λ g. ours_keep w.host v.host h d (hands_out w.host v.host h n st.1.1) (λ y q p k. absurd (none-ne-some y (sym st.1.0 ∙ q))) (g d m)) x)
step_inside (allocate n) failed i w v a st x = settled_inside w v st.1 st.0 x
step_inside (mapped h n) (good s) i w v a st x =
    onward w v h (ap (λ (k : Host). k.log) st.1.1) st.0 (maps_in w.host v.host h s st.1.1)
    (λ y d q p m u. (
      h,
      record { pages = y.pages; mapped = s ∷ y.mapped; unmapped = y.unmapped },
      ap (λ (k : Host). k.hand h) st.1.1 ∙ put_same w.host.hand h _ h refl ∙ ap (map_at s) q,
      ap (λ (k : Host). standing h k.log) st.1.1 ∙ p,
      inr m,
    )) x
step_inside (mapped h n) failed i w v a st x = settled_inside w v st.1 st.0 x
step_inside (unmap h) r i w v a st x =
    onward w v h (ap (λ (k : Host). k.log) st.1) st.0 (unmaps_in w.host v.host h st.1) (λ y d q p m u. absurd (clear_not w h y d a q m u)) x
step_inside (free h n) r i w v a st x =
    ⊎_elim (λ z. absurd (none-ne-some a.0.hold.pages (ap (standing h) (sym z) ∙ a.0.own)))
    (λ g. inr (λ d u.
    let m = settled_uses w.card v.card st.0 d u in
    ours_keep w.host v.host h d (hands_back w.host v.host h n st.1) (λ y q p k. absurd (clear_not w h y d a.0 q k m)) (g d m))) x
step_inside (fence j) r i w v a st x = still w v st.1 (λ d u. settled_uses w.card st.0.0 st.0.1 d (subst (λ (k : Card). MayUse k d) st.0.2 u)) x

-- A BUFFER THAT THE CARD USES stays handed over, and mapped where it is
pub record HeldBy (b : Buffer) (k : Host) : Type 0 where
  pub hand : k.hand b.handle ≡ some (hold_of b)
  pub deal : standing b.handle k.log ≡ some b.pages

same_held : (b : Buffer) (k l : Host) → l ≡ k → HeldBy b k → HeldBy b l
same_held b k l e x = subst (HeldBy b) (sym e) x

held_beside : (b : Buffer) (k l : Host) (h : ℕ) → Beside k l h → (b.handle ≡ h → ⊥) → HeldBy b k → HeldBy b l
held_beside b k l h f n x = record { hand = f.hand b.handle n ∙ x.hand; deal = f.log b.handle n ∙ x.deal }

module _ (b : Buffer) (w v : World) (d : ℕ) (m : Meets (spot_of b) d) (u : MayUse w.card d) (x : HeldBy b w.host) where
  other : (h : ℕ) → Clear w h → b.handle ≡ h → ⊥
  other h c e = clear_not w h (hold_of b) d c (ap w.host.hand (sym e) ∙ x.hand) (inl m) u

  pub held_step : (q : Ask) (r : Reply q) (i : List ℕ) → Allowed i w q → HostStep w.host q r v.host → HeldBy b v.host
  held_step (config_read16 o) r i a st = same_held b w.host v.host st x
  held_step (config_read32 o) r i a st = same_held b w.host v.host st x
  held_step (config_write16 o y) r i a st = same_held b w.host v.host st x
  held_step (config_write32 o y) r i a st = same_held b w.host v.host st x
  held_step (read c o) r i a st = same_held b w.host v.host st x
  held_step (write c o y) r i a st = same_held b w.host v.host st x
  held_step (attributes o y) r i a st = same_held b w.host v.host st x
  held_step (resource c) r i a st = same_held b w.host v.host st x
  held_step (stall t) r i a st = same_held b w.host v.host st x
  held_step (allocate n) (good h) i a st =
      held_beside b w.host v.host h (hands_out w.host v.host h n st.1) (λ e. none-ne-some (hold_of b) (sym st.0 ∙ ap w.host.hand (sym e) ∙ x.hand)) x
  held_step (allocate n) failed i a st = same_held b w.host v.host st x
  held_step (mapped h n) (good s) i a st =
      held_beside b w.host v.host h (maps_in w.host v.host h s st.1)
      (λ e. some-spot (ap (λ (y : Hold). y.mapped) (some-injective (hold_of b) a.0 (sym (ap w.host.hand (sym e) ∙ x.hand) ∙ a.1)) ∙ a.3)) x
    where
      IsSome : List Spot → Type 0
      IsSome [] = ⊥
      IsSome (s ∷ ss) = Unit {0}

      some-spot : spot_of b ∷ [] ≡ [] → ⊥
      some-spot e = subst IsSome e tt
  held_step (mapped h n) failed i a st = same_held b w.host v.host st x
  held_step (unmap h) r i a st = held_beside b w.host v.host h (unmaps_in w.host v.host h st) (other h a) x
  held_step (free h n) r i a st = held_beside b w.host v.host h (hands_back w.host v.host h n st) (other h a.0) x
  held_step (fence j) r i a st = same_held b w.host v.host st x

-- WHAT IS GIVEN BACK
HeadIs : (Deal → Type 0) → List Deal → Type 0
HeadIs P [] = ⊥
HeadIs P (x ∷ l) = P x

more_than : (x : Deal) (l : List Deal) → l ≡ x ∷ l → ⊥
more_than x l e = let z : length l ≡ suc (length l) = ap length e in let y : ⊥ = omega (arith, z) in y

pub same_gives : (w v : World) → v.host ≡ w.host → GivesBack w v
same_gives w v e h n z = absurd (more_than (back h n) w.host.log (ap (λ (k : Host). k.log) (sym e) ∙ z))

log_gives : (w v : World) → v.host.log ≡ w.host.log → GivesBack w v
log_gives w v e h n z = absurd (more_than (back h n) w.host.log (sym e ∙ z))

pub step_gives : (q : Ask) (r : Reply q) (i : List ℕ) (w v : World) → Allowed i w q → HostStep w.host q r v.host → GivesBack w v
unfolding HeadIs
step_gives (config_read16 o) r i w v a st = same_gives w v st
step_gives (config_read32 o) r i w v a st = same_gives w v st
step_gives (config_write16 o y) r i w v a st = same_gives w v st
step_gives (config_write32 o y) r i w v a st = same_gives w v st
step_gives (read c o) r i w v a st = same_gives w v st
step_gives (write c o y) r i w v a st = same_gives w v st
step_gives (attributes o y) r i w v a st = same_gives w v st
step_gives (resource c) r i w v a st = same_gives w v st
step_gives (stall t) r i w v a st = same_gives w v st
step_gives (allocate n) (good x) i w v a st = λ h m z. absurd (subst (HeadIs IsOut) (sym (ap (λ (k : Host). k.log) st.1) ∙ z) tt)
  where
    IsOut : Deal → Type 0
    IsOut (out y k) = Unit {0}
    IsOut (back y k) = ⊥
step_gives (allocate n) failed i w v a st = same_gives w v st
step_gives (mapped h n) (good s) i w v a st = log_gives w v (ap (λ (k : Host). k.log) st.1)
step_gives (mapped h n) failed i w v a st = same_gives w v st
step_gives (unmap h) r i w v a st = log_gives w v (ap (λ (k : Host). k.log) st)
step_gives (free x n) r i w v a st = λ h m z. subst (HeadIs (λ y. IsThis y)) (sym (ap (λ (k : Host). k.log) st) ∙ z) a
  where
    IsThis : Deal → Type 0
    IsThis (out y k) = ⊥
    IsThis (back y k) = (c : Clear w y) × (c.hold.pages ≡ k)
step_gives (fence j) r i w v a st = same_gives w v st
