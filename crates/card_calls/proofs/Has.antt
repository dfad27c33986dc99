-- What is handed over and not given back: a list of handles and pages that a question and its reply change, and that stays exactly what the host has handed out.
use Prim.Native.Nat.{ℕ}
use mathlib.Core.Bool.{Bool, true, false}
use mathlib.Core.List.{List, [], ◌∷◌, ◌++◌}
use mathlib.Core.Logic.{◌⊎◌, inl, inr}
use mathlib.Core.Option.{Option, some, none, none-ne-some, some-injective}
use mathlib.Core.Path.{◌≡◌, refl, sym, ◌∙◌, ap, subst}
use lib.Dec.{eqb}
use borrow.Author.Tests.{eqb-true, eqb-false, eq-eqb, ne_eqb}
use Rattle.fields.specs.Outcome.{pick}
use Rattle.pci.specs.Script.{Ask, Reply, Spot, good, failed, config_read16, config_read32, config_write16, config_write32, read, write, attributes, resource, stall, allocate, mapped, unmap, free, fence}
use Rattle.card.specs.Card.{put, Hold, Host, standing, map_at, unmap_all, unmap_in, map_in, hand_out, hand_back, World, HostStep}
use Rattle.card.specs.Owns.{Each, Pairwise}
use Rattle.card.proofs.Owns.{put_same, put_other, each_map, each_both, out_same, out_other, back_same, back_other}
use Rattle.card_calls.specs.Has.{Piece, Handed, Away, Differ, Has}

-- the piece with this handle off
abbrev pub without : ℕ → List Piece → List Piece
without h [] = []
without h (p ∷ ps) = pick (eqb h p.handle) ps (p ∷ without h ps)

abbrev pub pieces_by : (q : Ask) → Reply q → List Piece → List Piece
pieces_by (config_read16 o) r ps = ps
pieces_by (config_read32 o) r ps = ps
pieces_by (config_write16 o v) r ps = ps
pieces_by (config_write32 o v) r ps = ps
pieces_by (read b o) r ps = ps
pieces_by (write b o v) r ps = ps
pieces_by (attributes o v) r ps = ps
pieces_by (resource b) r ps = ps
pieces_by (stall t) r ps = ps
pieces_by (allocate n) (good h) ps = record { handle = h; pages = n } ∷ ps
pieces_by (allocate n) failed ps = ps
pieces_by (mapped h n) r ps = ps
pieces_by (unmap h) r ps = ps
pieces_by (free h n) r ps = without h ps
pieces_by (fence i) r ps = ps

-- a question about pages is about pages that the books name
abbrev pub Named : ℕ → List Piece → Type 0
Named h [] = ⊥
Named h (p ∷ ps) = (h ≡ p.handle) ⊎ Named h ps

abbrev pub Mentions : Ask → List Piece → Type 0
Mentions (config_read16 o) ps = Unit {0}
Mentions (config_read32 o) ps = Unit {0}
Mentions (config_write16 o v) ps = Unit {0}
Mentions (config_write32 o v) ps = Unit {0}
Mentions (read b o) ps = Unit {0}
Mentions (write b o v) ps = Unit {0}
Mentions (attributes o v) ps = Unit {0}
Mentions (resource b) ps = Unit {0}
Mentions (stall t) ps = Unit {0}
Mentions (allocate n) ps = Unit {0}
Mentions (mapped h n) ps = Named h ps
Mentions (unmap h) ps = Named h ps
Mentions (free h n) ps = Named h ps
Mentions (fence i) ps = Unit {0}

not_away : (h : ℕ) (ps : List Piece) → Named h ps → Away h ps → ⊥
not_away h (p ∷ ps) (inl e) a = a.0 e
not_away h (p ∷ ps) (inr e) a = not_away h ps e a.1
not_away h [] x'' a = elim x'' [ ]

module _ (base : ℕ → Option Hold) where
  still : (ps : List Piece) (k l : Host) → l ≡ k → Has base ps k → Has base ps l
  still ps k l e x = subst (Has base ps) (sym e) x

  -- what stands behind a named handle is changed, and not its pages
  changed : (ps : List Piece) (k l : Host) (h : ℕ) (f : Option Hold → Option Hold) → ((x : Hold) → (y : Hold) × (f (some x) ≡ some y) × (y.pages ≡ x.pages)) → Named h ps
      → l.hand ≡ put k.hand h (f (k.hand h)) → l.log ≡ k.log → Has base ps k → Has base ps l
  changed ps k l h f keeps n e g x = record {
    own = each_map (Handed k) (Handed l) (λ p z. at p z (eqb p.handle h) refl) ps x.own;
    new = x.new;
    differ = x.differ;
    others = λ a away. far a away (eqb a h) refl;
  }
    where
      hand_at : (a : ℕ) → l.hand a ≡ put k.hand h (f (k.hand h)) a
      hand_at a = ap (λ (g : ℕ → Option Hold). g a) e

      at : (p : Piece) → Handed k p → (t : Bool) → eqb p.handle h ≡ t → Handed l p
      at p z true q =
          let s = eqb-true p.handle h q in
          let y = keeps z.0 in
          (y.0, hand_at p.handle ∙ put_same k.hand h (f (k.hand h)) p.handle s ∙ ap f (ap k.hand (sym s) ∙ z.1) ∙ y.1, y.2 ∙ z.2, ap (standing p.handle) g ∙ z.3)
      at p z false q = (z.0, hand_at p.handle ∙ put_other k.hand h (f (k.hand h)) p.handle (eqb-false p.handle h q) ∙ z.1, z.2, ap (standing p.handle) g ∙ z.3)

      far : (a : ℕ) → Away a ps → (t : Bool) → eqb a h ≡ t → (l.hand a ≡ base a) × (standing a l.log ≡ none)
      far a away true q = absurd (not_away h ps n (subst (λ (m : ℕ). Away m ps) (eqb-true a h q) away))
      far a away false q = (hand_at a ∙ put_other k.hand h (f (k.hand h)) a (eqb-false a h q) ∙ (x.others a away).0, ap (standing a) g ∙ (x.others a away).1)

  -- handed over
  handed : (ps : List Piece) (k : Host) (h n : ℕ) → k.hand h ≡ none → Has base ps k → Has base (record { handle = h; pages = n } ∷ ps) (hand_out k h n)
  handed ps k h n e x = record {
    own = (
      (record { pages = n; mapped = []; unmapped = [] }, put_same k.hand h _ h refl, refl, out_same h n k.log),
      each_both (λ p. h ≡ p.handle → ⊥) (Handed k) (Handed (hand_out k h n)) (λ p d z. (z.0, put_other k.hand h _ p.handle (λ t. d (sym t)) ∙ z.1, z.2, out_other p.handle h n k.log (λ t. d (sym t)) ∙ z.3)) ps away x.own,
    );
    new = (sym (x.others h away).0 ∙ e, x.new);
    differ = (away, x.differ);
    others = λ a far. (put_other k.hand h _ a far.0 ∙ (x.others a far.1).0, out_other a h n k.log far.0 ∙ (x.others a far.1).1);
  }
    where
      away : Away h ps
      away = each_map (Handed k) (λ p. h ≡ p.handle → ⊥) (λ p z t. none-ne-some z.0 (sym e ∙ ap k.hand t ∙ z.1)) ps x.own

  each_without : (P : Piece → Type 0) (h : ℕ) (ps : List Piece) → Each P ps → Each P (without h ps)
  each_without P h [] z = tt
  each_without P h (p ∷ ps) z = at (each_without P h ps z.1) (eqb h p.handle)
    where
      at : Each P (without h ps) → (t : Bool) → Each P (pick t ps (p ∷ without h ps))
      at y true = z.1
      at y false = (z.0, y)

  pair_without : (h : ℕ) (ps : List Piece) → Pairwise Differ ps → Pairwise Differ (without h ps)
  pair_without h [] z = tt
  pair_without h (p ∷ ps) z = at (pair_without h ps z.1) (eqb h p.handle)
    where
      at : Pairwise Differ (without h ps) → (t : Bool) → Pairwise Differ (pick t ps (p ∷ without h ps))
      at y true = z.1
      at y false = (each_without (Differ p) h ps z.0, y)

  -- what is left does not have that handle
  gone : (h : ℕ) (ps : List Piece) → Pairwise Differ ps → Away h (without h ps)
  gone h [] z = tt
  gone h (p ∷ ps) z = at (gone h ps z.1) (eqb h p.handle) refl
    where
      at : Away h (without h ps) → (t : Bool) → eqb h p.handle ≡ t → Away h (pick t ps (p ∷ without h ps))
      at y true q = each_map (Differ p) (λ r. h ≡ r.handle → ⊥) (λ r d e. d (sym (eqb-true h p.handle q) ∙ e)) ps z.0
      at y false q = (eqb-false h p.handle q, y)

  back_away : (a h : ℕ) (ps : List Piece) → (a ≡ h → ⊥) → Away a (without h ps) → Away a ps
  back_away a h [] d z = tt
  back_away a h (p ∷ ps) d z = at (λ y. back_away a h ps d y) (eqb h p.handle) refl z
    where
      at : (Away a (without h ps) → Away a ps) → (t : Bool) → eqb h p.handle ≡ t → Away a (pick t ps (p ∷ without h ps)) → Away a (p ∷ ps)
      at f true q y = (λ e. d (e ∙ sym (eqb-true h p.handle q)), y)
      at f false q y = (y.0, f y.1)

  named_new : (h : ℕ) (ps : List Piece) → Named h ps → Each (λ p. base p.handle ≡ none) ps → base h ≡ none
  named_new h (p ∷ ps) (inl e) z = ap base e ∙ z.0
  named_new h (p ∷ ps) (inr e) z = named_new h ps e z.1
  named_new h [] x'' z = elim x'' [ ]

  -- given back
  given : (ps : List Piece) (k : Host) (h n : ℕ) → Named h ps → Has base ps k → Has base (without h ps) (hand_back k h n)
  given ps k h n m x = record {
    own = each_both (λ p. h ≡ p.handle → ⊥) (Handed k) (Handed (hand_back k h n)) (λ p d z. (z.0, put_other k.hand h none p.handle (λ t. d (sym t)) ∙ z.1, z.2, back_other p.handle h n k.log (λ t. d (sym t)) ∙ z.3)) (without h ps) (gone h ps x.differ) (each_without (Handed k) h ps x.own);
    new = each_without _ h ps x.new;
    differ = pair_without h ps x.differ;
    others = λ a away. far a away (eqb a h) refl;
  }
    where
      far : (a : ℕ) → Away a (without h ps) → (t : Bool) → eqb a h ≡ t → ((hand_back k h n).hand a ≡ base a) × (standing a (hand_back k h n).log ≡ none)
      far a away true q = (put_same k.hand h none a (eqb-true a h q) ∙ sym (ap base (eqb-true a h q) ∙ named_new h ps m x.new), back_same a h n k.log (eqb-true a h q))
      far a away false q =
          let o = x.others a (back_away a h ps (eqb-false a h q) away) in
          (put_other k.hand h none a (eqb-false a h q) ∙ o.0, back_other a h n k.log (eqb-false a h q) ∙ o.1)

  pub step_has : (q : Ask) (r : Reply q) (k l : Host) (ps : List Piece) → Mentions q ps → HostStep k q r l → Has base ps k → Has base (pieces_by q r ps) l
  step_has (config_read16 o) r k l ps m st x = still ps k l st x
  step_has (config_read32 o) r k l ps m st x = still ps k l st x
  step_has (config_write16 o v) r k l ps m st x = still ps k l st x
  step_has (config_write32 o v) r k l ps m st x = still ps k l st x
  step_has (read b o) r k l ps m st x = still ps k l st x
  step_has (write b o v) r k l ps m st x = still ps k l st x
  step_has (attributes o v) r k l ps m st x = still ps k l st x
  step_has (resource b) r k l ps m st x = still ps k l st x
  step_has (stall t) r k l ps m st x = still ps k l st x
  step_has (allocate n) (good h) k l ps m st x = subst (Has base (record { handle = h; pages = n } ∷ ps)) (sym st.1) (handed ps k h n st.0 x)
  step_has (allocate n) failed k l ps m st x = still ps k l st x
  step_has (mapped h n) (good s) k l ps m st x =
      changed ps k l h (map_at s) (λ y. (record { pages = y.pages; mapped = s ∷ y.mapped; unmapped = y.unmapped }, refl, refl)) m (ap (λ (z : Host). z.hand) st.1) (ap (λ (z : Host). z.log) st.1) x
  step_has (mapped h n) failed k l ps m st x = still ps k l st x
  step_has (unmap h) r k l ps m st x =
      changed ps k l h unmap_all (λ y. (record { pages = y.pages; mapped = []; unmapped = y.mapped ++ y.unmapped }, refl, refl)) m (ap (λ (z : Host). z.hand) st) (ap (λ (z : Host). z.log) st) x
  step_has (free h n) r k l ps m st x = subst (Has base (without h ps)) (sym st) (given ps k h n m x)
  step_has (fence i) r k l ps m st x = still ps k l st x
