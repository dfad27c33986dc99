-- The steps of a choice follow the definition: they ask its indices, in its order, and end in its pick.
use Rattle.std.proofs.Common.{◌≡◌, ℕ, zero, suc, ◌+◌, ◌-◌, Bool, true, false, ◌||◌, eqb, List, [], ◌∷◌, Option, Some, None, sym, refl, ap, subst, arith}
use Rattle.fields.specs.Outcome.{pick}
use Rattle.bars.specs.Choose.{Table, answers, has_base, those, up_to, any, first_of, rising, is_other, others_from, settled, asked, chosen}
use Rattle.bars.specs.Steps.{size_from, pick_of, settled_by, settled_of, onward_of, judged_of, start_of, Runs, ends, asks_on, picked, Follows}
use Rattle.bars.specs.declared.BarRange.{BarRange}
use Rattle.bars.specs.declared.How.{How}
use Rattle.bars.specs.declared.How.TheVariants as h
use Rattle.bars.specs.declared.Pick.{Pick}
use Rattle.bars.specs.declared.Asking.{Asking}
use Rattle.bars.specs.declared.Asking.TheVariants as q
use Rattle.bars.specs.declared.Choice.{Choice}
use Rattle.bars.specs.declared.Next.{Next}
use Rattle.bars.specs.declared.Next.TheVariants as n

differ : false ≡ true → ⊥
differ e = let z : ◌≡◌ {A = ℕ} 0 1 = cc in omega arith

-- a run does not say which pick it ends in otherwise than by equality
ends_in : (t : Table) (p r : Pick) → p ≡ r → Runs t (n.Picked p) [] r
ends_in t p r e = subst (λ (x : Pick). Runs t (n.Picked p) [] x) e ends

runs_from : (t : Table) (x y : Next) (is : List ℕ) (p : Pick) → x ≡ y → Runs t y is p → Runs t x is p
runs_from t x y is p e r = subst (λ (w : Next). Runs t w is p) (sym e) r

module _ (base first second : ℕ) (t : Table) where
  abbrev matches : ℕ → Bool
  matches i = has_base base (t i)

  abbrev pick_at : ℕ × How → Pick
  pick_at c = record { index = c.0; size = size_from (t c.0); how = c.1 }

  -- the state when the first candidate has answered, and the second has answered `two`
  abbrev heard : Option BarRange → Asking → Choice
  heard two q = record { base = base; first = record { index = first; answer = t first }; second = record { index = second; answer = two }; asking = q }

  module _ (two : Option BarRange) (none : ℕ × How) (e : settled_of (heard two q.First).first (heard two q.First).second ≡ pick_at none) where
    -- an index that is asked wins or not
    at-match : (i : ℕ) (is : List ℕ) (b : Bool) → Runs t (onward_of (heard two (q.Other i)) is) (up_to matches is) (pick_at (first_of matches is h.Scan none))
        → Runs t (pick b (n.Picked (pick_of (record { index = i; answer = t i }) h.Scan)) (onward_of (heard two (q.Other i)) is)) (pick b [] (up_to matches is)) (pick_at (pick b (i, h.Scan) (first_of matches is h.Scan none)))
    at-match i is true r = ends
    at-match i is false r = r

    -- an index is asked, or passed over
    at-index : (a : Asking) (i : ℕ) (is : List ℕ) (b : Bool) → others_from first second (suc i) ≡ is
        → ((a' : Asking) → Runs t (onward_of (heard two a') is) (up_to matches is) (pick_at (first_of matches is h.Scan none)))
        → Runs t (onward_of (heard two a) (pick b (i ∷ is) is)) (up_to matches (pick b (i ∷ is) is)) (pick_at (first_of matches (pick b (i ∷ is) is) h.Scan none))
    unfolding up_to first_of
    at-index a i is true f r =
        asks_on
        (runs_from t _ _ _ _
        (ap (λ (l : List ℕ). pick (matches i) (n.Picked (pick_of (record { index = i; answer = t i }) h.Scan)) (onward_of (heard two (q.Other i)) l)) f)
        (at-match i is (matches i) (r (q.Other i))))
    at-index a i is false f r = r a

    scan : (i m : ℕ) → i + m ≡ 6 → (a : Asking)
        → Runs t (onward_of (heard two a) (those (is_other first second) (rising i m))) (up_to matches (those (is_other first second) (rising i m))) (pick_at (first_of matches (those (is_other first second) (rising i m)) h.Scan none))
    unfolding rising those up_to first_of
    scan i zero f a = ends_in t _ _ e
    scan i (suc m) f a =
        at-index a i (those (is_other first second) (rising (suc i) m)) (is_other first second i)
        (ap (λ (k : ℕ). those (is_other first second) (rising (suc i) k)) (let g : 6 - suc i ≡ m = omega arith in g))
        (scan (suc i) m (let g : suc i + m ≡ 6 = omega arith in g))

    -- both candidates have answered; m₁ and m₂ say whether their bases match
    judged : (a : Asking) (z m₁ m₂ : Bool) → (m₂ ≡ true → pick_of (heard two a).second h.BaseMatches ≡ pick_at (second, h.BaseMatches))
        → Runs t
        (pick z (n.Picked (settled_of (heard two a).first (heard two a).second)) (pick m₁ (n.Picked (pick_of (heard two a).first h.BaseMatches)) (pick m₂ (n.Picked (pick_of (heard two a).second h.BaseMatches)) (onward_of (heard two a) (others_from first second 0)))))
        (pick (z || (m₁ || (m₂ || false))) [] (up_to matches (others_from first second 0)))
        (pick_at (pick z none (pick m₁ (first, h.BaseMatches) (pick m₂ (second, h.BaseMatches) (first_of matches (others_from first second 0) h.Scan none)))))
    judged a true m₁ m₂ f = ends_in t _ _ e
    judged a false true m₂ f = ends
    judged a false false true f = ends_in t _ _ (f refl)
    judged a false false false f = scan 0 6 refl a

  -- the pick where no base matches, by the candidates' answers
  settled_one : (x : Option BarRange) → settled_by (heard None q.First).first (heard None q.First).second x None ≡ pick_at (settled first (pick (answers x) (first ∷ []) []))
  settled_one (Some x) = refl
  settled_one None = refl

  settled_two : (x y : Option BarRange) → settled_by (heard (t second) q.Second).first (heard (t second) q.Second).second x y
      ≡ pick_at (settled first (pick (answers x) (first ∷ pick (answers y) (second ∷ []) []) (pick (answers y) (second ∷ []) [])))
  settled_two (Some x) (Some y) = refl
  settled_two (Some x) None = refl
  settled_two None (Some y) = refl
  settled_two None None = refl

  by_equal : (s : Bool) → eqb first second ≡ s → Runs t (n.Ask first (start_of base first second)) (asked base first second t) (picked base first second t)
  unfolding asked chosen those any first_of
  by_equal true e =
      rw e
      (asks_on
      (runs_from t _ _ _ _
      (ap (λ (s : Bool). pick s (judged_of (heard None q.First)) (n.Ask second (heard None q.Second))) e)
      (judged None _ (settled_one (t first)) q.First (eqb base 0) (matches first) false (λ f. absurd (differ f)))))
  by_equal false e =
      rw e
      (asks_on
      (runs_from t _ _ _ _
      (ap (λ (s : Bool). pick s (judged_of (heard None q.First)) (n.Ask second (heard None q.Second))) e)
      (asks_on (judged (t second) _ (settled_two (t first) (t second)) q.Second (eqb base 0) (matches first) (matches second) (λ f. refl)))))

pub follows : Follows
follows base first second t = by_equal base first second t (eqb first second) refl

-- a run is settled by where it starts: the indices asked and the pick are no other
pub runs_once : {t : Table} {x : Next} {is js : List ℕ} {p r : Pick} → Runs t x is p → Runs t x js r → (is ≡ js) × (p ≡ r)
runs_once ends ends = (refl, refl)
runs_once (asks_on {i = i} f) (asks_on g) = let h = runs_once f g in (ap (λ l. i ∷ l) h.0, h.1)
