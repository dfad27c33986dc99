-- The tests on a layout, one after the other, and what the answer to each says.
use Prim.Native.Nat.{ℕ, ◌≤◌, ◌<◌}
use mathlib.Core.Bool.{Bool, true, false}
use mathlib.Core.Path.{◌≡◌, refl, ap, sym, ◌∙◌}
use mathlib.Core.List.{List, [], ◌∷◌}
use borrow.Author.Tests.{lt-ltb, le-ltb}
use lib.Dec.{ltb}
use lib.ListN.{length}
use Rattle.fields.specs.Outcome.{Outcome, value, refused, pick}
use Rattle.layout.specs.declared.Layout.{Layout}
use Rattle.layout.specs.Layout.{layout_of, lay_out, rows_of, first_bad, total_of}

verdict : (bad over : Bool) (i t : ℕ) → Layout → Outcome Layout
verdict bad over i t l = pick bad (refused 16 (i ∷ [])) (pick over (refused 17 (t ∷ [])) (value l))

v_total : {b b₂ : Bool} (i t : ℕ) (l : Layout) → b ≡ false → b₂ ≡ true → verdict b b₂ i t l ≡ refused 17 (t ∷ [])
unfolding verdict
v_total i t l e e₂ = rw (e, e₂)

v_good : {b b₂ : Bool} (i t : ℕ) (l : Layout) → b ≡ false → b₂ ≡ false → verdict b b₂ i t l ≡ value l
unfolding verdict
v_good i t l e e₂ = rw (e, e₂)

-- The answer at the second test and past it, for the total and the layout that were found.
module _ (counts entries : List ℕ) (most : ℕ) where
  is_verdict : layout_of counts entries most ≡ verdict (ltb (first_bad 0 entries) (length entries)) (ltb most (total_of (rows_of counts entries))) (first_bad 0 entries) (total_of (rows_of counts entries)) (lay_out counts entries)
  unfolding verdict
  is_verdict = refl

  module _ (good : length entries ≤ first_bad 0 entries) (t : ℕ) (et : t ≡ total_of (rows_of counts entries)) where
    pub total-answers : most < t → refused 17 (t ∷ []) ≡ layout_of counts entries most
    total-answers h = ap (λ (n : ℕ). refused 17 (n ∷ [])) et ∙ sym (is_verdict ∙ v_total _ _ _ (le-ltb _ _ good) (lt-ltb _ _ (rw et at h)))

    pub good-answers : t ≤ most → (l : Layout) → l ≡ lay_out counts entries → value l ≡ layout_of counts entries most
    good-answers h l el = ap value el ∙ sym (is_verdict ∙ v_good _ _ _ (le-ltb _ _ good) (le-ltb _ _ (rw et at h)))
