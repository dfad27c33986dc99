-- A copy byte by byte, and the whole of it.
use Prim.Native.Nat.{ℕ, zero, suc, ◌+◌, ◌≤◌, ◌<◌}
use mathlib.Core.Bool.{Bool, true, false}
use mathlib.Core.List.{List, [], ◌∷◌, ◌++◌}
use mathlib.Core.Path.{◌≡◌, refl, ap, sym, ◌∙◌}
use native.Mathlib.Omega.{arith}
use native.Mathlib.Numerals.{add-one}
use borrow.Author.Tests.{ltb-true, ltb-false}
use lib.Dec.{ltb}
use lib.ListN.{length, take, drop, set, get_or}
use Rattle.fields.specs.Outcome.{pick}
use Rattle.client_plan.specs.Client.{over, lesser}

copy_suc : (i : ℕ) (y s : List ℕ) → i < length y → i < length s → set (take i y ++ drop i s) i (get_or y i 0) ≡ take (suc i) y ++ drop (suc i) s
copy_suc zero [] s a b = let z : ⊥ = omega (arith, a) in absurd z
copy_suc zero (y ∷ ys) [] a b = let z : ⊥ = omega (arith, b) in absurd z
copy_suc zero (y ∷ ys) (x ∷ xs) a b = refl
copy_suc (suc i) [] s a b = let z : ⊥ = omega (arith, a) in absurd z
copy_suc (suc i) (y ∷ ys) [] a b = let z : ⊥ = omega (arith, b) in absurd z
copy_suc (suc i) (y ∷ ys) (x ∷ xs) a b = ap (λ (l : List ℕ). y ∷ l) (copy_suc i ys xs (omega (arith, a)) (omega (arith, b)))

pub copy_more : (i : ℕ) (y s : List ℕ) → i < length y → i < length s → set (take i y ++ drop i s) i (get_or y i 0) ≡ take (i + 1) y ++ drop (i + 1) s
copy_more i y s a b = copy_suc i y s a b ∙ ap (λ (m : ℕ). take m y ++ drop m s) (sym (add-one i))

pub copy_none : (y s : List ℕ) → s ≡ take 0 y ++ drop 0 s
copy_none y s = refl

-- as many as both have
pub lesser_le : (a b : ℕ) → (lesser a b ≤ a) × (lesser a b ≤ b) × (lesser a b < a → lesser a b < b → ⊥)
lesser_le a b = by (ltb a b) refl
  where
    by : (t : Bool) → ltb a b ≡ t → (pick t a b ≤ a) × (pick t a b ≤ b) × (pick t a b < a → pick t a b < b → ⊥)
    by true e = let l = ltb-true a b e in (omega arith, omega arith, λ h k. let z : ⊥ = omega (arith, h) in z)
    by false e = let l = ltb-false a b e in (omega arith, omega arith, λ h k. let z : ⊥ = omega (arith, k) in z)

pub copy_all : (n : ℕ) (y s : List ℕ) → n ≤ length y → n ≤ length s → (n < length s → n < length y → ⊥) → take n y ++ drop n s ≡ over y s
unfolding over
copy_all zero [] s a b e = refl
copy_all zero (y ∷ ys) [] a b e = refl
copy_all zero (y ∷ ys) (x ∷ xs) a b e = absurd (e (omega arith) (omega arith))
copy_all (suc n) [] s a b e = let z : ⊥ = omega (arith, a) in absurd z
copy_all (suc n) (y ∷ ys) [] a b e = let z : ⊥ = omega (arith, b) in absurd z
copy_all (suc n) (y ∷ ys) (x ∷ xs) a b e = ap (λ (l : List ℕ). y ∷ l) (copy_all n ys xs (omega (arith, a)) (omega (arith, b)) (λ h k. e (omega (arith, h)) (omega (arith, k))))
