-- Laws of outcomes.
use Prim.Native.Nat.{ℕ}
use mathlib.Core.Bool.{Bool, true, false}
use mathlib.Core.Path.{◌≡◌, refl}
use mathlib.Core.List.{List}
use native.Mathlib.Omega.{arith}
use Rattle.fields.specs.Outcome.{Outcome, value, refused, pick}

pub same_value : {A : Type 0} {a b : A} → value a ≡ value b → a ≡ b
same_value e = cc

pub never_refused : {A : Type 0} {a : A} {n : ℕ} {vs : List ℕ} → refused n vs ≡ value a → ⊥
never_refused e = let z : ◌≡◌ {A = ℕ} 0 1 = cc in omega arith

-- a value behind a refusal's test: the test was false
pub past : {A : Type 0} (b : Bool) (n : ℕ) (vs : List ℕ) (o : Outcome A) (a : A) → pick b (refused n vs) o ≡ value a → (b ≡ false) × (o ≡ value a)
past true n vs o a e = absurd (never_refused e)
past false n vs o a e = (refl, e)
