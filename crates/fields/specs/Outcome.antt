-- What a call comes to. Every answer of the product that is an enum has a definition into this type, which gives document 01's number and
-- values for each of the enum's cases; the contracts use it.
use Rattle.std.specs.Prelude.{ℕ, Bool, true, false, List}

-- the value; or a refusal: document 01's number ("Returned") and the values that stand beside it
pub data Outcome (A : Type 0) : Type 0 where
  value : A → Outcome A
  refused : (number : ℕ) (beside : List ℕ) → Outcome A

-- the value, or what stands in for it where there is none
abbrev pub value_or : {A : Type 0} → A → Outcome A → A
value_or x (value a) = a
value_or x (refused n vs) = x

-- the number of a refusal; 0 where there is none
abbrev pub number_of : {A : Type 0} → Outcome A → ℕ
number_of (value a) = 0
number_of (refused n vs) = n

-- one of two, by a test
abbrev pub pick {ℓ} : {A : Type ℓ} → Bool → A → A → A
pick true a b = a
pick false a b = b
