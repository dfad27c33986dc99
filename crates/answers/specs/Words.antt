-- An answer as big-endian 64-bit words in a slice of bytes.
use Rattle.std.specs.Prelude.{ℕ, suc, ◌*◌, Bool, true, false, List, [], ◌∷◌, length, leb}
use Rattle.fields.specs.Outcome.{Outcome, value, refused, value_or, number_of, pick}
use Rattle.fields.specs.Fields.{written_at}
use Rattle.fields.specs.declared.Order.TheVariants.{Big}

-- the bytes once the words stand one after another, from word k on
unfoldable pub put_words : List ℕ → (k : ℕ) → List ℕ → List ℕ
put_words s k [] = s
put_words s k (w ∷ ws) = put_words (written_at Big s (k * 8) 8 w) (suc k) ws

-- a slice has room for n words
abbrev pub holds : ℕ → List ℕ → Bool
holds n s = leb (n * 8) (length s)

-- an answer of n words: 21 where there is no room for it, and then the slice stays as it was
abbrev pub said : ℕ → List ℕ → ℕ
said n s = pick (holds n s) 0 21

abbrev pub answer : ℕ → List ℕ → List ℕ → List ℕ
answer n s ws = pick (holds n s) (put_words s 0 ws) s

-- a flag as a word
abbrev pub bit : Bool → ℕ
bit true = 1
bit false = 0

-- the value beside a refusal; 0 where there is none
abbrev pub beside_of : {A : Type 0} → Outcome A → ℕ
beside_of (value a) = 0
beside_of (refused n []) = 0
beside_of (refused n (v ∷ vs)) = v

-- a number or a refusal: the refusal's number, 0 where there is none; then the number
abbrev pub number_words : Outcome ℕ → List ℕ
number_words o = number_of o ∷ value_or 0 o ∷ []
