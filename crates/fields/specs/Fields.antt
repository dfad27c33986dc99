-- Fields of a list of bytes: unsigned numbers, big- or little-endian, at an offset. Document 01: "be16 and the like are unsigned big-endian";
-- "which answers be16, be32 and be64 at an offset or refuses with 21". The width and the order are parameters of one definition.
use Rattle.std.specs.Prelude.{ℕ, zero, suc, ◌+◌, ◌-◌, ◌*◌, ◌/◌, ◌%◌, Bool, List, [], length, get_or, set, leb, Result, Ok, Err}
use Rattle.fields.specs.Outcome.{Outcome, value, refused, pick}
use Rattle.fields.specs.declared.Order.{Order}
use Rattle.fields.specs.declared.Order.TheVariants.{Big, Little}
use Rattle.fields.specs.declared.Short.{Short}

-- the index of a field's byte number i, counted from the byte of the greatest weight
abbrev pub place_of : Order → (off width i : ℕ) → ℕ
place_of Big off width i = off + i
place_of Little off width i = off + (width - 1 - i)

-- the number whose n digits in base 256 stand at the places given, the greatest weight first
unfoldable pub digits : List ℕ → (ℕ → ℕ) → ℕ → ℕ
digits s place zero = 0
digits s place (suc n) = digits s place n * 256 + get_or s (place n) 0

-- the bytes once the last n digits of v stand at the places given
unfoldable pub put_digits : List ℕ → (ℕ → ℕ) → ℕ → ℕ → List ℕ
put_digits s place zero v = s
put_digits s place (suc n) v = put_digits (set s (place n) (v % 256)) place n (v / 256)

-- the number that the width bytes at off make
abbrev pub number_at : Order → List ℕ → (off width : ℕ) → ℕ
number_at o s off width = digits s (place_of o off width) width

-- the big-endian one, as most replies have it
abbrev pub be : List ℕ → (off width : ℕ) → ℕ
be s off width = number_at Big s off width

-- the bytes once v stands in the width bytes at off
abbrev pub put_at : Order → List ℕ → (off width v : ℕ) → List ℕ
put_at o s off width v = put_digits s (place_of o off width) width v

-- the field lies within the bytes
abbrev pub fits : List ℕ → (off width : ℕ) → Bool
fits s off width = leb (off + width) (length s)

-- reading a field: its number, or 21 where it passes the end
abbrev pub field_at : Order → List ℕ → (off width : ℕ) → Outcome ℕ
field_at o s off width = pick (fits s off width) (value (number_at o s off width)) (refused 21 [])

-- writing one: 21 where it passes the end, and then the bytes stay as they were
abbrev pub write_at : List ℕ → (off width : ℕ) → Outcome Unit
write_at s off width = pick (fits s off width) (value tt) (refused 21 [])

abbrev pub written_at : Order → List ℕ → (off width v : ℕ) → List ℕ
written_at o s off width v = pick (fits s off width) (put_at o s off width v) s

-- what an answer stands for, where its value stands for a number of its own
abbrev pub outcome_by : {A B : Type 0} → (A → B) → Result A Short → Outcome B
outcome_by worth (Ok v) = value (worth v)
outcome_by worth (Err e) = refused 21 []

abbrev pub outcome : {A : Type 0} → Result A Short → Outcome A
outcome r = outcome_by (λ v. v) r
