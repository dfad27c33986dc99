-- Laws of fields, over the width and the byte order.
use Prim.Native.Nat.{ℕ, zero, suc, zero-le, ◌+◌, ◌-◌, ◌*◌, ◌/◌, ◌%◌, ◌^◌, ◌≤◌, ◌<◌}
use mathlib.Core.Bool.{Bool, true, false}
use mathlib.Core.Path.{◌≡◌, refl, ap, sym, ◌∙◌}
use mathlib.Core.List.{List, []}
use native.Mathlib.Nat.{pow-suc, pow-le-pow_right, lt_of_lt_of_le, mod-one}
use native.Mathlib.Numerals.{add-one, sub-one}
use native.Mathlib.Omega.{arith}
use borrow.Author.Tests.{le-leb}
use lib.Arith.{mod-mul}
use lib.Dec.{lit<, leb}
use lib.ListN.{length, get_or, set, length-set}
use lib.Seq.{get_or-set_same, get_or-set_other}
use Rattle.fields.specs.Outcome.{pick, value, refused}
use Rattle.fields.specs.Fields.{place_of, digits, put_digits, number_at, put_at, field_at, written_at}
use Rattle.fields.specs.declared.Order.{Order}
use Rattle.fields.specs.declared.Order.TheVariants.{Big, Little}

-- each element is a byte
abbrev pub Bytes : List ℕ → Type 0
Bytes s = (k : ℕ) → get_or s k 0 < 256

pub digits_more : (s : List ℕ) (place : ℕ → ℕ) (n : ℕ) → digits s place (n + 1) ≡ digits s place n * 256 + get_or s (place n) 0
unfolding digits
digits_more s place n = rw add-one

-- n digits are below 256 ^ n
digits_lt : (s : List ℕ) (place : ℕ → ℕ) (n : ℕ) → Bytes s → digits s place n < 256 ^ n
unfolding digits
digits_lt s place zero b = lit< tt
digits_lt s place (suc n) b = rw pow-suc (omega (arith, digits_lt s place n b, b (place n)))

pub digits_below : (s : List ℕ) (place : ℕ → ℕ) (i n : ℕ) → Bytes s → i ≤ n → digits s place i < 256 ^ n
digits_below s place i n b h = lt_of_lt_of_le (digits_lt s place i b) (pow-le-pow_right (lit< tt) h)

-- a field of w bytes is below 256 ^ w
pub number_lt : (o : Order) (s : List ℕ) (off w : ℕ) → Bytes s → number_at o s off w < 256 ^ w
number_lt o s off w b = digits_lt s (place_of o off w) w b

-- the same bytes at the places make the same number
digits_same : (s t : List ℕ) (place : ℕ → ℕ) (n : ℕ) → ((i : ℕ) → i < n → get_or s (place i) 0 ≡ get_or t (place i) 0) → digits s place n ≡ digits t place n
unfolding digits
digits_same s t place zero h = refl
digits_same s t place (suc n) h =
    ap (λ (k : ℕ). k * 256 + get_or s (place n) 0) (digits_same s t place n (λ i l. h i (omega arith)))
    ∙ ap (λ (k : ℕ). digits t place n * 256 + k) (h n (omega arith))

-- a field's bytes stand at different places, within the field
places_differ : (o : Order) (off w i j : ℕ) → i < w → j < w → place_of o off w i ≡ place_of o off w j → i ≡ j
places_differ Big off w i j a b e = omega arith
places_differ Little off w i j a b e = omega arith

pub place_from_lem : (o : Order) (off w i : ℕ) → i < w → off ≤ place_of o off w i
place_from_lem Big off w i h = omega arith
place_from_lem Little off w i h = omega arith

pub place_to : (o : Order) (off w i : ℕ) → i < w → place_of o off w i < off + w
place_to Big off w i h = omega arith
place_to Little off w i h = omega arith

pub put_less : (s : List ℕ) (place : ℕ → ℕ) (i x : ℕ) → 0 < i → put_digits (set s (place (i - 1)) (x % 256)) place (i - 1) (x / 256) ≡ put_digits s place i x
unfolding put_digits
put_less s place zero x h = absurd (omega arith)
put_less s place (suc n) x h = simp sub-one

length_digits : (s : List ℕ) (place : ℕ → ℕ) (n v : ℕ) → length (put_digits s place n v) ≡ length s
unfolding put_digits
length_digits s place zero v = refl
length_digits s place (suc n) v = length_digits (set s (place n) (v % 256)) place n (v / 256) ∙ length-set s (place n) (v % 256)

-- a byte at none of the places stays
digits_other : (s : List ℕ) (place : ℕ → ℕ) (n v k : ℕ) → ((i : ℕ) → i < n → k ≡ place i → ⊥) → get_or (put_digits s place n v) k 0 ≡ get_or s k 0
unfolding put_digits
digits_other s place zero v k h = refl
digits_other s place (suc n) v k h =
    digits_other (set s (place n) (v % 256)) place n (v / 256) k (λ i l. h i (omega arith))
    ∙ get_or-set_other s (place n) k (v % 256) 0 (h n (omega arith))

pow256_pos : (n : ℕ) → 0 < 256 ^ n
pow256_pos n = lt_of_lt_of_le (lit< tt) (pow-le-pow_right {n = 256} (lit< tt) {i = 0} {j = n} zero-le)

-- what was put at different places is read there
digits_put : (s : List ℕ) (place : ℕ → ℕ) (n v : ℕ) → ((i : ℕ) → i < n → place i < length s) → ((i j : ℕ) → i < n → j < n → place i ≡ place j → i ≡ j)
    → digits (put_digits s place n v) place n ≡ v % 256 ^ n
unfolding put_digits digits
digits_put s place zero v b d = sym (mod-one v)
digits_put s place (suc n) v b d =
    ap (λ (k : ℕ). k * 256 + get_or (put_digits (set s (place n) (v % 256)) place n (v / 256)) (place n) 0)
    (digits_put (set s (place n) (v % 256)) place n (v / 256) (λ i l. simp length-set (b i (omega arith))) (λ i j l m. d i j (omega arith) (omega arith)))
    ∙ ap (λ (k : ℕ). v / 256 % 256 ^ n * 256 + k)
    (digits_other (set s (place n) (v % 256)) place n (v / 256) (place n) (λ i l e. let z = d n i (omega arith) (omega arith) e in omega arith)
    ∙ get_or-set_same s (place n) (v % 256) 0 (b n (omega arith)))
    ∙ sym (mod-mul v (pow256_pos n) (lit< tt))
    ∙ ap (λ (k : ℕ). v % k) (sym (pow-suc 256 n))

-- Read after write: a field that was put is read, its value cut to the width.
pub number_put : (o : Order) (s : List ℕ) (off w v : ℕ) → off + w ≤ length s → number_at o (put_at o s off w v) off w ≡ v % 256 ^ w
number_put o s off w v h =
    digits_put s (place_of o off w) w v (λ i l. let z = place_to o off w i l in omega arith) (places_differ o off w)

-- Writing leaves the rest: a byte outside the field stays, and so does the length.
pub put_outside : (o : Order) (s : List ℕ) (off w v k : ℕ) → (off ≤ k → k < off + w → ⊥) → get_or (put_at o s off w v) k 0 ≡ get_or s k 0
put_outside o s off w v k h =
    digits_other s (place_of o off w) w v k
    (λ i l e. let a = place_from_lem o off w i l in let b = place_to o off w i l in h (omega arith) (omega arith))

pub length_put : (o : Order) (s : List ℕ) (off w v : ℕ) → length (put_at o s off w v) ≡ length s
length_put o s off w v = length_digits s (place_of o off w) w v

-- a field whose bytes are the same in both is the same number
pub number_same : (o : Order) (s t : List ℕ) (off w : ℕ) → ((k : ℕ) → off ≤ k → k < off + w → get_or s k 0 ≡ get_or t k 0)
    → number_at o s off w ≡ number_at o t off w
number_same o s t off w h =
    digits_same s t (place_of o off w) w
    (λ i l. h (place_of o off w i) (place_from_lem o off w i l) (place_to o off w i l))

-- a field that no byte of another touches is read as before
pub number_apart : (o o' : Order) (s : List ℕ) (off w off' w' v : ℕ) → ((k : ℕ) → off ≤ k → k < off + w → off' ≤ k → k < off' + w' → ⊥)
    → number_at o (put_at o' s off' w' v) off w ≡ number_at o s off w
number_apart o o' s off w off' w' v h =
    number_same o (put_at o' s off' w' v) s off w (λ k l m. put_outside o' s off' w' v k (h k l m))

-- where the field lies within the bytes, reading gives its number
pub field_is : (o : Order) (s : List ℕ) (off w : ℕ) → off + w ≤ length s → field_at o s off w ≡ value (number_at o s off w)
field_is o s off w h = rw (le-leb (off + w) (length s) h)

-- a field that was read is that number
pub value_picked : (a b : Bool) (n m : ℕ) → value n ≡ pick a (pick b (value m) (refused 21 [])) (refused 21 []) → n ≡ m
value_picked true true n m e = cc
value_picked true false n m e = cc
value_picked false b n m e = cc

length_pick : (b : Bool) (x y : List ℕ) → length x ≡ length y → length (pick b x y) ≡ length y
length_pick true x y e = e
length_pick false x y e = refl

pub length_written : (o : Order) (s : List ℕ) (off w v : ℕ) → length (written_at o s off w v) ≡ length s
length_written o s off w v = length_pick (leb (off + w) (length s)) (put_at o s off w v) s (length_put o s off w v)

-- What reading says of a field that is there: its number, and never 21.
pub field_value : (o : Order) (s : List ℕ) (off w v : ℕ) → value v ≡ field_at o s off w → off + w ≤ length s → v ≡ number_at o s off w
field_value o s off w v e h = let f = e ∙ field_is o s off w h in cc

pub field_never_short : (o : Order) (s : List ℕ) (off w : ℕ) → refused 21 [] ≡ field_at o s off w → off + w ≤ length s → ⊥
field_never_short o s off w e h = let f = e ∙ field_is o s off w h in let z : ◌≡◌ {A = ℕ} 0 1 = cc in omega arith

-- where the field lies within the bytes, it is written
pub written_is : (o : Order) (s : List ℕ) (off w v : ℕ) → off + w ≤ length s → written_at o s off w v ≡ put_at o s off w v
written_is o s off w v h = rw (le-leb (off + w) (length s) h)

-- the last byte of a big-endian field is the number's last digit
pub put_last : (s : List ℕ) (off n v : ℕ) → off + suc n ≤ length s → get_or (put_at Big s off (suc n) v) (off + n) 0 ≡ v % 256
unfolding put_digits
put_last s off n v h =
    digits_other (set s (off + n) (v % 256)) (place_of Big off (suc n)) n (v / 256) (off + n) (λ i l e. omega arith)
    ∙ get_or-set_same s (off + n) (v % 256) 0 (omega arith)
