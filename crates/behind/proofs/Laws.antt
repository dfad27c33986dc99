-- One row of many, read and written in place.
use Prim.Native.Nat.{ℕ, zero, suc, ◌+◌, ◌-◌, ◌*◌, ◌≤◌, ◌<◌, ◌^◌}
use mathlib.Core.Bool.{Bool, true, false}
use mathlib.Core.Path.{◌≡◌, refl, ap, sym, ◌∙◌}
use mathlib.Core.List.{List, [], ◌∷◌}
use native.Mathlib.Omega.{arith}
use borrow.Author.Tests.{le-leb, lt-ltb, le-ltb}
use lib.ListN.{length, get_or, set, replicate}
use Rattle.fields.specs.Outcome.{pick}
use lib.Dec.{ltb}
use Rattle.words.specs.Places.{SLOT, state_bytes}
use Rattle.session.specs.Session.{no_slot, slot_at}
use Rattle.session.specs.Core.{Behind, none_behind}
use Rattle.session.specs.declared.Slot.{Slot}
use Rattle.behind.specs.Behind.{behind_from, behind_in, put_part, flags_stand}
use Rattle.words.specs.Words.{word_at, words_in, put_words, rows_in, within}
use Rattle.words.proofs.Laws.{Words, words_put, words_agree, words_before, words_after}

pub loaded : (xs : List ℕ) (k n : ℕ) (w : List ℕ) {y : List ℕ} → y ≡ pick (within xs k (length w)) (words_in xs k (length w)) w → length w ≡ n → (k + n) * 8 ≤ length xs
    → y ≡ words_in xs k n
loaded xs k n w e l h = e ∙ rw (l, le-leb ((k + n) * 8) (length xs) h) refl

pub stored : (xs : List ℕ) (k n : ℕ) {w ws y : List ℕ} → y ≡ pick (within xs k (length w)) (put_words xs k w) xs → w ≡ ws → length ws ≡ n
    → (k + n) * 8 ≤ length xs → y ≡ put_words xs k ws
stored xs k n e d l h = e ∙ rw (d, l, le-leb ((k + n) * 8) (length xs) h) refl

module _ {A : Type 0} (g : List ℕ → A) (m : ℕ) where
  -- a row is read without the others
  pub rows_get : (s : List ℕ) (k n i : ℕ) (d : A) → i < n → get_or (rows_in g m s k n) i d ≡ g (words_in s (k + i * m) m)
  unfolding rows_in
  rows_get s k zero i d h = absurd (omega arith)
  rows_get s k (suc n) zero d h = ap (λ (j : ℕ). g (words_in s j m)) (omega arith)
  rows_get s k (suc n) (suc i) d h =
      let e : k + m + i * m ≡ k + suc i * m = omega arith in
      rows_get s (k + m) n i d (omega arith) ∙ ap (λ (j : ℕ). g (words_in s j m)) e

  pub rows_none : (s : List ℕ) (k n i : ℕ) (d : A) → n ≤ i → get_or (rows_in g m s k n) i d ≡ d
  unfolding rows_in
  rows_none s k zero i d h = refl
  rows_none s k (suc n) zero d h = absurd (omega arith)
  rows_none s k (suc n) (suc i) d h = rows_none s (k + m) n i d (omega arith)

  pub rows_agree : (s t : List ℕ) (k n : ℕ) → ((j : ℕ) → k * 8 ≤ j → get_or s j 0 ≡ get_or t j 0) → rows_in g m s k n ≡ rows_in g m t k n
  unfolding rows_in
  rows_agree s t k zero h = refl
  rows_agree s t k (suc n) h =
      ap (λ (x : A). x ∷ rows_in g m s (k + m) n) (ap g (words_agree s t k m (λ j a b. h j a)))
      ∙ ap (λ (l : List A). g (words_in t k m) ∷ l) (rows_agree s t (k + m) n (λ j a. h j (omega arith)))

  -- a row is written, and the others stay
  pub rows_set : (f : A → List ℕ) (r : A) → length (f r) ≡ m → g (f r) ≡ r → Words (f r) → (s : List ℕ) (k n i : ℕ) → i < n → (k + n * m) * 8 ≤ length s
      → rows_in g m (put_words s (k + i * m) (f r)) k n ≡ set (rows_in g m s k n) i r
  unfolding rows_in
  rows_set f r wide back small s k zero i h b = absurd (omega arith)
  rows_set f r wide back small s k (suc n) zero h b =
      let e : k + zero * m ≡ k = omega arith in
      let s' = put_words s k (f r) in
      let room : (k + length (f r)) * 8 ≤ length s = (let z : suc n * m ≡ m + n * m = omega arith in omega arith) in
      ap (λ (j : ℕ). rows_in g m (put_words s j (f r)) k (suc n)) e
      ∙ ap (λ (x : A). x ∷ rows_in g m s' (k + m) n) (ap g (ap (words_in s' k) (sym wide) ∙ words_put s k (f r) small room) ∙ back)
      ∙ ap (λ (l : List A). r ∷ l) (rows_agree s' s (k + m) n (λ j a. words_after s k (f r) j (omega arith)))
  rows_set f r wide back small s k (suc n) (suc i) h b =
      let e : k + suc i * m ≡ k + m + i * m = omega arith in
      let z : suc n * m ≡ m + n * m = omega arith in
      let s' = put_words s (k + m + i * m) (f r) in
      ap (λ (j : ℕ). rows_in g m (put_words s j (f r)) k (suc n)) e
      ∙ ap (λ (x : A). x ∷ rows_in g m s' (k + m) n) (ap g (words_agree s' s k m (λ j a c. words_before s (k + m + i * m) (f r) j (omega arith))))
      ∙ ap (λ (l : List A). g (words_in s k m) ∷ l) (rows_set f r wide back small s (k + m) n i (omega arith) (omega arith))

-- WHERE THE BYTES ARE TOO FEW, and where they are enough
pub short : (xs : List ℕ) → length xs < state_bytes → behind_in xs ≡ none_behind
short xs h = rw (lt-ltb (length xs) state_bytes h) refl

pub long : (xs : List ℕ) → state_bytes ≤ length xs → behind_in xs ≡ behind_from xs
long xs h = rw (le-ltb (length xs) state_bytes h) refl

pub put_short : (k : ℕ) (ws xs : List ℕ) → length xs < state_bytes → xs ≡ put_part k ws xs
put_short k ws xs h = rw (lt-ltb (length xs) state_bytes h) refl

pub put_long : (k : ℕ) (ws xs : List ℕ) → state_bytes ≤ length xs → put_words xs k ws ≡ put_part k ws xs
put_long k ws xs h = rw (le-ltb (length xs) state_bytes h) refl

-- one and the same everywhere
all_same : {A : Type 0} (n i : ℕ) (x : A) → get_or (replicate n x) i x ≡ x
all_same zero i x = refl
all_same (suc n) zero x = refl
all_same (suc n) (suc i) x = all_same n i x

pub none_there : (xs : List ℕ) (i : ℕ) → length xs < state_bytes → slot_at (behind_in xs).slots i ≡ no_slot
none_there xs i h = ap (λ (b : Behind). slot_at b.slots i) (short xs h) ∙ all_same 82 i no_slot

pub pick_same : {A : Type 0} (b : Bool) (x : A) → pick b x x ≡ x
pick_same true x = refl
pick_same false x = refl

-- ONE SLOT'S FLAG, and those that are left
pub flags_turn : (xs : List ℕ) (k n i : ℕ) → i < n
    → flags_stand xs (k + i * SLOT) (n - i) ≡ pick (ltb (word_at xs (k + i * SLOT + 5)) 2) (flags_stand xs (k + (i + 1) * SLOT) (n - (i + 1))) false
unfolding flags_stand
flags_turn xs k n i h =
    let e : n - i ≡ suc (n - (i + 1)) = omega arith in
    let d : k + i * SLOT + SLOT ≡ k + (i + 1) * SLOT = omega arith in
    ap (flags_stand xs (k + i * SLOT)) e ∙ ap (λ (j : ℕ). pick (ltb (word_at xs (k + i * SLOT + 5)) 2) (flags_stand xs j (n - (i + 1))) false) d

pub flags_end : (xs : List ℕ) (k n i : ℕ) → n ≤ i → flags_stand xs k (n - i) ≡ true
unfolding flags_stand
flags_end xs k n i h = let e : n - i ≡ 0 = omega arith in ap (flags_stand xs k) e
