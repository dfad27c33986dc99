-- The slots: words that stand row by row, and their flags.
use Prim.Native.Nat.{ℕ, zero, suc, ◌+◌, ◌*◌, ◌<◌}
use mathlib.Core.Bool.{Bool, true, false}
use mathlib.Core.Path.{◌≡◌, refl, ap, sym, ◌∙◌}
use mathlib.Core.List.{List, [], ◌∷◌, ◌++◌}
use native.Mathlib.Omega.{arith}
use borrow.Author.Tests.{lt-ltb, ltb-true}
use lib.Dec.{eqb, ltb}
use lib.ListN.{length, get_or}
use Rattle.fields.specs.Outcome.{pick}
use Rattle.words.specs.Places.{SLOT}
use Rattle.words.specs.Words.{word_at, words_in, flat, rows_in, bit_of}
use Rattle.words.proofs.Laws.{split, words_append}
use Rattle.words_books.specs.Coding.{slot_words, slot_of}
use Rattle.session.specs.declared.Slot.{Slot}
use Rattle.behind.specs.Behind.{flags_stand}

not_so : false ≡ true → ⊥
not_so h = let z : ◌≡◌ {A = ℕ} 0 1 = ap (λ (x : Bool). pick x 1 0) h in omega arith

pub pick_true : (a b : Bool) → pick a b false ≡ true → (a ≡ true) × (b ≡ true)
pick_true true b e = (refl, e)
pick_true false b e = absurd (not_so e)

bit_again : (n : ℕ) → n < 2 → bit_of (eqb n 1) ≡ n
bit_again zero h = refl
bit_again (suc zero) h = refl
bit_again (suc (suc n)) h = absurd (omega arith)

bit_two : (b : Bool) → bit_of b < 2
bit_two true = omega arith
bit_two false = omega arith

-- a row whose flag is 0 or 1 is that of the slot it stands for
row_again : (xs : List ℕ) (k : ℕ) → word_at xs (k + 5) < 2 → slot_words (slot_of (words_in xs k SLOT)) ≡ words_in xs k SLOT
unfolding words_in
row_again xs k h =
    let e : k + 1 + 1 + 1 + 1 + 1 ≡ k + 5 = omega arith in
    let w : word_at xs (k + 1 + 1 + 1 + 1 + 1) ≡ word_at xs (k + 5) = ap (word_at xs) e in
    ap (λ (x : ℕ). word_at xs k ∷ word_at xs (k + 1) ∷ word_at xs (k + 1 + 1) ∷ word_at xs (k + 1 + 1 + 1) ∷ word_at xs (k + 1 + 1 + 1 + 1) ∷ x ∷ [])
    (bit_again (word_at xs (k + 1 + 1 + 1 + 1 + 1)) (omega (arith, w, h)))

pub flags_words : (xs : List ℕ) (k n : ℕ) → flags_stand xs k n ≡ true → words_in xs k (n * SLOT) ≡ flat slot_words (rows_in slot_of SLOT xs k n)
unfolding flags_stand flat rows_in words_in
flags_words xs k zero h = refl
flags_words xs k (suc n) h =
    let q = pick_true (ltb (word_at xs (k + 5)) 2) (flags_stand xs (k + SLOT) n) h in
    let e : suc n * SLOT ≡ SLOT + n * SLOT = omega arith in
    ap (words_in xs k) e ∙ words_append xs k SLOT (n * SLOT)
    ∙ ap (λ (l : List ℕ). l ++ words_in xs (k + SLOT) (n * SLOT)) (sym (row_again xs k (ltb-true (word_at xs (k + 5)) 2 q.0)))
    ∙ ap (λ (l : List ℕ). slot_words (slot_of (words_in xs k SLOT)) ++ l) (flags_words xs (k + SLOT) n q.1)

pub flag_of : (xs : List ℕ) (k : ℕ) (v : Slot) → words_in xs k SLOT ≡ slot_words v → word_at xs (k + 5) < 2
unfolding words_in
flag_of xs k v h =
    let e : k + 5 ≡ k + 1 + 1 + 1 + 1 + 1 = omega arith in
    let w : word_at xs (k + 5) ≡ bit_of v.mapped = ap (word_at xs) e ∙ ap (λ (l : List ℕ). get_or l 5 0) h in
    let b = bit_two v.mapped in
    omega (arith, w, b)

pub words_flags : (xs : List ℕ) (k : ℕ) (l : List Slot) → words_in xs k (length (flat slot_words l)) ≡ flat slot_words l → flags_stand xs k (length l) ≡ true
unfolding flags_stand flat
words_flags xs k [] h = refl
words_flags xs k (v ∷ l) h =
    let q = split xs k (slot_words v) (flat slot_words l) h in
    rw (lt-ltb (word_at xs (k + 5)) 2 (flag_of xs k v q.0)) (words_flags xs (k + SLOT) l q.1)
