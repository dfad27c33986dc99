-- The walk over a resource list, one descriptor at a time.
use Rattle.std.proofs.Common.{◌≡◌, ℕ, zero, suc, ◌+◌, ◌<◌, ◌≤◌, List, [], ◌∷◌, length, get_or, drop, refl, ap, ◌∙◌, arith, drop_of_length-le, eq-eqb, ne_eqb, le-leb}
use borrow.Author.Tests.{lt-leb}
use Rattle.bars.specs.Resource.{Answer, no_answer, bad, length_in, memory_in, entry_of, walk}

-- a descriptor that is passed over leaves what lies behind it
walk_skip : (n : ℕ) (xs : List ℕ) → walk n xs ≡ walk 0 (drop n xs)
unfolding walk
walk_skip zero [] = refl
walk_skip (suc n) [] = refl
walk_skip zero (x ∷ xs) = refl
walk_skip (suc n) (x ∷ xs) = walk_skip n xs

walk_entry : (d : List ℕ) → 0 < length d → walk 0 d ≡ entry_of d (walk 0 (drop (3 + length_in d) d))
unfolding walk
walk_entry [] h = absurd (omega arith)
walk_entry (x ∷ xs) h = let n = length_in (x ∷ xs) in let e : suc (2 + n) ≡ 3 + n = omega arith in
    ap (λ (a : Answer). entry_of (x ∷ xs) a) (walk_skip (2 + n) xs ∙ ap (λ (k : ℕ). walk 0 (drop k (x ∷ xs))) e)

-- the list has run out
pub walk_out : (d : List ℕ) (n : ℕ) → length d ≤ n → walk 0 (drop n d) ≡ bad
unfolding walk
walk_out d n h = ap (walk 0) (drop_of_length-le d {i = n} h)

-- what the first bytes of a list say: another tag; a header that is cut; a memory descriptor; one that is passed over
pub walk_other : (d : List ℕ) → 0 < length d → (get_or d 0 0 ≡ 0x8a → ⊥) → walk 0 d ≡ no_answer
walk_other d h t = walk_entry d h ∙ simp (ne_eqb _ _ t)

pub walk_cut : (d : List ℕ) → 0 < length d → length d ≤ 3 → get_or d 0 0 ≡ 0x8a → walk 0 d ≡ bad
walk_cut d h l t = walk_entry d h ∙ simp (eq-eqb _ _ t, le-leb _ _ l)

pub walk_memory : (d : List ℕ) → 3 < length d → get_or d 0 0 ≡ 0x8a → get_or d 3 0 ≡ 0 → walk 0 d ≡ memory_in d
walk_memory d l t m = walk_entry d (omega arith) ∙ simp (eq-eqb _ _ t, lt-leb _ _ l, eq-eqb _ _ m)

pub walk_passed : (d : List ℕ) → 3 < length d → get_or d 0 0 ≡ 0x8a → (get_or d 3 0 ≡ 0 → ⊥) → walk 0 d ≡ walk 0 (drop (3 + length_in d) d)
walk_passed d l t m = walk_entry d (omega arith) ∙ simp (eq-eqb _ _ t, lt-leb _ _ l, ne_eqb _ _ m)
