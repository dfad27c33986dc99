-- Laws of resource lists: what is looked at, what is passed over, and where document 01's rule still holds.
use Rattle.std.proofs.Common.{◌≡◌, ℕ, zero, suc, ◌+◌, ◌^◌, ◌<◌, ◌≤◌, Bool, true, false, not, ◌&&◌, eqb, leb, List, [], ◌∷◌, ◌++◌, length, get_or, drop, sym, refl, ap, ◌∙◌, add-zero, mod-eq_of_lt, arith, length-append, drop_at, eq-eqb, le-leb, leb-false, leb-true}
use mathlib.Core.Option.{Option, some}
use borrow.Author.Tests.{lt-leb}
use lib.ListN.{get_or-append}
use Rattle.fields.specs.Outcome.{value, pick}
use Rattle.fields.specs.Fields.{number_at}
use Rattle.fields.specs.declared.Order.TheVariants.{Little}
use Rattle.fields.proofs.Laws.{Bytes, number_same, number_lt}
use Rattle.bars.specs.Resource.{Answer, no_answer, bad, length_in, range_in, memory_in, entry_of, walk, resource_at, first_rule, Leads}
use Rattle.bars.proofs.Walk.{walk_memory, walk_passed}

-- 27 is no answer and no range
refused_differs : {x : Option (ℕ × ℕ)} → bad ≡ value x → ⊥
refused_differs e = let z : ◌≡◌ {A = ℕ} 0 1 = cc in omega arith

-- a field of a descriptor is the same whatever follows the bytes
number_append : (d more : List ℕ) (off w : ℕ) → off + w ≤ length d → number_at Little (d ++ more) off w ≡ number_at Little d off w
number_append d more off w h = number_same Little (d ++ more) d off w (λ k l m. get_or-append d more 0 k (omega arith))

module _ (d more : List ℕ) (x : Option (ℕ × ℕ)) where
  -- a memory descriptor that gives the BAR
  memory_more : (long whole : Bool) → leb 43 (length_in d) ≡ long → leb (3 + length_in d) (length d) ≡ whole → 3 < length d
      → pick (long && whole) (value (some (range_in d))) bad ≡ value x → memory_in (d ++ more) ≡ value x
  memory_more true true e f h g =
      let n : length_in (d ++ more) ≡ length_in d = number_append d more 1 2 (omega arith) in
      let a : 43 ≤ length_in d = leb-true _ _ e in
      let b : 3 + length_in d ≤ length d = leb-true _ _ f in
      let l = length-append d more in
      simp (
        n,
        le-leb 43 (length_in d) a,
        le-leb (3 + length_in d) (length (d ++ more)) (omega arith),
        number_append d more 14 8 (omega arith),
        number_append d more 30 8 (omega arith),
        number_append d more 38 8 (omega arith),
      ) g
  memory_more true false e f h g = absurd (refused_differs g)
  memory_more false whole e f h g = absurd (refused_differs g)

  -- what stands first comes to the same, if those behind it do
  entry_more : (tag cut memory : Bool) → eqb (get_or d 0 0) 0x8a ≡ tag → leb (length d) 3 ≡ cut → eqb (get_or d 3 0) 0 ≡ memory → 0 < length d
      → (on on' : Answer) → (3 < length d → on ≡ value x → on' ≡ value x)
      → pick (not tag) no_answer (pick cut bad (pick memory (memory_in d) on)) ≡ value x → entry_of (d ++ more) on' ≡ value x
  entry_more false cut memory e f g h on on' k t = simp (get_or-append d more 0 0 h, e) t
  entry_more true true memory e f g h on on' k t = absurd (refused_differs t)
  entry_more true false true e f g h on on' k t =
      let l : 3 < length d = leb-false _ _ f in
      let n = length-append d more in
      simp (get_or-append d more 0 0 h, e, lt-leb (length (d ++ more)) 3 (omega arith), get_or-append d more 0 3 l, g)
      (memory_more (leb 43 (length_in d)) (leb (3 + length_in d) (length d)) refl refl l t)
  entry_more true false false e f g h on on' k t =
      let l : 3 < length d = leb-false _ _ f in
      let n = length-append d more in
      simp (get_or-append d more 0 0 h, e, lt-leb (length (d ++ more)) 3 (omega arith), get_or-append d more 0 3 l, g) (k l t)

walk_more : (n : ℕ) (a more : List ℕ) (x : Option (ℕ × ℕ)) → walk n a ≡ value x → walk n (a ++ more) ≡ value x
unfolding walk
walk_more zero [] more x e = absurd (refused_differs e)
walk_more (suc n) [] more x e = absurd (refused_differs e)
walk_more (suc n) (y ∷ ys) more x e = walk_more n ys more x e
walk_more zero (y ∷ ys) more x e =
    entry_more (y ∷ ys) more x (eqb y 0x8a) (leb (length (y ∷ ys)) 3) (eqb (get_or (y ∷ ys) 3 0) 0) refl refl refl (omega arith)
    (walk (2 + length_in (y ∷ ys)) ys) (walk (2 + length_in (y ∷ ys ++ more)) (ys ++ more))
    (λ l t. ap (λ (m : ℕ). walk (2 + m) (ys ++ more)) (number_append (y ∷ ys) more 1 2 (omega arith)) ∙ walk_more (2 + length_in (y ∷ ys)) ys more x t) e

-- No byte behind the descriptor that answers is looked at: where bytes come to an answer, they do so whatever follows.
pub no_byte_behind : (a more : List ℕ) (x : Option (ℕ × ℕ)) → resource_at a ≡ value x → resource_at (a ++ more) ≡ value x
no_byte_behind a more x e = walk_more 0 a more x e

-- Passing over a descriptor is the walk of the rest.
pub passes_over : (d rest : List ℕ) → 3 < length d → length d ≡ 3 + length_in d → get_or d 0 0 ≡ 0x8a → (get_or d 3 0 ≡ 0 → ⊥) → resource_at (d ++ rest) ≡ resource_at rest
passes_over d rest l n t m =
    let k = length-append d rest in
    walk_passed (d ++ rest) (omega arith) (get_or-append d rest 0 0 (omega arith) ∙ t) (λ e. m (sym (get_or-append d rest 0 3 l) ∙ e))
    ∙ ap (λ (j : ℕ). walk 0 (drop (3 + j) (d ++ rest))) (number_append d rest 1 2 (omega arith))
    ∙ ap (walk 0) (drop_at d rest (3 + length_in d) n)

-- A whole memory descriptor gives the BAR, whatever follows it.
pub first_memory : (s : List ℕ) → 43 ≤ length_in s → 3 + length_in s ≤ length s → get_or s 0 0 ≡ 0x8a → get_or s 3 0 ≡ 0 → resource_at s ≡ value (some (range_in s))
first_memory s long whole t m =
    walk_memory s (omega arith) t m ∙ simp (le-leb 43 (length_in s) long, le-leb (3 + length_in s) (length s) whole)

-- Where document 01's rule reads the first descriptor alike, it gives the same: with an end tag behind it, or with nothing.
pub as_first_rule : (s : List ℕ) → Bytes s → Leads s → resource_at s ≡ value (first_rule s)
as_first_rule s b h =
    let n : 46 ≤ length s = omega (arith, h.long, h.whole) in
    let low : number_at Little s 14 8 < 2 ^ 64 = number_lt Little s 14 8 b in
    first_memory s h.long h.whole h.tag h.memory
    ∙ simp (le-leb 46 (length s) n, eq-eqb _ _ h.tag, h.unmoved, add-zero, mod-eq_of_lt low)
