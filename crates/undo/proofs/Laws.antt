-- Laws of the undo list: what a call takes of it, a turn and the end of the search, and where a pushed record has its place.
use Prim.Native.Nat.{ℕ, suc, ◌+◌, ◌-◌, ◌<◌, ◌≤◌, min}
use mathlib.Core.Path.{◌≡◌, refl, ap, sym, ◌∙◌}
use mathlib.Core.Bool.{Bool, true, false, ◌||◌, true≢false}
use mathlib.Core.List.{List, []}
use mathlib.Core.Option as o
use native.Mathlib.Omega.{arith}
use lib.Dec.{ltb, eqb, eqb-suc-zero}
use lib.ListN.{length, get_or}
use borrow.Author.Tests.{ltb-false, eqb-false, le-ltb}
use Rattle.fields.specs.Outcome.{Outcome, value, refused, pick}
use Rattle.hcr.specs.Words.{is_reserved}
use Rattle.session.specs.declared.Top.{Top}
use Rattle.undo.specs.List.{none, pop_of, top_at, top_by, top_of, stored, push_of}
use Rattle.undo.specs.declared.Undo.{Undo}

-- WHAT A CALL TAKES is what it takes of a pop
pub top_is : (l : List Undo) (k : ℕ) → top_by k (pop_of l k) ≡ top_of l k
unfolding top_of
top_is l k = refl

-- what is so of a list that is none, of an empty one and of a record below the count is so of what a call takes
pub top_cases : (P : Top → Type 0) (l : List Undo) (k : ℕ) → P (top_at 257 none) → P (top_at 0 none) → P (top_at k (get_or l (k - 1) none)) → P (top_of l k)
unfolding top_of
top_cases P l k short empty newest = by (ltb (length l) k || ltb 256 k) (eqb k 0) _
  where
    by : (b d : Bool) (left : ℕ) → P (top_by k (pick b (refused 21 []) (pick d (value o.none) (value (o.some (get_or l (k - 1) none, left))))))
    by true d n = short
    by false true n = empty
    by false false n = newest

pub top_suc : (l : List Undo) (n : ℕ) → n < length l → n < 256 → top_of l (suc n) ≡ top_at (suc n) (get_or l n none)
unfolding top_of
top_suc l n h few =
    let e : suc n - 1 ≡ n = omega arith in
    let there : top_of l (suc n) ≡ top_at (suc n) (get_or l (suc n - 1) none) =
    simp (le-ltb (length l) (suc n) (omega arith), le-ltb 256 (suc n) (omega arith), eqb-suc-zero n) in
    there ∙ ap (λ (i : ℕ). top_at (suc n) (get_or l i none)) e

-- A PUSH: a record that is stored has a place below the length
not_first : (b : Bool) (x y : Outcome ℕ) → stored x ≡ false → stored (pick b x y) ≡ true → (b ≡ false) × (stored y ≡ true)
not_first true x y e h = absurd (true≢false (sym h ∙ e))
not_first false x y e h = (refl, h)

neither : (a b : Bool) → (a || b) ≡ false → (a ≡ false) × (b ≡ false)
neither true b e = absurd (true≢false e)
neither false b e = (refl, e)

pub stored_below : (n k op : ℕ) → stored (push_of n k op) ≡ true → k < n
unfolding push_of
stored_below n k op h =
    let s₁ = not_first (ltb 256 k || ltb n (min (k + 1) 256)) (refused 21 []) _ refl h in
    let s₂ = not_first (is_reserved op) (refused 22 []) _ refl s₁.1 in
    let s₃ = not_first (eqb k 256) (refused 19 []) (value (k + 1)) refl s₂.1 in
    let both = neither (ltb 256 k) (ltb n (min (k + 1) 256)) s₁.0 in
    let few : k ≤ 256 = ltb-false 256 k both.0 in
    let place : min (k + 1) 256 ≤ n = ltb-false n (min (k + 1) 256) both.1 in
    let more = eqb-false k 256 s₃.0 in
    omega (arith, few, place, more)
