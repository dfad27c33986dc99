-- The theorems about the comparisons that put tables in order.
use Prim.Native.Nat.{ℕ, zero, suc, ◌+◌, ◌-◌, ◌*◌, ◌≤◌, ◌<◌}
use mathlib.Core.Path.{◌≡◌, refl, ap, sym, ◌∙◌}
use mathlib.Core.List.{List, [], ◌∷◌}
use native.Mathlib.Nat.{mul-suc, suc-mul, suc-add, add-suc, add-zero, zero-add}
use native.Mathlib.Numerals.{sub-one}
use native.Mathlib.Omega.{arith}
use borrow.Author.Tests.{lt-ltb}
use lib.ListN.{length}
use Rattle.fields.specs.Outcome.{value}
use Rattle.layout.specs.declared.Table.{Table}
use Rattle.layout.specs.declared.Layout.{Layout}
use Rattle.layout.specs.Layout.{tables_from, spot_of, insert_at, compared_at, comparisons_into, comparisons_of, layout_of}
use Rattle.layout.specs.Inner.{All}
use Rattle.layout.proofs.Order.{all_map, all_insert}
use Rattle.layout.proofs.Sorting.{spot_here, spot_le, length_insert, compared_stop}
use Rattle.layout_laws.specs.Comparisons.{Falling, Growing, GoodComparisons, GoodEleven}
use Rattle.layout_laws.proofs.Rows.{all_both, all_lt, length_tables}
use Rattle.layout_laws.proofs.Good.{is_laid}

-- A table that passes none is compared with one, if any is there.
pub passes_none : (n : ℕ) → 0 < n → compared_at n n ≡ 1
passes_none n h = compared_stop n n h ∙ omega arith

-- one table among n: at most a comparison with each, and at least one where any is there
compared_most : (n k : ℕ) → k ≤ n → compared_at n k ≤ n
compared_most n zero l = omega arith
compared_most n (suc k) l = rw (compared_stop n (suc k) (omega arith)) (omega arith)

compared_least : (n k : ℕ) → 0 < n → 1 ≤ compared_at n k
compared_least n zero h = omega arith
compared_least n (suc k) h = rw (compared_stop n (suc k) (omega arith)) (omega arith)

-- 0 + 1 + .. + (n - 1), a comparison for each pair of n tables
unfoldable pairs : ℕ → ℕ
pairs zero = 0
pairs (suc n) = n + pairs n

pairs_twice : (n : ℕ) → pairs n * 2 ≡ n * (n - 1)
unfolding pairs
pairs_twice zero = refl
pairs_twice (suc zero) = refl
pairs_twice (suc (suc n)) =
    let h : pairs (suc n) * 2 ≡ suc n * n = simp sub-one at (pairs_twice (suc n)) in
    simp sub-one (omega (arith, h, suc-mul (suc n) (suc n), mul-suc (suc n) n))

-- a table more is placed
placed_one : (x : Table) (done : List Table) → length (insert_at (spot_of done x.bytes (length done)) x done) ≡ suc (length done)
placed_one x done = length_insert (spot_of done x.bytes (length done)) x done (spot_le done x.bytes (length done))

into_least : (done xs : List Table) → 0 < length done → length xs ≤ comparisons_into done xs
unfolding comparisons_into
into_least done [] h = omega arith
into_least done (x ∷ xs) h =
    let j = spot_of done x.bytes (length done) in
    omega (arith, compared_least (length done) j h, into_least (insert_at j x done) xs (omega (arith, placed_one x done)))

into_most : (done xs : List Table) → comparisons_into done xs + pairs (length done) ≤ pairs (length done + length xs)
unfolding comparisons_into pairs
into_most done [] = rw (add-zero (length done)) (omega arith)
into_most done (x ∷ xs) =
    let j = spot_of done x.bytes (length done) in
    let r = rw (placed_one x done, suc-add (length done) (length xs)) at (into_most (insert_at j x done) xs) in
    rw (add-suc (length done) (length xs)) (omega (arith, compared_most (length done) j (spot_le done x.bytes (length done)), r))

-- none of these is larger than one that is placed, or each is larger than all that are
abbrev Under : (done xs : List Table) → Type 0
Under done xs = All (λ y. All (λ t. y.bytes ≤ t.bytes) done) xs

abbrev Over : (done xs : List Table) → Type 0
Over done xs = All (λ y. All (λ t. t.bytes < y.bytes) done) xs

-- it stays so where x is placed, if it is so of x
module _ (R : Table → Table → Type 0) (j : ℕ) (x : Table) (done : List Table) where
  all_on : (xs : List Table) → All (λ y. All (R y) done) xs → All (λ y. R y x) xs → All (λ y. All (R y) (insert_at j x done)) xs
  all_on xs a b = all_map (λ y. All (R y) done × R y x) (λ y. All (R y) (insert_at j x done)) xs (λ y h. all_insert (R y) j x done h.1 h.0) (all_both (λ y. All (R y) done) (λ y. R y x) xs a b)

spot_last : (b : ℕ) (done : List Table) → All (λ t. b ≤ t.bytes) done → 0 < length done → spot_of done b (length done) ≡ length done
spot_last b done a h = spot_here done b (length done) h (all_lt (λ t. b ≤ t.bytes) done (length done - 1) (omega arith) a)

spot_first : (b n : ℕ) (done : List Table) → All (λ t. t.bytes < b) done → n ≤ length done → spot_of done b n ≡ 0
unfolding spot_of
spot_first b zero done a h = refl
spot_first b (suc n) done a h = rw (lt-ltb _ _ (all_lt (λ t. t.bytes < b) done n (omega arith) a)) (spot_first b n done a (omega arith))

into_falling : (done xs : List Table) → 0 < length done → Under done xs → Falling xs → comparisons_into done xs ≡ length xs
unfolding comparisons_into
into_falling done [] h u f = refl
into_falling done (x ∷ xs) h u f =
    let j = spot_of done x.bytes (length done) in
    let c : compared_at (length done) j ≡ 1 = ap (compared_at (length done)) (spot_last x.bytes done u.0 h) ∙ passes_none (length done) h in
    omega (arith, c, into_falling (insert_at j x done) xs (omega (arith, placed_one x done)) (all_on (λ y t. y.bytes ≤ t.bytes) j x done xs u.1 f.0) f.1)

into_growing : (done xs : List Table) → Over done xs → Growing xs → comparisons_into done xs + pairs (length done) ≡ pairs (length done + length xs)
unfolding comparisons_into pairs
into_growing done [] o g = rw (add-zero (length done)) (zero-add (pairs (length done)))
into_growing done (x ∷ xs) o g =
    let j = spot_of done x.bytes (length done) in
    let c : compared_at (length done) j ≡ length done = ap (compared_at (length done)) (spot_first x.bytes (length done) done o.0 (omega arith)) ∙ omega arith in
    let r = rw (placed_one x done, suc-add (length done) (length xs)) at (into_growing (insert_at j x done) xs (all_on (λ y t. t.bytes < y.bytes) j x done xs o.1 g.0) g.1) in
    rw (add-suc (length done) (length xs)) (omega (arith, c, r))

over_none : (xs : List Table) → Over [] xs
over_none [] = tt
over_none (x ∷ xs) = (tt, over_none xs)

-- the first table is compared with none
first_falling : (tables : List Table) → Falling tables → comparisons_of tables ≡ length tables - 1
unfolding comparisons_into spot_of
first_falling [] f = refl
first_falling (x ∷ xs) f =
    let u : Under (x ∷ []) xs = all_map (λ y. y.bytes ≤ x.bytes) (λ y. All (λ t. y.bytes ≤ t.bytes) (x ∷ [])) xs (λ y h. (h, tt)) f.0 in
    simp sub-one (zero-add (comparisons_into (x ∷ []) xs) ∙ into_falling (x ∷ []) xs (omega arith) u f.1)

first_least : (tables : List Table) → length tables - 1 ≤ comparisons_of tables
unfolding comparisons_into spot_of
first_least [] = omega arith
first_least (x ∷ xs) = simp sub-one (omega (arith, into_least (x ∷ []) xs (omega arith)))

-- The comparisons of any tables.
pub comparisons_good : (tables : List Table) → GoodComparisons tables (comparisons_of tables)
unfolding pairs
comparisons_good tables =
    let n = length tables in
    let twice = pairs_twice n in
    record {
      least = first_least tables;
      most = let h = rw (zero-add n) at (into_most [] tables) in omega (arith, h, twice);
      falling = first_falling tables;
      growing = λ g. let h = rw (zero-add n) at (into_growing [] tables (over_none tables) g) in omega (arith, h, twice);
    }

-- Those of an accepted layout of eleven tables; `profile_of` is one.
pub eleven_good : (counts entries : List ℕ) (most : ℕ) → length counts ≡ 11 → length entries ≡ 11 → (l : Layout) → layout_of counts entries most ≡ value l
    → GoodEleven counts entries l
eleven_good counts entries most m n l e =
    let made = tables_from 0 counts entries in
    let is : l.comparisons ≡ comparisons_of made = ap (λ (x : Layout). x.comparisons) (is_laid counts entries most l e).2 in
    let many : length made ≡ 11 = length_tables 0 counts entries (m ∙ sym n) ∙ m in
    let g = comparisons_good made in
    record {
      least = omega (arith, is, many, g.least);
      most = let h = rw many at g.most in omega (arith, is, h);
      falling = λ f. is ∙ g.falling f ∙ ap (λ (k : ℕ). k - 1) many;
      growing = λ f. let h = rw many at (g.growing f) in omega (arith, is, h);
    }
