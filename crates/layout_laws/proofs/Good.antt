-- The theorems about an accepted layout, for any counts.
use Prim.Native.Nat.{ℕ, zero, suc, zero-le, ◌+◌, ◌-◌, ◌*◌, ◌^◌, ◌≤◌, ◌<◌, max}
use mathlib.Core.Bool.{Bool, true, false}
use mathlib.Core.Path.{◌≡◌, refl, ap, sym, subst, ◌∙◌}
use mathlib.Core.List.{List, [], ◌∷◌}
use native.Mathlib.Nat.{add-mul, zero-mul, sub-add_cancel, max-eq_left, max-eq_right, le_of_suc-le-suc, suc-add, add-suc, add-zero, zero-add}
use native.Mathlib.Omega.{arith}
use borrow.Author.Tests.{leb-true, leb-false, ltb-false, le-ltb}
use lib.Dec.{ltb, leb}
use lib.ListN.{length, get_or}
use lib.Pow.{pow-lt, pow_mono, pow-add}
use Rattle.fields.specs.Outcome.{value, refused, pick}
use Rattle.fields.proofs.Outcomes.{past, same_value}
use Rattle.layout.specs.declared.Table.{Table}
use Rattle.layout.specs.declared.Layout.{Layout}
use Rattle.layout.specs.Layout.{pow2_of, is_pow2, first_bad, table_of, tables_from, sort_into, based, place_from, total_of, rows_of, table_in, lay_out, layout_of}
use Rattle.layout.specs.Inner.{All}
use Rattle.layout_laws.specs.Good.{Multiple, Ordered, Before, Tiles, GoodLayout}
use Rattle.layout.specs.Layout.{Pow}
use Rattle.layout.proofs.Powers.{raised, is_pow, pow_is}
use Rattle.layout.proofs.Order.{all_sort}
use Rattle.layout.proofs.Placing.{total_placed}
use Rattle.layout_laws.proofs.Rows.{before_le, tables_rising, sort_ordered, placed_ordered, placed_tiles, length_placed, length_sort, length_tables, find_sorted, find_placed, find_made}

pub by_order : (P : Type 0) (i j : ℕ) (b : Bool) → leb i j ≡ b → (i ≤ j → P) → (j < i → P) → P
by_order P i j true e f g = f (leb-true i j e)
by_order P i j false e f g = g (leb-false i j e)

-- the greater of two powers of two is a multiple of the lesser
pub pow_multiple : (m n : ℕ) → Pow m → Pow n → m ≤ n → Multiple m n
pow_multiple m n a b h =
    by_order (Multiple m n) a.0 b.0 (leb a.0 b.0) refl
    (λ l. (2 ^ (b.0 - a.0), b.1 ∙ ap (λ (k : ℕ). 2 ^ k) (sym (sub-add_cancel l)) ∙ pow-add 2 (b.0 - a.0) a.0 ∙ ap (λ (k : ℕ). 2 ^ (b.0 - a.0) * k) (sym a.1)))
    (λ l. let e = pow-lt l in let f : n < m = rw (a.1, b.1) e in absurd (omega arith))

pub add_multiple : (m n n' : ℕ) → Multiple m n → Multiple m n' → Multiple m (n + n')
add_multiple m n n' a b = (a.0 + b.0, rw (a.1, b.1) (sym (add-mul a.0 b.0 m)))

-- in order, each base is a multiple of its bytes where the first is
multiples : (at : ℕ) (xs : List Table) → Ordered xs → All (λ t. Pow t.bytes) xs → All (λ t. Multiple t.bytes at) xs → All (λ t. Multiple t.bytes t.base) (place_from at xs)
unfolding place_from
multiples at [] s p d = tt
multiples at (x ∷ xs) s p d =
    (d.0, multiples (at + x.bytes) xs s.1 p.1 (further xs s.0 p.1 d.1))
  where
    further : (ys : List Table) → All (Before x) ys → All (λ t. Pow t.bytes) ys → All (λ t. Multiple t.bytes at) ys → All (λ t. Multiple t.bytes (at + x.bytes)) ys
    further [] a b c = tt
    further (y ∷ ys) a b c =
        (add_multiple y.bytes at x.bytes c.0 (pow_multiple y.bytes x.bytes b.0 p.0 (before_le x y a.0)), further ys a.1 b.1 c.1)

all_zero : (xs : List Table) → All (λ t. Multiple t.bytes 0) xs
all_zero [] = tt
all_zero (x ∷ xs) = ((0, sym (zero-mul x.bytes)), all_zero xs)

-- the bytes of a table with a power of two for its entry
mul_pow : (m n : ℕ) → Pow m → Pow n → Pow (m * n)
mul_pow m n a b = (a.0 + b.0, rw (a.1, b.1) (sym (pow-add 2 a.0 b.0)))

max_pow : (m n : ℕ) → Pow m → Pow n → Pow (max m n)
max_pow m n a b =
    by_order (Pow (max m n)) m n (leb m n) refl (λ l. subst Pow (sym (max-eq_right l)) b) (λ l. subst Pow (sym (max-eq_left (omega arith))) a)

pub bytes_pow : (i count entry : ℕ) → count ≤ 2 ^ 63 → Pow entry → Pow (table_of i count entry).bytes
bytes_pow i count entry h p = max_pow (pow2_of count * entry) 4096 (mul_pow (pow2_of count) entry (raised count h).power p) (12, refl)

pub pow_pos_of : (n : ℕ) → Pow n → 0 < n
pow_pos_of n q = rw q.1 (pow_mono {i = 0} {j = q.0} zero-le)

-- what layouts are asked: counts of at most 63 bits, and as many of them as entries
pub record Sized (counts entries : List ℕ) : Type 0 where
  pub same : length counts ≡ length entries
  pub count : (i : ℕ) → get_or counts i 0 ≤ 2 ^ 63
  pub entry : (i : ℕ) → get_or entries i 0 ≤ 2 ^ 63

tables_pow : (n : ℕ) (counts entries : List ℕ) → ((i : ℕ) → get_or counts i 0 ≤ 2 ^ 63) → ((i : ℕ) → i < length entries → Pow (get_or entries i 0))
    → All (λ t. Pow t.bytes) (tables_from n counts entries)
unfolding tables_from
tables_pow n [] es c e = tt
tables_pow n (x ∷ cs) [] c e = tt
tables_pow n (x ∷ cs) (y ∷ es) c e = (bytes_pow n x y (c 0) (e 0 (omega arith)), tables_pow (suc n) cs es (λ i. c (suc i)) (λ i h. e (suc i) (omega arith)))

-- Every layout whose entries are powers of two is good.
pub good : (counts entries : List ℕ) → Sized counts entries → ((i : ℕ) → i < length entries → Pow (get_or entries i 0)) → GoodLayout counts entries (lay_out counts entries)
good counts entries s p =
    let made = tables_from 0 counts entries in
    let sorted = sort_into [] made in
    let o = sort_ordered [] 0 made tt tt (tables_rising 0 counts entries) in
    let w = all_sort (λ t. Pow t.bytes) [] made tt (tables_pow 0 counts entries s.count p) in
    record {
      tiles = subst (λ (n : ℕ). Tiles 0 n (place_from 0 sorted)) (zero-add (total_of sorted) ∙ sym (total_placed 0 sorted)) (placed_tiles 0 sorted);
      multiples = multiples 0 sorted o w (all_zero sorted);
      ordered = placed_ordered 0 sorted o;
      many = length_placed 0 sorted ∙ length_sort [] made ∙ zero-add (length made) ∙ length_tables 0 counts entries s.same;
      there = λ i h.
          find_placed i 0 sorted
          ∙ ap (λ (t : Table). based t 0) (find_sorted i [] 0 made tt (tables_rising 0 counts entries))
          ∙ ap (λ (t : Table). based t 0)
          (ap (λ (k : ℕ). table_in k made) (sym (zero-add i)) ∙ find_made 0 i counts entries h (omega (arith, s.same)) ∙ ap (λ (k : ℕ). table_of k (get_or counts i 0) (get_or entries i 0)) (zero-add i));
    }

-- the lowest bad index: none before it is bad
bad_pick : (P : ℕ → Type 0) (b : Bool) (m n : ℕ) → (b ≡ true → P m) → (b ≡ false → P n) → P (pick b m n)
bad_pick P true m n f g = f refl
bad_pick P false m n f g = g refl

bad_from : (n : ℕ) (es : List ℕ) → n ≤ first_bad n es
unfolding first_bad
bad_from n [] = omega arith
bad_from n (e ∷ es) = bad_pick (λ k. n ≤ k) (is_pow2 e) (first_bad (suc n) es) n (λ _. omega (arith, bad_from (suc n) es)) (λ _. omega arith)

none_bad : (n : ℕ) (es : List ℕ) → n + length es ≤ first_bad n es → (i : ℕ) → i < length es → is_pow2 (get_or es i 0) ≡ true
unfolding first_bad
none_bad n [] h i l = absurd (omega arith)
none_bad n (e ∷ es) h zero l =
    bad_pick (λ k. n + length (e ∷ es) ≤ k → is_pow2 e ≡ true) (is_pow2 e) (first_bad (suc n) es) n (λ q _. q) (λ q k. absurd (omega arith)) h
none_bad n (e ∷ es) h (suc i) l =
    bad_pick (λ k. n + length (e ∷ es) ≤ k → is_pow2 (get_or es i 0) ≡ true) (is_pow2 e) (first_bad (suc n) es) n
    (λ q k. none_bad (suc n) es (omega arith) i (le_of_suc-le-suc l)) (λ q k. absurd (omega arith)) h

all_good : (n : ℕ) (es : List ℕ) → ((i : ℕ) → i < length es → is_pow2 (get_or es i 0) ≡ true) → first_bad n es ≡ n + length es
unfolding first_bad
all_good n [] f = sym (add-zero n)
all_good n (e ∷ es) f = rw (f 0 (omega arith)) (all_good (suc n) es (λ i l. f (suc i) (omega arith)) ∙ suc-add n (length es) ∙ sym (add-suc n (length es)))

-- "Accepted exactly when all entries are powers of two and the total is at most max_icm": both ways.
pow_test : (x : ℕ) → x ≤ 2 ^ 63 → Pow x → is_pow2 x ≡ true
pow_test x h p =
    by_order (is_pow2 x ≡ true) p.0 63 (leb p.0 63) refl (λ l. pow_is x p.0 l p.1) (λ l. let f : 2 ^ 63 < x = rw p.1 (pow-lt l) in absurd (omega arith))

-- an accepted layout is the one defined, past both tests
pub is_laid : (counts entries : List ℕ) (most : ℕ) (l : Layout) → layout_of counts entries most ≡ value l
    → (length entries ≤ first_bad 0 entries) × (total_of (rows_of counts entries) ≤ most) × (l ≡ lay_out counts entries)
is_laid counts entries most l e =
    let bad = first_bad 0 entries in
    let total = total_of (rows_of counts entries) in
    let fits = pick (ltb most total) (refused 17 (total ∷ [])) (value (lay_out counts entries)) in
    let p = past (ltb bad (length entries)) 16 (bad ∷ []) fits l e in
    let q = past (ltb most total) 17 (total ∷ []) (value (lay_out counts entries)) l p.1 in
    (ltb-false bad (length entries) p.0, ltb-false most total q.0, sym (same_value q.1))

module _ (counts entries : List ℕ) (most : ℕ) (entry : (i : ℕ) → get_or entries i 0 ≤ 2 ^ 63) where
  pub accepted : (l : Layout) → layout_of counts entries most ≡ value l
      → ((i : ℕ) → i < length entries → Pow (get_or entries i 0)) × (total_of (rows_of counts entries) ≤ most) × (l ≡ lay_out counts entries)
  accepted l e =
      let p = is_laid counts entries most l e in
      let n : 0 + length entries ≤ first_bad 0 entries = rw (zero-add (length entries)) p.0 in
      (λ i h. is_pow (get_or entries i 0) (entry i) (none_bad 0 entries n i h), p.1, p.2)

  pub accepts : ((i : ℕ) → i < length entries → Pow (get_or entries i 0)) → total_of (rows_of counts entries) ≤ most → layout_of counts entries most ≡ value (lay_out counts entries)
  accepts f h =
      let e = all_good 0 entries (λ i l. pow_test (get_or entries i 0) (entry i) (f i l)) ∙ zero-add (length entries) in
      let b : ltb (first_bad 0 entries) (length entries) ≡ false = le-ltb (first_bad 0 entries) (length entries) (omega (arith, e)) in
      rw (b, le-ltb most (total_of (rows_of counts entries)) h)

-- An accepted layout is good.
pub layout_good : (counts entries : List ℕ) (most : ℕ) → Sized counts entries → (l : Layout) → layout_of counts entries most ≡ value l → GoodLayout counts entries l
layout_good counts entries most s l e =
    let a = accepted counts entries most s.entry l e in subst (GoodLayout counts entries) (sym a.2) (good counts entries s a.0)
