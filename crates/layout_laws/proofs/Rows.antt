-- The order of the tables: what the sort gives, and what placing keeps.
use Prim.Native.Nat.{ℕ, zero, suc, ◌+◌, ◌-◌, ◌≤◌, ◌<◌}
use mathlib.Core.Bool.{Bool, true, false}
use mathlib.Core.Logic.{inl, inr}
use mathlib.Core.Path.{◌≡◌, refl, ap, sym, ◌∙◌}
use mathlib.Core.List.{List, [], ◌∷◌, ◌++◌, append_assoc, append-nil}
use native.Mathlib.Omega.{arith}
use native.Mathlib.Nat.{le_of_suc-le-suc, le_trans, add-zero, add-suc, suc-add, add_assoc, zero-add, suc_inj}
use native.Mathlib.Numerals.{sub-one}
use borrow.Author.Tests.{ltb-true, ltb-false, eq-eqb, ne_eqb, eqb-true, eqb-false}
use lib.Arith.{lt_of_le-ne}
use lib.Dec.{ltb, eqb}
use lib.ListN.{length, get_or, take, drop, take-append-drop, length-drop}
use lib.Seq.{get_or-drop, get_or-take, length-take-le}
use Rattle.fields.specs.Outcome.{pick}
use Rattle.layout.specs.declared.Table.{Table}
use Rattle.layout.specs.Layout.{no_table, table_of, tables_from, spot_of, insert_at, sort_into, based, place_from, total_of, table_in}
use Rattle.layout.specs.Inner.{All}
use Rattle.layout_laws.specs.Good.{Before, Ordered, Tiles}
use Rattle.layout.proofs.Order.{all_map, all_take, all_drop, all_append, all_insert}
use Rattle.layout.proofs.Sorting.{spot_le, length_insert}

-- to go by whether two numbers are equal
by_eq_at : (P : Type 0) (m n : ℕ) (b : Bool) → eqb m n ≡ b → (m ≡ n → P) → ((m ≡ n → ⊥) → P) → P
by_eq_at P m n true e f g = f (eqb-true m n e)
by_eq_at P m n false e f g = g (eqb-false m n e)

pub by_eq : (P : Type 0) (m n : ℕ) → (m ≡ n → P) → ((m ≡ n → ⊥) → P) → P
by_eq P m n f g = by_eq_at P m n (eqb m n) refl f g

-- what stands before bears at least as many bytes
pub before_le : (x y : Table) → Before x y → y.bytes ≤ x.bytes
before_le x y (inl h) = omega arith
before_le x y (inr h) = omega (arith, h.0)

pub all_get_d : (P : Table → Type 0) (xs : List Table) → ((k : ℕ) → k < length xs → P (get_or xs k no_table)) → All P xs
all_get_d P [] f = tt
all_get_d P (x ∷ xs) f = (f 0 (omega arith), all_get_d P xs (λ k h. f (suc k) (omega arith)))

pub all_lt : (P : Table → Type 0) (xs : List Table) (k : ℕ) → k < length xs → All P xs → P (get_or xs k no_table)
all_lt P [] k h a = absurd (omega arith)
all_lt P (x ∷ xs) zero h a = a.0
all_lt P (x ∷ xs) (suc k) h a = all_lt P xs k (le_of_suc-le-suc h) a.1

-- where the place of a table of b bytes is found: all behind it have fewer, and the one before it has not
spot_pick : (P : ℕ → Type 0) (b : Bool) (m n : ℕ) → (b ≡ true → P m) → (b ≡ false → P n) → P (pick b m n)
spot_pick P true m n f g = f refl
spot_pick P false m n f g = g refl

spot_after : (t : List Table) (b n k : ℕ) → spot_of t b n ≤ k → k < n → (get_or t k no_table).bytes < b
unfolding spot_of
spot_after t b zero k h l = absurd (omega arith)
spot_after t b (suc n) k h l =
    spot_pick (λ s. s ≤ k → (get_or t k no_table).bytes < b) (ltb (get_or t n no_table).bytes b) (spot_of t b n) (suc n)
    (λ e s. by_eq ((get_or t k no_table).bytes < b) k n (λ q. rw q (ltb-true _ _ e)) (λ q. spot_after t b n k s (lt_of_le-ne (le_of_suc-le-suc l) q)))
    (λ e s. absurd (omega arith))
    h

spot_before : (t : List Table) (b n : ℕ) → 0 < spot_of t b n → b ≤ (get_or t (spot_of t b n - 1) no_table).bytes
unfolding spot_of
spot_before t b zero h = absurd (omega arith)
spot_before t b (suc n) h =
    spot_pick (λ s. 0 < s → b ≤ (get_or t (s - 1) no_table).bytes) (ltb (get_or t n no_table).bytes b) (spot_of t b n) (suc n)
    (λ e l. spot_before t b n l)
    (λ e l. simp sub-one (ltb-false _ _ e))
    h

ordered_bytes : (xs : List Table) → Ordered xs → (i j : ℕ) → i ≤ j → j < length xs → (get_or xs j no_table).bytes ≤ (get_or xs i no_table).bytes
ordered_bytes [] o i j h l = absurd (omega arith)
ordered_bytes (x ∷ xs) o zero zero h l = omega arith
ordered_bytes (x ∷ xs) o zero (suc j) h l = before_le x (get_or xs j no_table) (all_lt (Before x) xs j (le_of_suc-le-suc l) o.0)
ordered_bytes (x ∷ xs) o (suc i) zero h l = absurd (omega arith)
ordered_bytes (x ∷ xs) o (suc i) (suc j) h l = ordered_bytes xs o.1 i j (le_of_suc-le-suc h) (le_of_suc-le-suc l)

ordered_take : (j : ℕ) (xs : List Table) → Ordered xs → Ordered (take j xs)
ordered_take zero xs o = tt
ordered_take (suc j) [] o = tt
ordered_take (suc j) (x ∷ xs) o = (all_take (Before x) j xs o.0, ordered_take j xs o.1)

ordered_drop : (j : ℕ) (xs : List Table) → Ordered xs → Ordered (drop j xs)
ordered_drop zero xs o = o
ordered_drop (suc j) [] o = tt
ordered_drop (suc j) (x ∷ xs) o = ordered_drop j xs o.1

ordered_across : (j : ℕ) (xs : List Table) → Ordered xs → All (λ y. All (Before y) (drop j xs)) (take j xs)
ordered_across zero xs o = tt
ordered_across (suc j) [] o = tt
ordered_across (suc j) (x ∷ xs) o = (all_drop (Before x) j xs o.0, ordered_across j xs o.1)

ordered_append : (xs ys : List Table) → Ordered xs → Ordered ys → All (λ y. All (Before y) ys) xs → Ordered (xs ++ ys)
ordered_append [] ys o p a = p
ordered_append (x ∷ xs) ys o p a = (all_append (Before x) xs ys o.0 a.0, ordered_append xs ys o.1 p a.1)

pub all_both : (P Q : Table → Type 0) (xs : List Table) → All P xs → All Q xs → All (λ t. P t × Q t) xs
all_both P Q [] a b = tt
all_both P Q (x ∷ xs) a b = ((a.0, b.0), all_both P Q xs a.1 b.1)

-- one with at least the bytes of x and a lower index goes before it
goes_before : (x y : Table) → x.bytes ≤ y.bytes → y.index < x.index → Before y x
goes_before x y h l = by_eq (Before y x) x.bytes y.bytes (λ e. inr (e, l)) (λ n. inl (lt_of_le-ne h n))

ordered_insert : (x : Table) (done : List Table) → Ordered done → All (λ t. t.index < x.index) done → Ordered (insert_at (spot_of done x.bytes (length done)) x done)
ordered_insert x done o lower =
    let n = length done in
    let j = spot_of done x.bytes n in
    let le : j ≤ n = spot_le done x.bytes n in
    let behind : All (Before x) (drop j done) =
    all_get_d (Before x) (drop j done) (λ k h. inl (rw (get_or-drop j done k no_table) (spot_after done x.bytes n (j + k) (omega arith) (omega (arith, length-drop j done))))) in
    let front : All (λ y. x.bytes ≤ y.bytes) (take j done) =
    all_get_d (λ y. x.bytes ≤ y.bytes) (take j done)
    (λ k h. let l : k < j = omega (arith, length-take-le j done le) in
    rw (get_or-take j done k no_table l)
    (le_trans (spot_before done x.bytes n (omega arith)) (ordered_bytes done o k (j - 1) (omega arith) (omega arith)))) in
    let before : All (λ y. Before y x) (take j done) =
    all_map (λ y. (x.bytes ≤ y.bytes) × (y.index < x.index)) (λ y. Before y x) (take j done) (λ y h. goes_before x y h.0 h.1)
    (all_both (λ y. x.bytes ≤ y.bytes) (λ y. y.index < x.index) (take j done) front (all_take (λ y. y.index < x.index) j done lower)) in
    ordered_append (take j done) (x ∷ drop j done) (ordered_take j done o) (behind, ordered_drop j done o)
    (all_both (λ y. Before y x) (λ y. All (Before y) (drop j done)) (take j done) before (ordered_across j done o))

-- tables whose indices rise by one from n on
abbrev pub Rising : ℕ → List Table → Type 0
Rising n [] = Unit {0}
Rising n (x ∷ xs) = (x.index ≡ n) × Rising (suc n) xs

pub tables_rising : (n : ℕ) (counts entries : List ℕ) → Rising n (tables_from n counts entries)
unfolding tables_from
tables_rising n [] es = tt
tables_rising n (c ∷ cs) [] = tt
tables_rising n (c ∷ cs) (e ∷ es) = (refl, tables_rising (suc n) cs es)

pub sort_ordered : (done : List Table) (n : ℕ) (xs : List Table) → Ordered done → All (λ t. t.index < n) done → Rising n xs → Ordered (sort_into done xs)
unfolding sort_into
sort_ordered done n [] o a r = o
sort_ordered done n (x ∷ xs) o a r =
    let j = spot_of done x.bytes (length done) in
    sort_ordered (insert_at j x done) (suc n) xs (ordered_insert x done o (all_map (λ t. t.index < n) (λ t. t.index < x.index) done (λ t h. omega (arith, r.0)) a))
    (all_insert (λ t. t.index < suc n) j x done (omega (arith, r.0)) (all_map (λ t. t.index < n) (λ t. t.index < suc n) done (λ t h. omega arith) a)) r.1

-- placing changes neither bytes nor index, so the order stays
placed_before : (x : Table) (at : ℕ) (xs : List Table) → All (Before x) xs → All (Before x) (place_from at xs)
unfolding place_from
placed_before x at [] a = tt
placed_before x at (y ∷ ys) a = (a.0, placed_before x (at + y.bytes) ys a.1)

placed_as : (x : Table) (at : ℕ) (xs : List Table) → All (Before x) xs → All (Before (based x at)) xs
placed_as x at [] a = tt
placed_as x at (y ∷ ys) a = (a.0, placed_as x at ys a.1)

pub placed_ordered : (at : ℕ) (xs : List Table) → Ordered xs → Ordered (place_from at xs)
unfolding place_from
placed_ordered at [] o = tt
placed_ordered at (x ∷ xs) o = (placed_before (based x at) (at + x.bytes) xs (placed_as x at xs o.0), placed_ordered (at + x.bytes) xs o.1)

-- placed from `at` on, the tables tile what follows
pub placed_tiles : (at : ℕ) (xs : List Table) → Tiles at (at + total_of xs) (place_from at xs)
unfolding place_from total_of
placed_tiles at [] = sym (add-zero at)
placed_tiles at (x ∷ xs) = (refl, rw (← (add_assoc at x.bytes (total_of xs))) (placed_tiles (at + x.bytes) xs))

pub length_placed : (at : ℕ) (xs : List Table) → length (place_from at xs) ≡ length xs
unfolding place_from
length_placed at [] = refl
length_placed at (x ∷ xs) = ap suc (length_placed (at + x.bytes) xs)

pub length_sort : (done xs : List Table) → length (sort_into done xs) ≡ length done + length xs
unfolding sort_into
length_sort done [] = sym (add-zero (length done))
length_sort done (x ∷ xs) =
    let j = spot_of done x.bytes (length done) in
    length_sort (insert_at j x done) xs
    ∙ ap (λ (n : ℕ). n + length xs) (length_insert j x done (spot_le done x.bytes (length done)))
    ∙ suc-add (length done) (length xs)
    ∙ sym (add-suc (length done) (length xs))

pub length_tables : (n : ℕ) (counts entries : List ℕ) → length counts ≡ length entries → length (tables_from n counts entries) ≡ length counts
unfolding tables_from
length_tables n [] es h = refl
length_tables n (c ∷ cs) [] h = absurd (omega arith)
length_tables n (c ∷ cs) (e ∷ es) h = ap suc (length_tables (suc n) cs es (suc_inj h))

-- The table of an index is there, whatever the order.
pub find_same : (i : ℕ) (x : Table) (xs : List Table) → x.index ≡ i → table_in i (x ∷ xs) ≡ x
unfolding table_in
find_same i x xs e = rw (eq-eqb _ _ e)

pub find_other : (i : ℕ) (x : Table) (xs : List Table) → (x.index ≡ i → ⊥) → table_in i (x ∷ xs) ≡ table_in i xs
unfolding table_in
find_other i x xs e = rw (ne_eqb _ _ e)

find_past : (i : ℕ) (xs ys : List Table) → All (λ t. t.index ≡ i → ⊥) xs → table_in i (xs ++ ys) ≡ table_in i ys
find_past i [] ys a = refl
find_past i (x ∷ xs) ys a = find_other i x (xs ++ ys) a.0 ∙ find_past i xs ys a.1

find_skip : (i : ℕ) (x : Table) (xs ys : List Table) → (x.index ≡ i → ⊥) → table_in i (xs ++ (x ∷ ys)) ≡ table_in i (xs ++ ys)
find_skip i x [] ys e = find_other i x ys e
find_skip i x (y ∷ xs) ys e =
    by_eq (table_in i (y ∷ xs ++ (x ∷ ys)) ≡ table_in i (y ∷ xs ++ ys)) y.index i
    (λ q. find_same i y (xs ++ (x ∷ ys)) q ∙ sym (find_same i y (xs ++ ys) q))
    (λ q. find_other i y (xs ++ (x ∷ ys)) q ∙ find_skip i x xs ys e ∙ sym (find_other i y (xs ++ ys) q))

inserted_is : (j : ℕ) (x : Table) (done xs : List Table) → insert_at j x done ++ xs ≡ take j done ++ (x ∷ (drop j done ++ xs))
inserted_is j x done xs = append_assoc (take j done) (x ∷ drop j done) xs

find_inserted : (i j : ℕ) (x : Table) (done xs : List Table) → All (λ t. t.index < x.index) done → table_in i (insert_at j x done ++ xs) ≡ table_in i (done ++ (x ∷ xs))
find_inserted i j x done xs lower =
    ap (table_in i) (inserted_is j x done xs)
    ∙ by_eq (table_in i (take j done ++ (x ∷ (drop j done ++ xs))) ≡ table_in i (done ++ (x ∷ xs))) x.index i
    (λ e. let other : All (λ t. t.index ≡ i → ⊥) done = all_map (λ t. t.index < x.index) (λ t. t.index ≡ i → ⊥) done (λ t h q. omega arith) lower in
    find_past i (take j done) (x ∷ (drop j done ++ xs)) (all_take (λ t. t.index ≡ i → ⊥) j done other)
    ∙ find_same i x (drop j done ++ xs) e
    ∙ sym (find_past i done (x ∷ xs) other ∙ find_same i x xs e))
    (λ e. find_skip i x (take j done) (drop j done ++ xs) e
    ∙ ap (table_in i) (sym (append_assoc (take j done) (drop j done) xs) ∙ ap (λ (l : List Table). l ++ xs) (take-append-drop j done))
    ∙ sym (find_skip i x done xs e))

pub find_sorted : (i : ℕ) (done : List Table) (n : ℕ) (xs : List Table) → All (λ t. t.index < n) done → Rising n xs → table_in i (sort_into done xs) ≡ table_in i (done ++ xs)
unfolding sort_into
find_sorted i done n [] a r = ap (table_in i) (sym (append-nil done))
find_sorted i done n (x ∷ xs) a r =
    let j = spot_of done x.bytes (length done) in
    let lower = all_map (λ t. t.index < n) (λ t. t.index < x.index) done (λ t h. omega (arith, r.0)) a in
    find_sorted i (insert_at j x done) (suc n) xs
    (all_insert (λ t. t.index < suc n) j x done (omega (arith, r.0)) (all_map (λ t. t.index < n) (λ t. t.index < suc n) done (λ t h. omega arith) a)) r.1
    ∙ find_inserted i j x done xs lower

pub find_placed : (i at : ℕ) (xs : List Table) → based (table_in i (place_from at xs)) 0 ≡ based (table_in i xs) 0
unfolding place_from
find_placed i at [] = refl
find_placed i at (x ∷ xs) =
    by_eq (based (table_in i (based x at ∷ place_from (at + x.bytes) xs)) 0 ≡ based (table_in i (x ∷ xs)) 0) x.index i
    (λ e. ap (λ (t : Table). based t 0) (find_same i (based x at) (place_from (at + x.bytes) xs) e) ∙ sym (ap (λ (t : Table). based t 0) (find_same i x xs e)))
    (λ e. ap (λ (t : Table). based t 0) (find_other i (based x at) (place_from (at + x.bytes) xs) e)
    ∙ find_placed i (at + x.bytes) xs
    ∙ sym (ap (λ (t : Table). based t 0) (find_other i x xs e)))

pub find_made : (n i : ℕ) (counts entries : List ℕ) → i < length counts → i < length entries
    → table_in (n + i) (tables_from n counts entries) ≡ table_of (n + i) (get_or counts i 0) (get_or entries i 0)
unfolding tables_from
find_made n i [] es h l = absurd (omega arith)
find_made n i (c ∷ cs) [] h l = absurd (omega arith)
find_made n zero (c ∷ cs) (e ∷ es) h l = rw (add-zero n) (find_same n (table_of n c e) (tables_from (suc n) cs es) refl)
find_made n (suc i) (c ∷ cs) (e ∷ es) h l =
    find_other (n + suc i) (table_of n c e) (tables_from (suc n) cs es) (λ q. omega arith)
    ∙ rw (add-suc n i, ← (suc-add n i)) (find_made (suc n) i cs es (le_of_suc-le-suc h) (le_of_suc-le-suc l))

-- sorting keeps the bytes of all
total_append : (xs ys : List Table) → total_of (xs ++ ys) ≡ total_of xs + total_of ys
unfolding total_of
total_append [] ys = sym (zero-add (total_of ys))
total_append (x ∷ xs) ys = ap (λ (n : ℕ). x.bytes + n) (total_append xs ys) ∙ sym (add_assoc x.bytes (total_of xs) (total_of ys))

total_inserted : (j : ℕ) (x : Table) (done : List Table) → total_of (insert_at j x done) ≡ total_of done + x.bytes
unfolding total_of
total_inserted j x done =
    let a = total_append (take j done) (x ∷ drop j done) in
    let b = sym (total_append (take j done) (drop j done)) ∙ ap total_of (take-append-drop j done) in
    a ∙ omega (arith, b)

pub total_sorted : (done xs : List Table) → total_of (sort_into done xs) ≡ total_of done + total_of xs
unfolding sort_into total_of
total_sorted done [] = sym (add-zero (total_of done))
total_sorted done (x ∷ xs) =
    let j = spot_of done x.bytes (length done) in
    total_sorted (insert_at j x done) xs ∙ ap (λ (n : ℕ). n + total_of xs) (total_inserted j x done) ∙ add_assoc (total_of done) x.bytes (total_of xs)
