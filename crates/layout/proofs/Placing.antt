-- The loops that make the tables and give them their bases, on lists.
use Prim.Native.Nat.{ℕ, suc, ◌+◌, ◌*◌, ◌^◌, ◌≤◌, ◌<◌}
use mathlib.Core.Bool.{Bool, true, false, not, cond}
use mathlib.Core.Path.{◌≡◌, refl, ap, sym, ◌∙◌}
use mathlib.Core.List.{List, [], ◌∷◌, ◌++◌, append_assoc}
use native.Mathlib.Nat.{add-zero, zero-add, add_assoc, not-le_of_lt}
use native.Mathlib.Numerals.{add-one}
use native.Mathlib.Omega.{arith}
use borrow.Author.Tests.{ltb-true, ltb-false}
use lib.Dec.{eqb, ltb}
use lib.ListN.{length, get_or, set, take, drop}
use lib.Seq.{get_or-drop, take-suc-set, drop-set-lt, drop-cons}
use Rattle.std.specs.Prelude.{Option, Some, None, SomeIff, position, find}
use Rattle.std.specs.Option.{unwrap_or}
use Rattle.std.specs.List.{position_or_len}
use Rattle.fields.specs.Outcome.{pick}
use Rattle.layout.specs.declared.Table.{Table}
use Rattle.layout.specs.declared.Range.{Range}
use Rattle.layout.specs.Layout.{no_table, table_of, tables_from, sort_into, comparisons_of, based, place_from, total_of, rows_of, is_pow2, first_bad, table_in, ranges_of, lay_out}
use Rattle.layout.specs.Inner.{All, Small, Modest}

-- a turn of the loop of `tables`
pub one_table : (counts entries : List ℕ) (i : ℕ) → i < length counts → i < length entries
    → tables_from i (drop i counts) (drop i entries) ≡ table_of i (get_or counts i 0) (get_or entries i 0) ∷ tables_from (suc i) (drop (suc i) counts) (drop (suc i) entries)
unfolding tables_from
one_table counts entries i l m = rw (drop-cons counts i 0 l, drop-cons entries i 0 m)

pub made : (out : List Table) (counts entries : List ℕ) (i : ℕ) → i < length out → i < length counts → i < length entries
    → take (i + 1) (set out i (table_of i (get_or counts i 0) (get_or entries i 0))) ++ tables_from (i + 1) (drop (i + 1) counts) (drop (i + 1) entries)
    ≡ take i out ++ tables_from i (drop i counts) (drop i entries)
made out counts entries i l m n =
    let x = table_of i (get_or counts i 0) (get_or entries i 0) in
    rw (add-one, take-suc-set out i x l, one_table counts entries i m n) (append_assoc (take i out) (x ∷ []) (tables_from (suc i) (drop (suc i) counts) (drop (suc i) entries)))

-- the lowest bad index is the first place of an entry that is no power of two
abbrev pub bad : ℕ → Bool
bad e = not (is_pow2 e)

bad_by : (b : Bool) (i m r : ℕ) → r ≡ suc i + m → pick b r i ≡ i + cond (not (not b)) (1 + m) 0
bad_by true i m r e = omega (arith, e)
bad_by false i m r e = sym (add-zero i)

bad_from : (i : ℕ) (es : List ℕ) → first_bad i es ≡ i + position_or_len bad es
unfolding first_bad
bad_from i [] = sym (add-zero i)
bad_from i (e ∷ es) = bad_by (is_pow2 e) i (position_or_len bad es) (first_bad (suc i) es) (bad_from (suc i) es)

bad_if : (b : Bool) (m n : ℕ) → ltb m n ≡ b → SomeIff (cond b (Some m) None) (m < n) m
bad_if true m n e = (ltb-true m n e, refl)
bad_if false m n e = λ h. not-le_of_lt h (ltb-false m n e)

pub bad_is : (es : List ℕ) (r : Option ℕ) → r ≡ position bad es → SomeIff r (first_bad 0 es < length es) (first_bad 0 es)
bad_is es r e =
    let f : first_bad 0 es ≡ position_or_len bad es = bad_from 0 es ∙ zero-add (position_or_len bad es) in
    rw (e, f) (bad_if (ltb (position_or_len bad es) (length es)) (position_or_len bad es) (length es) refl)

-- a turn of the loop of `place`
pub places : (out : List Table) (i at : ℕ) → i < length out
    → take (i + 1) (set out i (based (get_or out i no_table) at)) ++ place_from (at + (get_or out i no_table).bytes) (drop (i + 1) (set out i (based (get_or out i no_table) at))) ≡ take i out ++ place_from at (drop i out)
unfolding place_from
places out i at l =
    let x = get_or out i no_table in
    rw (add-one, take-suc-set out i (based x at) l, drop-set-lt (suc i) out i (based x at) (omega arith), drop-cons out i no_table l)
    (append_assoc (take i out) (based x at ∷ []) (place_from (at + x.bytes) (drop (suc i) out)))

pub total_on : (t : List Table) (i at : ℕ) → i < length t → at + (get_or t i no_table).bytes + total_of (drop (i + 1) t) ≡ at + total_of (drop i t)
unfolding total_of
total_on t i at l = rw (add-one, drop-cons t i no_table l) (add_assoc at (get_or t i no_table).bytes (total_of (drop (suc i) t)))

-- tables that agree from i on agree at i
pub same_at : (xs ys : List Table) (i : ℕ) → drop i xs ≡ drop i ys → get_or xs i no_table ≡ get_or ys i no_table
same_at xs ys i e =
    ap (λ (k : ℕ). get_or xs k no_table) (sym (add-zero i))
    ∙ sym (get_or-drop i xs 0 no_table)
    ∙ ap (λ (l : List Table). get_or l 0 no_table) e
    ∙ get_or-drop i ys 0 no_table
    ∙ ap (λ (k : ℕ). get_or ys k no_table) (add-zero i)

-- a table's place does not change its bytes
pub total_placed : (at : ℕ) (xs : List Table) → total_of (place_from at xs) ≡ total_of xs
unfolding total_of place_from
total_placed at [] = refl
total_placed at (x ∷ xs) = ap (λ (n : ℕ). x.bytes + n) (total_placed (at + x.bytes) xs)

-- the three steps to the tables with their bases, one after the other, and their bytes
module _ (counts entries : List ℕ) {made ordered placed : List Table} (a : made ≡ tables_from 0 counts entries) (b : ordered ≡ sort_into [] made) (c : placed ≡ place_from 0 ordered) where
  pub placed_rows : placed ≡ rows_of counts entries
  placed_rows = c ∙ ap (place_from 0) (b ∙ ap (sort_into []) a)

  pub placed_bytes : {t : ℕ} → t ≡ total_of ordered → t ≡ total_of (rows_of counts entries)
  placed_bytes e = e ∙ ap total_of (b ∙ ap (sort_into []) a) ∙ sym (total_placed 0 (sort_into [] (tables_from 0 counts entries)))

-- the bases of small tables, placed from `at` on
pub modest_from : (at n : ℕ) (xs : List Table) → length xs ≡ n → at + n * 2 ^ 48 ≤ 2 ^ 52 → All Small xs → All Modest (place_from at xs)
unfolding place_from
modest_from at n [] e h a = tt
modest_from at n (x ∷ xs) e h a =
    let k : n ≡ suc (length xs) = sym e in
    let h' : at + x.bytes + length xs * 2 ^ 48 ≤ 2 ^ 52 = omega (arith, a.0.0) in
    ((omega (arith, a.0.0), a.0), modest_from (at + x.bytes) (length xs) xs refl h' a.1)

-- the first table of an index
first_by : (b : Bool) (x y : Table) (o : Option Table) → unwrap_or o no_table ≡ y → unwrap_or (cond b (Some x) o) no_table ≡ pick b x y
first_by true x y o e = refl
first_by false x y o e = e

pub first_is : (index : ℕ) (rows : List Table) → unwrap_or (find (λ t. eqb t.index index) rows) no_table ≡ table_in index rows
unfolding table_in
first_is index [] = refl
first_is index (x ∷ xs) = first_by (eqb x.index index) x (table_in index xs) (find (λ t. eqb t.index index) xs) (first_is index xs)

found_by : (P : Table → Type 0) (b : Bool) (x y : Table) → P x → P y → P (pick b x y)
found_by P true x y p q = p
found_by P false x y p q = q

-- what holds of each table holds of the one found
pub all_find : (P : Table → Type 0) (index : ℕ) (xs : List Table) → P no_table → All P xs → P (table_in index xs)
unfolding table_in
all_find P index [] p a = p
all_find P index (x ∷ xs) p a = found_by P (eqb x.index index) x (table_in index xs) a.0 (all_find P index xs p a.1)

-- a layout made of such tables, their bytes, their ranges and their comparisons
pub laid_out : (counts entries : List ℕ) {rows : List Table} {t m : ℕ} {rs : List Range} → rows ≡ rows_of counts entries → t ≡ total_of (rows_of counts entries) → m ≡ comparisons_of (tables_from 0 counts entries)
    → rs ≡ ranges_of rows → record { rows = rows; total = t; ranges = rs; comparisons = m } ≡ lay_out counts entries
laid_out counts entries {rows} {t} {m} {rs} a b c d =
    ap (λ (x : List Range). record { rows = rows; total = t; ranges = x; comparisons = m }) d
    ∙ ap (λ (n : ℕ). record { rows = rows; total = n; ranges = ranges_of rows; comparisons = m }) b
    ∙ ap (λ (n : ℕ). record { rows = rows; total = total_of (rows_of counts entries); ranges = ranges_of rows; comparisons = n }) c
    ∙ ap (λ (x : List Table). record { rows = x; total = total_of (rows_of counts entries); ranges = ranges_of x; comparisons = comparisons_of (tables_from 0 counts entries) }) a
