-- The fourteen mapped ranges of an accepted layout: in whole pages, at most 2^24 of them, within the area, and no two with a byte in common.
use Prim.Native.Nat.{ℕ, ◌+◌, ◌*◌, ◌/◌, ◌^◌, ◌≤◌, ◌<◌, max}
use mathlib.Core.Bool.{Bool, true, false, ◌&&◌, not}
use mathlib.Core.Logic.{◌⊎◌, inl, inr}
use mathlib.Core.Path.{◌≡◌, refl, ap, sym, subst, ◌∙◌}
use mathlib.Core.List.{List, [], ◌∷◌}
use native.Mathlib.Nat.{mul-le-mul, mul_assoc, max-le, le-max_right, max-eq_left, div-lt_iff_lt-mul, add-mul}
use native.Mathlib.Omega.{arith}
use borrow.Author.Tests.{eqb-true, eqb-false, not-true}
use lib.Dec.{T, ltb, eqb, lit≤, lit<, ltb→lt}
use lib.ListN.{length, get_or}
use Rattle.layout.specs.declared.Table.{Table}
use Rattle.layout.specs.declared.Range.{Range}
use Rattle.layout.specs.declared.Layout.{Layout}
use Rattle.layout.specs.Layout.{pow2_of, table_of, based, table_in, pages_up, whole_of, quarter_of, lay_out}
use Rattle.layout_laws.specs.Good.{Multiple, Tiles, GoodLayout, Apart, Each, AllApart, GoodRange, Counted, GoodRanges}
use Rattle.layout.specs.Layout.{Pow}
use Rattle.layout.proofs.Powers.{raised, raised_le, pow_is}
use Rattle.layout.proofs.Placing.{all_find}
use Rattle.layout_laws.proofs.Rows.{by_eq, find_same, find_other}
use Rattle.layout_laws.proofs.Good.{pow_multiple, bytes_pow, add_multiple, pow_pos_of}

-- a table that tiles an area lies within it
tiles_in : (a b i : ℕ) (xs : List Table) → Tiles a b xs → 0 < (table_in i xs).bytes → (a ≤ (table_in i xs).base) × ((table_in i xs).base + (table_in i xs).bytes ≤ b)
unfolding table_in
tiles_in a b i [] t h = absurd (omega arith)
tiles_in a b i (x ∷ xs) t h =
    by_eq ((a ≤ (table_in i (x ∷ xs)).base) × ((table_in i (x ∷ xs)).base + (table_in i (x ∷ xs)).bytes ≤ b)) x.index i
    (λ e. rw (find_same i x xs e) (omega (arith, t.0), omega (arith, t.0, tiles-le (a + x.bytes) b xs t.1)))
    (λ e. let h' : 0 < (table_in i xs).bytes = rw (find_other i x xs e) at h in
    let r = tiles_in (a + x.bytes) b i xs t.1 h' in rw (find_other i x xs e) (omega (arith, r.0), r.1))
  where
    tiles-le : (a b : ℕ) (xs : List Table) → Tiles a b xs → a ≤ b
    tiles-le a b [] t = omega (arith, t)
    tiles-le a b (x ∷ xs) t = omega (arith, tiles-le (a + x.bytes) b xs t.1)

-- two of them have no byte in common
abbrev ApartIn : (i j : ℕ) → List Table → Type 0
ApartIn i j xs = ((table_in i xs).base + (table_in i xs).bytes ≤ (table_in j xs).base) ⊎ ((table_in j xs).base + (table_in j xs).bytes ≤ (table_in i xs).base)

tiles_apart : (a b i j : ℕ) (xs : List Table) → Tiles a b xs → 0 < (table_in i xs).bytes → 0 < (table_in j xs).bytes → (i ≡ j → ⊥)
    → ApartIn i j xs
unfolding table_in
tiles_apart a b i j [] t h k n = absurd (omega arith)
tiles_apart a b i j (x ∷ xs) t h k n =
    by_eq (ApartIn i j (x ∷ xs)) x.index i
    (λ e. let o : x.index ≡ j → ⊥ = λ q. n (sym e ∙ q) in
    let k' : 0 < (table_in j xs).bytes = rw (find_other j x xs o) at k in
    let r = tiles_in (a + x.bytes) b j xs t.1 k' in
    rw (find_same i x xs e, find_other j x xs o) (inl (omega (arith, r.0, t.0))))
    (λ o. let h' : 0 < (table_in i xs).bytes = rw (find_other i x xs o) at h in
    by_eq (ApartIn i j (x ∷ xs)) x.index j
    (λ e. let r = tiles_in (a + x.bytes) b i xs t.1 h' in rw (find_other i x xs o, find_same j x xs e) (inr (omega (arith, r.0, t.0))))
    (λ q. let k' : 0 < (table_in j xs).bytes = rw (find_other j x xs q) at k in
    rw (find_other i x xs o, find_other j x xs q) (tiles_apart (a + x.bytes) b i j xs t.1 h' k' n)))

-- whole pages of n bytes are at most m where n is, and m is in whole pages
pages_le : (n m : ℕ) → n ≤ m * 4096 → pages_up n ≤ m * 4096
pages_le n m h = let q : (n + 4095) / 4096 < m + 1 = (div-lt_iff_lt-mul {k = 4096} {x = n + 4095} {y = m + 1} (lit< tt)).1 (omega arith) in omega arith

module _ (counts entries : List ℕ) (g : GoodLayout counts entries (lay_out counts entries)) (k : Counted counts)
    (p : (i : ℕ) → i < length counts → Pow (get_or entries i 0)) (small : (i : ℕ) → get_or entries i 0 ≤ 2 ^ 15) where
  abbrev L : Layout
  L = lay_out counts entries

  abbrev rows : List Table
  rows = L.rows

  -- the table of index i
  abbrev at : ℕ → Table
  at i = table_in i rows

  is_made : (i : ℕ) → i < 11 → based (at i) 0 ≡ table_of i (get_or counts i 0) (get_or entries i 0)
  is_made i h = g.there i (omega (arith, k.eleven))

  at_bytes : (i : ℕ) → i < 11 → (at i).bytes ≡ max (pow2_of (get_or counts i 0) * get_or entries i 0) 4096
  at_bytes i h = ap (λ (t : Table). t.bytes) (is_made i h)

  at_count : (i : ℕ) → i < 11 → (at i).count ≡ pow2_of (get_or counts i 0)
  at_count i h = ap (λ (t : Table). t.count) (is_made i h)

  at_entry : (i : ℕ) → i < 11 → (at i).entry ≡ get_or entries i 0
  at_entry i h = ap (λ (t : Table). t.entry) (is_made i h)

  page_or_more : (i : ℕ) → i < 11 → 4096 ≤ (at i).bytes
  page_or_more i h = rw (at_bytes i h) (le-max_right (pow2_of (get_or counts i 0) * get_or entries i 0) 4096)

  present : (i : ℕ) → i < 11 → 0 < (at i).bytes
  present i h = omega (arith, page_or_more i h)

  count_fits : (i : ℕ) → get_or counts i 0 ≤ 2 ^ 63
  count_fits i = by_eq (get_or counts i 0 ≤ 2 ^ 63) i 8 (λ e. rw (e, k.cmpt) (lit≤ tt)) (λ n. omega (arith, k.others i n))

  -- bytes and base are in whole pages
  bytes_paged : (i : ℕ) → i < 11 → Multiple 4096 (at i).bytes
  bytes_paged i h =
      pow_multiple 4096 (at i).bytes (12, refl) (subst Pow (sym (at_bytes i h)) (bytes_pow i (get_or counts i 0) (get_or entries i 0) (count_fits i) (p i (omega (arith, k.eleven))))) (page_or_more i h)

  mul_multiple : (a b c : ℕ) → Multiple a b → Multiple b c → Multiple a c
  mul_multiple a b c x y = (y.0 * x.0, y.1 ∙ ap (λ (n : ℕ). y.0 * n) x.1 ∙ sym (mul_assoc y.0 x.0 a))

  base_multiple : (i : ℕ) → Multiple (at i).bytes (at i).base
  base_multiple i = all_find (λ t. Multiple t.bytes t.base) i rows (0, refl) g.multiples

  base_paged : (i : ℕ) → i < 11 → Multiple 4096 (at i).base
  base_paged i h = mul_multiple 4096 (at i).bytes (at i).base (bytes_paged i h) (base_multiple i)

  count_le : (i : ℕ) → i < 11 → (i ≡ 8 → ⊥) → (at i).count ≤ 2 ^ 21
  count_le i h n = rw (at_count i h) (raised_le (get_or counts i 0) 21 (lit≤ tt) (k.others i n))

  bytes_few : (i : ℕ) → i < 11 → (i ≡ 8 → ⊥) → (at i).bytes ≤ 2 ^ 24 * 4096
  bytes_few i h n =
      rw (at_bytes i h)
      (max-le {a = pow2_of (get_or counts i 0) * get_or entries i 0} {b = 4096} {k = 2 ^ 24 * 4096}
      (mul-le-mul {n₁ = pow2_of (get_or counts i 0)} {m₁ = get_or entries i 0} {n₂ = 2 ^ 21} {m₂ = 2 ^ 15} (raised_le (get_or counts i 0) 21 (lit≤ tt) (k.others i n)) (small i)) (lit≤ tt))

  -- a whole table's range
  whole_good : (i : ℕ) → i < 11 → (i ≡ 8 → ⊥) → GoodRange L.total (whole_of rows i)
  whole_good i h n =
      record { from = base_paged i h; pages = bytes_paged i h; some = present i h; few = bytes_few i h n; within = (tiles_in 0 L.total i rows g.tiles (present i h)).1 }

  -- a range lies within the table of index i
  abbrev In : Range → ℕ → Type 0
  In r i = ((at i).base ≤ r.virt) × (r.virt + r.bytes ≤ (at i).base + (at i).bytes)

  apart_by : (r s : Range) (i j : ℕ) → i < 11 → j < 11 → In r i → In s j → (i ≡ j → ⊥) → Apart r s
  apart_by r s i j h l a b n = either (tiles_apart 0 L.total i j rows g.tiles (present i h) (present j l) n)
    where
      either : ((at i).base + (at i).bytes ≤ (at j).base) ⊎ ((at j).base + (at j).bytes ≤ (at i).base) → Apart r s
      either (inl e) = inl (omega (arith, a.0, a.1, b.0, b.1))
      either (inr e) = inr (omega (arith, a.0, a.1, b.0, b.1))

  whole_in : (i : ℕ) → In (whole_of rows i) i
  whole_in i = (omega arith, omega arith)

  -- the cMPT: four quarters
  cmpt_count : (at 8).count ≡ 2 ^ 26
  cmpt_count = at_count 8 (lit< tt) ∙ ap pow2_of k.cmpt ∙ eqb-true (pow2_of (2 ^ 26)) (2 ^ 26) (pow_is (2 ^ 26) 26 (lit≤ tt) refl)

  cmpt_entry_pos : 0 < (at 8).entry
  cmpt_entry_pos = rw (at_entry 8 (lit< tt)) (pow_pos_of (get_or entries 8 0) (p 8 (omega (arith, k.eleven))))

  cmpt_bytes : (at 8).bytes ≡ 2 ^ 26 * (at 8).entry
  cmpt_bytes =
      at_bytes 8 (lit< tt)
      ∙ ap (λ (n : ℕ). max (n * get_or entries 8 0) 4096) (sym (at_count 8 (lit< tt)) ∙ cmpt_count)
      ∙ ap (λ (n : ℕ). max (2 ^ 26 * n) 4096) (sym (at_entry 8 (lit< tt)))
      ∙ max-eq_left (omega (arith, cmpt_entry_pos))

  -- the range in quarter q: its bytes lie within the quarter
  quarter_fits : (q i : ℕ) → i < 11 → (i ≡ 8 → ⊥) → (quarter_of rows q i).bytes ≤ (at 8).entry * 2 ^ 24
  quarter_fits q i h n =
      let m : (at i).count * (at 8).entry ≤ 2 ^ 21 * (at 8).entry = mul-le-mul {n₁ = (at i).count} {m₁ = (at 8).entry} {n₂ = 2 ^ 21} {m₂ = (at 8).entry} (count_le i h n) (omega arith) in
      let r = pages_le ((at i).count * (at 8).entry) ((at 8).entry * 2 ^ 12) (omega arith) in
      omega arith

  quarter_few : (q i : ℕ) → i < 11 → (i ≡ 8 → ⊥) → (quarter_of rows q i).bytes ≤ 2 ^ 24 * 4096
  quarter_few q i h n =
      pages_le ((at i).count * (at 8).entry) (2 ^ 24)
      (mul-le-mul {n₁ = (at i).count} {m₁ = (at 8).entry} {n₂ = 2 ^ 21} {m₂ = 2 ^ 15} (count_le i h n) (rw (at_entry 8 (lit< tt)) (small 8)))

  quarter_in : (q i : ℕ) → q < 4 → i < 11 → (i ≡ 8 → ⊥) → In (quarter_of rows q i) 8
  quarter_in q i l h n =
      let m : q * ((at 8).entry * 2 ^ 24) ≤ 3 * ((at 8).entry * 2 ^ 24) = mul-le-mul {n₁ = q} {m₁ = (at 8).entry * 2 ^ 24} {n₂ = 3} {m₂ = (at 8).entry * 2 ^ 24} (omega arith) (omega arith) in
      (omega arith, omega (arith, quarter_fits q i h n, cmpt_bytes))

  quarter_some : (q i : ℕ) → i < 11 → 0 < (quarter_of rows q i).bytes
  quarter_some q i h =
      let a : 0 < (at i).count = rw (at_count i h) (pow_pos_of (pow2_of (get_or counts i 0)) (raised (get_or counts i 0) (count_fits i)).power) in
      let b : 1 * 1 ≤ (at i).count * (at 8).entry = mul-le-mul {n₁ = 1} {m₁ = 1} {n₂ = (at i).count} {m₂ = (at 8).entry} (omega (arith, a)) (omega (arith, cmpt_entry_pos)) in
      omega (arith, b)

  quarter_good : (q i : ℕ) → q < 4 → i < 11 → (i ≡ 8 → ⊥) → GoodRange L.total (quarter_of rows q i)
  quarter_good q i l h n =
      record {
        from = add_multiple 4096 (at 8).base (q * ((at 8).entry * 2 ^ 24)) (base_paged 8 (lit< tt)) (q * ((at 8).entry * 2 ^ 12), quarter-step q (at 8).entry);
        pages = (((at i).count * (at 8).entry + 4095) / 4096, refl);
        some = quarter_some q i h;
        few = quarter_few q i h n;
        within = omega (arith, (quarter_in q i l h n).1, (tiles_in 0 L.total 8 rows g.tiles (present 8 (lit< tt))).1);
      }
    where
      quarter-step : (q e : ℕ) → q * (e * 2 ^ 24) ≡ q * (e * 2 ^ 12) * 4096
      quarter-step q e = ap (λ (n : ℕ). q * n) (sym (mul_assoc e (2 ^ 12) 4096)) ∙ sym (mul_assoc q (e * 2 ^ 12) 4096)

  quarters_apart : (q r i j : ℕ) → q < r → i < 11 → (i ≡ 8 → ⊥) → Apart (quarter_of rows q i) (quarter_of rows r j)
  quarters_apart q r i j l h n =
      let s = (at 8).entry * 2 ^ 24 in
      let m : (q + 1) * s ≤ r * s = mul-le-mul {n₁ = q + 1} {m₁ = s} {n₂ = r} {m₂ = s} (omega arith) (omega arith) in
      inl (omega (arith, quarter_fits q i h n, add-mul q 1 s))

  -- The ten whole tables, by the list of their indices, none of which is the cMPT's or comes twice.
  wholes : List ℕ → List Range
  wholes [] = []
  wholes (i ∷ is) = whole_of rows i ∷ wholes is

  -- i is an index other than the cMPT's; it is not in the list
  fine : ℕ → Bool
  fine i = ltb i 11 && not (eqb i 8)

  without : ℕ → List ℕ → Bool
  without i [] = true
  without i (j ∷ js) = not (eqb i j) && without i js

  distinct : List ℕ → Bool
  distinct [] = true
  distinct (i ∷ is) = (fine i && without i is) && distinct is

  both : (a b : Bool) → T (a && b) → T a × T b
  both true true t = (tt, tt)
  both true false t = absurd t
  both false b t = absurd t

  T_not : (m n : ℕ) → T (not (eqb m n)) → m ≡ n → ⊥
  T_not m n t = eqb-false m n (not-true (eqb m n) (T_true (not (eqb m n)) t))
    where
      T_true : (b : Bool) → T b → b ≡ true
      T_true true t = refl
      T_true false t = absurd t

  fine_at : (i : ℕ) (is : List ℕ) → T (distinct (i ∷ is)) → (i < 11) × (i ≡ 8 → ⊥) × T (without i is) × T (distinct is)
  unfolding distinct fine
  fine_at i is t =
      let a = both (fine i && without i is) (distinct is) t in
      let b = both (fine i) (without i is) a.0 in
      let c = both (ltb i 11) (not (eqb i 8)) b.0 in
      (ltb→lt i 11 c.0, T_not i 8 c.1, b.1, a.1)

  wholes_good : (is : List ℕ) → T (distinct is) → Each (GoodRange L.total) (wholes is)
  unfolding wholes
  wholes_good [] t = tt
  wholes_good (i ∷ is) t = let f = fine_at i is t in (whole_good i f.0 f.1, wholes_good is f.3)

  -- a range within a table is apart from the whole tables of other indices
  wholes_apart : (r : Range) (i : ℕ) (is : List ℕ) → i < 11 → In r i → T (without i is) → T (distinct is) → Each (Apart r) (wholes is)
  unfolding wholes without
  wholes_apart r i [] h a w t = tt
  wholes_apart r i (j ∷ js) h a w t =
      let f = fine_at j js t in
      let b = both (not (eqb i j)) (without i js) w in
      (apart_by r (whole_of rows j) i j h f.0 a (whole_in j) (T_not i j b.0), wholes_apart r i js h a b.1 f.3)

  all_wholes_apart : (is : List ℕ) → T (distinct is) → AllApart (wholes is)
  unfolding wholes
  all_wholes_apart [] t = tt
  all_wholes_apart (i ∷ is) t = let f = fine_at i is t in (wholes_apart (whole_of rows i) i is f.0 (whole_in i) f.2 f.3, all_wholes_apart is f.3)

  abbrev ten : List ℕ
  ten = 6 ∷ 9 ∷ 7 ∷ 0 ∷ 3 ∷ 2 ∷ 1 ∷ 5 ∷ 4 ∷ 10 ∷ []

  -- the four quarters, by number and by the index whose entries they are for
  other : (i : ℕ) → T (fine i) → (i < 11) × (i ≡ 8 → ⊥)
  unfolding fine
  other i t = let c = both (ltb i 11) (not (eqb i 8)) t in (ltb→lt i 11 c.0, T_not i 8 c.1)

  one_good : (q i : ℕ) → T (ltb q 4) → T (fine i) → GoodRange L.total (quarter_of rows q i)
  one_good q i l t = let o = other i t in quarter_good q i (ltb→lt q 4 l) o.0 o.1

  one_one : (q r i j : ℕ) → T (ltb q r) → T (fine i) → Apart (quarter_of rows q i) (quarter_of rows r j)
  one_one q r i j l t = let o = other i t in quarters_apart q r i j (ltb→lt q r l) o.0 o.1

  one_wholes : (q i : ℕ) → T (ltb q 4) → T (fine i) → Each (Apart (quarter_of rows q i)) (wholes ten)
  unfolding without distinct fine
  one_wholes q i l t = let o = other i t in wholes_apart (quarter_of rows q i) 8 ten (lit< tt) (quarter_in q i (ltb→lt q 4 l) o.0 o.1) tt tt

  -- The fourteen ranges.
  pub mapped : GoodRanges L
  unfolding wholes without distinct fine
  mapped =
      record {
        fourteen = refl;
        each = (one_good 0 0 tt tt, (one_good 1 4 tt tt, (one_good 2 5 tt tt, (one_good 3 6 tt tt, wholes_good ten tt))));
        apart = (
          (one_one 0 1 0 4 tt tt, (one_one 0 2 0 5 tt tt, (one_one 0 3 0 6 tt tt, one_wholes 0 0 tt tt))),
          (
            (one_one 1 2 4 5 tt tt, (one_one 1 3 4 6 tt tt, one_wholes 1 4 tt tt)),
            (
              (one_one 2 3 5 6 tt tt, one_wholes 2 5 tt tt),
              (one_wholes 3 6 tt tt, all_wholes_apart ten tt),
            ),
          ),
        );
      }
