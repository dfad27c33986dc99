-- The layouts of cards: the counts of any reply are such that the laws of layouts hold of them.
use Rattle.std.specs.Prelude.{Option}
use Prim.Native.Nat.{ℕ, zero, suc, zero-le, ◌+◌, ◌*◌, ◌^◌, ◌≤◌, ◌<◌, min}
use mathlib.Core.Bool.{Bool, true, false}
use mathlib.Core.Path.{◌≡◌, refl, sym, subst, ◌∙◌}
use mathlib.Core.List.{List, [], ◌∷◌}
use native.Mathlib.Nat.{le_trans, lt_of_le_of_lt, max-le, min-le_right, mul-le-mul, add-zero, zero-add, add-suc, suc-add}
use native.Mathlib.Omega.{arith}
use borrow.Author.Tests.{eq-eqb, ne_eqb}
use lib.Dec.{eqb, leb, lit≤, lit<}
use lib.ListN.{length, get_or, set, get_or-eq_default}
use lib.Pow.{pow_mono}
use lib.Seq.{get_or-set_other}
use Rattle.fields.specs.Outcome.{value, pick}
use Rattle.fields.proofs.Laws.{Bytes}
use Rattle.reply.specs.declared.DevCap.{DevCap}
use Rattle.reply.specs.Capability.{Bounds, capability_of}
use Rattle.reply.proofs.Bounded.{decoded_bounds, accepted_is}
use Rattle.layout.specs.declared.Layout.{Layout}
use Rattle.layout.specs.Layout.{pow2_of, table_of, tables_from, sort_into, rows_of, total_of, lay_out}
use Rattle.layout.specs.Counts.{base_sqpn, first_free_mtt, counts_of, profile_of}
use Rattle.layout_laws.specs.Good.{GoodLayout, GoodRanges, Counted}
use Rattle.layout.specs.Layout.{Pow}
use Rattle.layout.proofs.Powers.{raised_le}
use Rattle.layout.proofs.Bounds.{lines_lt}
use Rattle.layout_laws.proofs.Good.{Sized, accepted, good, by_order, pow_pos_of}
use Rattle.layout.proofs.Placing.{total_placed}
use Rattle.layout_laws.proofs.Rows.{by_eq, total_sorted}
use Rattle.layout_laws.proofs.Mapped.{mapped}

-- each of a list is at most b
abbrev Most : ℕ → List ℕ → Type 0
Most b [] = Unit {0}
Most b (x ∷ xs) = (x ≤ b) × Most b xs

most_at : (b : ℕ) (xs : List ℕ) → Most b xs → (i : ℕ) → get_or xs i 0 ≤ b
most_at b [] m i = omega arith
most_at b (x ∷ xs) m zero = m.0
most_at b (x ∷ xs) m (suc i) = most_at b xs m.1 i

eqs_le : (b : Bool) (n m : ℕ) → n < 2 ^ 12 → pick b (min m 128) n ≤ 2 ^ 21
eqs_le true n m h = le_trans (min-le_right m 128) (lit≤ tt)
eqs_le false n m h = omega arith

module _ (c : DevCap) (b : Bounds c) (p : (i : ℕ) → i < length c.entry → Pow (get_or c.entry i 0)) where
  sqpn_le : base_sqpn c ≤ 2 ^ 16
  sqpn_le = raised_le (c.rsvd_qps + 257) 16 (lit≤ tt) (omega (arith, b.qps))

  free_le : first_free_mtt c ≤ 2 ^ 16
  free_le = let e = get_or c.entry 9 0 in raised_le _ 16 (lit≤ tt) (omega (arith, lines_lt c.rsvd_mtts e (pow_pos_of e (p 9 (omega (arith, b.eleven)))), b.mtts))

  without_cmpt : Most (2 ^ 21) (set (counts_of c) 8 0)
  without_cmpt = (
    omega (arith, sqpn_le),
    (
      omega (arith, sqpn_le),
      (
        omega (arith, sqpn_le),
        (
          omega (arith, sqpn_le),
          (
            omega (arith, b.srqs),
            (
              max-le {a = c.rsvd_cqs + 4} {b = 64} (omega (arith, b.cqs)) (lit≤ tt),
              (
                eqs_le (eqb c.num_sys_eqs 0) c.num_sys_eqs c.max_eqs b.sys,
                (max-le {a = c.rsvd_mpts + 1} {b = 64} (omega (arith, b.mpts)) (lit≤ tt), (lit≤ tt, (omega (arith, free_le), (lit≤ tt, tt)))),
              ),
            ),
          ),
        ),
      ),
    ),
  )

  counted : Counted (counts_of c)
  counted =
      record {
        eleven = refl;
        cmpt = refl;
        others = λ i n. subst (λ (k : ℕ). k ≤ 2 ^ 21) (get_or-set_other (counts_of c) 8 i 0 0 n) (most_at (2 ^ 21) (set (counts_of c) 8 0) without_cmpt i);
      }

  -- powers of two of 16 bits are at most 2^15
  entry_le : (e : ℕ) → e < 2 ^ 16 → Pow e → e ≤ 2 ^ 15
  entry_le e h q =
      by_order (e ≤ 2 ^ 15) q.0 15 (leb q.0 15) refl (λ l. rw q.1 (pow_mono l)) (λ l. let f : 2 ^ 16 ≤ e = rw q.1 (pow_mono {i = 16} {j = q.0} l) in absurd (omega arith))

  entry_small : (i : ℕ) → get_or c.entry i 0 ≤ 2 ^ 15
  entry_small i =
      by_order (get_or c.entry i 0 ≤ 2 ^ 15) (suc i) (length c.entry) (leb (suc i) (length c.entry)) refl
      (λ l. entry_le (get_or c.entry i 0) (b.entries i) (p i l))
      (λ l. rw (get_or-eq_default c.entry 0 {n = i} (omega arith)) (lit≤ tt))

  count_le : (i : ℕ) → get_or (counts_of c) i 0 ≤ 2 ^ 63
  count_le i = by_eq (get_or (counts_of c) i 0 ≤ 2 ^ 63) i 8 (λ e. rw e (lit≤ tt)) (λ n. omega (arith, counted.others i n))

  sized : Sized (counts_of c) c.entry
  sized = record { same = sym b.eleven; count = count_le; entry = λ i. omega (arith, b.entries i) }

  -- the bytes of a table, by its index: the cMPT's at most 2^41, another's at most 2^36
  weight : ℕ → ℕ
  weight i = pick (eqb i 8) (2 ^ 41) (2 ^ 36)

  weights : (n m : ℕ) → ℕ
  weights n zero = 0
  weights n (suc m) = weight n + weights (suc n) m

  total_le : (n : ℕ) (cs es : List ℕ) → ((i : ℕ) → (table_of (n + i) (get_or cs i 0) (get_or es i 0)).bytes ≤ weight (n + i)) → total_of (tables_from n cs es) ≤ weights n (length cs)
  unfolding weights tables_from total_of
  total_le n [] es f = omega arith
  total_le n (x ∷ cs) [] f = zero-le
  total_le n (x ∷ cs) (y ∷ es) f =
      let h : (table_of n x y).bytes ≤ weight n = subst (λ (k : ℕ). (table_of k x y).bytes ≤ weight k) (add-zero n) (f 0) in
      omega (arith, total_le (suc n) cs es (λ i. subst (λ (k : ℕ). (table_of k (get_or cs i 0) (get_or es i 0)).bytes ≤ weight k) (add-suc n i ∙ sym (suc-add n i)) (f (suc i))))

  bytes_le : (i j : ℕ) → j ≤ 26 → get_or (counts_of c) i 0 ≤ 2 ^ j → (table_of i (get_or (counts_of c) i 0) (get_or c.entry i 0)).bytes ≤ 2 ^ j * 2 ^ 15
  bytes_le i j h l =
      max-le {a = pow2_of (get_or (counts_of c) i 0) * get_or c.entry i 0} {b = 4096} {k = 2 ^ j * 2 ^ 15}
      (mul-le-mul {n₁ = pow2_of (get_or (counts_of c) i 0)} {m₁ = get_or c.entry i 0} {n₂ = 2 ^ j} {m₂ = 2 ^ 15} (raised_le (get_or (counts_of c) i 0) j (omega arith) l) (entry_small i))
      (le_trans (lit≤ {m = 4096} {n = 2 ^ 0 * 2 ^ 15} tt) (mul-le-mul {n₁ = 2 ^ 0} {m₁ = 2 ^ 15} {n₂ = 2 ^ j} {m₂ = 2 ^ 15} (pow_mono {i = 0} {j = j} zero-le) (lit≤ tt)))

  weighed : (i : ℕ) → (table_of i (get_or (counts_of c) i 0) (get_or c.entry i 0)).bytes ≤ weight i
  unfolding weight
  weighed i =
      by_eq ((table_of i (get_or (counts_of c) i 0) (get_or c.entry i 0)).bytes ≤ weight i) i 8
      (λ e. rw (eq-eqb i 8 e) (bytes_le i 26 (lit≤ tt) (rw e (lit≤ tt))))
      (λ n. rw (ne_eqb i 8 n) (bytes_le i 21 (lit≤ tt) (counted.others i n)))

  total_lt : total_of (rows_of (counts_of c) c.entry) < 2 ^ 42
  unfolding weights weight total_of
  total_lt =
      let made = tables_from 0 (counts_of c) c.entry in
      let w = total_le 0 (counts_of c) c.entry (λ i. subst (λ (k : ℕ). (table_of k (get_or (counts_of c) i 0) (get_or c.entry i 0)).bytes ≤ weight k) (sym (zero-add i)) (weighed i)) in
      let e : total_of (rows_of (counts_of c) c.entry) ≡ total_of made = total_placed 0 (sort_into [] made) ∙ total_sorted [] made ∙ zero-add (total_of made) in
      lt_of_le_of_lt {m = weights 0 11} (rw e w) (lit< tt)

  profiled : (l : Layout) → profile_of c ≡ value l → GoodLayout (counts_of c) c.entry l × GoodRanges l × (l.total < 2 ^ 42)
  profiled l q =
      let a = accepted (counts_of c) c.entry c.max_icm sized.entry l q in
      let g = good (counts_of c) c.entry sized p in
      let r : GoodLayout (counts_of c) c.entry (lay_out (counts_of c) c.entry) × GoodRanges (lay_out (counts_of c) c.entry) × (total_of (rows_of (counts_of c) c.entry) < 2 ^ 42) =
      (g, mapped (counts_of c) c.entry g counted (λ i h. p i (omega (arith, b.eleven))) entry_small, total_lt) in
      subst (λ (x : Layout). GoodLayout (counts_of c) c.entry x × GoodRanges x × (x.total < 2 ^ 42)) (sym a.2) r

-- Any reply that is accepted, with its layout: the layout and its ranges are good, and the total is below 2^42.
pub profile_good : (s : List ℕ) (bar : Option ℕ) (c : DevCap) (l : Layout) → Bytes s → capability_of s bar ≡ value c → profile_of c ≡ value l
    → GoodLayout (counts_of c) c.entry l × GoodRanges l × (l.total < 2 ^ 42)
profile_good s bar c l bs e q =
    let b = subst Bounds (sym (accepted_is s bar c e)) (decoded_bounds s bs) in
    profiled c b (accepted (counts_of c) c.entry c.max_icm (λ i. omega (arith, b.entries i)) l q).0 l q
