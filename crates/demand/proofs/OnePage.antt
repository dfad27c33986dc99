-- Each card page lies on its own device page: different ones on different pages, and none on two; and each range has its own buffer.
use Prim.Native.Nat.{ℕ, zero, suc, ◌+◌, ◌-◌, ◌*◌, ◌/◌, ◌%◌, ◌^◌, ◌≤◌, ◌<◌, max}
use native.Mathlib.Nat.{max-le, le-max_left}
use native.Mathlib.Omega.{arith}
use mathlib.Core.Bool.{Bool, true, false}
use mathlib.Core.List.{List, [], ◌∷◌, ◌++◌}
use mathlib.Core.Logic.{◌⊎◌, inl, inr, ⊎_elim}
use mathlib.Core.Path.{◌≡◌, refl, sym, subst}
use lib.Dec.{eqb, ltb, leb}
use lib.ListN.{length, get_or}
use Rattle.fields.specs.Outcome.{Outcome, value, refused, pick}
use Rattle.dma.specs.Buffers.{pages_for}
use Rattle.layout.specs.declared.Range.{Range}
use Rattle.layout_laws.specs.Good.{GoodRange, GoodRanges}
use Rattle.layout_laws.specs.Good as gd
use Rattle.layout_laws.proofs.Profiles.{profile_good}
use Rattle.opening_plan.specs.Values.{layout_in, range_at, no_range}
use Rattle.session.specs.declared.Info.{Info}
use borrow.Author.Tests.{eqb-true, eqb-false, ltb-true, ltb-false}
use Rattle.session.specs.Session.{icm_at, slot_at, buffer_of, is_held, in_slot, named, named_from}
use Rattle.session.specs.declared.Slot.{Slot}
use Rattle.dma.specs.declared.Buffer.{Buffer}
use Rattle.session.specs.declared.Books.{Books}
use Rattle.card.specs.Owns.{Each, Pairwise, Apart}
use Rattle.card_calls.specs.Ranges.{OnRange, InRanges, AsLaid}
use Rattle.card.proofs.Owns.{In}
use Rattle.card_calls.specs.Holding.{Entries}
use Rattle.card_calls.proofs.Books.{range_meets}
use Rattle.card_calls.proofs.Slots.{in_named}
use Rattle.demand.specs.Demand.{range_of}

pairwise_behind : {A : Type 0} (R : A → A → Type 0) (xs ys : List A) → Pairwise R (xs ++ ys) → Pairwise R ys
pairwise_behind R [] ys h = h
pairwise_behind R (x ∷ xs) ys h = pairwise_behind R xs ys h.1

each_in : {A : Type 0} (P : A → Type 0) (xs : List A) (a : A) → Each P xs → In a xs → P a
each_in P (x ∷ xs) a h (inl e) = subst P (sym e) h.0
each_in P (x ∷ xs) a h (inr e) = each_in P xs a h.1 e
each_in {A = A} P [] a h x'' = elim x'' [ ]

-- two slots that have buffers, the first before the second
apart_in : (R : Buffer → Buffer → Type 0) (m i : ℕ) (l : List Slot) (k j : ℕ) → Pairwise R (named_from m i l) → i ≤ k → k < j → j < i + m → is_held (slot_at l k) ≡ true → is_held (slot_at l j) ≡ true
    → R (buffer_of (slot_at l k)) (buffer_of (slot_at l j))
unfolding named_from
apart_in R zero i l k j h a b c p q = absurd (let z : ⊥ = omega (arith, a, b, c) in z)
apart_in R (suc m) i l k j h a b c p q = by_place (eqb i k) refl (λ x y. apart_in R m (suc i) l k j x y b (omega (arith, c)) p q)
  where
    by_place : (t : Bool) → eqb i k ≡ t → (Pairwise R (named_from m (suc i) l) → suc i ≤ k → R (buffer_of (slot_at l k)) (buffer_of (slot_at l j))) → R (buffer_of (slot_at l k)) (buffer_of (slot_at l j))
    by_place true t again =
        let e = eqb-true i k t in
        let here : Pairwise R ((buffer_of (slot_at l k) ∷ []) ++ named_from m (suc i) l) =
        subst (λ (z : Bool). Pairwise R (pick z (buffer_of (slot_at l k) ∷ []) [] ++ named_from m (suc i) l)) p (subst (λ (z : ℕ). Pairwise R (in_slot (slot_at l z) ++ named_from m (suc i) l)) e h) in
        each_in (R (buffer_of (slot_at l k))) (named_from m (suc i) l) (buffer_of (slot_at l j)) here.0 (in_named m (suc i) l j (omega (arith, b, e)) (omega (arith, c)) q)
    by_place false t again =
        let e = eqb-false i k t in again (pairwise_behind R (in_slot (slot_at l i)) (named_from m (suc i) l) h) (omega (arith, a, e))

-- what is so of each buffer is so of each range's
pub range_each : (P : Buffer → Type 0) (b : Books) → Entries b → Each P (named b) → (k : ℕ) → k < b.lists.ranges → P (range_of b k)
range_each P b i h k l = let f = i.few in each_in P (named b) (range_of b k) h (in_named 82 0 b.lists.slots (64 + k) (omega arith) (omega (arith, l, f)) (i.held k l))

module _ (b : Books) (i : Entries b) (far : Pairwise Apart (named b)) where
  pub apart_at : (k j : ℕ) → k < j → j < b.lists.ranges → Apart (buffer_of (icm_at b.lists.slots k)) (buffer_of (icm_at b.lists.slots j))
  apart_at k j l g =
      let f = i.few in
      apart_in Apart 82 0 b.lists.slots (64 + k) (64 + j) far (omega arith) (omega (arith, l)) (omega (arith, g, f)) (i.held k (omega (arith, l, g))) (i.held j g)

  within_one : (e : Slot) (x y d : ℕ) → OnRange e x d → OnRange e y d → x ≡ y
  within_one e x y d (i, l, p, q) (j, m, r, s) = omega (arith, p, q, r, s)

  pub one_page : (x y d : ℕ) → InRanges b x d → InRanges b y d → x ≡ y
  one_page x y d (k, l, p) (j, m, q) = same (eqb k j) refl
    where
      both : (u v : ℕ) → u < v → v < b.lists.ranges → (a c : ℕ) → OnRange (icm_at b.lists.slots u) a d → OnRange (icm_at b.lists.slots v) c d → ⊥
      both u v g h a c s t = (apart_at u v g h).1 d (range_meets (icm_at b.lists.slots u) a d s) (range_meets (icm_at b.lists.slots v) c d t)

      order : (t : Bool) → ltb k j ≡ t → (k ≡ j → ⊥) → ⊥
      order true t n = both k j (ltb-true k j t) m x y p q
      order false t n = let g = ltb-false k j t in both j k (omega (arith, g, n)) l y x q p

      same : (t : Bool) → eqb k j ≡ t → x ≡ y
      same true t = within_one (icm_at b.lists.slots j) x y d (subst (λ (n : ℕ). OnRange (icm_at b.lists.slots n) x d) (eqb-true k j t) p) q
      same false t = absurd (order (ltb k j) refl (eqb-false k j t))

-- NONE ON TWO: the ranges of an accepted layout have no card page in common
each_at : (Q : Range → Type 0) (rs : List Range) → gd.Each Q rs → (k : ℕ) → k < length rs → Q (get_or rs k no_range)
each_at Q [] e k h = absurd (let z : ⊥ = omega (arith, h) in z)
each_at Q (x ∷ rs) e zero h = e.0
each_at Q (x ∷ rs) e (suc k) h = each_at Q rs e.1 k (omega (arith, h))

all_apart : (rs : List Range) → gd.AllApart rs → (k j : ℕ) → k < j → j < length rs → gd.Apart (get_or rs k no_range) (get_or rs j no_range)
all_apart [] a k j l h = absurd (let z : ⊥ = omega (arith, h) in z)
all_apart (x ∷ rs) a zero zero l h = absurd (let z : ⊥ = omega (arith, l) in z)
all_apart (x ∷ rs) a zero (suc j) l h = each_at (gd.Apart x) rs a.0 j (omega (arith, h))
all_apart (x ∷ rs) a (suc k) zero l h = absurd (let z : ⊥ = omega (arith, l) in z)
all_apart (x ∷ rs) a (suc k) (suc j) l h = all_apart rs a.1 k j (omega (arith, l)) (omega (arith, h))

-- whole pages that are some have no page more
pages_of_lem : (bytes n k : ℕ) → bytes ≡ k * 4096 → 0 < bytes → pages_for bytes ≡ value n → n * 4096 ≤ bytes
pages_of_lem bytes n k e some p = by (leb bytes (2 ^ 64 - 4096)) p
  where
    IsValue : Outcome ℕ → Type 0
    IsValue (value m) = m * 4096 ≤ bytes
    IsValue (refused i vs) = ⊥

    many : max 1 ((bytes + 4095) / 4096) ≤ k
    many = max-le {a = 1} {b = (bytes + 4095) / 4096} {k = k} (omega (arith, e, some)) (omega (arith, e))

    by : (t : Bool) → pick t (value (max 1 ((bytes + 4095) / 4096))) (refused 18 []) ≡ value n → n * 4096 ≤ bytes
    by true q = subst IsValue q (let m = many in omega (arith, m, e))
    by false q = absurd (subst (λ (o : Outcome ℕ). IsNot o) (sym q) tt)
      where
        IsNot : Outcome ℕ → Type 0
        IsNot (value m) = Unit {0}
        IsNot (refused i vs) = ⊥

-- a range has a page
pub some_page : (bytes n : ℕ) → pages_for bytes ≡ value n → 0 < n
some_page bytes n p = by (leb bytes (2 ^ 64 - 4096)) p
  where
    Some : Outcome ℕ → Type 0
    Some (value m) = 0 < m
    Some (refused i vs) = ⊥

    by : (t : Bool) → pick t (value (max 1 ((bytes + 4095) / 4096))) (refused 18 []) ≡ value n → 0 < n
    by true q = subst Some q (le-max_left 1 ((bytes + 4095) / 4096))
    by false q = absurd (subst (λ (o : Outcome ℕ). IsNot o) (sym q) tt)
      where
        IsNot : Outcome ℕ → Type 0
        IsNot (value m) = Unit {0}
        IsNot (refused i vs) = ⊥

module _ (n : Info) (b : Books) (e : b.lists.ranges ≡ 14) (laid : AsLaid n b 14) where
  good : GoodRanges (layout_in n)
  good = let a = laid.0 in (profile_good a.0.0 a.0.1 n.cap (layout_in n) a.0.2 a.0.3 a.1).1

  -- a range of the layout in card pages
  record Placed (k : ℕ) : Type 0 where
    from : (range_at n k).virt % 4096 ≡ 0
    whole : (icm_at b.lists.slots k).pages * 4096 ≤ (range_at n k).bytes

  placed : (k : ℕ) → k < 14 → Placed k
  placed k l =
      let g = each_at (GoodRange (layout_in n).total) (layout_in n).ranges good.each k (subst (λ (m : ℕ). k < m) (sym good.fourteen) l) in
      let v = g.from in
      let p = g.pages in
      record { from = let q = v.1 in omega (arith, q); whole = pages_of_lem (range_at n k).bytes (icm_at b.lists.slots k).pages p.0 p.1 g.some (laid.1 k l).1 }

  -- two ranges, the first before the second
  clash : (x d f k j : ℕ) → k < j → j < 14 → OnRange (icm_at b.lists.slots k) x d → OnRange (icm_at b.lists.slots j) x f → ⊥
  clash x d f k j l h (i, m, p, q) (i', m', p', q') =
      let less : k < 14 = omega (arith, l, h) in
      let vk = (laid.1 k less).0 in
      let vj = (laid.1 j h).0 in
      let gk = placed k less in
      let gj = placed j h in
      let fk = gk.from in
      let fj = gj.from in
      let wk = gk.whole in
      let wj = gj.whole in
      ⊎_elim (λ z. let y : ⊥ = omega (arith, z, vk, vj, fk, fj, wk, m, p, p') in y) (λ z. let y : ⊥ = omega (arith, z, vk, vj, fk, fj, wj, m', p, p') in y)
      (all_apart (layout_in n).ranges good.apart k j l (subst (λ (m : ℕ). j < m) (sym good.fourteen) h))

  pub single_page : (x d f : ℕ) → InRanges b x d → InRanges b x f → d ≡ f
  single_page x d f (k, l, p) (j, m, q) = same (eqb k j) refl
    where
      less : (i : ℕ) → i < b.lists.ranges → i < 14
      less i h = subst (λ (z : ℕ). i < z) e h

      order : (t : Bool) → ltb k j ≡ t → (k ≡ j → ⊥) → ⊥
      order true t n = clash x d f k j (ltb-true k j t) (less j m) p q
      order false t n = let g = ltb-false k j t in clash x f d j k (omega (arith, g, n)) (less k l) q p

      within : (z : Slot) → OnRange z x d → OnRange z x f → d ≡ f
      within z (i, a, u, v) (i', a', u', v') = omega (arith, u, v, u', v')

      same : (t : Bool) → eqb k j ≡ t → d ≡ f
      same true t = within (icm_at b.lists.slots j) (subst (λ (z : ℕ). OnRange (icm_at b.lists.slots z) x d) (eqb-true k j t) p) q
      same false t = absurd (order (ltb k j) refl (eqb-false k j t))
