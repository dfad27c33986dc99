-- The exponent of a block: it is allowed, its power divides both addresses and is at most what is left, and none above it is so.
use Rattle.std.proofs.Common.{◌≡◌, ℕ, zero, suc, ◌-◌, ◌/◌, ◌%◌, ◌^◌, ◌<◌, ◌≤◌, Bool, true, false, ◌&&◌, eqb, leb, sym, refl, ap, ◌∙◌, pow-suc, sub-one, arith, eq-eqb, eqb-true, le-leb, leb-false, leb-true}
use native.Mathlib.Nat.{mod-one}
use lib.Pow.{shl-shr}
use Rattle.fields.specs.Outcome.{pick}
use Rattle.dma.specs.Blocks.{stands, highest, exponent_of}

differ : false ≡ true → ⊥
differ e = let z : ◌≡◌ {A = ℕ} 0 1 = cc in omega arith

module _ (test : ℕ → Bool) where
  -- a turn of the search
  pub missed : (e : ℕ) → 0 < e → test e ≡ false → highest test (e - 1) ≡ highest test e
  unfolding highest
  missed zero h f = absurd (omega arith)
  missed (suc n) h f = simp (sub-one, f)

  pub hit : (e : ℕ) → 0 < e → test e ≡ true → highest test e ≡ e
  unfolding highest
  hit zero h f = absurd (omega arith)
  hit (suc n) h f = simp f

  picked_le : (b : Bool) (n r : ℕ) → r ≤ n → pick b (suc n) r ≤ suc n
  picked_le true n r h = omega arith
  picked_le false n r h = omega arith

  pub highest_le : (n : ℕ) → highest test n ≤ n
  unfolding highest
  highest_le zero = omega arith
  highest_le (suc n) = picked_le (test (suc n)) n (highest test n) (highest_le n)

  -- what is found passes, where 0 does
  picked_is : (b : Bool) (n r : ℕ) → test (suc n) ≡ b → test r ≡ true → test (pick b (suc n) r) ≡ true
  picked_is true n r e h = e
  picked_is false n r e h = h

  pub highest_is : (n : ℕ) → test 0 ≡ true → test (highest test n) ≡ true
  unfolding highest
  highest_is zero h = h
  highest_is (suc n) h = picked_is (test (suc n)) n (highest test n) refl (highest_is n h)

  -- nothing above it up to n passes: what passes is at most what is found
  by_order : (k n : ℕ) (b : Bool) (r : ℕ) → test (suc n) ≡ b → test k ≡ true → k ≤ suc n → (k ≤ n → k ≤ r) → k ≤ pick b (suc n) r
  by_order k n true r e t h f = h
  by_order k n false r e t h f = below (leb k n) refl
    where
      below : (c : Bool) → leb k n ≡ c → k ≤ r
      below true q = f (leb-true k n q)
      below false q = let l = leb-false k n q in let same : suc n ≡ k = omega arith in absurd (differ (sym e ∙ (ap test same ∙ t)))

  pub highest_above : (n k : ℕ) → k ≤ n → test k ≡ true → k ≤ highest test n
  unfolding highest
  highest_above zero k h t = h
  highest_above (suc n) k h t = by_order k n (test (suc n)) (highest test n) refl t h (λ l. highest_above n k l t)

pub half : (e : ℕ) → 0 < e → 2 ^ e / 2 ≡ 2 ^ (e - 1)
half zero h = absurd (omega arith)
half (suc n) h = rw (pow-suc, sub-one) (shl-shr (2 ^ n) 1)

pub and_left : (a b : Bool) → (a && b) ≡ true → a ≡ true
and_left true b e = refl
and_left false b e = absurd (differ e)

pub and_right : (a b : Bool) → (a && b) ≡ true → b ≡ true
and_right true b e = e
and_right false b e = absurd (differ e)

-- what it means that an exponent stands
pub record Stands (largest virt phys left e : ℕ) : Type 0 where
  pub allowed : e ≤ largest
  pub within : 2 ^ e ≤ left
  pub divides_phys : phys % 2 ^ e ≡ 0
  pub divides_virt : virt % 2 ^ e ≡ 0

module _ (largest virt phys left : ℕ) where
  pub stands_is : (e : ℕ) → stands largest virt phys left e ≡ true → Stands largest virt phys left e
  stands_is e t =
      let a = and_right (leb e largest) (leb (2 ^ e) left && (eqb (phys % 2 ^ e) 0 && eqb (virt % 2 ^ e) 0)) t in
      let b = and_right (leb (2 ^ e) left) (eqb (phys % 2 ^ e) 0 && eqb (virt % 2 ^ e) 0) a in
      record {
        allowed = leb-true e largest (and_left (leb e largest) (leb (2 ^ e) left && (eqb (phys % 2 ^ e) 0 && eqb (virt % 2 ^ e) 0)) t);
        within = leb-true (2 ^ e) left (and_left (leb (2 ^ e) left) (eqb (phys % 2 ^ e) 0 && eqb (virt % 2 ^ e) 0) a);
        divides_phys = eqb-true (phys % 2 ^ e) 0 (and_left (eqb (phys % 2 ^ e) 0) (eqb (virt % 2 ^ e) 0) b);
        divides_virt = eqb-true (virt % 2 ^ e) 0 (and_right (eqb (phys % 2 ^ e) 0) (eqb (virt % 2 ^ e) 0) b);
      }

  pub is_stands : (e : ℕ) → Stands largest virt phys left e → stands largest virt phys left e ≡ true
  is_stands e s = simp (le-leb e largest s.allowed, le-leb (2 ^ e) left s.within, eq-eqb (phys % 2 ^ e) 0 s.divides_phys, eq-eqb (virt % 2 ^ e) 0 s.divides_virt)

  -- The exponent of a block is such,
  pub exponent_stands : 0 < left → Stands largest virt phys left (exponent_of largest virt phys left)
  exponent_stands h =
      stands_is (exponent_of largest virt phys left)
      (highest_is (stands largest virt phys left) 63 (is_stands 0 (record { allowed = omega arith; within = h; divides_phys = mod-one phys; divides_virt = mod-one virt })))

  -- no other that is such, up to 63, is larger,
  pub exponent_largest : (k : ℕ) → k ≤ 63 → Stands largest virt phys left k → k ≤ exponent_of largest virt phys left
  exponent_largest k h s = highest_above (stands largest virt phys left) 63 k h (is_stands k s)

  -- and it is never above 63.
  pub exponent_le : exponent_of largest virt phys left ≤ 63
  exponent_le = highest_le (stands largest virt phys left) 63
