-- Raising to a power of two.
use Prim.Native.Nat.{ℕ, zero, suc, zero-le, ◌+◌, ◌*◌, ◌/◌, ◌%◌, ◌^◌, ◌≤◌, ◌<◌, max}
use mathlib.Core.Bool.{Bool, true, false}
use mathlib.Core.Path.{◌≡◌, refl, sym, ap, subst, ◌∙◌}
use mathlib.Core.Logic.{◌⊎◌, inl, inr}
use native.Mathlib.Nat.{pow-suc, add-zero, add-suc, suc-add, not-le_of_lt, lt_of_not-le, lt_of_le_of_lt, eq-zero-or-pos, le_refl, le_trans, le_of_eq, le_antisymm, max-le}
use native.Mathlib.Omega.{arith}
use borrow.Author.Tests.{leb-true, leb-false, lt-leb, eqb-true, eq-eqb}
use lib.Arith.{lt_of_le-ne}
use lib.Dec.{leb}
use lib.Pow.{pow_mono}
use lib.Count.{ones_step}
use Rattle.std.proofs.lemmas.Nat.{zero_from_ones, ones_le_self}
use Rattle.std.specs.Prelude.{Option, Some, None, IfSome, MatchOption, count_ones}
use Rattle.std.specs.Option.{unwrap_or}
use Rattle.std.specs.Int.{IsNextPowerOfTwo, is_power_of_two}
use Rattle.fields.specs.Outcome.{pick}
use Rattle.layout.specs.Layout.{first_pow, pow2_of, is_pow2, Pow}

first_none : (p x : ℕ) → p < x → first_pow 1 p x ≡ 0
unfolding first_pow
first_none p x h = rw (lt-leb x p h)

-- what the search from 2^k finds: a power of two that is at least x, and none of those from 2^k on that are so is less
pub record Found (k x r : ℕ) : Type 0 where
  pub power : Pow r
  pub above : x ≤ r
  pub least : (j : ℕ) → k ≤ j → x ≤ 2 ^ j → r ≤ 2 ^ j

found_here : (k x : ℕ) → x ≤ 2 ^ k → Found k x (2 ^ k)
found_here k x h = record { power = (k, refl); above = h; least = λ j l m. pow_mono l }

found_later : (k x r : ℕ) → 2 ^ k < x → Found (suc k) x r → Found k x r
found_later k x r h f =
    record { power = f.power; above = f.above; least = λ j l m. f.least j (lt_of_le-ne l (λ e. not-le_of_lt h (rw e m))) m }

found_by : (n k x : ℕ) (b : Bool) → leb x (2 ^ k) ≡ b → (2 ^ k < x → Found (suc k) x (first_pow n (2 ^ k * 2) x)) → Found k x (pick b (2 ^ k) (first_pow n (2 ^ k * 2) x))
found_by n k x true e f = found_here k x (leb-true x (2 ^ k) e)
found_by n k x false e f = let l = leb-false x (2 ^ k) e in found_later k x (first_pow n (2 ^ k * 2) x) l (f l)

found : (n k x : ℕ) → x ≤ 2 ^ (k + n) → Found k x (first_pow (suc n) (2 ^ k) x)
unfolding first_pow
found zero k x h = found_by zero k x (leb x (2 ^ k)) refl (λ l. absurd (not-le_of_lt l (rw add-zero at h)))
found (suc n) k x h =
    found_by (suc n) k x (leb x (2 ^ k)) refl
    (λ l. rw (← (pow-suc 2 k)) (found n (suc k) x (subst (λ (m : ℕ). x ≤ 2 ^ m) (add-suc k n ∙ sym (suc-add k n)) h)))

found_none : (n k x : ℕ) → 2 ^ (k + n) < x → first_pow (suc n) (2 ^ k) x ≡ 0
unfolding first_pow
found_none zero k x h = first_none (2 ^ k) x (rw add-zero at h)
found_none (suc n) k x h =
    let l : k ≤ k + suc n = omega arith in
    rw (lt-leb x (2 ^ k) (lt_of_le_of_lt (pow_mono l) h), ← (pow-suc 2 k)) (found_none n (suc k) x (subst (λ (m : ℕ). 2 ^ m < x) (add-suc k n ∙ sym (suc-add k n)) h))

-- Raising: the least power of two that is at least x.
pub raised : (x : ℕ) → x ≤ 2 ^ 63 → Found 0 x (pow2_of x)
raised x h = found 63 0 x h

pub raised_le : (x j : ℕ) → j ≤ 63 → x ≤ 2 ^ j → pow2_of x ≤ 2 ^ j
raised_le x j l h = (raised x (le_trans h (pow_mono l))).least j zero-le h

-- nothing of 64 bits is at least x
pub raised_none : (x : ℕ) → 2 ^ 63 < x → pow2_of x ≡ 0
raised_none x h = found_none 63 0 x h

-- half of the least power of two is less than x, so that it is no more than another
half_below : (x j k : ℕ) → x ≤ 2 ^ j → 2 ^ k / 2 < max 1 x → k ≤ j
half_below x j zero h l = zero-le
half_below x j (suc k) h l =
    let no : j ≤ k → ⊥ = λ g. let m : max 1 x ≤ 2 ^ k = max-le (pow_mono {i = 0} {j = k} zero-le) (le_trans h (pow_mono g)) in omega (arith, pow-suc 2 k, m, l) in
    let less : k < j = lt_of_not-le no in
    omega arith

-- what std raises to is that
pub next_is : (x : ℕ) (o : Option ℕ) → IfSome o (λ p. p < 2 ^ 64) → MatchOption o (2 ^ 63 < x) (IsNextPowerOfTwo x) → unwrap_or o 0 ≡ pow2_of x
next_is x None f h = sym (raised_none x h)
next_is x (Some p) f h =
    let k = h.0.0 in
    let e : p ≡ 2 ^ k = h.0.1 in
    let small : k < 64 = lt_of_not-le (λ (g : 64 ≤ k). let m : 2 ^ 64 ≤ 2 ^ k = pow_mono g in omega (arith, f, e, m)) in
    let above : x ≤ 2 ^ k = omega (arith, h.1, e) in
    let r = raised x (le_trans above (pow_mono {i = k} {j = 63} (omega arith))) in
    let j = r.power.0 in
    let q : pow2_of x ≡ 2 ^ j = r.power.1 in
    let later : k ≤ j = half_below x j k (omega (arith, r.above, q)) (rw e at h.2) in
    le_antisymm (omega (arith, pow_mono later, e, q)) (omega (arith, r.least k zero-le above, e))

-- the test for a power of two is one
pub is_pow : (x : ℕ) → x ≤ 2 ^ 63 → is_pow2 x ≡ true → Pow x
is_pow x h e = rw (sym (eqb-true (pow2_of x) x e)) (raised x h).power

pub pow_is : (x k : ℕ) → k ≤ 63 → x ≡ 2 ^ k → is_pow2 x ≡ true
pow_is x k l e =
    let h : x ≤ 2 ^ k = le_of_eq e in
    eq-eqb (pow2_of x) x (le_antisymm (rw (← e) at (raised_le x k l h)) (raised x (le_trans h (pow_mono l))).above)

-- one bit is set in a power of two, and in no other number
one_by : (n : ℕ) → (n % 2 ≡ 0) ⊎ (0 < n % 2) → count_ones n ≡ 1 → (count_ones (n / 2) ≡ 1 → Pow (n / 2)) → Pow n
one_by n (inl z) e f = let p = f (omega (arith, ones_step n, e, z)) in (suc p.0, omega (arith, z, p.1, pow-suc 2 p.0))
one_by n (inr l) e f = let h : n / 2 ≡ 0 = zero_from_ones (n / 2) (omega (arith, ones_step n, e, l)) in (0, omega (arith, h, l))

one_bit : (d n : ℕ) → n ≤ d → count_ones n ≡ 1 → Pow n
one_bit zero n h e = absurd (omega (arith, h, e, ones_le_self n))
one_bit (suc d) n h e = one_by n (eq-zero-or-pos (n % 2)) e (one_bit d (n / 2) (omega (arith, h)))

pow_bit : (k : ℕ) → count_ones (2 ^ k) ≡ 1
pow_bit zero = omega (arith, ones_step 1, ones_le_self 0)
pow_bit (suc k) =
    let h : 2 ^ suc k / 2 ≡ 2 ^ k = omega (arith, pow-suc 2 k) in
    omega (arith, ones_step (2 ^ suc k), ap count_ones h, pow_bit k, pow-suc 2 k)

same_test : (a b : Bool) → (a ≡ true → b ≡ true) → (b ≡ true → a ≡ true) → a ≡ b
same_test true b f g = sym (f refl)
same_test false true f g = g refl
same_test false false f g = refl

pub bit_is : (x : ℕ) → x ≤ 2 ^ 63 → is_power_of_two x ≡ is_pow2 x
bit_is x h =
    same_test (is_power_of_two x) (is_pow2 x)
    (λ e. let p : Pow x = one_bit x x (le_refl x) (eqb-true (count_ones x) 1 e) in
    let small : p.0 < 64 = lt_of_not-le (λ (g : 64 ≤ p.0). let m : 2 ^ 64 ≤ 2 ^ p.0 = pow_mono g in omega (arith, h, p.1, m)) in
    pow_is x p.0 (omega arith) p.1)
    (λ e. let p : Pow x = is_pow x h e in eq-eqb (count_ones x) 1 (ap count_ones p.1 ∙ pow_bit p.0))
