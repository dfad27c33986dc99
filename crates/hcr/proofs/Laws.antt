-- Laws of the command register's words: the wait, and the order of bytes.
use Prim.Native.Nat.{ℕ, zero, suc, ◌+◌, ◌-◌, ◌*◌, ◌/◌, ◌%◌, ◌^◌, ◌≤◌, ◌<◌}
use mathlib.Core.Bool.{Bool, true, false, beq, not-not}
use mathlib.Core.Path.{◌≡◌, refl, ap, sym, subst, ◌∙◌}
use mathlib.Core.List.{List, [], ◌∷◌}
use native.Mathlib.Nat.{add-zero, add-suc, mod-lt, mod-eq_of_lt, div-lt_iff_lt-mul}
use native.Mathlib.Omega.{arith}
use borrow.Author.Tests.{lt-ltb, le-ltb, ne_eqb}
use lib.Dec.{ltb, eqb, lit≤, lit<}
use Rattle.std.specs.List.{list_any}
use Rattle.std.proofs.Common.{bit_and, not, zero-mul}
use Rattle.std.proofs.lemmas.Nat.{pow_pos}
use Rattle.std.proofs.lemmas.Nat.Bits.{and_pow}
use Rattle.std.proofs.lemmas.Bool.Decides.{nat_tests}
use lib.Pow.{shr-shr, split}
use Rattle.fields.specs.Outcome.{pick}
use Rattle.hcr.specs.Words.{waited_of, swap_of, is_in, bit, same}

-- the first n stalls together: 1 µs each up to 1,000, then 100 µs each
pub waited_short : (n : ℕ) → n ≤ 1000 → waited_of n ≡ n
unfolding waited_of
waited_short zero h = refl
waited_short (suc n) h = rw (lt-ltb n 1000 h) (omega (arith, waited_short n (omega arith)))

pub waited_long : (n : ℕ) → waited_of (1000 + n) ≡ 1000 + n * 100
unfolding waited_of
waited_long zero = waited_short 1000 (lit≤ tt)
waited_long (suc n) = ap waited_of (add-suc 1000 n) ∙ rw (le-ltb (1000 + n) 1000 (omega arith)) (omega (arith, waited_long n))

pub waited_is : (n : ℕ) → 1000 ≤ n → waited_of n ≡ 1000 + (n - 1000) * 100
waited_is n h = let e : n ≡ 1000 + (n - 1000) = omega arith in ap waited_of e ∙ waited_long (n - 1000)

waited_more : (n : ℕ) → waited_of n < waited_of (suc n)
unfolding waited_of
waited_more n = more (ltb n 1000)
  where
    more : (b : Bool) → waited_of n < waited_of n + pick b 1 100
    more true = omega arith
    more false = omega arith

pub waited_mono : (n d : ℕ) → waited_of n ≤ waited_of (n + d)
waited_mono n zero = rw (add-zero n) (omega arith)
waited_mono n (suc d) = rw (add-suc n d) (omega (arith, waited_mono n d, waited_more (n + d)))

-- A Timeout has waited exactly 60,000,000 µs, in 600,990 stalls: that many is enough, and fewer are not.
pub timeout_waited : waited_of 600990 ≡ 60000000
timeout_waited = waited_is 600990 (lit≤ tt)

pub no_sooner : (n : ℕ) → n < 600990 → waited_of n < 60000000
no_sooner n h =
    let m = waited_mono (suc n) (600990 - suc n) in
    let e : suc n + (600990 - suc n) ≡ 600990 = omega arith in
    let m' : waited_of (suc n) ≤ 60000000 = subst (λ (k : ℕ). waited_of (suc n) ≤ k) (ap waited_of e ∙ timeout_waited) m in
    omega (arith, waited_more n)

-- a dword of these four bytes, the greatest first
abbrev dword : (a b c d : ℕ) → ℕ
dword a b c d = a * 2 ^ 24 + b * 2 ^ 16 + c * 2 ^ 8 + d

module _ (a b c d : ℕ) (ha : a < 256) (hb : b < 256) (hc : c < 256) (hd : d < 256) where
  byte0 : dword a b c d % 256 ≡ d
  byte0 = omega arith

  byte1 : dword a b c d / 2 ^ 8 % 256 ≡ c
  byte1 = omega arith

  byte2 : dword a b c d / 2 ^ 16 % 256 ≡ b
  byte2 = omega arith

  byte3 : dword a b c d / 2 ^ 24 % 256 ≡ a
  byte3 = omega arith

  swap_bytes : swap_of (dword a b c d) ≡ dword d c b a
  swap_bytes = simp (byte0, byte1, byte2, byte3)

joined : (x y z w b₀ b₁ b₂ : ℕ) → y * 256 + b₀ ≡ x → z * 256 + b₁ ≡ y → w * 256 + b₂ ≡ z → dword w b₂ b₁ b₀ ≡ x
joined x y z w b₀ b₁ b₂ e f g = omega arith

whole : (x : ℕ) → x < 2 ^ 32 → dword (x / 2 ^ 24 % 256) (x / 2 ^ 16 % 256) (x / 2 ^ 8 % 256) (x % 256) ≡ x
whole x h =
    let top : x / 2 ^ 24 % 256 ≡ x / 2 ^ 24 = mod-eq_of_lt ((div-lt_iff_lt-mul {k = 2 ^ 24} {x = x} {y = 256} (lit< tt)).1 h) in
    ap (λ (n : ℕ). dword n (x / 2 ^ 16 % 256) (x / 2 ^ 8 % 256) (x % 256)) top
    ∙ joined x (x / 2 ^ 8) (x / 2 ^ 16) (x / 2 ^ 24) (x % 256) (x / 2 ^ 8 % 256) (x / 2 ^ 16 % 256) (split x 8)
    (ap (λ (n : ℕ). n * 256 + x / 2 ^ 8 % 256) (sym (shr-shr x 8 8)) ∙ split (x / 2 ^ 8) 8)
    (ap (λ (n : ℕ). n * 256 + x / 2 ^ 16 % 256) (sym (shr-shr x 16 8)) ∙ split (x / 2 ^ 16) 8)

-- swapping twice gives the dword back
pub swap_swap : (x : ℕ) → x < 2 ^ 32 → swap_of (swap_of x) ≡ x
swap_swap x h =
    swap_bytes (x % 256) (x / 2 ^ 8 % 256) (x / 2 ^ 16 % 256) (x / 2 ^ 24 % 256)
    (mod-lt x {m = 256} (lit< tt)) (mod-lt (x / 2 ^ 8) {m = 256} (lit< tt)) (mod-lt (x / 2 ^ 16) {m = 256} (lit< tt)) (mod-lt (x / 2 ^ 24) {m = 256} (lit< tt))
    ∙ whole x h

-- a bit is set where its mask leaves something
mask_on : (b p : ℕ) → b < 2 → 0 < p → not (eqb (b * p) 0) ≡ eqb b 1
mask_on b p h k = by b h
  where
    by : (b : ℕ) → b < 2 → not (eqb (b * p) 0) ≡ eqb b 1
    by zero h = simp zero-mul
    by (suc zero) h = let e : suc zero * p ≡ p = omega arith in rw (e, ne_eqb p 0 (λ z. omega arith))
    by (suc (suc n)) h = absurd (omega arith)

pub bit_on : (n k : ℕ) → not (eqb (bit_and n (2 ^ k)) 0) ≡ bit k n
bit_on n k = rw (and_pow n k) (mask_on (n / 2 ^ k % 2) (2 ^ k) (omega arith) (pow_pos k))

pub bit_off : (n k : ℕ) → eqb (bit_and n (2 ^ k)) 0 ≡ not (bit k n)
bit_off n k = sym (not-not _) ∙ ap not (bit_on n k)

-- two flags are equal
pub equal_same : (a b : Bool) → beq a b ≡ same a b
equal_same true true = refl
equal_same true false = refl
equal_same false true = refl
equal_same false false = refl

eqb_swap : (m n : ℕ) → eqb m n ≡ eqb n m
eqb_swap m n = grind (arith, nat_tests)

-- an opcode that stands in a row is told by `contains`
pub any_is_in : (n : ℕ) (xs : List ℕ) → list_any (λ y. eqb y n) xs ≡ is_in n xs
unfolding is_in
any_is_in n [] = refl
any_is_in n (x ∷ xs) = rw (eqb_swap x n, any_is_in n xs)
