use Prim.Native.Nat.{ℕ, min}
use mathlib.Core.Path.{◌≡◌}
use native.Mathlib.Omega.{arith}
use Rattle.in_place.proofs.ask_write.Goals as goal

-- the last of the six words
last : (i : ℕ) → (i ≡ 0 → ⊥) → (i ≡ 1 → ⊥) → (i ≡ 2 → ⊥) → (i ≡ 3 → ⊥) → (i ≡ 4 → ⊥) → min i 5 ≡ 5
last i a b d e f = omega arith

pub returns-in-0 : goal.returns-in-0
returns-in-0 c = simp (
  c.in-0.is,
  c.write.ensures,
  c.high.ensures,
)

pub returns-in-1 : goal.returns-in-1
returns-in-1 c = simp (
  c.in-1.is,
  c.write-in-1.ensures,
  c.narrow32.ensures,
)

pub returns-in-2 : goal.returns-in-2
returns-in-2 c = simp (
  c.in-2.is,
  c.write-in-2.ensures,
  c.narrow32-in-2.ensures,
)

pub returns-in-3 : goal.returns-in-3
returns-in-3 c = simp (
  c.in-3.is,
  c.write-in-3.ensures,
  c.high-in-3.ensures,
)

pub returns-in-4 : goal.returns-in-4
returns-in-4 c = simp (
  c.in-4.is,
  c.write-in-4.ensures,
  c.narrow32-in-4.ensures,
)

pub returns-in_default : goal.returns-in_default
returns-in_default c = simp (
  c.write-in_default.ensures,
  last _ c.in_default.in_default-own.rest.0.0.0.0.1 c.in_default.in_default-own.rest.0.0.0.1 c.in_default.in_default-own.rest.0.0.1 c.in_default.in_default-own.rest.0.1 c.in_default.in_default-own.rest.1,
)
