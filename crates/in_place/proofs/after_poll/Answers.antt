use Prim.Native.Nat.{ℕ, ◌%◌, ◌<◌}
use mathlib.Core.Path.{◌≡◌}
use native.Mathlib.Nat.{mod-eq_of_lt}
use native.Mathlib.Omega.{arith}
use borrow.Author.Tests.{lt-ltb, le-ltb}
use Rattle.in_place.proofs.after_poll.Goals as goal

-- a count of stalls is of 32 bits
narrow : (n : ℕ) → n < 600990 → n % 4294967296 ≡ n
narrow n h = let l : n < 4294967296 = omega arith in mod-eq_of_lt l

pub returns-then-stalls-lt600990 : goal.returns-then-stalls-lt600990
returns-then-stalls-lt600990 c = simp (
  ← c.pending.ensures,
  c.if-pending.true,
  lt-ltb _ _ c.if-stalls-lt600990.true,
  c.stall.ensures,
  c.narrow32.ensures,
  narrow _ c.if-stalls-lt600990.true,
)

pub returns-then-pending : goal.returns-then-pending
returns-then-pending c = simp (
  ← c.pending.ensures,
  c.if-pending.true,
  le-ltb _ _ c.if-stalls-lt600990.false,
)

pub returns : goal.returns
returns c = simp (
  ← c.pending.ensures,
  c.if-pending.false,
)
