use borrow.Author.Tests.{le-leb, le-ltb, lt-leb, lt-ltb}
use native.Mathlib.Nat.{mod-eq_of_lt}
use Rattle.words_calls.proofs.dword_from.Goals as goal

pub returns-then-a-lt4294967296 : goal.returns-then-a-lt4294967296
returns-then-a-lt4294967296 c = simp (
  lt-ltb _ _ c.if-a-lt4294967296.true,
  lt-leb _ _ c.if-a-lt4294967296.true,
  c.narrow32.ensures,
  mod-eq_of_lt c.if-a-lt4294967296.true,
)

pub returns : goal.returns
returns c = simp (
  le-leb _ _ c.if-a-lt4294967296.false,
  le-ltb _ _ c.if-a-lt4294967296.false,
)
