use borrow.Author.Tests.{le-leb, le-ltb, lt-leb, lt-ltb}
use native.Mathlib.Nat.{mod-eq_of_lt}
use Rattle.words_calls.proofs.word_from.Goals as goal

pub returns-then-a-lt65536 : goal.returns-then-a-lt65536
returns-then-a-lt65536 c = simp (
  lt-ltb _ _ c.if-a-lt65536.true,
  lt-leb _ _ c.if-a-lt65536.true,
  c.narrow16.ensures,
  mod-eq_of_lt c.if-a-lt65536.true,
)

pub returns : goal.returns
returns c = simp (
  le-leb _ _ c.if-a-lt65536.false,
  le-ltb _ _ c.if-a-lt65536.false,
)
