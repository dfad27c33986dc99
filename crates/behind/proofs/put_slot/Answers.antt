use mathlib.Core.Path.{refl, ap, sym, ◌∙◌}
use mathlib.Core.Bool.{Bool}
use mathlib.Core.List.{List}
use Prim.Native.Nat.{ℕ}
use native.Mathlib.Omega.{arith}
use borrow.Author.Rules.{rules}
use borrow.Author.Tests.{lt-ltb, le-ltb}
use Rattle.behind.proofs.Laws.{put_short, put_long}
use Rattle.behind.proofs.put_slot.Goals as goal

pub returns-then-m-lt-STATE_BYTES : goal.returns-then-m-lt-STATE_BYTES
returns-then-m-lt-STATE_BYTES c = rw (lt-ltb _ _ c.if-i-lt-COUNT.true) (put_short _ _ _ c.if-m-lt-STATE_BYTES.true)

pub put_row-requires : goal.put_row-requires
put_row-requires c = (omega arith, omega arith)

pub returns-else-m-lt-STATE_BYTES : goal.returns-else-m-lt-STATE_BYTES
returns-else-m-lt-STATE_BYTES c = rw (lt-ltb _ _ c.if-i-lt-COUNT.true) (c.put_row.ensures ∙ put_long _ _ _ c.if-m-lt-STATE_BYTES.false)

pub returns-else-i-lt-COUNT : goal.returns-else-i-lt-COUNT
returns-else-i-lt-COUNT c = rw (le-ltb _ _ c.if-i-lt-COUNT.false) refl
