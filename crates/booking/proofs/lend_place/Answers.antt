use Prim.Native.Nat.{◌<◌}
use native.Mathlib.Omega.{arith}
use borrow.Author.Tests.{le-ltb, lt-ltb}
use Rattle.booking.proofs.lend_place.Goals as goal

pub returns-then-i-lt-LENT : goal.returns-then-i-lt-LENT
returns-then-i-lt-LENT c =
    let p = c.args in
    simp (lt-ltb _ _ c.if-i-lt-LENT.true, lt-ltb p.i 82 (let h : p.i < 82 = omega (arith, c.if-i-lt-LENT.true) in h))

pub returns : goal.returns
returns c = simp (le-ltb _ _ c.if-i-lt-LENT.false)
