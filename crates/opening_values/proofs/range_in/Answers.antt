use Prim.Native.Nat.{◌≤◌}
use mathlib.Core.Path.{◌≡◌, sym}
use native.Mathlib.Omega.{arith}
use borrow.Author.Rules.{rules}
use lib.ListN.{length, get_or-eq_default}
use Rattle.opening_values.proofs.range_in.Goals as goal

-- past the end there is nothing
pub returns : goal.returns
returns c =
    let p = c.args in
    let n : length p.ranges ≡ 14 = search rules in
    sym (get_or-eq_default p.ranges _ (let h : length p.ranges ≤ p.i = omega (arith, c.if-i-lt14.false) in h))
