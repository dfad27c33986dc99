use Prim.Native.Nat.{ℕ, ◌%◌, ◌^◌, ◌<◌}
use mathlib.Core.Path.{sym, ap, ◌∙◌}
use native.Mathlib.Nat.{div-eq_of_lt, lt_of_lt_of_le}
use native.Mathlib.Omega.{arith}
use borrow.Author.Tests.{le-ltb}
use lib.Dec.{eqb}
use lib.Pow.{pow_mono}
use Rattle.reply.proofs.has_bit.Goals as goal

pub returns-else-number-lt64 : goal.returns-else-number-lt64
returns-else-number-lt64 c =
    let p = c.args in
    let h : p.flags < 2 ^ 64 = omega arith in
    le-ltb _ _ c.if-number-lt64.false
    ∙ sym (ap (λ (n : ℕ). eqb (n % 2) 1) (div-eq_of_lt (lt_of_lt_of_le h (pow_mono {i = 64} {j = p.number} c.if-number-lt64.false))))
