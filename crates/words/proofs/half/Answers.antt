use Prim.Native.Nat.{ℕ}
use mathlib.Core.Path.{ap}
use native.Mathlib.Nat.{add-zero}
use native.Mathlib.Omega.{arith}
use lib.ListN.{get_or}
use Rattle.fields.specs.Fields.{digits}
use Rattle.words.proofs.half.Goals as goal

pub returns : goal.returns
unfolding digits
returns c = let p = c.args in omega (arith, ap (λ (n : ℕ). get_or p.s.now n 0) (add-zero p.off), c.byte.ensures, c.byte-2.ensures, c.byte-3.ensures, c.byte-4.ensures)
