use Prim.Native.Nat.{◌+◌, ◌*◌}
use native.Mathlib.Omega.{arith}
use Rattle.fields.specs.declared.Order.TheVariants.{Little}
use Rattle.fields.proofs.Laws.{number_lt}
use Rattle.words.proofs.Laws.{halves}
use Rattle.words.proofs.word.Goals as goal

pub overflow_mul-result : goal.overflow_mul-result
overflow_mul-result c = let p = c.args in omega (arith, number_lt Little p.s.now (p.k * 8 + 4) 4 (λ j. (c.type_inv.s j).fits), c.half.ensures)

pub overflow_add-result : goal.overflow_add-result
overflow_add-result c = let p = c.args in omega (arith, number_lt Little p.s.now (p.k * 8 + 4) 4 (λ j. (c.type_inv.s j).fits), number_lt Little p.s.now (p.k * 8) 4 (λ j. (c.type_inv.s j).fits), c.half.ensures, c.half-2.ensures)

pub returns : goal.returns
returns c = let p = c.args in omega (arith, c.half.ensures, c.half-2.ensures, halves p.s.now (p.k * 8))
