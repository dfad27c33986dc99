use Rattle.std.proofs.Common.{ℕ, ◌^◌, ◌<◌, leb, subst, arith}
use Rattle.fields.specs.Fields.{number_at, fits}
use Rattle.fields.proofs.Laws.{number_lt, value_picked}
use Rattle.fields.proofs.read.Goals as goal

pub narrow-requires : goal.narrow-requires
narrow-requires g c = let p = c.args in let n = c.in_ok-field.field-0 in
    let e = value_picked (leb c.WIDTH.result 8) (fits p.s.now p.off c.WIDTH.result) n (number_at p.order p.s.now p.off c.WIDTH.result) c.in_ok-field.ensures in
    subst (λ (w : ℕ). n < 256 ^ w) c.WIDTH.ensures (omega (arith, e, number_lt p.order p.s.now p.off c.WIDTH.result (λ k. (c.type_inv.s k).fits)))
