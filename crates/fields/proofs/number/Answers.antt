use Rattle.std.proofs.Common.{ℕ, ◌+◌, ◌*◌, refl, ap, sym, ◌∙◌, get_or, arith}
use Rattle.fields.specs.Fields.{place_of, digits}
use Rattle.fields.proofs.Laws.{digits_more, digits_below}
use Rattle.fields.proofs.number.Goals as goal

pub loop-i-init : goal.loop-i-init
unfolding digits
loop-i-init c = refl

pub overflow_mul-v : goal.overflow_mul-v
overflow_mul-v c = let p = c.args in let i = c.loop-i.i in
    omega (arith, digits_below p.s.now (place_of p.order p.off p.width) i 7 (λ k. (c.type_inv.s k).fits) (omega arith))

pub overflow_add-v : goal.overflow_add-v
overflow_add-v c = let p = c.args in let i = c.loop-i.i in
    omega (arith, digits_below p.s.now (place_of p.order p.off p.width) i 7 (λ k. (c.type_inv.s k).fits) (omega arith), c.from.ensures, c.type_inv.s c.place-at.result)

pub loop-i-preserved : goal.loop-i-preserved
loop-i-preserved c = let p = c.args in let l = c.loop-i in
    ap (λ (n : ℕ). n * 256 + c.from.result) l.invariant
    ∙ ap (λ (n : ℕ). digits p.s.now (place_of p.order p.off p.width) l.i * 256 + n)
    (c.from.ensures ∙ ap (λ (k : ℕ). get_or p.s.now k 0) c.place-at.ensures)
    ∙ sym (digits_more p.s.now (place_of p.order p.off p.width) l.i)
