use Rattle.std.proofs.Common.{◌≡◌, ℕ, ◌-◌, ◌/◌, ◌%◌, refl, ap, sym, ◌∙◌, arith}
use lib.ListN.{set, length-set}
use Rattle.fields.specs.Fields.{place_of, put_digits}
use Rattle.fields.proofs.Laws.{put_less}
use Rattle.fields.proofs.put.Goals as goal

pub loop-i-preserved : goal.loop-i-preserved
loop-i-preserved c = let p = c.args in let l = c.loop-i in (
  simp length-set l.invariant.0,
  ap (λ (k : ℕ). put_digits (set l.s k (l.x % 256)) (place_of p.order p.off p.width) (l.i - 1) (l.x / 256)) c.place-at.ensures
      ∙ put_less l.s (place_of p.order p.off p.width) l.i l.x (omega arith)
      ∙ l.invariant.1,
)

pub returns : goal.returns
unfolding put_digits
returns c = let p = c.args in let l = c.loop-i in let z : l.i ≡ 0 = omega arith in
    let e : put_digits l.s (place_of p.order p.off p.width) 0 l.x ≡ l.s = refl in sym e ∙ rw z at l.invariant.1
