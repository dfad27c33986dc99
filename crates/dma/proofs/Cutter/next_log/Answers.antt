use Rattle.std.proofs.Common.{◌≡◌, ◌/◌, sym, ap, ◌∙◌, arith}
use Rattle.dma.specs.Blocks.{virt_of, stands, highest}
use Rattle.dma.proofs.Exponent.{missed, hit, half}
use Rattle.dma.proofs.Cutter.next_log.Goals as goal

pub returns-then-can_stand : goal.returns-then-can_stand
returns-then-can_stand c = let a = c.args in let l = c.loop-log in
    let t = stands a.largest (virt_of a.self.virt) a.self.phys a.self.left in
    sym (hit t l.log (omega arith) (sym c.can_stand.ensures ∙ c.if-can_stand.true)) ∙ l.invariant.1

pub loop-log-preserved : goal.loop-log-preserved
loop-log-preserved c = let a = c.args in let l = c.loop-log in
    let t = stands a.largest (virt_of a.self.virt) a.self.phys a.self.left in
    (ap (λ n. n / 2) l.invariant.0 ∙ half l.log c.loop-log-test.true, missed t l.log (omega arith) (sym c.can_stand.ensures ∙ c.if-can_stand.false) ∙ l.invariant.1)

pub returns : goal.returns
unfolding highest
returns c = let a = c.args in let l = c.loop-log in
    let t = stands a.largest (virt_of a.self.virt) a.self.phys a.self.left in
    let z : l.log ≡ 0 = omega arith in
    ap (highest t) (sym z) ∙ l.invariant.1
