use Rattle.std.proofs.Common.{sym, ap, ◌∙◌, add-one}
use Rattle.bars.specs.Choose.{others_from}
use Rattle.bars.specs.Steps.{onward_of}
use Rattle.bars.specs.declared.Next.TheVariants as n
use Rattle.bars.proofs.Others.{others_take, others_pass, others_end}
use Rattle.bars.proofs.onward.Goals as goal

pub returns-then-is_other : goal.returns-then-is_other
returns-then-is_other c = let p = c.args.c in let l = c.loop-i in
    ap (onward_of p) (sym (others_take p.first.index p.second.index l.i c.loop-i-test.true (sym c.is_other.ensures ∙ c.if-is_other.true)) ∙ l.invariant)

pub loop-i-preserved : goal.loop-i-preserved
loop-i-preserved c = let p = c.args.c in let l = c.loop-i in
    ap (others_from p.first.index p.second.index) (add-one l.i)
    ∙ sym (others_pass p.first.index p.second.index l.i c.loop-i-test.true (sym c.is_other.ensures ∙ c.if-is_other.false))
    ∙ l.invariant

pub returns : goal.returns
returns c = let p = c.args.c in let l = c.loop-i in
    ap n.Picked c.settle.ensures
    ∙ ap (onward_of p) (sym (others_end p.first.index p.second.index l.i c.loop-i-test.false) ∙ l.invariant)
