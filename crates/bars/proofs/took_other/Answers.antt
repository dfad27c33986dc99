use Rattle.std.proofs.Common.{suc, sym, ◌∙◌, add-one, arith}
use Rattle.bars.proofs.Others.{others_end}
use Rattle.bars.proofs.took_other.Goals as goal

pub returns-then-has_base : goal.returns-then-has_base
returns-then-has_base c = simp (sym c.has_base.ensures ∙ c.if-has_base.true, c.pick_of.ensures)

pub returns-then-index-ge-INDICES : goal.returns-then-index-ge-INDICES
returns-then-index-ge-INDICES c = let p = c.args in
    simp (
      sym c.has_base.ensures ∙ c.if-has_base.false,
      others_end p.c.first.index p.c.second.index (suc p.index) (omega arith),
      c.settle.ensures,
    )

pub returns : goal.returns
returns c = simp (sym c.has_base.ensures ∙ c.if-has_base.false, c.onward.ensures, add-one)
