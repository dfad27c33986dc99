use Rattle.std.proofs.Common.{eq-eqb, ne_eqb}
use Rattle.bars.proofs.took_first.Goals as goal

pub returns-then-c : goal.returns-then-c
returns-then-c c = simp (eq-eqb _ _ c.if-c.true, c.judge.ensures)

pub returns : goal.returns
returns c = simp (ne_eqb _ _ c.if-c.false)
