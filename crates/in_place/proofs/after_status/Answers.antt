use borrow.Author.Tests.{eq-eqb, ne_eqb}
use Rattle.in_place.proofs.after_status.Goals as goal

pub returns-then-status-eq0 : goal.returns-then-status-eq0
returns-then-status-eq0 c = simp (
  ← c.status.ensures,
  eq-eqb _ _ c.if-status-eq0.true,
)

pub returns : goal.returns
returns c = simp (
  ← c.status.ensures,
  ne_eqb _ _ c.if-status-eq0.false,
)
