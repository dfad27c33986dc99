use borrow.Author.Tests.{eq-eqb, ne_eqb}
use Rattle.opening_values.proofs.status_of.Goals as goal

pub returns-then-s-eq-STATUS_MULTI_FUNC : goal.returns-then-s-eq-STATUS_MULTI_FUNC
returns-then-s-eq-STATUS_MULTI_FUNC c = simp (eq-eqb _ _ c.if-s-eq-STATUS_MULTI_FUNC.true)

pub returns : goal.returns
returns c = simp (ne_eqb _ _ c.if-s-eq-STATUS_MULTI_FUNC.false)
