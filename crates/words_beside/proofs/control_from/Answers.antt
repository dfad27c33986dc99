use borrow.Author.Tests.{ne_eqb}
use Rattle.words_beside.proofs.control_from.Goals as goal

pub returns-in-1 : goal.returns-in-1
returns-in-1 c = simp (
  c.in-1.is,
  c.narrow8.ensures,
  c.narrow16.ensures,
  c.narrow16-in-1.ensures,
)

pub returns-in_default : goal.returns-in_default
returns-in_default c = simp (ne_eqb _ _ c.in_default.in_default-own.rest.1)
