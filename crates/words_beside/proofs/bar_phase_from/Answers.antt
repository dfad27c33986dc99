use borrow.Author.Tests.{ne_eqb}
use Rattle.words_beside.proofs.bar_phase_from.Goals as goal

pub returns-in-1 : goal.returns-in-1
returns-in-1 c = simp (
  c.in-1.is,
  c.choice_from.ensures,
)

pub returns-in_default : goal.returns-in_default
returns-in_default c = simp (
  ne_eqb _ _ c.in_default.in_default-own.rest.1,
  c.narrow8.ensures,
)
