use borrow.Author.Tests.{ne_eqb}
use Rattle.in_place.proofs.after_read.Goals as goal

pub returns-in-0 : goal.returns-in-0
returns-in-0 c = simp (
  c.in-0.is,
  c.after_first.ensures,
  c.flag.ensures,
)

pub returns-in-4 : goal.returns-in-4
returns-in-4 c = simp (
  c.in-4.is,
  c.after_poll.ensures,
  c.flag-in-4.ensures,
)

pub returns-in-7 : goal.returns-in-7
returns-in-7 c = simp (
  c.in-7.is,
  c.after_status.ensures,
)

pub returns-in-8 : goal.returns-in-8
returns-in-8 c = simp (
  c.in-8.is,
  c.wide32.ensures,
)

pub returns-in_default : goal.returns-in_default
returns-in_default c = simp (
  ne_eqb _ _ c.in_default.in_default-own.rest.0.0.0.1,
  ne_eqb _ _ c.in_default.in_default-own.rest.0.0.1,
  ne_eqb _ _ c.in_default.in_default-own.rest.0.1,
  ne_eqb _ _ c.in_default.in_default-own.rest.1,
)
