use borrow.Author.Tests.{ne_eqb}
use Rattle.in_place.proofs.after_done.Goals as goal

pub returns-in-1 : goal.returns-in-1
returns-in-1 c = simp (
  c.in-1.is,
  c.after_write.ensures,
)

pub returns-in-2 : goal.returns-in-2
returns-in-2 c = simp c.in-2.is

pub returns-in-3 : goal.returns-in-3
returns-in-3 c = simp (
  c.in-3.is,
  c.bit.ensures,
  c.flag.ensures,
)

pub returns-in-5 : goal.returns-in-5
returns-in-5 c = simp (
  c.in-5.is,
  c.after_stall.ensures,
)

pub returns-in-6 : goal.returns-in-6
returns-in-6 c = simp c.in-6.is

pub returns-in_default : goal.returns-in_default
returns-in_default c = simp (
  ne_eqb _ _ c.in_default.in_default-own.rest.0.0.0.0.1,
  ne_eqb _ _ c.in_default.in_default-own.rest.0.0.0.1,
  ne_eqb _ _ c.in_default.in_default-own.rest.0.0.1,
  ne_eqb _ _ c.in_default.in_default-own.rest.0.1,
  ne_eqb _ _ c.in_default.in_default-own.rest.1,
)
