use borrow.Author.Tests.{ne_eqb}
use Rattle.words_beside.proofs.reset_phase_from.Goals as goal

pub returns-in-1 : goal.returns-in-1
returns-in-1 c = simp c.in-1.is

pub returns-in-2 : goal.returns-in-2
returns-in-2 c = simp (
  c.in-2.is,
  c.narrow8.ensures,
  c.narrow8-in-2.ensures,
)

pub returns-in-3 : goal.returns-in-3
returns-in-3 c = simp (
  c.in-3.is,
  c.narrow8-in-3.ensures,
)

pub returns-in-4 : goal.returns-in-4
returns-in-4 c = simp (
  c.in-4.is,
  c.narrow8-in-4.ensures,
  c.narrow16.ensures,
)

pub returns-in-5 : goal.returns-in-5
returns-in-5 c = simp (
  c.in-5.is,
  c.narrow16-in-5.ensures,
)

pub returns-in-6 : goal.returns-in-6
returns-in-6 c = simp (
  c.in-6.is,
  c.narrow16-in-6.ensures,
)

pub returns-in-7 : goal.returns-in-7
returns-in-7 c = simp c.in-7.is

pub returns-in-8 : goal.returns-in-8
returns-in-8 c = simp c.in-8.is

pub returns-in-9 : goal.returns-in-9
returns-in-9 c = simp (
  c.in-9.is,
  c.narrow16-in-9.ensures,
)

pub returns-in-10 : goal.returns-in-10
returns-in-10 c = simp (
  c.in-10.is,
  c.narrow16-in-10.ensures,
)

pub returns-in-11 : goal.returns-in-11
returns-in-11 c = simp (
  c.in-11.is,
  c.narrow8-in-11.ensures,
  c.narrow16-in-11.ensures,
  c.narrow16-in-11-2.ensures,
)

pub returns-in-12 : goal.returns-in-12
returns-in-12 c = simp (
  c.in-12.is,
  c.narrow8-in-12.ensures,
  c.narrow16-in-12.ensures,
)

pub returns-in-13 : goal.returns-in-13
returns-in-13 c = simp (
  c.in-13.is,
  c.narrow8-in-13.ensures,
)

pub returns-in_default : goal.returns-in_default
returns-in_default c = simp (
  ne_eqb _ _ c.in_default.in_default-own.rest.0.0.0.0.0.0.0.0.0.0.0.0.1,
  ne_eqb _ _ c.in_default.in_default-own.rest.0.0.0.0.0.0.0.0.0.0.0.1,
  ne_eqb _ _ c.in_default.in_default-own.rest.0.0.0.0.0.0.0.0.0.0.1,
  ne_eqb _ _ c.in_default.in_default-own.rest.0.0.0.0.0.0.0.0.0.1,
  ne_eqb _ _ c.in_default.in_default-own.rest.0.0.0.0.0.0.0.0.1,
  ne_eqb _ _ c.in_default.in_default-own.rest.0.0.0.0.0.0.0.1,
  ne_eqb _ _ c.in_default.in_default-own.rest.0.0.0.0.0.0.1,
  ne_eqb _ _ c.in_default.in_default-own.rest.0.0.0.0.0.1,
  ne_eqb _ _ c.in_default.in_default-own.rest.0.0.0.0.1,
  ne_eqb _ _ c.in_default.in_default-own.rest.0.0.0.1,
  ne_eqb _ _ c.in_default.in_default-own.rest.0.0.1,
  ne_eqb _ _ c.in_default.in_default-own.rest.0.1,
  ne_eqb _ _ c.in_default.in_default-own.rest.1,
  c.narrow8-in_default.ensures,
)
