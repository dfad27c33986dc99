use Rattle.words_beside.proofs.reset_from.Goals as goal

pub returns : goal.returns
returns c = simp (
  c.reset_phase_from.ensures,
  c.control_from.ensures,
  c.narrow32.ensures,
  c.narrow32-2.ensures,
  c.narrow32-3.ensures,
  c.narrow32-4.ensures,
  c.narrow32-5.ensures,
  c.narrow32-6.ensures,
  c.narrow32-7.ensures,
  c.narrow32-8.ensures,
  c.narrow32-9.ensures,
  c.narrow32-10.ensures,
  c.narrow32-11.ensures,
  c.narrow32-12.ensures,
  c.narrow32-13.ensures,
  c.narrow32-14.ensures,
  c.narrow32-15.ensures,
  c.narrow32-16.ensures,
)
