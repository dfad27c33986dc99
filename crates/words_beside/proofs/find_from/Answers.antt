use Rattle.words_beside.proofs.find_from.Goals as goal

pub returns : goal.returns
returns c = simp (
  c.bar_phase_from.ensures,
  c.narrow32.ensures,
  c.narrow32-2.ensures,
  c.narrow32-3.ensures,
  c.narrow32-4.ensures,
  c.narrow32-5.ensures,
  c.narrow32-6.ensures,
)
