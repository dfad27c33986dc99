use Rattle.words_task.proofs.cmd_from.Goals as goal

pub returns : goal.returns
returns c = simp (
  c.phase_from.ensures,
  c.narrow16.ensures,
  c.narrow8.ensures,
  c.narrow32.ensures,
  c.flag.ensures,
  c.narrow32-2.ensures,
  c.catas_from.ensures,
)
