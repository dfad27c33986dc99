use Rattle.words_task.proofs.cmd_words.Goals as goal

pub returns : goal.returns
returns c = simp (
  c.phase_words-phase_w.ensures,
  c.catas_words-catas_w.ensures,
  c.wide16.ensures,
  c.wide8.ensures,
  c.wide32.ensures,
  c.bit.ensures,
  c.wide32-2.ensures,
)
