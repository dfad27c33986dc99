use Rattle.words_beside.proofs.find_words.Goals as goal

pub returns : goal.returns
returns c = simp (
  c.bar_phase_words-phase_w.ensures,
  c.wide32.ensures,
  c.wide32-2.ensures,
  c.wide32-3.ensures,
  c.wide32-4.ensures,
  c.wide32-5.ensures,
  c.wide32-6.ensures,
)
