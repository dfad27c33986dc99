use Rattle.words_beside.proofs.reset_words.Goals as goal

pub returns : goal.returns
returns c = simp (
  c.reset_phase_words-phase_w.ensures,
  c.control_words-control_w.ensures,
  c.wide32.ensures,
  c.wide32-2.ensures,
  c.wide32-3.ensures,
  c.wide32-4.ensures,
  c.wide32-5.ensures,
  c.wide32-6.ensures,
  c.wide32-7.ensures,
  c.wide32-8.ensures,
  c.wide32-9.ensures,
  c.wide32-10.ensures,
  c.wide32-11.ensures,
  c.wide32-12.ensures,
  c.wide32-13.ensures,
  c.wide32-14.ensures,
  c.wide32-15.ensures,
  c.wide32-16.ensures,
)
