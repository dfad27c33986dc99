use Rattle.words_beside.proofs.bar_phase_words.Goals as goal

pub returns-in-Reading : goal.returns-in-Reading
returns-in-Reading c = simp (
  c.in-Reading.is,
  c.wide8.ensures,
)

pub returns-in-Choosing : goal.returns-in-Choosing
returns-in-Choosing c = simp (
  c.in-Choosing.is,
  c.choice_words-w.ensures,
)
