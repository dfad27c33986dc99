use Rattle.words_beside.proofs.choice_words.Goals as goal

pub returns : goal.returns
returns c = simp (
  c.candidate_words-first_w.ensures,
  c.candidate_words-second_w.ensures,
  c.asking_words-asking_w.ensures,
)
