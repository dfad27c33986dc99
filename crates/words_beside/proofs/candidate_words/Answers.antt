use Rattle.words_beside.proofs.candidate_words.Goals as goal

pub returns : goal.returns
returns c = simp (
  c.range_words-answer_w.ensures,
  c.wide8.ensures,
)
