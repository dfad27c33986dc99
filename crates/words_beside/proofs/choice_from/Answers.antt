use Rattle.words_beside.proofs.choice_from.Goals as goal

pub returns : goal.returns
returns c = simp (
  c.candidate_from.ensures,
  c.candidate_from-2.ensures,
  c.asking_from.ensures,
)
