use Rattle.words_beside.proofs.candidate_from.Goals as goal

pub returns : goal.returns
returns c = simp (
  c.narrow8.ensures,
  c.range_from.ensures,
)
