use Rattle.words_info.proofs.pick_from.Goals as goal

pub returns : goal.returns
returns c = simp (
  c.narrow8.ensures,
  c.size_from.ensures,
  c.how_from.ensures,
)
