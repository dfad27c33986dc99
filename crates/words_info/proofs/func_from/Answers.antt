use Rattle.words_info.proofs.func_from.Goals as goal

pub returns : goal.returns
returns c = simp (
  c.narrow16.ensures,
  c.narrow16-2.ensures,
  c.narrow8.ensures,
)
