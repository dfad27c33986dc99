use Rattle.words_info.proofs.told_from.Goals as goal

pub returns : goal.returns
returns c = simp (
  c.pick_from.ensures,
  c.func_from.ensures,
  c.flag.ensures,
)
