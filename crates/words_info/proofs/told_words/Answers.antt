use Rattle.words_info.proofs.told_words.Goals as goal

pub returns : goal.returns
returns c = simp (
  c.pick_words-uar_w.ensures,
  c.func_words-func_w.ensures,
  c.bit.ensures,
)
