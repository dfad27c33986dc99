use Rattle.words_info.proofs.pick_words.Goals as goal

pub returns : goal.returns
returns c = simp (
  c.size_words-size_w.ensures,
  c.how_words-how_w.ensures,
  c.wide8.ensures,
)
