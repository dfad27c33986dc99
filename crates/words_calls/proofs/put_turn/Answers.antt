use Rattle.words_calls.proofs.put_turn.Goals as goal

pub returns : goal.returns
returns c = simp (
  c.question_words-w.ensures,
  c.long.ensures,
  c.store.ensures,
)
