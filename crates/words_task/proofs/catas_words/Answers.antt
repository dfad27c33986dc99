use Rattle.words_task.proofs.catas_words.Goals as goal

pub returns-in-Known : goal.returns-in-Known
returns-in-Known c = simp (
  c.in-Known.is,
  c.wide8.ensures,
)

pub returns-in-Unknown : goal.returns-in-Unknown
returns-in-Unknown c = simp c.in-Unknown.is
