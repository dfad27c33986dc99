use Rattle.words_beside.proofs.asking_words.Goals as goal

pub returns-in-First : goal.returns-in-First
returns-in-First c = simp c.in-First.is

pub returns-in-Second : goal.returns-in-Second
returns-in-Second c = simp c.in-Second.is

pub returns-in-Other : goal.returns-in-Other
returns-in-Other c = simp (
  c.in-Other.is,
  c.wide8.ensures,
)
