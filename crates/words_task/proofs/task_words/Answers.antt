use Rattle.words_task.proofs.task_words.Goals as goal

pub returns-in-Rest : goal.returns-in-Rest
returns-in-Rest c = simp c.in-Rest.is

pub returns-in-Attr : goal.returns-in-Attr
returns-in-Attr c = simp (
  c.in-Attr.is,
  c.attr_words-w.ensures,
)

pub returns-in-Claim : goal.returns-in-Claim
returns-in-Claim c = simp (
  c.in-Claim.is,
  c.claim_words-w.ensures,
)

pub returns-in-Reset : goal.returns-in-Reset
returns-in-Reset c = simp c.in-Reset.is

pub returns-in-Bar : goal.returns-in-Bar
returns-in-Bar c = simp c.in-Bar.is

pub returns-in-Make : goal.returns-in-Make
returns-in-Make c = simp (
  c.in-Make.is,
  c.making_words-w.ensures,
)

pub returns-in-Free : goal.returns-in-Free
returns-in-Free c = simp (
  c.in-Free.is,
  c.freeing_words-w.ensures,
)

pub returns-in-Look : goal.returns-in-Look
returns-in-Look c = simp c.in-Look.is

pub returns-in-Cmd : goal.returns-in-Cmd
returns-in-Cmd c = simp (
  c.in-Cmd.is,
  c.cmd_words.ensures,
)

pub returns-in-Part : goal.returns-in-Part
returns-in-Part c = simp (
  c.in-Part.is,
  c.parting_words-w.ensures,
)
