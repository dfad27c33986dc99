use Rattle.words_task.proofs.claim_words.Goals as goal

pub returns-in-Command : goal.returns-in-Command
returns-in-Command c = simp c.in-Command.is

pub returns-in-Write : goal.returns-in-Write
returns-in-Write c = simp (
  c.in-Write.is,
  c.wide16.ensures,
)

pub returns-in-Owner : goal.returns-in-Owner
returns-in-Owner c = simp c.in-Owner.is
