use Rattle.words_task.proofs.parting_words.Goals as goal

pub returns-in-Disown : goal.returns-in-Disown
returns-in-Disown c = simp c.in-Disown.is

pub returns-in-Settle : goal.returns-in-Settle
returns-in-Settle c = simp c.in-Settle.is

pub returns-in-Restore : goal.returns-in-Restore
returns-in-Restore c = simp c.in-Restore.is

pub returns-in-Owner : goal.returns-in-Owner
returns-in-Owner c = simp c.in-Owner.is

pub returns-in-Command : goal.returns-in-Command
returns-in-Command c = simp c.in-Command.is

pub returns-in-Write : goal.returns-in-Write
returns-in-Write c = simp (
  c.in-Write.is,
  c.wide16.ensures,
)
