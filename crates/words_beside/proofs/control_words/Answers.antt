use Rattle.words_beside.proofs.control_words.Goals as goal

pub returns-in-Absent : goal.returns-in-Absent
returns-in-Absent c = simp c.in-Absent.is

pub returns-in-Saved : goal.returns-in-Saved
returns-in-Saved c = simp (
  c.in-Saved.is,
  c.wide8.ensures,
  c.wide16.ensures,
  c.wide16-in-Saved.ensures,
)
