use Rattle.words_info.proofs.entry_from.Goals as goal

pub returns : goal.returns
returns c = simp (
  c.narrow16.ensures,
  c.narrow16-2.ensures,
  c.narrow16-3.ensures,
  c.narrow16-4.ensures,
  c.narrow16-5.ensures,
  c.narrow16-6.ensures,
  c.narrow16-7.ensures,
  c.narrow16-8.ensures,
  c.narrow16-9.ensures,
  c.narrow16-10.ensures,
  c.narrow16-11.ensures,
)
