use Rattle.words_info.proofs.cap_from.Goals as goal

pub returns : goal.returns
returns c = simp (
  c.narrow16.ensures,
  c.narrow16-2.ensures,
  c.narrow16-3.ensures,
  c.narrow16-4.ensures,
  c.narrow16-5.ensures,
  c.narrow16-6.ensures,
  c.narrow16-7.ensures,
  c.narrow8.ensures,
  c.narrow8-2.ensures,
  c.narrow16-8.ensures,
  c.narrow8-3.ensures,
  c.narrow8-4.ensures,
  c.narrow8-5.ensures,
  c.narrow8-6.ensures,
  c.narrow32.ensures,
  c.narrow32-2.ensures,
  c.flag.ensures,
  c.flag-2.ensures,
  c.entry_from.ensures,
)
