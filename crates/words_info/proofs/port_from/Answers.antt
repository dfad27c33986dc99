use Rattle.words_info.proofs.port_from.Goals as goal

pub returns : goal.returns
returns c = simp (
  c.narrow8.ensures,
  c.flag.ensures,
  c.narrow8-2.ensures,
  c.narrow16.ensures,
  c.narrow8-3.ensures,
  c.flag-2.ensures,
  c.flag-3.ensures,
  c.narrow8-4.ensures,
  c.narrow32.ensures,
  c.narrow16-2.ensures,
  c.narrow8-5.ensures,
  c.narrow8-6.ensures,
  c.narrow8-7.ensures,
  c.narrow8-8.ensures,
  c.narrow8-9.ensures,
  c.narrow8-10.ensures,
)
