use Rattle.words_info.proofs.port_words.Goals as goal

pub returns : goal.returns
returns c = simp (
  c.wide8.ensures,
  c.bit.ensures,
  c.wide8-2.ensures,
  c.wide16.ensures,
  c.wide8-3.ensures,
  c.bit-2.ensures,
  c.bit-3.ensures,
  c.wide8-4.ensures,
  c.wide32.ensures,
  c.wide16-2.ensures,
  c.wide8-5.ensures,
  c.wide8-6.ensures,
  c.wide8-7.ensures,
  c.wide8-8.ensures,
  c.wide8-9.ensures,
  c.wide8-10.ensures,
)
