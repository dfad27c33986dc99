use Rattle.in_place.proofs.ask_go.Goals as goal

pub returns : goal.returns
returns c = simp (
  c.write.ensures,
  c.go_word.ensures,
  c.narrow16.ensures,
  c.narrow8.ensures,
  c.flag.ensures,
)
