use Rattle.calls.proofs.write_input.Goals as goal

pub returns-then-takes_input : goal.returns-then-takes_input
returns-then-takes_input c = simp (
  ← c.takes_input.ensures,
  c.if-takes_input.true,
  c.zero.ensures,
  c.copy.ensures,
)

pub returns-else-takes_input : goal.returns-else-takes_input
returns-else-takes_input c = simp (
  ← c.takes_input.ensures,
  c.if-takes_input.false,
)
