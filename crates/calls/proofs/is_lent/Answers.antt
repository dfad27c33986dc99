use Rattle.calls.proofs.is_lent.Goals as goal

pub returns-then-is_lent : goal.returns-then-is_lent
returns-then-is_lent c = simp (
  ← c.is_lent.ensures,
  c.if-is_lent.true,
  c.has_room.ensures,
)

pub returns : goal.returns
returns c = simp (
  ← c.is_lent.ensures,
  c.if-is_lent.false,
)
