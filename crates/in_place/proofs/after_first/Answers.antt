use Rattle.in_place.proofs.after_first.Goals as goal

pub returns-then-pending : goal.returns-then-pending
returns-then-pending c = simp (
  ← c.pending.ensures,
  c.if-pending.true,
)

pub returns : goal.returns
returns c = simp (
  ← c.pending.ensures,
  c.if-pending.false,
)
