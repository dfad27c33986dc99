use Rattle.session.proofs.Core.broken_by.Goals as goal

pub returns-then-needs_reset : goal.returns-then-needs_reset
returns-then-needs_reset c = λ b. simp (
  ← c.needs_reset.ensures,
  c.if-needs_reset.true,
  c.breaks.ensures,
)

pub returns : goal.returns
returns c = λ b. simp (
  ← c.needs_reset.ensures,
  c.if-needs_reset.false,
)
