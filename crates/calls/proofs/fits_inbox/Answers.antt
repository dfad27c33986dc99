use Rattle.calls.proofs.fits_inbox.Goals as goal

pub returns-then-takes_input : goal.returns-then-takes_input
returns-then-takes_input c = simp (
  ← c.takes_input.ensures,
  c.if-takes_input.true,
)

pub returns : goal.returns
returns c = simp (
  ← c.takes_input.ensures,
  c.if-takes_input.false,
)
