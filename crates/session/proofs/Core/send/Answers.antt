use Rattle.session.proofs.Core.send.Goals as goal

pub returns : goal.returns
returns c = simp (
  c.catas_for.ensures,
  c.new.ensures,
  c.start.ensures,
)
