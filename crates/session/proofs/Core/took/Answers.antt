use Rattle.session.proofs.Core.took.Goals as goal

pub returns : goal.returns
returns c = simp c.end_seen.ensures
