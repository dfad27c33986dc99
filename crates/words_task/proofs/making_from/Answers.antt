use Rattle.words_task.proofs.making_from.Goals as goal

pub returns : goal.returns
returns c = simp c.make_phase_from.ensures
