use Rattle.words_task.proofs.freeing_from.Goals as goal

pub returns : goal.returns
returns c = simp c.free_phase_from.ensures
