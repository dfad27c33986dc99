use Rattle.words_task.proofs.freeing_words.Goals as goal

pub returns : goal.returns
returns c = simp c.free_phase_words-phase_w.ensures
