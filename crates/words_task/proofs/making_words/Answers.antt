use Rattle.words_task.proofs.making_words.Goals as goal

pub returns : goal.returns
returns c = simp c.make_phase_words-phase_w.ensures
