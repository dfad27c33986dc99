use Rattle.answers.proofs.bar.choice_in.Goals as goal

pub returns : goal.returns
returns c = simp (c.asking_from.ensures, c.word-3.ensures, c.word-2.ensures, c.candidate_in-2.ensures, c.candidate_in.ensures, c.word.ensures)
