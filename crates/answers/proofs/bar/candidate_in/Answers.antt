use Rattle.answers.proofs.bar.candidate_in.Goals as goal

pub returns : goal.returns
returns c = simp (c.range_from.ensures, c.is_set.ensures, c.word-4.ensures, c.word-3.ensures, c.word-2.ensures, c.word.ensures)
