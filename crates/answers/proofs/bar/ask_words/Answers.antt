use Rattle.answers.proofs.bar.ask_words.Goals as goal

pub returns : goal.returns
returns c = simp (c.index.ensures, c.tag.ensures, c.length_in-2.ensures, c.base_in-2.ensures, c.known_in-2.ensures, c.length_in.ensures, c.base_in.ensures, c.known_in.ensures)
