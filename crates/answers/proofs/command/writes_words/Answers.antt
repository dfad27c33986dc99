use Rattle.answers.proofs.command.writes_words.Goals as goal

pub returns : goal.returns
returns c = simp (c.wide32-7.ensures, c.wide32-6.ensures, c.wide32-5.ensures, c.wide32-4.ensures, c.wide32-3.ensures, c.wide32-2.ensures, c.wide32.ensures)
