use Rattle.answers.proofs.bar.next_words.Goals as goal

pub returns-in-Ask : goal.returns-in-Ask
returns-in-Ask c = rw (c.in-Ask.is, c.ask_words.ensures)

pub returns-in-Picked : goal.returns-in-Picked
returns-in-Picked c = rw (c.in-Picked.is, c.pick_words.ensures)
