use borrow.Author.Rules.{rules}
use Rattle.words_stage.proofs.stage_words.Goals as goal

pub returns-in-Open : goal.returns-in-Open
returns-in-Open c = simp (
  c.in-Open.is,
  c.gave_words-w.ensures,
)

pub returns-in-Prepare : goal.returns-in-Prepare
returns-in-Prepare c = simp (
  c.in-Prepare.is,
  c.prepare_words-w.ensures,
)

pub returns-in-Boot : goal.returns-in-Boot
returns-in-Boot c = simp (
  c.in-Boot.is,
  c.boot_words-w.ensures,
)

pub returns-in-Client : goal.returns-in-Client
returns-in-Client c = simp (
  c.in-Client.is,
  c.client_words-w.ensures,
)

pub returns-in-Close : goal.returns-in-Close
returns-in-Close c = simp (
  c.in-Close.is,
  c.close_words-w.ensures,
)
