use mathlib.Core.Path.{◌∙◌}
use borrow.Author.Rules.{rules}
use Rattle.opening_values.proofs.lists.Reads as reads
use Rattle.opening_values.proofs.lists.Lts as lts
use Rattle.opening_values.proofs.list_at.Reads as list-at-reads
use Rattle.opening_values.proofs.lists.Goals as goal

pub returns-in-Fresh : goal.returns-in-Fresh
returns-in-Fresh c = λ b e. simp c.in-Fresh.is

pub returns-in-Open : goal.returns-in-Open
returns-in-Open c = λ b e. simp c.in-Open.is

pub returns-in-Ended : goal.returns-in-Ended
returns-in-Ended c = λ b e. simp c.in-Ended.is

pub returns-in-Prepare : goal.returns-in-Prepare
returns-in-Prepare c = λ b e. simp c.in-Prepare.is

pub returns-in-Boot : goal.returns-in-Boot
returns-in-Boot c = λ b e. c.list_at.ensures b e ∙ simp c.in-Boot.is

pub returns-in-Client : goal.returns-in-Client
returns-in-Client c = λ b e. simp c.in-Client.is

pub returns-in-Close : goal.returns-in-Close
returns-in-Close c = λ b e. simp c.in-Close.is
