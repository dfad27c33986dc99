use borrow.Author.Rules.{rules}
use Rattle.opening_values.proofs.virt_for.Reads as reads
use Rattle.opening_values.proofs.virt_for.Lts as lts
use Rattle.opening_values.proofs.range_at.Reads as range-at-reads
use Rattle.opening_values.proofs.virt_for.Goals as goal

pub returns-in-Fa : goal.returns-in-Fa
returns-in-Fa c = λ d. simp c.in-Fa.is

pub returns-in-Aux : goal.returns-in-Aux
returns-in-Aux c = λ d. simp c.in-Aux.is

pub returns-in-Range : goal.returns-in-Range
returns-in-Range c = λ d. simp (c.in-Range.is, c.range_at.ensures)
