use borrow.Author.Rules.{rules}
use Rattle.opening_values.proofs.enters.Reads as reads
use Rattle.opening_values.proofs.enters.Lts as lts
use Rattle.opening_values.proofs.append.Reads as append-reads
use Rattle.opening_values.proofs.enters.Goals as goal

pub returns-in-Fa : goal.returns-in-Fa
returns-in-Fa c = λ b. simp c.in-Fa.is

pub returns-in-Aux : goal.returns-in-Aux
returns-in-Aux c = λ b. simp c.in-Aux.is

pub returns-in-Range : goal.returns-in-Range
returns-in-Range c = λ b. simp (c.append.ensures b, c.in-Range.is)
