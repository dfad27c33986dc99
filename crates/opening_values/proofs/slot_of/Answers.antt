use borrow.Author.Rules.{rules}
use Rattle.behind.proofs.slot_at.Reads as slot-at-reads
use Rattle.opening_values.proofs.slot_of.Reads as reads
use Rattle.opening_values.proofs.slot_of.Lts as lts
use Rattle.opening_values.proofs.range_slot.Reads as range-slot-reads
use Rattle.opening_values.proofs.slot_of.Goals as goal

pub returns-in-Fa : goal.returns-in-Fa
returns-in-Fa c = simp (c.in-Fa.is, c.slot_at.ensures)

pub returns-in-Aux : goal.returns-in-Aux
returns-in-Aux c = simp (c.in-Aux.is, c.slot_at-in-Aux.ensures)

pub returns-in-Range : goal.returns-in-Range
returns-in-Range c = simp (c.in-Range.is, c.range_slot.ensures)
