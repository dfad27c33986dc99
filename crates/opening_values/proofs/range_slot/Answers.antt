use Prim.Native.Nat.{◌+◌}
use mathlib.Core.Path.{◌∙◌}
use native.Mathlib.Omega.{arith}
use borrow.Author.Rules.{rules}
use Rattle.behind.proofs.slot_at.Reads as slot-at-reads
use Rattle.opening_values.proofs.Slots.{nothing_past}
use Rattle.opening_values.proofs.range_slot.Reads as reads
use Rattle.opening_values.proofs.range_slot.Lts as lts
use Rattle.opening_values.proofs.range_slot.Goals as goal

pub returns : goal.returns
returns c = let p = c.args in c.slot_at-2.ensures ∙ nothing_past p.m.now p.i (64 + p.i) c.if-i-lt-COUNT.false (omega arith)
