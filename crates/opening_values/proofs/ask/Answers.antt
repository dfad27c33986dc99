use borrow.Author.Rules.{rules}
use Rattle.behind.proofs.slot_at.Reads as slot-at-reads
use Rattle.session.proofs.Core.send.Reads as send-reads
use Rattle.session.proofs.with_out.Reads as with-out-reads
use Rattle.opening_values.proofs.ask.Reads as reads
use Rattle.opening_values.proofs.ask.Lts as lts
use Rattle.opening_values.proofs.plan.Reads as plan-reads
use Rattle.opening_values.proofs.ask.Goals as goal

pub returns : goal.returns
returns c = simp (c.slot_at-slot.ensures, c.with_out.ensures, c.send.ensures, c.plan.ensures)
