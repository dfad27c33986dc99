use borrow.Author.Rules.{rules}
use Rattle.session.proofs.Core.send.Reads as send-reads
use Rattle.session.proofs.imm.Reads as imm_reads
use Rattle.opening_values.proofs.imm.Reads as reads
use Rattle.opening_values.proofs.imm.Lts as lts
use Rattle.opening_values.proofs.plan.Reads as plan-reads
use Rattle.opening_values.proofs.imm.Goals as goal

pub returns : goal.returns
returns c = λ b. simp (c.imm.ensures, c.send.ensures, c.plan.ensures)
