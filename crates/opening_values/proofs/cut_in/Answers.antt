use borrow.Author.Rules.{rules}
use Rattle.session.proofs.buffer_of.Reads as buffer-of-reads
use Rattle.session.proofs.bytes.Reads as bytes-reads
use Rattle.opening_values.proofs.cut_in.Reads as reads
use Rattle.opening_values.proofs.cut_in.Lts as lts
use Rattle.opening_values.proofs.slot_of.Reads as slot-of-reads
use Rattle.opening_values.proofs.virt_for.Reads as virt-for-reads
use Rattle.opening_values.proofs.cut_in.Goals as goal

pub returns : goal.returns
returns c = λ d. simp (c.slot_of.ensures, c.buffer_of-buffer.ensures, c.virt_for.ensures d, c.bytes.ensures)
