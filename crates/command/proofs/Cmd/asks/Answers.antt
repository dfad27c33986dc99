use Prim.Native.Nat.{ℕ, ◌*◌}
use mathlib.Core.Path.{ap, sym, ◌∙◌}
use Rattle.hcr.specs.Words.{register, swap_of}
use Rattle.pci.specs.declared.Question.TheVariants.{RegWrite, Stall}
use Rattle.command.specs.Machine.{cmd_asks, phase_asks, word_at}
use Rattle.command.proofs.Laws.{write_word}
use Rattle.command.proofs.Cmd.asks.Goals as goal

pub returns-in-First : goal.returns-in-First
unfolding cmd_asks
returns-in-First c = sym (ap (phase_asks c.args.self) c.in-First.is)

pub returns-in-Writing : goal.returns-in-Writing
unfolding cmd_asks
returns-in-Writing c = c.write_no.ensures ∙ write_word c.args.self.toggle c.args.self.post c.word_no.result c.word_no.ensures.1 ∙ ap (λ (m : ℕ). RegWrite 0 (register (4 * m)) (swap_of (word_at c.args.self.post m))) c.word_no.ensures.0 ∙ sym (ap (phase_asks c.args.self) c.in-Writing.is)

pub returns-in-Fence : goal.returns-in-Fence
unfolding cmd_asks
returns-in-Fence c = sym (ap (phase_asks c.args.self) c.in-Fence.is)

pub returns-in-Go : goal.returns-in-Go
unfolding cmd_asks
returns-in-Go c = c.write_no-in-Go.ensures ∙ sym (ap (phase_asks c.args.self) c.in-Go.is)

pub returns-in-Poll : goal.returns-in-Poll
unfolding cmd_asks
returns-in-Poll c = sym (ap (phase_asks c.args.self) c.in-Poll.is)

pub returns-in-Wait : goal.returns-in-Wait
unfolding cmd_asks
returns-in-Wait c = ap Stall c.stall.ensures ∙ sym (ap (phase_asks c.args.self) c.in-Wait.is)

pub returns-in-Fenced : goal.returns-in-Fenced
unfolding cmd_asks
returns-in-Fenced c = sym (ap (phase_asks c.args.self) c.in-Fenced.is)

pub returns-in-Status : goal.returns-in-Status
unfolding cmd_asks
returns-in-Status c = sym (ap (phase_asks c.args.self) c.in-Status.is)

pub returns-in-High : goal.returns-in-High
unfolding cmd_asks
returns-in-High c = sym (ap (phase_asks c.args.self) c.in-High.is)

pub returns-in-Low : goal.returns-in-Low
unfolding cmd_asks
returns-in-Low c = sym (ap (phase_asks c.args.self) c.in-Low.is)

pub returns-in-Catas : goal.returns-in-Catas
unfolding cmd_asks
returns-in-Catas c = c.catas_read.ensures ∙ sym (ap (phase_asks c.args.self) c.in-Catas.is)
