-- The claim, as a script and as steps. Document 01: "2 owner register unreadable or not 0"; the Rust's `claim`: INTx is disabled, then the owner read once.
use Rattle.std.specs.Prelude.{ℕ, ◌+◌, List, [], eqb, Result, Ok, Err}
use Rattle.fields.specs.Outcome.{Outcome, value, refused, pick}
use Rattle.hcr.specs.Words.{bit, swap_of}
use Rattle.pci.specs.Views.{word_of, dword_of, done_of}
use Rattle.pci.specs.Script.{Script, ret, ask, Bus, good, failed, config_read16, config_write16, read}
use Rattle.pci.specs.Machine.{Next, more, ended, Follows}
use Rattle.pci.specs.declared.Question.{Question}
use Rattle.pci.specs.declared.Question.TheVariants as q
use Rattle.pci.specs.declared.Answer.{Answer}
use Rattle.pci.specs.declared.NoReply.{NoReply}
use Rattle.pci.specs.declared.NoReply.TheVariants.{Failed, Wrong}
use Rattle.tasks.specs.declared.Claimed.{Claimed}
use Rattle.tasks.specs.declared.Claimed.TheVariants as r
use Rattle.tasks.specs.declared.Claim.{Claim}
use Rattle.tasks.specs.declared.Claim.TheVariants as p
use Rattle.tasks.specs.declared.ClaimStep.{ClaimStep}
use Rattle.tasks.specs.declared.ClaimStep.TheVariants as s

abbrev pub claimed : Claimed → Outcome (Unit {0})
claimed r.Good = value tt
claimed r.Refused = refused 2 []

-- the command word with bit 10 set. Public document: PCI Local Bus, command register (INTx
-- disable). It was not at hand; the bit is that of Linux's pci_regs.h. The owner register is the
-- manual's, which was not at hand
abbrev pub without_intx : ℕ → ℕ
without_intx v = pick (bit 10 v) v (v + 0x400)

abbrev pub on_owner : Bus ℕ → Script Claimed
on_owner (good v) = pick (eqb v 0) (ret r.Good) (ret r.Refused)
on_owner failed = ret r.Refused

-- THE SCRIPT: the command word, if it can be read, is written with INTx disabled, whatever comes of that; then the owner
abbrev pub owning : Script Claimed
owning = ask (read 0 0x8069c) on_owner

abbrev pub commanding : (value : ℕ) → Script Claimed
commanding v = ask (config_write16 0x04 v) (λ x. owning)

abbrev pub on_command : Bus ℕ → Script Claimed
on_command (good v) = commanding (without_intx v)
on_command failed = owning

abbrev pub claiming : Script Claimed
claiming = ask (config_read16 0x04) on_command

-- THE STEPS
abbrev pub claim_asks : Claim → Question
claim_asks p.Command = q.ConfigRead16 0x04
claim_asks (p.Write v) = q.ConfigWrite16 0x04 v
claim_asks p.Owner = q.RegRead 0 0x8069c

abbrev pub command_step : Result ℕ NoReply → ClaimStep
command_step (Ok v) = s.More (p.Write (without_intx v))
command_step (Err Failed) = s.More p.Owner
command_step (Err Wrong) = s.More p.Command

abbrev pub wrote_step : ℕ → Result (Unit {0}) NoReply → ClaimStep
wrote_step v (Ok _) = s.More p.Owner
wrote_step v (Err Failed) = s.More p.Owner
wrote_step v (Err Wrong) = s.More (p.Write v)

abbrev pub owner_step : Result ℕ NoReply → ClaimStep
owner_step (Ok v) = pick (eqb (swap_of v) 0) (s.Ended r.Good) (s.Ended r.Refused)
owner_step (Err Failed) = s.Ended r.Refused
owner_step (Err Wrong) = s.More p.Owner

abbrev pub claim_step_at : Answer → Claim → ClaimStep
claim_step_at a p.Command = command_step (word_of a)
claim_step_at a (p.Write v) = wrote_step v (done_of a)
claim_step_at a p.Owner = owner_step (dword_of a)

abbrev pub claim_step_of : Claim → Answer → ClaimStep
claim_step_of k a = claim_step_at a k

abbrev pub claim_next : ClaimStep → Next Claim Claimed
claim_next (s.More k) = more k
claim_next (s.Ended y) = ended y

abbrev pub claim_step : Claim → Answer → List ℕ → Next Claim Claimed
claim_step k a bytes = claim_next (claim_step_of k a)

abbrev pub claim_script : Claim → Script Claimed
claim_script p.Command = claiming
claim_script (p.Write v) = commanding v
claim_script p.Owner = owning

abbrev pub ClaimFollows : Type 0
ClaimFollows = (k : Claim) → Follows claim_asks claim_step claim_script k (claim_script k)
