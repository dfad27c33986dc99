-- Release, restore, and the tail of quiesce, as scripts and as the steps of one machine. The Rust's `release`, `restore` and `quiesce`; no failure is refused.
use Rattle.std.specs.Prelude.{ℕ, ◌-◌, List, Result, Ok, Err, Bool, true, false}
use Rattle.fields.specs.Outcome.{pick}
use Rattle.hcr.specs.Words.{bit, swap_of}
use Rattle.pci.specs.Views.{word_of, qword_of, done_of, told_of}
use Rattle.pci.specs.Script.{Script, ret, ask, Bus, good, failed, config_read16, config_write16, write, stall, attributes}
use Rattle.pci.specs.Machine.{Next, more, ended, Follows}
use Rattle.pci.specs.declared.Question.{Question}
use Rattle.pci.specs.declared.Question.TheVariants as q
use Rattle.pci.specs.declared.Answer.{Answer}
use Rattle.pci.specs.declared.NoReply.{NoReply}
use Rattle.pci.specs.declared.NoReply.TheVariants.{Failed, Wrong}
use Rattle.tasks.specs.declared.Parting.{Parting}
use Rattle.tasks.specs.declared.Parting.TheVariants as p
use Rattle.tasks.specs.declared.PartingStep.{PartingStep}
use Rattle.tasks.specs.declared.PartingStep.TheVariants as s

-- THE SCRIPTS. Release: the owner is written 0; if that is good, a second of rest
abbrev pub settling : Script (Unit {0})
settling = ask (stall 1000000) (λ x. ret tt)

abbrev pub on_disown : Bus (Unit {0}) → Script (Unit {0})
on_disown (good u) = settling
on_disown failed = ret tt

abbrev pub releasing : Script (Unit {0})
releasing = ask (write 0 0x8069c 0) on_disown

-- Restore: the attributes that were there first are set
abbrev pub restoring : (before : ℕ) → Script (Unit {0})
restoring v = ask (attributes 1 v) (λ x. ret tt)

-- The tail of quiesce: the owner is written 0; the command word, if it can be read, is written with
-- bit 2 cleared. Public document: PCI Local Bus, command register (bus master). It was not at hand;
-- the bit is that of Linux's pci_regs.h
abbrev pub without_master : ℕ → ℕ
without_master v = pick (bit 2 v) (v - 4) v

abbrev pub mastering : (value : ℕ) → Script (Unit {0})
mastering v = ask (config_write16 0x04 v) (λ x. ret tt)

abbrev pub on_command : Bus ℕ → Script (Unit {0})
on_command (good v) = mastering (without_master v)
on_command failed = ret tt

abbrev pub commanding : Script (Unit {0})
commanding = ask (config_read16 0x04) on_command

abbrev pub quieting : Script (Unit {0})
quieting = ask (write 0 0x8069c 0) (λ x. commanding)

-- THE STEPS
abbrev pub part_asks : Parting → Question
part_asks p.Disown = q.RegWrite 0 0x8069c (swap_of 0)
part_asks p.Settle = q.Stall 1000000
part_asks (p.Restore v) = q.Attributes 1 v
part_asks p.Owner = q.RegWrite 0 0x8069c (swap_of 0)
part_asks p.Command = q.ConfigRead16 0x04
part_asks (p.Write v) = q.ConfigWrite16 0x04 v

abbrev pub disown_step : Result (Unit {0}) NoReply → PartingStep
disown_step (Ok _) = s.More p.Settle
disown_step (Err Failed) = s.Ended
disown_step (Err Wrong) = s.More p.Disown

abbrev pub settle_step : Bool → PartingStep
settle_step true = s.Ended
settle_step false = s.More p.Settle

abbrev pub restore_step : ℕ → Result ℕ NoReply → PartingStep
restore_step v (Ok y) = s.Ended
restore_step v (Err Failed) = s.Ended
restore_step v (Err Wrong) = s.More (p.Restore v)

abbrev pub command_step : Result ℕ NoReply → PartingStep
command_step (Ok v) = s.More (p.Write (without_master v))
command_step (Err Failed) = s.Ended
command_step (Err Wrong) = s.More p.Command

-- a write whose failure is passed over
abbrev pub wrote_step : Parting → PartingStep → Result (Unit {0}) NoReply → PartingStep
wrote_step k next (Ok _) = next
wrote_step k next (Err Failed) = next
wrote_step k next (Err Wrong) = s.More k

abbrev pub part_step_at : Answer → Parting → PartingStep
part_step_at a p.Disown = disown_step (done_of a)
part_step_at a p.Settle = settle_step (told_of a)
part_step_at a (p.Restore v) = restore_step v (qword_of a)
part_step_at a p.Owner = wrote_step p.Owner (s.More p.Command) (done_of a)
part_step_at a p.Command = command_step (word_of a)
part_step_at a (p.Write v) = wrote_step (p.Write v) s.Ended (done_of a)

abbrev pub part_step_of : Parting → Answer → PartingStep
part_step_of k a = part_step_at a k

abbrev pub part_next : PartingStep → Next Parting (Unit {0})
part_next (s.More k) = more k
part_next s.Ended = ended tt

abbrev pub part_step : Parting → Answer → List ℕ → Next Parting (Unit {0})
part_step k a bytes = part_next (part_step_of k a)

abbrev pub part_script : Parting → Script (Unit {0})
part_script p.Disown = releasing
part_script p.Settle = settling
part_script (p.Restore v) = restoring v
part_script p.Owner = quieting
part_script p.Command = commanding
part_script (p.Write v) = mastering v

abbrev pub PartFollows : Type 0
PartFollows = (k : Parting) → Follows part_asks part_step part_script k (part_script k)
