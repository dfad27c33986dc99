-- How a task that failed is told: document 01's refusals of a buffer and of a command, and what a failure makes of the session.
use Rattle.std.specs.Prelude.{ℕ, Bool, true, false, List, [], ◌∷◌}
use Rattle.fields.specs.Outcome.{Outcome, value, pick}
use Rattle.pci.specs.Refusals.{refusal}
use Rattle.pci.specs.declared.Refusal.{Refusal}
use Rattle.pci.specs.declared.Refusal.TheVariants as x
use Rattle.command.specs.declared.CmdResult.{CmdResult}
use Rattle.command.specs.declared.CmdResult.TheVariants as r
use Rattle.buffer.specs.declared.Fault.{Fault}
use Rattle.buffer.specs.declared.Fault.TheVariants as f
use Rattle.buffer.specs.declared.Made.{Made}
use Rattle.buffer.specs.declared.Made.TheVariants as m
use Rattle.work.specs.declared.End.{End}
use Rattle.work.specs.declared.End.TheVariants as e
use Rattle.session.specs.Session.{wired, broken, slot_at}
use Rattle.session.specs.declared.Books.{Books}
use Rattle.session.specs.declared.Gave.{Gave}
use Rattle.session.specs.declared.Gave.TheVariants as v

-- a buffer that was not to be had: 5 or 18
abbrev pub fault_of : Fault → Refusal
fault_of f.Memory = x.Memory
fault_of f.Address = x.Address

-- a command that was not good: 6, 7, 8 or 9, and whether the card needs a reset then, which every failure but a status says
abbrev pub failure_of : CmdResult → Refusal
failure_of (r.Done y us) = x.Bus us
failure_of (r.Status s us) = x.Status s us
failure_of (r.Timeout us) = x.Timeout us
failure_of r.Busy = x.Busy
failure_of (r.Bus us) = x.Bus us

abbrev pub needs_reset : CmdResult → Bool
needs_reset (r.Done y us) = false
needs_reset (r.Status s us) = false
needs_reset (r.Timeout us) = true
needs_reset r.Busy = true
needs_reset (r.Bus us) = true

-- a command failed: but for a status, the session is broken
abbrev pub broken_by : CmdResult → Books → Books
broken_by y b = pick (needs_reset y) (wired b (broken b.wire)) b

-- the immediate of a good command
abbrev pub immediate_of : CmdResult → ℕ
immediate_of (r.Done y us) = y
immediate_of (r.Status s us) = 0
immediate_of (r.Timeout us) = 0
immediate_of r.Busy = 0
immediate_of (r.Bus us) = 0

-- how the making of a buffer has ended; any other end counts as failed
abbrev pub no_memory : Made
no_memory = m.Refused f.Memory

abbrev pub made_in : End → Made
made_in (e.Made y) = y
made_in (e.Attr y) = m.Refused f.Memory
made_in (e.Claim y) = m.Refused f.Memory
made_in (e.Reset y) = m.Refused f.Memory
made_in (e.Bar y) = m.Refused f.Memory
made_in e.Freed = m.Refused f.Memory
made_in (e.Looked y) = m.Refused f.Memory
made_in (e.Cmd y) = m.Refused f.Memory
made_in e.Parted = m.Refused f.Memory

-- WHAT A CALL GAVE: its values, or document 01's number with the values beside it
abbrev pub gave_of : Books → Gave → Outcome (List ℕ)
gave_of b v.Nothing = value []
gave_of b (v.Command y us) = value (y ∷ us ∷ [])
gave_of b (v.Lent i) = value ((slot_at b.lists.slots i).handle ∷ (slot_at b.lists.slots i).dev ∷ (slot_at b.lists.slots i).pages ∷ [])
gave_of b (v.Failed y) = refusal y
