-- The reset as steps by value: the question of each state, what an answer makes of it, and the script that is left.
use Rattle.std.specs.Prelude.{ℕ, zero, suc, ◌+◌, ◌*◌, ◌/◌, ◌%◌, not, List, get_or, set, replicate, eqb, Result, Ok, Err, Bool, true, false}
use Rattle.std.proofs.Math.Option.{some}
use Rattle.fields.specs.Outcome.{pick}
use Rattle.hcr.specs.Words.{swap_of}
use Rattle.pci.specs.Views.{word_of, dword_of, done_of, told_of}
use Rattle.pci.specs.Script.{Script, ask, stall, config_write16}
use Rattle.pci.specs.Machine.{Next, more, Follows}
use Rattle.pci.specs.Machine as m
use Rattle.pci.specs.declared.Question.{Question}
use Rattle.pci.specs.declared.Question.TheVariants as q
use Rattle.pci.specs.declared.Answer.{Answer}
use Rattle.pci.specs.declared.NoReply.{NoReply}
use Rattle.pci.specs.declared.NoReply.TheVariants.{Failed, Wrong}
use Rattle.reset.specs.Reset.{dword_at, restored_at, pointer, restore, restore_control, vendor, settle, written, semaphore, link_control, control, header, walk, capability, save}
use Rattle.reset.specs.declared.ResetEnd.{ResetEnd}
use Rattle.reset.specs.declared.ResetEnd.TheVariants as e
use Rattle.reset.specs.declared.Control.{Control}
use Rattle.reset.specs.declared.Control.TheVariants as c
use Rattle.reset.specs.declared.Phase.{Phase}
use Rattle.reset.specs.declared.Phase.TheVariants as p
use Rattle.reset.specs.declared.Reset.{Reset}
use Rattle.reset.specs.declared.Ending.{Ending}
use Rattle.reset.specs.declared.Ending.TheVariants as g
use Rattle.reset.specs.declared.ResetStep.{ResetStep}
use Rattle.reset.specs.declared.Move.{Move}
use Rattle.reset.specs.declared.Move.TheVariants as v

-- the first dword is asked for, and none is saved
abbrev pub started : Reset
started = record { phase = p.Saving 15; dwords = replicate 16 0; control = c.Absent }

-- THE QUESTIONS
abbrev pub asks_at : List ℕ → Phase → Question
asks_at dwords (p.Saving n) = q.ConfigRead32 (dword_at n * 4)
asks_at dwords p.Pointer = q.ConfigRead32 0x34
asks_at dwords (p.Header n at) = q.ConfigRead16 at
asks_at dwords (p.Device at) = q.ConfigRead16 (at + 0x08)
asks_at dwords (p.Link at device) = q.ConfigRead16 (at + 0x10)
asks_at dwords (p.Semaphore n) = q.RegRead 0 0xf03fc
asks_at dwords (p.Hold n) = q.Stall 1000
asks_at dwords p.Writing = q.RegWrite 0 0xf0010 (swap_of 1)
asks_at dwords p.Settle = q.Stall 1000000
asks_at dwords (p.Vendor n) = q.ConfigRead16 0
asks_at dwords (p.Gone n) = q.Stall 1000
asks_at dwords (p.BackDevice at device link) = q.ConfigWrite16 (at + 0x08) device
asks_at dwords (p.BackLink at link) = q.ConfigWrite16 (at + 0x10) link
asks_at dwords (p.Back n) = q.ConfigWrite32 (restored_at n * 4) (get_or dwords (restored_at n) 0)

abbrev pub reset_asks : Reset → Question
reset_asks s = asks_at s.dwords s.phase

-- THE STEPS, by what the answer says
abbrev pub walk_move : (n at : ℕ) → Move
walk_move zero at = v.Known c.Absent
walk_move (suc n) at = pick (eqb at 0) (v.Known c.Absent) (v.To (p.Header n at))

abbrev pub saving_move : (n : ℕ) → Result ℕ NoReply → Move
saving_move n (Ok x) = v.Save n x
saving_move n (Err Failed) = v.End e.Save
saving_move n (Err Wrong) = v.Stay

abbrev pub pointer_move : Result ℕ NoReply → Move
pointer_move (Ok x) = walk_move 48 (pointer (x % 0x100))
pointer_move (Err Failed) = v.Known c.Absent
pointer_move (Err Wrong) = v.Stay

abbrev pub header_move : (n at : ℕ) → Result ℕ NoReply → Move
header_move n at (Ok x) = pick (eqb (x % 0x100) 0x10) (v.To (p.Device at)) (walk_move n (pointer (x / 0x100)))
header_move n at (Err Failed) = v.Known c.Absent
header_move n at (Err Wrong) = v.Stay

abbrev pub device_move : (at : ℕ) → Result ℕ NoReply → Move
device_move at (Ok x) = v.To (p.Link at x)
device_move at (Err Failed) = v.Known c.Absent
device_move at (Err Wrong) = v.Stay

abbrev pub link_move : (at device : ℕ) → Result ℕ NoReply → Move
link_move at device (Ok x) = v.Known (c.Saved at device x)
link_move at device (Err Failed) = v.Known c.Absent
link_move at device (Err Wrong) = v.Stay

-- the semaphore is not free
abbrev pub held_move : (n value : ℕ) → Move
held_move zero x = v.End (e.Semaphore x)
held_move (suc n) x = v.To (p.Hold n)

abbrev pub semaphore_move : (n : ℕ) → Result ℕ NoReply → Move
semaphore_move n (Ok x) = pick (eqb (swap_of x) 0) (v.To p.Writing) (held_move n (swap_of x))
semaphore_move n (Err Failed) = v.End (e.Semaphore 0)
semaphore_move n (Err Wrong) = v.Stay

-- after a stall
abbrev pub told_move : Phase → Bool → Move
told_move next true = v.To next
told_move next false = v.Stay

abbrev pub hold_move : (n : ℕ) → Bool → Move
hold_move n r = told_move (p.Semaphore n) r

abbrev pub settle_move : Bool → Move
settle_move r = told_move (p.Vendor 1999) r

abbrev pub write_move : Result (Unit {0}) NoReply → Move
write_move (Ok _) = v.To p.Settle
write_move (Err Failed) = v.End e.Write
write_move (Err Wrong) = v.Stay

-- the first thing to be restored
abbrev pub restoring : Control → Phase
restoring c.Absent = p.Back 15
restoring (c.Saved at device link) = p.BackDevice at device link

abbrev pub vendor_move : (n : ℕ) → Control → Result ℕ NoReply → Move
vendor_move n k (Ok x) = pick (not (eqb x 0xffff)) (v.To (restoring k)) (v.To (p.Gone n))
vendor_move n k (Err Failed) = v.To (p.Gone n)
vendor_move n k (Err Wrong) = v.Stay

abbrev pub gone_on : (n : ℕ) → Move
gone_on zero = v.End e.Vendor
gone_on (suc n) = v.To (p.Vendor n)

abbrev pub gone_move : (n : ℕ) → Bool → Move
gone_move n true = gone_on n
gone_move n false = v.Stay

-- after a write whose failure is passed over
abbrev pub back_on : Move → Result (Unit {0}) NoReply → Move
back_on m (Ok _) = m
back_on m (Err Failed) = m
back_on m (Err Wrong) = v.Stay

abbrev pub back_device_move : (at link : ℕ) → Result (Unit {0}) NoReply → Move
back_device_move at link r = back_on (v.To (p.BackLink at link)) r

abbrev pub back_link_move : Result (Unit {0}) NoReply → Move
back_link_move r = back_on (v.To (p.Back 15)) r

abbrev pub back_next : (n : ℕ) → Move
back_next zero = v.End e.Good
back_next (suc n) = v.To (p.Back n)

abbrev pub back_move : (n : ℕ) → Result (Unit {0}) NoReply → Move
back_move n r = back_on (back_next n) r

-- the state with another phase, with control words, or with a dword
abbrev pub goes : Reset → Phase → ResetStep
goes s f = record { reset = record { phase = f; dwords = s.dwords; control = s.control }; ending = g.Going }

abbrev pub knows : Reset → Control → ResetStep
knows s k = record { reset = record { phase = p.Semaphore 10000; dwords = s.dwords; control = k }; ending = g.Going }

abbrev pub stays : Reset → ResetStep
stays s = record { reset = s; ending = g.Going }

abbrev pub ends : Reset → ResetEnd → ResetStep
ends s r = record { reset = s; ending = g.Ended r }

abbrev pub saving_next : (n : ℕ) → Phase
saving_next zero = p.Pointer
saving_next (suc n) = p.Saving n

abbrev pub saves : Reset → (n value : ℕ) → ResetStep
saves s n x = record { reset = record { phase = saving_next n; dwords = set s.dwords (dword_at n) x; control = s.control }; ending = g.Going }

abbrev pub moved_of : Reset → Move → ResetStep
moved_of s v.Stay = stays s
moved_of s (v.To f) = goes s f
moved_of s (v.Save n x) = saves s n x
moved_of s (v.Known k) = knows s k
moved_of s (v.End r) = ends s r

abbrev pub move_at : Control → Answer → Phase → Move
move_at k a (p.Saving n) = saving_move n (dword_of a)
move_at k a p.Pointer = pointer_move (dword_of a)
move_at k a (p.Header n at) = header_move n at (word_of a)
move_at k a (p.Device at) = device_move at (word_of a)
move_at k a (p.Link at device) = link_move at device (word_of a)
move_at k a (p.Semaphore n) = semaphore_move n (dword_of a)
move_at k a (p.Hold n) = hold_move n (told_of a)
move_at k a p.Writing = write_move (done_of a)
move_at k a p.Settle = settle_move (told_of a)
move_at k a (p.Vendor n) = vendor_move n k (word_of a)
move_at k a (p.Gone n) = gone_move n (told_of a)
move_at k a (p.BackDevice at device link) = back_device_move at link (done_of a)
move_at k a (p.BackLink at link) = back_link_move (done_of a)
move_at k a (p.Back n) = back_move n (done_of a)

abbrev pub reset_step_of : Reset → Answer → ResetStep
reset_step_of s a = moved_of s (move_at s.control a s.phase)

-- where a step leads, as pci's machines have it; a reset takes no bytes beside an answer
abbrev pub leads : Reset → Ending → Next Reset ResetEnd
leads s g.Going = more s
leads s (g.Ended r) = m.ended r

abbrev pub next_of : ResetStep → Next Reset ResetEnd
next_of st = leads st.reset st.ending

abbrev pub reset_step : Reset → Answer → List ℕ → Next Reset ResetEnd
reset_step s a bytes = next_of (reset_step_of s a)

-- THE SCRIPT that is left in each state
abbrev pub script_at : List ℕ → Control → Phase → Script ResetEnd
script_at ds k (p.Saving n) = save (suc n) ds
script_at ds k p.Pointer = capability ds
script_at ds k (p.Header n at) = header at (λ next. walk n next (control ds)) (control ds)
script_at ds k (p.Device at) = control ds (some at)
script_at ds k (p.Link at device) = link_control ds at device
script_at ds k (p.Semaphore n) = semaphore n (written ds k)
script_at ds k (p.Hold n) = ask (stall 1000) (λ r. semaphore n (written ds k))
script_at ds k p.Writing = written ds k
script_at ds k p.Settle = settle ds k
script_at ds k (p.Vendor n) = vendor (suc n) (restore_control k (restore 16 ds))
script_at ds k (p.Gone n) = ask (stall 1000) (λ r. vendor n (restore_control k (restore 16 ds)))
script_at ds k (p.BackDevice at device link) = restore_control (c.Saved at device link) (restore 16 ds)
script_at ds k (p.BackLink at link) = ask (config_write16 (at + 0x10) link) (λ r. restore 16 ds)
script_at ds k (p.Back n) = restore (suc n) ds

abbrev pub reset_script : Reset → Script ResetEnd
reset_script s = script_at s.dwords s.control s.phase

-- Every state asks what its script asks, goes on as the script does after any reply, and stays as it is at an answer of a wrong kind.
abbrev pub ResetFollows : Type 0
ResetFollows = (s : Reset) → Follows reset_asks reset_step reset_script s (reset_script s)
