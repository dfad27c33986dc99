-- The command machine: what it asks in each phase, what a step leads to, and which script is left.
use Rattle.std.specs.Prelude.{ℕ, ◌+◌, ◌-◌, ◌*◌, ◌^◌, min, Bool, not, List, eqb, leb, ltb, get_or, drop, Result, Ok, Err, true, false}
use Rattle.fields.specs.Outcome.{pick}
use Rattle.hcr.specs.Words.{register, writes_of, go_word, pending_in, status_in, stall_of, waited_of, swap_of}
use Rattle.hcr.specs.declared.Post.{Post}
use Rattle.hcr.specs.declared.RegWrite.{RegWrite as RegWriteOf}
use Rattle.pci.specs.Views.{dword_of, done_of, told_of}
use Rattle.pci.specs.Script.{Script, ask, stall, read, ret}
use Rattle.pci.specs.Machine.{Next, more, ended}
use Rattle.pci.specs.declared.Question.{Question}
use Rattle.pci.specs.declared.Question.TheVariants.{RegRead, RegWrite, Stall, Fence}
use Rattle.pci.specs.declared.Answer.{Answer}
use Rattle.pci.specs.declared.NoReply.{NoReply}
use Rattle.pci.specs.declared.NoReply.TheVariants.{Failed, Wrong}
use Rattle.command.specs.declared.Catas.{Catas}
use Rattle.command.specs.declared.Catas.TheVariants.{Known, Unknown}
use Rattle.command.specs.declared.CmdResult.{CmdResult}
use Rattle.command.specs.declared.CmdResult.TheVariants as r
use Rattle.command.specs.declared.CmdEnd.{CmdEnd}
use Rattle.command.specs.declared.Phase.{Phase}
use Rattle.command.specs.declared.Phase.TheVariants as p
use Rattle.command.specs.declared.Cmd.{Cmd}
use Rattle.command.specs.declared.CmdStep.{CmdStep}
use Rattle.command.specs.declared.CmdStep.TheVariants.{More, Ended}
use Rattle.command.specs.Script.{STALLS, ending, low, immediate, judged, verdict, poll, words, write_all, start, fenced, command}

-- the command in another phase; with another count of stalls; with the toggle flipped
abbrev pub in_phase : Cmd → Phase → Cmd
in_phase c f = record { phase = f; post = c.post; toggle = c.toggle; stalls = c.stalls; catas = c.catas }

abbrev pub stalled_by : Cmd → ℕ → Cmd
stalled_by c n = record { phase = p.Poll; post = c.post; toggle = c.toggle; stalls = n; catas = c.catas }

abbrev pub posted : Cmd → Cmd
posted c = record { phase = p.Poll; post = c.post; toggle = not c.toggle; stalls = 0; catas = c.catas }

abbrev pub first : Post → (toggle : Bool) → Catas → Cmd
first x t k = record { phase = p.First; post = x; toggle = t; stalls = 0; catas = k }

abbrev pub end_of : Cmd → CmdResult → CmdStep
end_of c x = Ended (ending c.toggle x)

abbrev pub go_on : Cmd → Phase → CmdStep
go_on c f = More (in_phase c f)

abbrev pub no_write : RegWriteOf
no_write = record { offset = 0; value = 0 }

-- which of the six words is written in phase `Writing i`, and where
abbrev pub word_no : ℕ → ℕ
word_no i = min i 5

abbrev pub catas_bar_value : Catas → ℕ
catas_bar_value (Known b o) = b
catas_bar_value Unknown = 0

abbrev pub catas_offset_value : Catas → ℕ
catas_offset_value (Known b o) = o
catas_offset_value Unknown = 0

abbrev pub word_at : Post → ℕ → ℕ
word_at x i = get_or (words x) i 0

-- the question for write number k of a command, as the bus sees it
abbrev pub write_at : (toggle : Bool) → Post → ℕ → Question
write_at t x k = RegWrite 0 (get_or (writes_of t x) k no_write).offset (get_or (writes_of t x) k no_write).value

abbrev pub phase_asks : Cmd → Phase → Question
phase_asks c p.First = RegRead 0 (register 0x18)
phase_asks c (p.Writing i) = RegWrite 0 (register (4 * word_no i)) (swap_of (word_at c.post (word_no i)))
phase_asks c p.Fence = Fence
phase_asks c p.Go = RegWrite 0 (register 0x18) (swap_of (go_word c.toggle c.post.op_mod c.post.op))
phase_asks c p.Poll = RegRead 0 (register 0x18)
phase_asks c p.Wait = Stall (stall_of c.stalls)
phase_asks c p.Fenced = Fence
phase_asks c p.Status = RegRead 0 (register 0x18)
phase_asks c p.High = RegRead 0 (register 0x0c)
phase_asks c (p.Low h) = RegRead 0 (register 0x10)
phase_asks c p.Catas = RegRead (catas_bar_value c.catas) (catas_offset_value c.catas)

unfoldable pub cmd_asks : Cmd → Question
cmd_asks c = phase_asks c c.phase

-- what a step leads to: by what the answer says to the question's kind, with what was waited by then
abbrev pub on_dword : Cmd → (us : ℕ) → (ℕ → CmdStep) → Result ℕ NoReply → CmdStep
on_dword c us f (Ok v) = f (swap_of v)
on_dword c us f (Err Failed) = end_of c (r.Bus us)
on_dword c us f (Err Wrong) = More c

abbrev pub on_done : Cmd → CmdStep → Result (Unit {0}) NoReply → CmdStep
on_done c f (Ok _) = f
on_done c f (Err Failed) = end_of c (r.Bus 0)
on_done c f (Err Wrong) = More c

abbrev pub on_told : Cmd → CmdStep → Bool → CmdStep
on_told c f true = f
on_told c f false = More c

-- the catastrophic read: good or failed, the command has timed out
abbrev pub on_either : Cmd → CmdStep → Result ℕ NoReply → CmdStep
on_either c f (Ok v) = f
on_either c f (Err Failed) = f
on_either c f (Err Wrong) = More c

abbrev pub timeout_of : Cmd → Catas → CmdStep
timeout_of c (Known b o) = go_on c p.Catas
timeout_of c Unknown = end_of c (r.Timeout (waited_of c.stalls))

abbrev pub polled_of : Cmd → ℕ → CmdStep
polled_of c v =
    pick (pending_in v c.toggle) (pick (leb 60000000 (waited_of c.stalls)) (timeout_of c c.catas) (go_on c p.Wait)) (go_on c p.Fenced)

abbrev pub status_of : Cmd → ℕ → CmdStep
status_of c s = pick (eqb s 0) (go_on c p.High) (end_of c (r.Status s (waited_of c.stalls)))

abbrev pub first_of : Cmd → ℕ → CmdStep
first_of c v = pick (pending_in v c.toggle) (end_of c r.Busy) (go_on c (p.Writing 0))

abbrev pub written_of : Cmd → ℕ → CmdStep
written_of c i = pick (ltb i 5) (go_on c (p.Writing (i + 1))) (go_on c p.Fence)

abbrev pub done_with : Cmd → (high low : ℕ) → CmdStep
done_with c h v = end_of c (r.Done (h * 2 ^ 32 + v) (waited_of c.stalls))

-- one stall more, up to those of a Timeout
abbrev pub bump : ℕ → ℕ
bump n = pick (ltb n STALLS) (n + 1) n

abbrev pub phase_step : Cmd → Answer → Phase → CmdStep
phase_step c a p.First = on_dword c 0 (first_of c) (dword_of a)
phase_step c a (p.Writing i) = on_done c (written_of c i) (done_of a)
phase_step c a p.Fence = on_told c (go_on c p.Go) (told_of a)
phase_step c a p.Go = on_done c (More (posted c)) (done_of a)
phase_step c a p.Poll = on_dword c (waited_of c.stalls) (polled_of c) (dword_of a)
phase_step c a p.Wait = on_told c (More (stalled_by c (bump c.stalls))) (told_of a)
phase_step c a p.Fenced = on_told c (go_on c p.Status) (told_of a)
phase_step c a p.Status = on_dword c (waited_of c.stalls) (λ v. status_of c (status_in v)) (dword_of a)
phase_step c a p.High = on_dword c (waited_of c.stalls) (λ v. go_on c (p.Low v)) (dword_of a)
phase_step c a (p.Low h) = on_dword c (waited_of c.stalls) (done_with c h) (dword_of a)
phase_step c a p.Catas = on_either c (end_of c (r.Timeout (waited_of c.stalls))) (dword_of a)

unfoldable pub cmd_step_of : Cmd → Answer → CmdStep
cmd_step_of c a = phase_step c a c.phase

-- the step as pci's `Follows` takes it
abbrev pub next : CmdStep → Next Cmd CmdEnd
next (More c) = more c
next (Ended e) = ended e

-- the script that is left in each phase
abbrev pub phase_script : List ℕ → Cmd → Phase → Script CmdEnd
phase_script inbox c p.First = command c.catas inbox c.toggle c.post
phase_script inbox c (p.Writing i) =
    write_all c.catas inbox c.toggle (4 * word_no i) (drop (word_no i) (words c.post)) (fenced c.catas inbox c.toggle c.post)
phase_script inbox c p.Fence = fenced c.catas inbox c.toggle c.post
phase_script inbox c p.Go = start c.catas inbox c.toggle c.post
phase_script inbox c p.Poll = poll c.catas inbox c.toggle c.stalls (STALLS - c.stalls)
phase_script inbox c p.Wait = ask (stall (stall_of c.stalls)) (λ x. poll c.catas inbox c.toggle (bump c.stalls) (STALLS - bump c.stalls))
phase_script inbox c p.Fenced = verdict c.catas inbox c.toggle (waited_of c.stalls)
phase_script inbox c p.Status = judged c.catas inbox c.toggle (waited_of c.stalls)
phase_script inbox c p.High = immediate c.catas inbox c.toggle (waited_of c.stalls)
phase_script inbox c (p.Low h) = low c.catas inbox c.toggle (waited_of c.stalls) h
phase_script inbox c p.Catas =
    ask (read (catas_bar_value c.catas) (catas_offset_value c.catas)) (λ x. ret (ending c.toggle (r.Timeout (waited_of c.stalls))))

unfoldable pub cmd_script : List ℕ → Cmd → Script CmdEnd
cmd_script inbox c = phase_script inbox c c.phase
