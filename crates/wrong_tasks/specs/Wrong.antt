-- WRONG ANSWERS of functions on tasks, as in `wrong/specs/Wrong.antt`. A step is told as 1 and the state that is left, or as 0 and how the task has ended.
use Rattle.std.specs.Prelude as std
use Rattle.std.specs.Prelude.{ℕ, ◌-◌, ◌^◌, true, List, [], ◌∷◌, ◌++◌, take, drop, replicate, Result, Ok, Err}
use Rattle.std.proofs.Math.Option.{Option, some, none}
use Rattle.fields.specs.Outcome.{Outcome, value, refused, number_of}
use Rattle.wrong.specs.Wrong.{Row, row, told, told_unit, yes}
use Rattle.words.specs.Words.{bit_of, flat}
use Rattle.words_task.specs.Coding.{phase_words, cmd_words, attr_words, claim_words, making_words, freeing_words, parting_words, task_words}
use Rattle.words_beside.specs.Coding.{reset_phase_words, control_words, reset_words, asking_words}
use Rattle.words_info.specs.Coding.{pick_words}
use Rattle.words_calls.specs.Calls.{question_words}
use Rattle.dma.specs.declared.Buffer.{Buffer}
use Rattle.hcr.specs.declared.Post.{Post}
use Rattle.bars.specs.declared.BarRange.{BarRange}
use Rattle.bars.specs.declared.Candidate.{Candidate}
use Rattle.bars.specs.declared.Asking.{Asking}
use Rattle.bars.specs.declared.Asking.TheVariants as ba
use Rattle.bars.specs.declared.Choice.{Choice}
use Rattle.bars.specs.declared.Pick.{Pick}
use Rattle.pci.specs.Script.{Script, ret, ask, shown, reply_of}
use Rattle.pci.specs.declared.Answer.{Answer}
use Rattle.pci.specs.declared.Answer.TheVariants as a
use Rattle.command.specs.Script.{result_of, micros_of, poll, start, fenced}
use Rattle.command.specs.Machine.{first, cmd_asks, cmd_step_of}
use Rattle.command.specs.declared.Catas.{Catas}
use Rattle.command.specs.declared.Catas.TheVariants as ck
use Rattle.command.specs.declared.CmdEnd.{CmdEnd}
use Rattle.command.specs.declared.Phase.{Phase}
use Rattle.command.specs.declared.Phase.TheVariants as cp
use Rattle.command.specs.declared.Cmd.{Cmd}
use Rattle.command.specs.declared.CmdStep.{CmdStep}
use Rattle.command.specs.declared.CmdStep.TheVariants as cs
use Rattle.reset.specs.Reset.{is_good, ended, vendor, restore, written}
use Rattle.reset.specs.Steps.{reset_asks, reset_step_of}
use Rattle.reset.specs.Steps as rs
use Rattle.reset.specs.declared.ResetEnd.{ResetEnd}
use Rattle.reset.specs.declared.ResetEnd.TheVariants as re
use Rattle.reset.specs.declared.Control.{Control}
use Rattle.reset.specs.declared.Control.TheVariants as rc
use Rattle.reset.specs.declared.Phase.{Phase as ResetPhase}
use Rattle.reset.specs.declared.Phase.TheVariants as rp
use Rattle.reset.specs.declared.Reset.{Reset}
use Rattle.reset.specs.declared.Ending.{Ending as ResetEnding}
use Rattle.reset.specs.declared.Ending.TheVariants as rg
use Rattle.reset.specs.declared.ResetStep.{ResetStep}
use Rattle.buffer.specs.Buffer.{fault, made}
use Rattle.buffer.specs.Steps.{make_of, make_asks, make_step_of, start_free, free_asks, free_step_of}
use Rattle.buffer.specs.declared.Fault.TheVariants as f
use Rattle.buffer.specs.declared.MakePhase.{MakePhase}
use Rattle.buffer.specs.declared.MakePhase.TheVariants as mp
use Rattle.buffer.specs.declared.Making.{Making}
use Rattle.buffer.specs.declared.MakeStep.{MakeStep}
use Rattle.buffer.specs.declared.MakeStep.TheVariants as ms
use Rattle.buffer.specs.declared.FreePhase.{FreePhase}
use Rattle.buffer.specs.declared.FreePhase.TheVariants as fp
use Rattle.buffer.specs.declared.Freeing.{Freeing}
use Rattle.buffer.specs.declared.FreeStep.{FreeStep}
use Rattle.buffer.specs.declared.FreeStep.TheVariants as fs
use Rattle.tasks.specs.Attributes.{enabled, attr_asks, attr_step_of}
use Rattle.tasks.specs.Claim.{claimed, claim_asks, claim_step_of}
use Rattle.tasks.specs.Parting.{part_asks, part_step_of}
use Rattle.tasks.specs.declared.Attr.TheVariants as tp
use Rattle.tasks.specs.declared.AttrStep.{AttrStep}
use Rattle.tasks.specs.declared.AttrStep.TheVariants as ts
use Rattle.tasks.specs.declared.Claim.TheVariants as lp
use Rattle.tasks.specs.declared.ClaimStep.{ClaimStep}
use Rattle.tasks.specs.declared.ClaimStep.TheVariants as ls
use Rattle.tasks.specs.declared.Parting.TheVariants as pp
use Rattle.tasks.specs.declared.PartingStep.{PartingStep}
use Rattle.tasks.specs.declared.PartingStep.TheVariants as ps
use Rattle.uar.specs.Uar.{Found, found, judging}
use Rattle.uar.specs.Steps.{index_of, bar_asks, bar_step_of}
use Rattle.uar.specs.Steps as us
use Rattle.uar.specs.declared.BarPhase.{BarPhase}
use Rattle.uar.specs.declared.BarPhase.TheVariants as up
use Rattle.uar.specs.declared.FindBar.{FindBar}
use Rattle.uar.specs.declared.BarStep.{BarStep}
use Rattle.work.specs.Work.{working, resting, work_asks, work_step_of}
use Rattle.work.specs.declared.Task.{Task}
use Rattle.work.specs.declared.Task.TheVariants as wt
use Rattle.work.specs.declared.Work.{Work}
use Rattle.work.specs.declared.End.{End}
use Rattle.work.specs.declared.End.TheVariants as we
use Rattle.work.specs.declared.Ending.{Ending}
use Rattle.work.specs.declared.Ending.TheVariants as wg
use Rattle.work.specs.declared.WorkStep.{WorkStep}
use Rattle.session.specs.declared.Top.{Top}
use Rattle.undo.specs.List.{undo_of, pop_of, top_of, any_reserved, outcome, push_of, pushed_in}
use Rattle.undo.specs.declared.Undo.{Undo}
use Rattle.undo.specs.declared.PushError.{PushError}
use Rattle.undo.specs.declared.PushError.TheVariants as v

abbrev zeros : ℕ → List ℕ
zeros n = replicate n 0

-- what a script asks first, or how it has ended; and the script after an answer
abbrev opens : {R : Type 0} → (R → List ℕ) → Script R → List ℕ
opens f (ret r) = 0 ∷ f r
opens f (ask q k) = 1 ∷ question_words (shown q)

abbrev onward : {A R : Type 0} → Option A → (A → Script R) → Script R → Script R
onward none k s = s
onward (some r) k s = k r

abbrev after : {R : Type 0} → Script R → Answer → Script R
after (ret r) x = ret r
after (ask q k) x = onward (reply_of q x []) k (ask q k)

-- COMMANDS: a state is told as its phase, the toggle and the stalls; an end as the toggle, the microseconds, and the immediate or the refusal
abbrev post : Post
post = record { op = 0x43; op_mod = 1; in_mod = 2; in_param = 0x500000006; out_param = 0x700000008 }

-- a command with toggle 1
abbrev cmd_with : Phase → ℕ → Catas → Cmd
cmd_with p n k = record { phase = p; post = post; toggle = true; stalls = n; catas = k }

abbrev cmd : Phase → Cmd
cmd p = cmd_with p 3 (ck.Known 2 0x100)

abbrev told_end : CmdEnd → List ℕ
told_end e = bit_of e.toggle ∷ micros_of e.result ∷ told (result_of e.result)

abbrev told_cmd : CmdStep → List ℕ
told_cmd (cs.More c) = 1 ∷ (phase_words c.phase ++ (bit_of c.toggle ∷ c.stalls ∷ []))
told_cmd (cs.Ended e) = 0 ∷ told_end e

abbrev cmd_asked : Phase → List ℕ
cmd_asked p = question_words (cmd_asks (cmd p))

abbrev cmd_stepped : Phase → Answer → List ℕ
cmd_stepped p x = told_cmd (cmd_step_of (cmd p) x)

-- Cmd::asks, by its phases
abbrev pub cmd_questions : List Row
cmd_questions =
    -- Cmd::new: a stall is counted; the parameters change places
    row (cmd_words (first post true (ck.Known 2 0x100))) (8 ∷ 0 ∷ 0 ∷ 0x43 ∷ 1 ∷ 2 ∷ 0x500000006 ∷ 0x700000008 ∷ 1 ∷ 1 ∷ 0 ∷ 2 ∷ 0x100 ∷ []) (8 ∷ 0 ∷ 0 ∷ 0x43 ∷ 1 ∷ 2 ∷ 0x700000008 ∷ 0x500000006 ∷ 1 ∷ 0 ∷ 0 ∷ 2 ∷ 0x100 ∷ []) ∷
    -- First: the owner is read; the first word is written unasked
    row (cmd_asked cp.First) (5 ∷ 0 ∷ 0x8069c ∷ 0 ∷ []) (6 ∷ 0 ∷ 0x80680 ∷ 0x05000000 ∷ []) ∷
    -- Writing(0): the low half of the input parameter; its bytes in the card's order
    row (cmd_asked (cp.Writing 0)) (6 ∷ 0 ∷ 0x80680 ∷ 0x06000000 ∷ []) (6 ∷ 0 ∷ 0x80680 ∷ 5 ∷ []) ∷
    -- Writing(1): the high half again; at the neighbour's place
    row (cmd_asked (cp.Writing 1)) (6 ∷ 0 ∷ 0x80684 ∷ 0x05000000 ∷ []) (6 ∷ 0 ∷ 0x80688 ∷ 0x06000000 ∷ []) ∷
    -- Writing(2): the opcode's modifier; at the neighbour's place
    row (cmd_asked (cp.Writing 2)) (6 ∷ 0 ∷ 0x80688 ∷ 0x01000000 ∷ []) (6 ∷ 0 ∷ 0x80684 ∷ 0x02000000 ∷ []) ∷
    -- Writing(3): the input parameter; the low half
    row (cmd_asked (cp.Writing 3)) (6 ∷ 0 ∷ 0x8068c ∷ 0x05000000 ∷ []) (6 ∷ 0 ∷ 0x8068c ∷ 0x08000000 ∷ []) ∷
    -- Writing(4): the high half again; the input parameter
    row (cmd_asked (cp.Writing 4)) (6 ∷ 0 ∷ 0x80690 ∷ 0x07000000 ∷ []) (6 ∷ 0 ∷ 0x80690 ∷ 0x06000000 ∷ []) ∷
    -- Writing(5): a token of 0; its bytes in the card's order
    row (cmd_asked (cp.Writing 5)) (6 ∷ 0 ∷ 0x80694 ∷ 0 ∷ []) (6 ∷ 0 ∷ 0x80694 ∷ 0xffff0000 ∷ []) ∷
    -- Writing(6), which no command comes to: the last word, which posts; one past the token
    row (cmd_asked (cp.Writing 6)) (6 ∷ 0 ∷ 0x80698 ∷ 0x4310a000 ∷ []) (6 ∷ 0 ∷ 0x80698 ∷ 0xffff ∷ []) ∷
    -- Fence: the command is posted without it; nothing is asked
    row (cmd_asked cp.Fence) (6 ∷ 0 ∷ 0x80698 ∷ 0x4310a000 ∷ []) (0 ∷ 0 ∷ 0 ∷ 0 ∷ []) ∷
    -- Go: with T as the flipped toggle; without GO
    row (cmd_asked cp.Go) (6 ∷ 0 ∷ 0x80698 ∷ 0x43108000 ∷ []) (6 ∷ 0 ∷ 0x80698 ∷ 0x43102000 ∷ []) ∷
    -- Poll: a stall; the immediate is read
    row (cmd_asked cp.Poll) (9 ∷ 1 ∷ 0 ∷ 0 ∷ []) (5 ∷ 0 ∷ 0x8068c ∷ 0 ∷ []) ∷
    -- Wait after three stalls: a long one; as many as were made
    row (cmd_asked cp.Wait) (9 ∷ 100 ∷ 0 ∷ 0 ∷ []) (9 ∷ 3 ∷ 0 ∷ 0 ∷ []) ∷
    -- Wait after 1,000 stalls: a short one; a millisecond
    row (question_words (cmd_asks (cmd_with cp.Wait 1000 ck.Unknown))) (9 ∷ 1 ∷ 0 ∷ 0 ∷ []) (9 ∷ 1000 ∷ 0 ∷ 0 ∷ []) ∷
    -- Fenced: the status is read without it; a stall
    row (cmd_asked cp.Fenced) (5 ∷ 0 ∷ 0x80698 ∷ 0 ∷ []) (9 ∷ 1 ∷ 0 ∷ 0 ∷ []) ∷
    -- Status: the immediate is read; a fence
    row (cmd_asked cp.Status) (5 ∷ 0 ∷ 0x8068c ∷ 0 ∷ []) (14 ∷ 0 ∷ 0 ∷ 0 ∷ []) ∷
    -- High: the low half; the input parameter's low half
    row (cmd_asked cp.High) (5 ∷ 0 ∷ 0x80690 ∷ 0 ∷ []) (5 ∷ 0 ∷ 0x80684 ∷ 0 ∷ []) ∷
    -- Low: the high half is read twice; the token
    row (cmd_asked (cp.Low 5)) (5 ∷ 0 ∷ 0x8068c ∷ 0 ∷ []) (5 ∷ 0 ∷ 0x80694 ∷ 0 ∷ []) ∷
    -- Catas: in BAR 0; the status
    row (cmd_asked cp.Catas) (5 ∷ 0 ∷ 0x100 ∷ 0 ∷ []) (5 ∷ 0 ∷ 0x80698 ∷ 0 ∷ []) ∷
    []

-- Cmd::step, by its phases and answers. With toggle 1 a status dword of 0 is not pending, and one with GO or T is (as the bus carries it: 0x8000, 0x2000)
abbrev pub cmd_steps : List Row
cmd_steps =
    -- First, not pending: Busy whatever was read; the first word is not written
    row (cmd_stepped cp.First (a.Dword 0)) (0 ∷ 1 ∷ 0 ∷ 8 ∷ 0 ∷ []) (1 ∷ 1 ∷ 1 ∷ 1 ∷ 3 ∷ []) ∷
    -- First, pending: written all the same; a Timeout
    row (cmd_stepped cp.First (a.Dword 0x2000)) (1 ∷ 1 ∷ 0 ∷ 1 ∷ 3 ∷ []) (0 ∷ 1 ∷ 3 ∷ 7 ∷ 3 ∷ []) ∷
    -- First, an answer of another kind: Busy before the status is read; the bus has failed
    row (cmd_stepped cp.First (a.Word 0)) (0 ∷ 1 ∷ 0 ∷ 8 ∷ 0 ∷ []) (0 ∷ 1 ∷ 0 ∷ 9 ∷ 0 ∷ []) ∷
    -- First, failed: Busy; with a wait that was not
    row (cmd_stepped cp.First a.Failed) (0 ∷ 1 ∷ 0 ∷ 8 ∷ 0 ∷ []) (0 ∷ 1 ∷ 3 ∷ 9 ∷ 3 ∷ []) ∷
    -- Writing(0): a word is skipped; the rest are
    row (cmd_stepped (cp.Writing 0) a.Done) (1 ∷ 1 ∷ 2 ∷ 1 ∷ 3 ∷ []) (1 ∷ 2 ∷ 0 ∷ 1 ∷ 3 ∷ []) ∷
    -- Writing(4): the token is not written; a word again
    row (cmd_stepped (cp.Writing 4) a.Done) (1 ∷ 2 ∷ 0 ∷ 1 ∷ 3 ∷ []) (1 ∷ 1 ∷ 4 ∷ 1 ∷ 3 ∷ []) ∷
    -- Writing(5): posted before the fence; a seventh word
    row (cmd_stepped (cp.Writing 5) a.Done) (1 ∷ 3 ∷ 0 ∷ 1 ∷ 3 ∷ []) (1 ∷ 1 ∷ 6 ∷ 1 ∷ 3 ∷ []) ∷
    -- Writing(2), failed: passed over; the toggle flips
    row (cmd_stepped (cp.Writing 2) a.Failed) (1 ∷ 1 ∷ 3 ∷ 1 ∷ 3 ∷ []) (0 ∷ 0 ∷ 0 ∷ 9 ∷ 0 ∷ []) ∷
    -- Writing(2), an answer of another kind: taken as done; as failed
    row (cmd_stepped (cp.Writing 2) (a.Dword 0)) (1 ∷ 1 ∷ 3 ∷ 1 ∷ 3 ∷ []) (0 ∷ 1 ∷ 0 ∷ 9 ∷ 0 ∷ []) ∷
    -- Fence: taken as posted; made again
    row (cmd_stepped cp.Fence a.Done) (1 ∷ 4 ∷ 0 ∷ 1 ∷ 3 ∷ []) (1 ∷ 2 ∷ 0 ∷ 1 ∷ 3 ∷ []) ∷
    -- Fence, failed, which it cannot: the bus has failed; posted
    row (cmd_stepped cp.Fence a.Failed) (0 ∷ 1 ∷ 0 ∷ 9 ∷ 0 ∷ []) (1 ∷ 3 ∷ 0 ∷ 1 ∷ 3 ∷ []) ∷
    -- Go: the toggle is not flipped; the stalls are not counted anew
    row (cmd_stepped cp.Go a.Done) (1 ∷ 4 ∷ 0 ∷ 1 ∷ 0 ∷ []) (1 ∷ 4 ∷ 0 ∷ 0 ∷ 3 ∷ []) ∷
    -- Go, failed: the toggle flips all the same; polled all the same
    row (cmd_stepped cp.Go a.Failed) (0 ∷ 0 ∷ 0 ∷ 9 ∷ 0 ∷ []) (1 ∷ 4 ∷ 0 ∷ 0 ∷ 0 ∷ []) ∷
    -- Poll, pending by GO: a Timeout; an end
    row (cmd_stepped cp.Poll (a.Dword 0x8000)) (1 ∷ 10 ∷ 0 ∷ 1 ∷ 3 ∷ []) (1 ∷ 6 ∷ 0 ∷ 1 ∷ 3 ∷ []) ∷
    -- Poll, pending by T: an end; a stall is counted before it is made
    row (cmd_stepped cp.Poll (a.Dword 0x2000)) (1 ∷ 6 ∷ 0 ∷ 1 ∷ 3 ∷ []) (1 ∷ 5 ∷ 0 ∷ 1 ∷ 4 ∷ []) ∷
    -- Poll, not pending and with a status: the status is taken from this read; it is not fenced
    row (cmd_stepped cp.Poll (a.Dword 0x50)) (0 ∷ 1 ∷ 3 ∷ 6 ∷ 0x50 ∷ 3 ∷ []) (1 ∷ 7 ∷ 0 ∷ 1 ∷ 3 ∷ []) ∷
    -- Poll, failed: without its wait; a Timeout
    row (cmd_stepped cp.Poll a.Failed) (0 ∷ 1 ∷ 0 ∷ 9 ∷ 0 ∷ []) (0 ∷ 1 ∷ 3 ∷ 7 ∷ 3 ∷ []) ∷
    -- Wait: the stall is not counted; a Timeout before the status is read
    row (cmd_stepped cp.Wait a.Done) (1 ∷ 4 ∷ 0 ∷ 1 ∷ 3 ∷ []) (1 ∷ 10 ∷ 0 ∷ 1 ∷ 4 ∷ []) ∷
    -- Wait after 600,990 stalls: one more is counted; a Timeout before the status is read
    row (told_cmd (cmd_step_of (cmd_with cp.Wait 600990 ck.Unknown) a.Done)) (1 ∷ 4 ∷ 0 ∷ 1 ∷ 600991 ∷ []) (0 ∷ 1 ∷ 60000000 ∷ 7 ∷ 60000000 ∷ []) ∷
    -- Fenced: the status is not read again; the wait goes on
    row (cmd_stepped cp.Fenced a.Done) (1 ∷ 8 ∷ 0 ∷ 1 ∷ 3 ∷ []) (1 ∷ 4 ∷ 0 ∷ 1 ∷ 3 ∷ []) ∷
    -- Status, good: done without the immediate; the low half alone
    row (cmd_stepped cp.Status (a.Dword 0)) (0 ∷ 1 ∷ 3 ∷ 0 ∷ 0 ∷ []) (1 ∷ 9 ∷ 0 ∷ 1 ∷ 3 ∷ []) ∷
    -- Status, 2: status and microseconds change places; passed over
    row (cmd_stepped cp.Status (a.Dword 2)) (0 ∷ 1 ∷ 3 ∷ 6 ∷ 3 ∷ 2 ∷ []) (1 ∷ 8 ∷ 0 ∷ 1 ∷ 3 ∷ []) ∷
    -- High: its bytes in the bus's order; done with it alone
    row (cmd_stepped cp.High (a.Dword 0x05000000)) (1 ∷ 9 ∷ 0x05000000 ∷ 1 ∷ 3 ∷ []) (0 ∷ 1 ∷ 3 ∷ 0 ∷ 5 ∷ []) ∷
    -- High, failed: the low half is read; without its wait
    row (cmd_stepped cp.High a.Failed) (1 ∷ 9 ∷ 0 ∷ 1 ∷ 3 ∷ []) (0 ∷ 1 ∷ 0 ∷ 9 ∷ 0 ∷ []) ∷
    -- Low: the halves change places; the low one alone
    row (cmd_stepped (cp.Low 5) (a.Dword 0x06000000)) (0 ∷ 1 ∷ 3 ∷ 0 ∷ 0x600000005 ∷ []) (0 ∷ 1 ∷ 3 ∷ 0 ∷ 6 ∷ []) ∷
    -- Low, failed: done with the high half; without its wait
    row (cmd_stepped (cp.Low 5) a.Failed) (0 ∷ 1 ∷ 3 ∷ 0 ∷ 0x500000000 ∷ []) (0 ∷ 1 ∷ 0 ∷ 9 ∷ 0 ∷ []) ∷
    -- Catas: half the wait; what was read counts as the wait
    row (told_cmd (cmd_step_of (cmd_with cp.Catas 4 (ck.Known 2 0x100)) (a.Dword 0x50))) (0 ∷ 1 ∷ 2 ∷ 7 ∷ 2 ∷ []) (0 ∷ 1 ∷ 0x50 ∷ 7 ∷ 0x50 ∷ []) ∷
    -- Catas, failed: the bus has failed; the wait goes on
    row (cmd_stepped cp.Catas a.Failed) (0 ∷ 1 ∷ 3 ∷ 9 ∷ 3 ∷ []) (1 ∷ 4 ∷ 0 ∷ 1 ∷ 3 ∷ []) ∷
    -- the script after a failed last write: the toggle flips; it polls
    row (opens told_end (after (start ck.Unknown [] true post) a.Failed)) (0 ∷ 0 ∷ 0 ∷ 9 ∷ 0 ∷ []) (1 ∷ 5 ∷ 0 ∷ 0x80698 ∷ 0 ∷ []) ∷
    -- the script before the last write: it posts before the fence; it has ended
    row (opens told_end (fenced ck.Unknown [] true post)) (1 ∷ 6 ∷ 0 ∷ 0x80698 ∷ 0x4310a000 ∷ []) (0 ∷ 1 ∷ 0 ∷ 0 ∷ 0 ∷ []) ∷
    -- the script at an end of the wait with a status: the status is taken from this read; it is not fenced
    row (opens told_end (after (poll ck.Unknown [] true 3 7) (a.Dword 0x50))) (0 ∷ 1 ∷ 3 ∷ 6 ∷ 0x50 ∷ 3 ∷ []) (1 ∷ 5 ∷ 0 ∷ 0x80698 ∷ 0 ∷ []) ∷
    -- the script, pending, with no stall left: one more stall; half the wait
    row (opens told_end (after (poll ck.Unknown [] true 4 0) (a.Dword 0x2000))) (1 ∷ 9 ∷ 1 ∷ 0 ∷ 0 ∷ []) (0 ∷ 1 ∷ 2 ∷ 7 ∷ 2 ∷ []) ∷
    []

-- RESETS: a state is told as its phase and the control words
abbrev dwords : List ℕ
dwords = 0xd0 ∷ 0xd1 ∷ 0xd2 ∷ 0xd3 ∷ 0xd4 ∷ 0xd5 ∷ 0xd6 ∷ 0xd7 ∷ 0xd8 ∷ 0xd9 ∷ 0xda ∷ 0xdb ∷ 0xdc ∷ 0xdd ∷ 0xde ∷ 0xdf ∷ []

abbrev reset_with : ResetPhase → Control → Reset
reset_with p k = record { phase = p; dwords = dwords; control = k }

abbrev told_reset : ResetEnd → List ℕ
told_reset re.Good = 0 ∷ []
told_reset re.Save = 1 ∷ []
told_reset (re.Semaphore x) = 2 ∷ x ∷ []
told_reset re.Write = 3 ∷ []
told_reset re.Vendor = 4 ∷ []

abbrev reset_led : Reset → ResetEnding → List ℕ
reset_led s rg.Going = 1 ∷ (reset_phase_words s.phase ++ control_words s.control)
reset_led s (rg.Ended e) = 0 ∷ told_reset e

abbrev told_reset_step : ResetStep → List ℕ
told_reset_step st = reset_led st.reset st.ending

abbrev reset_asked : ResetPhase → List ℕ
reset_asked p = question_words (reset_asks (reset_with p rc.Absent))

abbrev reset_stepped : ResetPhase → Answer → List ℕ
reset_stepped p x = told_reset_step (reset_step_of (reset_with p rc.Absent) x)

-- the first two dwords after a step
abbrev saved_by : ResetPhase → Answer → List ℕ
saved_by p x = take 2 (reset_step_of (reset_with p rc.Absent) x).reset.dwords

abbrev pub reset_questions : List Row
reset_questions =
    -- ResetEnd::is_good (good, saving, semaphore, write, vendor): a write that failed is; a card that did not come back is
    row (yes (is_good re.Good) ∷ yes (is_good re.Save) ∷ yes (is_good (re.Semaphore 0)) ∷ yes (is_good re.Write) ∷ yes (is_good re.Vendor) ∷ [])
    (1 ∷ 0 ∷ 0 ∷ 1 ∷ 0 ∷ []) (1 ∷ 0 ∷ 0 ∷ 0 ∷ 1 ∷ []) ∷
    -- what a reset that could not be written comes to: good; 4
    row (told_unit (ended re.Write)) (0 ∷ []) (4 ∷ []) ∷
    -- Reset::start: the first dword is not saved; dwords that were not read count as 1
    row (reset_words rs.started) (0 ∷ 14 ∷ zeros 22) (0 ∷ 15 ∷ (zeros 6 ++ replicate 16 1)) ∷
    -- Reset::asks, Saving(3): its neighbour; the number for the place
    row (reset_asked (rp.Saving 3)) (2 ∷ 0x34 ∷ 0 ∷ 0 ∷ []) (2 ∷ 12 ∷ 0 ∷ 0 ∷ []) ∷
    -- Pointer: 16 bits; its neighbour
    row (reset_asked rp.Pointer) (1 ∷ 0x34 ∷ 0 ∷ 0 ∷ []) (2 ∷ 0x30 ∷ 0 ∷ 0 ∷ []) ∷
    -- Header: 32 bits; at the headers that are left
    row (reset_asked (rp.Header 5 0x40)) (2 ∷ 0x40 ∷ 0 ∷ 0 ∷ []) (1 ∷ 5 ∷ 0 ∷ 0 ∷ []) ∷
    -- Device: the header; the link control word
    row (reset_asked (rp.Device 0x40)) (1 ∷ 0x40 ∷ 0 ∷ 0 ∷ []) (1 ∷ 0x50 ∷ 0 ∷ 0 ∷ []) ∷
    -- Link: the device control word; the word after it
    row (reset_asked (rp.Link 0x40 7)) (1 ∷ 0x48 ∷ 0 ∷ 0 ∷ []) (1 ∷ 0x52 ∷ 0 ∷ 0 ∷ []) ∷
    -- Semaphore: the reset register; in BAR 2
    row (reset_asked (rp.Semaphore 9)) (5 ∷ 0 ∷ 0xf0010 ∷ 0 ∷ []) (5 ∷ 2 ∷ 0xf03fc ∷ 0 ∷ []) ∷
    -- Hold: a microsecond; a second
    row (reset_asked (rp.Hold 9)) (9 ∷ 1 ∷ 0 ∷ 0 ∷ []) (9 ∷ 1000000 ∷ 0 ∷ 0 ∷ []) ∷
    -- Writing: its bytes in the card's order; the semaphore
    row (reset_asked rp.Writing) (6 ∷ 0 ∷ 0xf0010 ∷ 1 ∷ []) (6 ∷ 0 ∷ 0xf03fc ∷ 0x01000000 ∷ []) ∷
    -- Settle: a millisecond only; ten seconds
    row (reset_asked rp.Settle) (9 ∷ 1000 ∷ 0 ∷ 0 ∷ []) (9 ∷ 10000000 ∷ 0 ∷ 0 ∷ []) ∷
    -- Vendor: 32 bits; the device number
    row (reset_asked (rp.Vendor 9)) (2 ∷ 0 ∷ 0 ∷ 0 ∷ []) (1 ∷ 2 ∷ 0 ∷ 0 ∷ []) ∷
    -- Gone: a microsecond; a second
    row (reset_asked (rp.Gone 9)) (9 ∷ 1 ∷ 0 ∷ 0 ∷ []) (9 ∷ 1000000 ∷ 0 ∷ 0 ∷ []) ∷
    -- BackDevice: the link control word; at its place
    row (reset_asked (rp.BackDevice 0x40 7 8)) (3 ∷ 0x48 ∷ 8 ∷ 0 ∷ []) (3 ∷ 0x50 ∷ 7 ∷ 0 ∷ []) ∷
    -- BackLink: at the device control word's place; 32 bits
    row (reset_asked (rp.BackLink 0x40 8)) (3 ∷ 0x48 ∷ 8 ∷ 0 ∷ []) (4 ∷ 0x50 ∷ 8 ∷ 0 ∷ []) ∷
    -- Back(15): the dword at 0x04 goes back first; to the neighbour's place
    row (reset_asked (rp.Back 15)) (4 ∷ 4 ∷ 0xd1 ∷ 0 ∷ []) (4 ∷ 4 ∷ 0xd0 ∷ 0 ∷ []) ∷
    -- Back(14): the neighbour, 0x04, out of its order; each dword goes back to its neighbour's place
    row (reset_asked (rp.Back 14)) (4 ∷ 4 ∷ 0xd1 ∷ 0 ∷ []) (4 ∷ 4 ∷ 0xd2 ∷ 0 ∷ []) ∷
    -- Back(0): the dword at 0x04 is not restored; one past the last
    row (reset_asked (rp.Back 0)) (4 ∷ 8 ∷ 0xd2 ∷ 0 ∷ []) (4 ∷ 0x40 ∷ 0 ∷ 0 ∷ []) ∷
    []

-- Reset::step
abbrev pub reset_steps : List Row
reset_steps =
    -- Saving(15): the same again; the rest are not read
    row (reset_stepped (rp.Saving 15) (a.Dword 7)) (1 ∷ 0 ∷ 15 ∷ zeros 6) (1 ∷ 1 ∷ 0 ∷ zeros 6) ∷
    -- and what is saved: at the neighbour's place; not at all
    row (saved_by (rp.Saving 15) (a.Dword 7)) (0xd0 ∷ 7 ∷ []) (0xd0 ∷ 0xd1 ∷ []) ∷
    -- Saving(0): one dword more; no control words are looked for
    row (reset_stepped (rp.Saving 0) (a.Dword 7)) (1 ∷ 0 ∷ 0 ∷ zeros 6) (1 ∷ 5 ∷ 10000 ∷ zeros 6) ∷
    -- Saving, failed: passed over; good
    row (reset_stepped (rp.Saving 3) a.Failed) (1 ∷ 0 ∷ 2 ∷ zeros 6) (0 ∷ 0 ∷ []) ∷
    -- Saving, an answer of another kind: taken; failed
    row (reset_stepped (rp.Saving 3) (a.Word 7)) (1 ∷ 0 ∷ 2 ∷ zeros 6) (0 ∷ 1 ∷ []) ∷
    -- Pointer 0x43: its low bits are kept; 49 headers
    row (reset_stepped rp.Pointer (a.Dword 0x43)) (1 ∷ 2 ∷ 47 ∷ 0x43 ∷ zeros 5) (1 ∷ 2 ∷ 48 ∷ 0x40 ∷ zeros 5) ∷
    -- Pointer 0: the semaphore is read once more than 10,001 times; a header at 0
    row (reset_stepped rp.Pointer (a.Dword 0)) (1 ∷ 5 ∷ 10001 ∷ zeros 6) (1 ∷ 2 ∷ 47 ∷ zeros 6) ∷
    -- Pointer, failed: the reset fails; the pointer is read again
    row (reset_stepped rp.Pointer a.Failed) (0 ∷ 1 ∷ []) (1 ∷ 1 ∷ zeros 7) ∷
    -- Header of PCI Express: the next one; its pointer for its place
    row (reset_stepped (rp.Header 5 0x40) (a.Word 0x6010)) (1 ∷ 2 ∷ 4 ∷ 0x60 ∷ zeros 5) (1 ∷ 3 ∷ 0x60 ∷ zeros 6) ∷
    -- Header of another: no header is counted; the id is its pointer
    row (reset_stepped (rp.Header 5 0x40) (a.Word 0x6005)) (1 ∷ 2 ∷ 5 ∷ 0x60 ∷ zeros 5) (1 ∷ 2 ∷ 4 ∷ 4 ∷ zeros 5) ∷
    -- Header, the 48th and of another: one more; PCI Express
    row (reset_stepped (rp.Header 0 0x40) (a.Word 0x6005)) (1 ∷ 2 ∷ 0 ∷ 0x60 ∷ zeros 5) (1 ∷ 3 ∷ 0x40 ∷ zeros 6) ∷
    -- Device: the place is lost; the link control word is not read
    row (reset_stepped (rp.Device 0x40) (a.Word 7)) (1 ∷ 4 ∷ 7 ∷ zeros 6) (1 ∷ 5 ∷ 10000 ∷ 0 ∷ 0 ∷ 1 ∷ 0x40 ∷ 7 ∷ 0 ∷ []) ∷
    -- Link: the words change places; neither is kept
    row (reset_stepped (rp.Link 0x40 7) (a.Word 8)) (1 ∷ 5 ∷ 10000 ∷ 0 ∷ 0 ∷ 1 ∷ 0x40 ∷ 8 ∷ 7 ∷ []) (1 ∷ 5 ∷ 10000 ∷ zeros 6) ∷
    -- Link, failed: the device control word is kept; the reset fails
    row (reset_stepped (rp.Link 0x40 7) a.Failed) (1 ∷ 5 ∷ 10000 ∷ 0 ∷ 0 ∷ 1 ∷ 0x40 ∷ 7 ∷ 0 ∷ []) (0 ∷ 1 ∷ []) ∷
    -- Semaphore, free: held; the write is passed over
    row (reset_stepped (rp.Semaphore 9) (a.Dword 0)) (1 ∷ 6 ∷ 8 ∷ zeros 6) (1 ∷ 8 ∷ zeros 7) ∷
    -- Semaphore, held: taken all the same; a read is not counted
    row (reset_stepped (rp.Semaphore 9) (a.Dword 1)) (1 ∷ 7 ∷ zeros 7) (1 ∷ 6 ∷ 9 ∷ zeros 6) ∷
    -- Semaphore, held at the last read: once more; the value in the bus's order
    row (reset_stepped (rp.Semaphore 0) (a.Dword 0x01000000)) (1 ∷ 6 ∷ 0 ∷ zeros 6) (0 ∷ 2 ∷ 0x01000000 ∷ []) ∷
    -- Semaphore, failed: read again; free
    row (reset_stepped (rp.Semaphore 9) a.Failed) (1 ∷ 6 ∷ 8 ∷ zeros 6) (1 ∷ 7 ∷ zeros 7) ∷
    -- Hold: a read is counted twice; another stall
    row (reset_stepped (rp.Hold 9) a.Done) (1 ∷ 5 ∷ 8 ∷ zeros 6) (1 ∷ 6 ∷ 9 ∷ zeros 6) ∷
    -- Writing: the rest is passed over; good
    row (reset_stepped rp.Writing a.Done) (1 ∷ 9 ∷ 1999 ∷ zeros 6) (0 ∷ 0 ∷ []) ∷
    -- Writing, failed: a good end; waited for all the same
    row (reset_stepped rp.Writing a.Failed) (0 ∷ 0 ∷ []) (1 ∷ 8 ∷ zeros 7) ∷
    -- Settle: 2,001 vendor reads; restored unseen
    row (reset_stepped rp.Settle a.Done) (1 ∷ 9 ∷ 2000 ∷ zeros 6) (1 ∷ 13 ∷ 15 ∷ zeros 6) ∷
    -- Vendor, there: read again; good
    row (reset_stepped (rp.Vendor 9) (a.Word 0x15b3)) (1 ∷ 10 ∷ 9 ∷ zeros 6) (0 ∷ 0 ∷ []) ∷
    -- Vendor, there, with control words saved: they are passed over; without the device control word
    row (told_reset_step (reset_step_of (reset_with (rp.Vendor 9) (rc.Saved 0x40 7 8)) (a.Word 0x15b3)))
    (1 ∷ 13 ∷ 15 ∷ 0 ∷ 0 ∷ 1 ∷ 0x40 ∷ 7 ∷ 8 ∷ []) (1 ∷ 12 ∷ 0x40 ∷ 8 ∷ 0 ∷ 1 ∷ 0x40 ∷ 7 ∷ 8 ∷ []) ∷
    -- Vendor 0xffff: it counts as there; no stall
    row (reset_stepped (rp.Vendor 9) (a.Word 0xffff)) (1 ∷ 13 ∷ 15 ∷ zeros 6) (1 ∷ 9 ∷ 8 ∷ zeros 6) ∷
    -- Vendor, failed: it counts as there; the reset fails
    row (reset_stepped (rp.Vendor 9) a.Failed) (1 ∷ 13 ∷ 15 ∷ zeros 6) (0 ∷ 4 ∷ []) ∷
    -- Gone: the read is not counted; the reset fails early
    row (reset_stepped (rp.Gone 9) a.Done) (1 ∷ 9 ∷ 9 ∷ zeros 6) (0 ∷ 4 ∷ []) ∷
    -- Gone at the last read: once more; good
    row (reset_stepped (rp.Gone 0) a.Done) (1 ∷ 9 ∷ 0 ∷ zeros 6) (0 ∷ 0 ∷ []) ∷
    -- BackDevice: the link control word is passed over; the device control word for it
    row (reset_stepped (rp.BackDevice 0x40 7 8) a.Done) (1 ∷ 13 ∷ 15 ∷ zeros 6) (1 ∷ 12 ∷ 0x40 ∷ 7 ∷ zeros 5) ∷
    -- BackLink, failed: written again; the reset fails
    row (reset_stepped (rp.BackLink 0x40 8) a.Failed) (1 ∷ 12 ∷ 0x40 ∷ 8 ∷ zeros 5) (0 ∷ 3 ∷ []) ∷
    -- Back(1): 0x04 is passed over; the same again
    row (reset_stepped (rp.Back 1) a.Done) (0 ∷ 0 ∷ []) (1 ∷ 13 ∷ 1 ∷ zeros 6) ∷
    -- Back(0), failed: the reset fails; written again
    row (reset_stepped (rp.Back 0) a.Failed) (0 ∷ 3 ∷ []) (1 ∷ 13 ∷ 0 ∷ zeros 6) ∷
    -- the script after a failed reset write: a good end; a second of rest
    row (opens told_reset (after (written dwords rc.Absent) a.Failed)) (0 ∷ 0 ∷ []) (1 ∷ 9 ∷ 1000000 ∷ 0 ∷ 0 ∷ []) ∷
    -- the script after a failed vendor read: it counts as a vendor; the reset fails
    row (opens told_reset (after (vendor 2 (ret re.Good)) a.Failed)) (0 ∷ 0 ∷ []) (0 ∷ 4 ∷ []) ∷
    -- the script of the restoring, first and last dword: 0x04 first; 0x04 not at all
    row (opens told_reset (restore 16 dwords) ++ opens told_reset (restore 1 dwords)) (1 ∷ 4 ∷ 4 ∷ 0xd1 ∷ 0 ∷ 1 ∷ 4 ∷ 0x40 ∷ 0 ∷ 0 ∷ []) (1 ∷ 4 ∷ 0 ∷ 0xd0 ∷ 0 ∷ 1 ∷ 4 ∷ 8 ∷ 0xd2 ∷ 0 ∷ []) ∷
    []

-- BUFFERS
abbrev buffer : Buffer
buffer = record { handle = 7; dev = 0x5000; pages = 2 }

abbrev told_buffer : Outcome Buffer → List ℕ
told_buffer (value b) = 0 ∷ b.handle ∷ b.dev ∷ b.pages ∷ []
told_buffer (refused n vs) = n ∷ vs

-- a buffer of two pages that is made, and one that is freed
abbrev making_at : MakePhase → Making
making_at p = record { bytes = 8192; phase = p }

abbrev told_make : MakeStep → List ℕ
told_make (ms.More k) = 1 ∷ making_words k
told_make (ms.Ended x) = 0 ∷ told_buffer (made x)

abbrev make_asked : MakePhase → List ℕ
make_asked p = question_words (make_asks (making_at p))

abbrev make_stepped : MakePhase → Answer → List ℕ
make_stepped p x = told_make (make_step_of (making_at p) x)

abbrev freeing_at : FreePhase → Freeing
freeing_at p = record { handle = 7; pages = 2; phase = p }

abbrev told_free : FreeStep → List ℕ
told_free (fs.More k) = 1 ∷ freeing_words k
told_free fs.Freed = 0 ∷ []

abbrev free_stepped : FreePhase → Answer → List ℕ
free_stepped p x = told_free (free_step_of (freeing_at p) x)

abbrev pub buffers : List Row
buffers =
    -- Fault::refusal (memory, address): every fault is 5; memory that was not to be had is 18
    row (told (fault f.Memory) ++ told (fault f.Address)) (5 ∷ 5 ∷ []) (18 ∷ 18 ∷ []) ∷
    -- Making::start of a page and a byte: no whole number of pages; the bytes as they are
    row (told_make (make_of 4097)) (1 ∷ 8190 ∷ 0 ∷ 0 ∷ 0 ∷ []) (1 ∷ 4097 ∷ 0 ∷ 0 ∷ 0 ∷ []) ∷
    -- Making::start of too many: 5; a page
    row (told_make (make_of (2 ^ 64 - 4095))) (0 ∷ 5 ∷ []) (1 ∷ 4096 ∷ 0 ∷ 0 ∷ 0 ∷ []) ∷
    -- Making::asks, Allocate: the bytes; one page
    row (make_asked mp.Allocate) (10 ∷ 8192 ∷ 0 ∷ 0 ∷ []) (10 ∷ 1 ∷ 0 ∷ 0 ∷ []) ∷
    -- Map: less than was handed over; the pages
    row (make_asked (mp.Map 7)) (11 ∷ 7 ∷ 4096 ∷ 0 ∷ []) (11 ∷ 7 ∷ 2 ∷ 0 ∷ []) ∷
    -- Unmap: freed before that; mapped again
    row (make_asked (mp.Unmap 7 f.Memory)) (13 ∷ 7 ∷ 2 ∷ 0 ∷ []) (11 ∷ 7 ∷ 8192 ∷ 0 ∷ []) ∷
    -- Free: as many pages as there are bytes; unmapped again
    row (make_asked (mp.Free 7 f.Memory)) (13 ∷ 7 ∷ 8192 ∷ 0 ∷ []) (12 ∷ 7 ∷ 0 ∷ 0 ∷ []) ∷
    -- Making::step, Allocate: ready unmapped; the handle is lost
    row (make_stepped mp.Allocate (a.Handle 7)) (0 ∷ 0 ∷ 7 ∷ 0 ∷ 2 ∷ []) (1 ∷ 8192 ∷ 1 ∷ 0 ∷ 0 ∷ []) ∷
    -- Allocate, failed: 18; what was not had is freed
    row (make_stepped mp.Allocate a.Failed) (0 ∷ 18 ∷ []) (1 ∷ 8192 ∷ 3 ∷ 0 ∷ 0 ∷ []) ∷
    -- Allocate, an answer of another kind: taken for a handle; failed
    row (make_stepped mp.Allocate (a.Qword 7)) (1 ∷ 8192 ∷ 1 ∷ 7 ∷ 0 ∷ []) (0 ∷ 5 ∷ []) ∷
    -- Map: the handle for the address; the bytes for the pages
    row (make_stepped (mp.Map 7) (a.Mapped 0x5000 8192)) (0 ∷ 0 ∷ 7 ∷ 7 ∷ 2 ∷ []) (0 ∷ 0 ∷ 7 ∷ 0x5000 ∷ 8192 ∷ []) ∷
    -- Map at half a page: a refused address is 5; ready
    row (make_stepped (mp.Map 7) (a.Mapped 0x5800 8192)) (1 ∷ 8192 ∷ 2 ∷ 7 ∷ 0 ∷ []) (0 ∷ 0 ∷ 7 ∷ 0x5800 ∷ 2 ∷ []) ∷
    -- Map of another size: ready all the same; 18
    row (make_stepped (mp.Map 7) (a.Mapped 0x5000 4096)) (0 ∷ 0 ∷ 7 ∷ 0x5000 ∷ 2 ∷ []) (1 ∷ 8192 ∷ 2 ∷ 7 ∷ 1 ∷ []) ∷
    -- Map of another size at half a page: the size is looked at first; given up without an unmap
    row (make_stepped (mp.Map 7) (a.Mapped 0x5800 4096)) (1 ∷ 8192 ∷ 2 ∷ 7 ∷ 0 ∷ []) (1 ∷ 8192 ∷ 3 ∷ 7 ∷ 1 ∷ []) ∷
    -- Map, failed: unmapped; not freed
    row (make_stepped (mp.Map 7) a.Failed) (1 ∷ 8192 ∷ 2 ∷ 7 ∷ 0 ∷ []) (0 ∷ 5 ∷ []) ∷
    -- Unmap: not freed; the fault is lost
    row (make_stepped (mp.Unmap 7 f.Address) a.Done) (0 ∷ 18 ∷ []) (1 ∷ 8192 ∷ 3 ∷ 7 ∷ 0 ∷ []) ∷
    -- Unmap, failed: again; not freed
    row (make_stepped (mp.Unmap 7 f.Address) a.Failed) (1 ∷ 8192 ∷ 2 ∷ 7 ∷ 1 ∷ []) (0 ∷ 18 ∷ []) ∷
    -- Free: the fault is lost; ready
    row (make_stepped (mp.Free 7 f.Address) a.Done) (0 ∷ 5 ∷ []) (0 ∷ 0 ∷ 7 ∷ 0 ∷ 2 ∷ []) ∷
    -- Free, failed: again; another fault
    row (make_stepped (mp.Free 7 f.Address) a.Failed) (1 ∷ 8192 ∷ 3 ∷ 7 ∷ 1 ∷ []) (0 ∷ 5 ∷ []) ∷
    -- Freeing::start: the device address counts as the pages; freed without being unmapped
    row (freeing_words (start_free buffer)) (7 ∷ 0x5000 ∷ 0 ∷ []) (7 ∷ 2 ∷ 1 ∷ []) ∷
    -- Freeing::asks, Unmap: freed before that; the pages for the handle
    row (question_words (free_asks (freeing_at fp.Unmap))) (13 ∷ 7 ∷ 2 ∷ 0 ∷ []) (12 ∷ 2 ∷ 0 ∷ 0 ∷ []) ∷
    -- Free: handle and pages change places; the bytes
    row (question_words (free_asks (freeing_at fp.Free))) (13 ∷ 2 ∷ 7 ∷ 0 ∷ []) (13 ∷ 7 ∷ 8192 ∷ 0 ∷ []) ∷
    -- Freeing::step, Unmap: never freed; unmapped again
    row (free_stepped fp.Unmap a.Done) (0 ∷ []) (1 ∷ 7 ∷ 2 ∷ 0 ∷ []) ∷
    -- Unmap, failed: made again; not freed
    row (free_stepped fp.Unmap a.Failed) (1 ∷ 7 ∷ 2 ∷ 0 ∷ []) (0 ∷ []) ∷
    -- Free, failed: made again; unmapped again
    row (free_stepped fp.Free a.Failed) (1 ∷ 7 ∷ 2 ∷ 1 ∷ []) (1 ∷ 7 ∷ 2 ∷ 0 ∷ []) ∷
    -- Free, an answer of another kind: freed; unmapped again
    row (free_stepped fp.Free (a.Handle 7)) (0 ∷ []) (1 ∷ 7 ∷ 2 ∷ 0 ∷ []) ∷
    []

-- THE SMALL TASKS
abbrev told_attr : AttrStep → List ℕ
told_attr (ts.More k) = 1 ∷ attr_words k
told_attr (ts.Ended x) = 0 ∷ told (enabled x)

abbrev told_claim : ClaimStep → List ℕ
told_claim (ls.More k) = 1 ∷ claim_words k
told_claim (ls.Ended x) = 0 ∷ told_unit (claimed x)

abbrev told_part : PartingStep → List ℕ
told_part (ps.More k) = 1 ∷ parting_words k
told_part ps.Ended = 0 ∷ []

abbrev pub small_tasks : List Row
small_tasks =
    -- Attr::asks, Get: what is supported; all are set
    row (question_words (attr_asks tp.Get)) (7 ∷ 4 ∷ 0 ∷ 0 ∷ []) (7 ∷ 1 ∷ 0 ∷ 0 ∷ []) ∷
    -- Supported: what is set is asked for again; those of before are enabled
    row (question_words (attr_asks (tp.Supported 5))) (7 ∷ 0 ∷ 0 ∷ 0 ∷ []) (7 ∷ 2 ∷ 5 ∷ 0 ∷ []) ∷
    -- Enable: those of before; set and not enabled
    row (question_words (attr_asks (tp.Enable 5 0x600))) (7 ∷ 2 ∷ 5 ∷ 0 ∷ []) (7 ∷ 1 ∷ 0x600 ∷ 0 ∷ []) ∷
    -- Attr::step, Get: what was there is lost; enabled at once
    row (told_attr (attr_step_of tp.Get (a.Qword 5))) (1 ∷ 1 ∷ 0 ∷ 0 ∷ []) (1 ∷ 2 ∷ 5 ∷ 0x600 ∷ []) ∷
    -- Get, failed: passed over; 2
    row (told_attr (attr_step_of tp.Get a.Failed)) (1 ∷ 1 ∷ 0 ∷ 0 ∷ []) (0 ∷ 2 ∷ []) ∷
    -- Supported, without the dual address cycle: it is enabled unasked; nothing is
    row (told_attr (attr_step_of (tp.Supported 5) (a.Qword 0x7000))) (1 ∷ 2 ∷ 5 ∷ 0x8600 ∷ []) (1 ∷ 2 ∷ 5 ∷ 0 ∷ []) ∷
    -- Supported, with it: it is not enabled; all that is supported
    row (told_attr (attr_step_of (tp.Supported 5) (a.Qword 0xf000))) (1 ∷ 2 ∷ 5 ∷ 0x600 ∷ []) (1 ∷ 2 ∷ 5 ∷ 0xf000 ∷ []) ∷
    -- Supported, failed: 1; with the dual address cycle
    row (told_attr (attr_step_of (tp.Supported 5) a.Failed)) (0 ∷ 1 ∷ []) (1 ∷ 2 ∷ 5 ∷ 0x8600 ∷ []) ∷
    -- Enable: the value that was enabled; the one that was answered
    row (told_attr (attr_step_of (tp.Enable 5 0x600) (a.Qword 9))) (0 ∷ 0 ∷ 0x600 ∷ []) (0 ∷ 0 ∷ 9 ∷ []) ∷
    -- Enable, failed: passed over; made again
    row (told_attr (attr_step_of (tp.Enable 5 0x600) a.Failed)) (0 ∷ 0 ∷ 5 ∷ []) (1 ∷ 2 ∷ 5 ∷ 0x600 ∷ []) ∷
    -- Claim::asks, Command: the status word; 32 bits
    row (question_words (claim_asks lp.Command)) (1 ∷ 6 ∷ 0 ∷ 0 ∷ []) (2 ∷ 4 ∷ 0 ∷ 0 ∷ []) ∷
    -- Write: the status word is written; 32 bits
    row (question_words (claim_asks (lp.Write 0x406))) (3 ∷ 6 ∷ 0x406 ∷ 0 ∷ []) (4 ∷ 4 ∷ 0x406 ∷ 0 ∷ []) ∷
    -- Owner: the status dword; the owner is written
    row (question_words (claim_asks lp.Owner)) (5 ∷ 0 ∷ 0x80698 ∷ 0 ∷ []) (6 ∷ 0 ∷ 0x8069c ∷ 0 ∷ []) ∷
    -- Claim::step, Command: INTx is left as it is; all else is cleared
    row (told_claim (claim_step_of lp.Command (a.Word 6))) (1 ∷ 1 ∷ 6 ∷ []) (1 ∷ 1 ∷ 0x400 ∷ []) ∷
    -- Command with INTx disabled: enabled; the bit is added again
    row (told_claim (claim_step_of lp.Command (a.Word 0x406))) (1 ∷ 1 ∷ 6 ∷ []) (1 ∷ 1 ∷ 0x806 ∷ []) ∷
    -- Command, failed: 2; written all the same
    row (told_claim (claim_step_of lp.Command a.Failed)) (0 ∷ 2 ∷ []) (1 ∷ 1 ∷ 0x400 ∷ []) ∷
    -- Write, failed: 2; again
    row (told_claim (claim_step_of (lp.Write 0x406) a.Failed)) (0 ∷ 2 ∷ []) (1 ∷ 1 ∷ 0x406 ∷ []) ∷
    -- Owner (0, 1): taken from another; never good
    row (told_claim (claim_step_of lp.Owner (a.Dword 0)) ++ told_claim (claim_step_of lp.Owner (a.Dword 1))) (0 ∷ 0 ∷ 0 ∷ 0 ∷ []) (0 ∷ 2 ∷ 0 ∷ 2 ∷ []) ∷
    -- Owner, failed: it counts as none; read again
    row (told_claim (claim_step_of lp.Owner a.Failed)) (0 ∷ 0 ∷ []) (1 ∷ 2 ∷ 0 ∷ []) ∷
    -- Parting::asks, Disown: read and not written; the status dword
    row (question_words (part_asks pp.Disown)) (5 ∷ 0 ∷ 0x8069c ∷ 0 ∷ []) (6 ∷ 0 ∷ 0x80698 ∷ 0 ∷ []) ∷
    -- Settle: a millisecond only; ten seconds
    row (question_words (part_asks pp.Settle)) (9 ∷ 1000 ∷ 0 ∷ 0 ∷ []) (9 ∷ 10000000 ∷ 0 ∷ 0 ∷ []) ∷
    -- Restore: enabled and not set; nothing is set
    row (question_words (part_asks (pp.Restore 5))) (7 ∷ 2 ∷ 5 ∷ 0 ∷ []) (7 ∷ 1 ∷ 0 ∷ 0 ∷ []) ∷
    -- Owner: written 1; read and not written
    row (question_words (part_asks pp.Owner)) (6 ∷ 0 ∷ 0x8069c ∷ 0x01000000 ∷ []) (5 ∷ 0 ∷ 0x8069c ∷ 0 ∷ []) ∷
    -- Command: the status word; 32 bits
    row (question_words (part_asks pp.Command)) (1 ∷ 6 ∷ 0 ∷ 0 ∷ []) (2 ∷ 4 ∷ 0 ∷ 0 ∷ []) ∷
    -- Write: the status word is written; 32 bits
    row (question_words (part_asks (pp.Write 0x402))) (3 ∷ 6 ∷ 0x402 ∷ 0 ∷ []) (4 ∷ 4 ∷ 0x402 ∷ 0 ∷ []) ∷
    -- Parting::step, Disown: no rest; the tail of quiesce
    row (told_part (part_step_of pp.Disown a.Done)) (0 ∷ []) (1 ∷ 4 ∷ 0 ∷ []) ∷
    -- Disown, failed: a release that failed is waited for; made again
    row (told_part (part_step_of pp.Disown a.Failed)) (1 ∷ 1 ∷ 0 ∷ []) (1 ∷ 0 ∷ 0 ∷ []) ∷
    -- Settle: another; the attributes are restored
    row (told_part (part_step_of pp.Settle a.Done)) (1 ∷ 1 ∷ 0 ∷ []) (1 ∷ 2 ∷ 0 ∷ []) ∷
    -- Restore, failed: made again; the owner is written
    row (told_part (part_step_of (pp.Restore 5) a.Failed)) (1 ∷ 2 ∷ 5 ∷ []) (1 ∷ 3 ∷ 0 ∷ []) ∷
    -- Owner, failed: the rest is passed over; made again
    row (told_part (part_step_of pp.Owner a.Failed)) (0 ∷ []) (1 ∷ 3 ∷ 0 ∷ []) ∷
    -- Command: the device stays bus master; INTx is disabled in its place
    row (told_part (part_step_of pp.Command (a.Word 6))) (1 ∷ 5 ∷ 6 ∷ []) (1 ∷ 5 ∷ 0x406 ∷ []) ∷
    -- Command without bus master: taken off again; not written
    row (told_part (part_step_of pp.Command (a.Word 0x10))) (1 ∷ 5 ∷ 0xc ∷ []) (0 ∷ []) ∷
    -- Command, failed: written all the same; read again
    row (told_part (part_step_of pp.Command a.Failed)) (1 ∷ 5 ∷ 0 ∷ []) (1 ∷ 4 ∷ 0 ∷ []) ∷
    -- Write, failed: made again; read again
    row (told_part (part_step_of (pp.Write 0x402) a.Failed)) (1 ∷ 5 ∷ 0x402 ∷ []) (1 ∷ 4 ∷ 0 ∷ []) ∷
    []

-- THE SEARCH FOR THE UAR BAR: a state is told as the dwords that are left, or as the base, the index and the open question of the choice; then as the dwords
abbrev bar_dwords : List ℕ
bar_dwords = 0xf0000004 ∷ 0 ∷ 0xe000000c ∷ 0 ∷ 0xd0000000 ∷ 0 ∷ []

abbrev candidate : ℕ → std.Option BarRange → Candidate
candidate i x = record { index = i; answer = x }

-- the choice for register 2, with the indices 2 and 1
abbrev choice_at : Asking → Choice
choice_at k = record { base = 0xe0000000; first = candidate 2 std.None; second = candidate 1 std.None; asking = k }

abbrev find_at : BarPhase → FindBar
find_at p = record { phase = p; dwords = bar_dwords }

-- a resource list of one memory descriptor, with this base and a length of 0x2000; and one that is cut
abbrev resource : ℕ → List ℕ
resource b = 0x8a ∷ 43 ∷ (zeros 15 ++ (b ∷ (zeros 21 ++ (0x20 ∷ zeros 6))))

abbrev cut : List ℕ
cut = take 45 (resource 0xe0)

-- the same choice, where the first has the base
abbrev first_has : Asking → Choice
first_has k = record {
  base = 0xe0000000;
  first = candidate 2 (std.Some (record { base = 0xe0000000; length = 0x2000 }));
  second = candidate 1 std.None;
  asking = k;
}

abbrev told_phase : BarPhase → List ℕ
told_phase (up.Reading n) = 0 ∷ n ∷ []
told_phase (up.Choosing c) = 1 ∷ c.base ∷ index_of c ∷ asking_words c.asking

abbrev told_pick : Outcome Pick → List ℕ
told_pick (value p) = 0 ∷ pick_words p
told_pick (refused n vs) = n ∷ vs

abbrev told_found : Found → List ℕ
told_found x = told_pick (found x)

abbrev bar_led : FindBar → std.Option Found → List ℕ
bar_led s std.None = 1 ∷ (told_phase s.phase ++ s.dwords)
bar_led s (std.Some x) = 0 ∷ told_found x

abbrev told_bar : BarStep → List ℕ
told_bar st = bar_led st.find st.ending

abbrev bar_asked : BarPhase → List ℕ
bar_asked p = question_words (bar_asks (find_at p))

abbrev bar_stepped : BarPhase → Answer → List ℕ → List ℕ
bar_stepped p x bytes = told_bar (bar_step_of (find_at p) x bytes)

abbrev pub searches : List Row
searches =
    -- FindBar::start: the first dword is not read; dwords that were not read count as 1
    row (told_phase (us.started).phase ++ (us.started).dwords) (0 ∷ 4 ∷ zeros 6) (0 ∷ 5 ∷ replicate 6 1) ∷
    -- FindBar::asks, Reading(5): from the second dword on; 16 bits
    row (bar_asked (up.Reading 5)) (2 ∷ 0x14 ∷ 0 ∷ 0 ∷ []) (1 ∷ 0x10 ∷ 0 ∷ 0 ∷ []) ∷
    -- Reading(3): its neighbour; the number for the place
    row (bar_asked (up.Reading 3)) (2 ∷ 0x1c ∷ 0 ∷ 0 ∷ []) (2 ∷ 0x12 ∷ 0 ∷ 0 ∷ []) ∷
    -- Choosing, the first: the second; index 0
    row (bar_asked (up.Choosing (choice_at ba.First))) (8 ∷ 1 ∷ 0 ∷ 0 ∷ []) (8 ∷ 0 ∷ 0 ∷ 0 ∷ []) ∷
    -- the second: the first is asked about twice; index 0
    row (bar_asked (up.Choosing (choice_at ba.Second))) (8 ∷ 2 ∷ 0 ∷ 0 ∷ []) (8 ∷ 0 ∷ 0 ∷ 0 ∷ []) ∷
    -- another: the first; the second
    row (bar_asked (up.Choosing (choice_at (ba.Other 3)))) (8 ∷ 2 ∷ 0 ∷ 0 ∷ []) (8 ∷ 1 ∷ 0 ∷ 0 ∷ []) ∷
    -- FindBar::step, Reading(5): at the neighbour's place; the same again
    row (bar_stepped (up.Reading 5) (a.Dword 7) []) (1 ∷ 0 ∷ 4 ∷ 0xf0000004 ∷ 7 ∷ 0xe000000c ∷ 0 ∷ 0xd0000000 ∷ 0 ∷ []) (1 ∷ 0 ∷ 5 ∷ 7 ∷ 0 ∷ 0xe000000c ∷ 0 ∷ 0xd0000000 ∷ 0 ∷ []) ∷
    -- Reading(5), failed: passed over; 3
    row (bar_stepped (up.Reading 5) a.Failed []) (1 ∷ 0 ∷ 4 ∷ 0 ∷ 0 ∷ 0xe000000c ∷ 0 ∷ 0xd0000000 ∷ 0 ∷ []) (0 ∷ 3 ∷ []) ∷
    -- Reading(0): register 3 is looked for; the second is asked first
    row (bar_stepped (up.Reading 0) (a.Dword 0) []) (1 ∷ 1 ∷ 0 ∷ 3 ∷ 0 ∷ 0 ∷ bar_dwords) (1 ∷ 1 ∷ 0xe0000000 ∷ 1 ∷ 1 ∷ 0 ∷ bar_dwords) ∷
    -- Choosing, the first has the base: picked before the second is asked; asked again
    row (bar_stepped (up.Choosing (choice_at ba.First)) a.List (resource 0xe0)) (0 ∷ 0 ∷ 2 ∷ 0 ∷ 0x2000 ∷ 0 ∷ []) (1 ∷ 1 ∷ 0xe0000000 ∷ 2 ∷ 0 ∷ 0 ∷ bar_dwords) ∷
    -- the second has the base: the first is picked; the base for the length
    row (bar_stepped (up.Choosing (choice_at ba.Second)) a.List (resource 0xe0)) (0 ∷ 0 ∷ 2 ∷ 1 ∷ 0 ∷ 4 ∷ []) (0 ∷ 0 ∷ 1 ∷ 0 ∷ 0xe0000000 ∷ 0 ∷ []) ∷
    -- the second, failed: it is read as the bytes beside it; the others are asked from 1 on
    row (bar_stepped (up.Choosing (choice_at ba.Second)) a.Failed (resource 0xe0)) (0 ∷ 0 ∷ 1 ∷ 0 ∷ 0x2000 ∷ 0 ∷ []) (1 ∷ 1 ∷ 0xe0000000 ∷ 3 ∷ 2 ∷ 3 ∷ bar_dwords) ∷
    -- another has the base: as a candidate that matches; passed over
    row (bar_stepped (up.Choosing (choice_at (ba.Other 3))) a.List (resource 0xe0)) (0 ∷ 0 ∷ 3 ∷ 0 ∷ 0x2000 ∷ 0 ∷ []) (1 ∷ 1 ∷ 0xe0000000 ∷ 4 ∷ 2 ∷ 4 ∷ bar_dwords) ∷
    -- the last has another base: it is picked; 4
    row (bar_stepped (up.Choosing (choice_at (ba.Other 5))) a.List (resource 0xd0)) (0 ∷ 0 ∷ 5 ∷ 0 ∷ 0x2000 ∷ 1 ∷ []) (0 ∷ 4 ∷ []) ∷
    -- the first's list is cut: no answer; 4
    row (bar_stepped (up.Choosing (choice_at ba.First)) a.List cut)
    (1 ∷ 1 ∷ 0xe0000000 ∷ 1 ∷ 1 ∷ 0 ∷ bar_dwords) (0 ∷ 4 ∷ []) ∷
    -- the second's, where the first has the base: the first is picked; the others are asked
    row (bar_stepped (up.Choosing (first_has ba.Second)) a.List cut)
    (0 ∷ 0 ∷ 2 ∷ 0 ∷ 0x2000 ∷ 0 ∷ []) (1 ∷ 1 ∷ 0xe0000000 ∷ 0 ∷ 2 ∷ 0 ∷ bar_dwords) ∷
    -- that of another: passed over; settled
    row (bar_stepped (up.Choosing (choice_at (ba.Other 3))) a.List cut)
    (1 ∷ 1 ∷ 0xe0000000 ∷ 4 ∷ 2 ∷ 4 ∷ bar_dwords) (0 ∷ 0 ∷ 2 ∷ 1 ∷ 0 ∷ 4 ∷ []) ∷
    -- another kind of answer: failed; a list
    row (bar_stepped (up.Choosing (choice_at ba.Second)) a.Done (resource 0xe0)) (1 ∷ 1 ∷ 0xe0000000 ∷ 0 ∷ 2 ∷ 0 ∷ bar_dwords) (0 ∷ 0 ∷ 1 ∷ 0 ∷ 0x2000 ∷ 0 ∷ []) ∷
    -- the script where neither has the base: the others from 1 on; settled at once
    row (opens told_found (judging 0xe0000000 (candidate 2 std.None) (candidate 1 std.None))) (1 ∷ 8 ∷ 3 ∷ 0 ∷ 0 ∷ []) (0 ∷ 0 ∷ 2 ∷ 1 ∷ 0 ∷ 4 ∷ []) ∷
    []

-- WHAT IS UNDER WAY: a state is told as the first words of its task; an end as the task's number in those words, and what it came to
abbrev work_at : Task → Work
work_at k = working k (reset_with (rp.Saving 3) rc.Absent) (find_at (up.Reading 3))

abbrev told_task : End → List ℕ
told_task (we.Attr x) = 1 ∷ told (enabled x)
told_task (we.Claim x) = 2 ∷ told_unit (claimed x)
told_task (we.Reset x) = 3 ∷ told_reset x
told_task (we.Bar x) = 4 ∷ told_found x
told_task (we.Made x) = 5 ∷ told_buffer (made x)
told_task we.Freed = 6 ∷ []
told_task (we.Looked t) = 7 ∷ bit_of t ∷ []
told_task (we.Cmd x) = 8 ∷ told_end x
told_task we.Parted = 9 ∷ []

abbrev task_led : Ending → List ℕ
task_led wg.Going = 1 ∷ []
task_led (wg.Ended x) = 0 ∷ told_task x

abbrev told_work : WorkStep → List ℕ
told_work st = task_led st.ending ++ take 3 (task_words st.work.task)

abbrev work_asked : Task → List ℕ
work_asked k = question_words (work_asks (work_at k))

abbrev work_stepped : Task → Answer → List ℕ
work_stepped k x = told_work (work_step_of (work_at k) x [])

-- the reset and the search beside a task, after a step
abbrev beside_by : Task → Answer → List ℕ
beside_by k x = take 2 (reset_phase_words (work_step_of (work_at k) x []).work.reset.phase) ++ told_phase (work_step_of (work_at k) x []).work.find.phase

abbrev pub works : List Row
works =
    -- Work::rest: the first look; a search that has begun
    row (take 1 (task_words resting.task) ++ (take 2 (reset_words resting.reset) ++ told_phase resting.find.phase)) (7 ∷ 0 ∷ 15 ∷ 0 ∷ 5 ∷ []) (0 ∷ 0 ∷ 15 ∷ 0 ∷ 4 ∷ []) ∷
    -- Work::asks, Rest: a fence; what the reset beside it would ask
    row (work_asked wt.Rest) (14 ∷ 0 ∷ 0 ∷ 0 ∷ []) (2 ∷ 0x30 ∷ 0 ∷ 0 ∷ []) ∷
    -- Attr: the claim's; none
    row (work_asked (wt.Attr tp.Get)) (1 ∷ 4 ∷ 0 ∷ 0 ∷ []) (0 ∷ 0 ∷ 0 ∷ 0 ∷ []) ∷
    -- Claim: the attributes'; none
    row (work_asked (wt.Claim lp.Command)) (7 ∷ 0 ∷ 0 ∷ 0 ∷ []) (0 ∷ 0 ∷ 0 ∷ 0 ∷ []) ∷
    -- Reset: the search's; a reset that starts anew
    row (work_asked wt.Reset) (2 ∷ 0x18 ∷ 0 ∷ 0 ∷ []) (2 ∷ 0 ∷ 0 ∷ 0 ∷ []) ∷
    -- Bar: the reset's; a search that starts anew
    row (work_asked wt.Bar) (2 ∷ 0x30 ∷ 0 ∷ 0 ∷ []) (2 ∷ 0x10 ∷ 0 ∷ 0 ∷ []) ∷
    -- Make: freed; none
    row (work_asked (wt.Make (making_at mp.Allocate))) (13 ∷ 0 ∷ 2 ∷ 0 ∷ []) (0 ∷ 0 ∷ 0 ∷ 0 ∷ []) ∷
    -- Free: made; freed before it is unmapped
    row (work_asked (wt.Free (freeing_at fp.Unmap))) (10 ∷ 2 ∷ 0 ∷ 0 ∷ []) (13 ∷ 7 ∷ 2 ∷ 0 ∷ []) ∷
    -- Look: the immediate's low half; the owner
    row (work_asked wt.Look) (5 ∷ 0 ∷ 0x80690 ∷ 0 ∷ []) (5 ∷ 0 ∷ 0x8069c ∷ 0 ∷ []) ∷
    -- Cmd: the first look's; none
    row (work_asked (wt.Cmd (cmd cp.Fence))) (5 ∷ 0 ∷ 0x80698 ∷ 0 ∷ []) (0 ∷ 0 ∷ 0 ∷ 0 ∷ []) ∷
    -- Part: the claim's; none
    row (work_asked (wt.Part pp.Settle)) (5 ∷ 0 ∷ 0x8069c ∷ 0 ∷ []) (0 ∷ 0 ∷ 0 ∷ 0 ∷ []) ∷
    -- Work::step, Rest: a task begins; one has ended
    row (work_stepped wt.Rest (a.Dword 0)) (1 ∷ 7 ∷ 0 ∷ 0 ∷ []) (0 ∷ 7 ∷ 1 ∷ 0 ∷ 0 ∷ 0 ∷ []) ∷
    -- Attr goes on: as it was; as an end
    row (work_stepped (wt.Attr tp.Get) (a.Qword 5)) (1 ∷ 1 ∷ 0 ∷ 0 ∷ []) (0 ∷ 1 ∷ 0 ∷ 5 ∷ 0 ∷ 0 ∷ 0 ∷ []) ∷
    -- Attr ends: as a claim; still under way
    row (work_stepped (wt.Attr tp.Get) a.Failed) (0 ∷ 2 ∷ 1 ∷ 0 ∷ 0 ∷ 0 ∷ []) (0 ∷ 1 ∷ 1 ∷ 1 ∷ 0 ∷ 0 ∷ []) ∷
    -- Claim ends: as attributes; refused
    row (work_stepped (wt.Claim lp.Owner) (a.Dword 0)) (0 ∷ 1 ∷ 0 ∷ 0 ∷ 0 ∷ 0 ∷ []) (0 ∷ 2 ∷ 2 ∷ 0 ∷ 0 ∷ 0 ∷ []) ∷
    -- Reset goes on: at rest; as a search
    row (work_stepped wt.Reset (a.Dword 7)) (1 ∷ 0 ∷ 0 ∷ 0 ∷ []) (1 ∷ 4 ∷ 0 ∷ 0 ∷ []) ∷
    -- and what stands beside it: the reset as it was; the search goes on too
    row (beside_by wt.Reset (a.Dword 7)) (0 ∷ 3 ∷ 0 ∷ 3 ∷ []) (0 ∷ 2 ∷ 0 ∷ 2 ∷ []) ∷
    -- Reset ends: good; still under way
    row (work_stepped wt.Reset a.Failed) (0 ∷ 3 ∷ 0 ∷ 0 ∷ 0 ∷ 0 ∷ []) (0 ∷ 3 ∷ 1 ∷ 3 ∷ 0 ∷ 0 ∷ []) ∷
    -- Bar goes on, and what stands beside it: the search as it was; the reset goes on too
    row (beside_by wt.Bar (a.Dword 7)) (0 ∷ 3 ∷ 0 ∷ 3 ∷ []) (0 ∷ 2 ∷ 0 ∷ 2 ∷ []) ∷
    -- Bar ends: as a reset; still under way
    row (work_stepped wt.Bar a.Failed) (0 ∷ 3 ∷ 1 ∷ 0 ∷ 0 ∷ 0 ∷ []) (0 ∷ 4 ∷ 4 ∷ 4 ∷ 0 ∷ 0 ∷ []) ∷
    -- Make goes on: as it was; as one that is freed
    row (work_stepped (wt.Make (making_at mp.Allocate)) (a.Handle 7)) (1 ∷ 5 ∷ 8192 ∷ 0 ∷ []) (1 ∷ 6 ∷ 7 ∷ 2 ∷ []) ∷
    -- Make ends: as freed; still under way
    row (work_stepped (wt.Make (making_at mp.Allocate)) a.Failed) (0 ∷ 6 ∷ 0 ∷ 0 ∷ 0 ∷ []) (0 ∷ 5 ∷ 5 ∷ 5 ∷ 8192 ∷ 0 ∷ []) ∷
    -- Free ends: as a parting; still under way
    row (work_stepped (wt.Free (freeing_at fp.Free)) a.Done) (0 ∷ 9 ∷ 0 ∷ 0 ∷ 0 ∷ []) (0 ∷ 6 ∷ 6 ∷ 7 ∷ 2 ∷ []) ∷
    -- Look, T set: T itself; another look
    row (work_stepped wt.Look (a.Dword 0x2000)) (0 ∷ 7 ∷ 1 ∷ 0 ∷ 0 ∷ 0 ∷ []) (1 ∷ 7 ∷ 0 ∷ 0 ∷ []) ∷
    -- Look, failed: a first toggle of 0; another look
    row (work_stepped wt.Look a.Failed) (0 ∷ 7 ∷ 0 ∷ 0 ∷ 0 ∷ 0 ∷ []) (1 ∷ 7 ∷ 0 ∷ 0 ∷ []) ∷
    -- Look, an answer of another kind: a first toggle of 1; at rest
    row (work_stepped wt.Look (a.Word 0)) (0 ∷ 7 ∷ 1 ∷ 0 ∷ 0 ∷ 0 ∷ []) (1 ∷ 0 ∷ 0 ∷ 0 ∷ []) ∷
    -- Cmd goes on: as it was; as a first look
    row (work_stepped (wt.Cmd (cmd cp.Fence)) a.Done) (1 ∷ 8 ∷ 2 ∷ 0 ∷ []) (1 ∷ 7 ∷ 0 ∷ 0 ∷ []) ∷
    -- Cmd ends: still under way; as a good one
    row (work_stepped (wt.Cmd (cmd cp.First)) a.Failed) (0 ∷ 8 ∷ 1 ∷ 0 ∷ 9 ∷ 0 ∷ 8 ∷ 0 ∷ 0 ∷ []) (0 ∷ 8 ∷ 1 ∷ 0 ∷ 0 ∷ 0 ∷ 0 ∷ 0 ∷ 0 ∷ []) ∷
    -- Part ends: as freed; still under way
    row (work_stepped (wt.Part pp.Settle) a.Done) (0 ∷ 6 ∷ 0 ∷ 0 ∷ 0 ∷ []) (0 ∷ 9 ∷ 9 ∷ 1 ∷ 0 ∷ []) ∷
    []

-- THE UNDO LIST: three records, the last with a reserved opcode
abbrev records : List Undo
records = undo_of 0x43 1 2 3 ∷ undo_of 0x44 4 5 6 ∷ undo_of 0x007 7 8 9 ∷ []

abbrev told_top : Top → List ℕ
told_top t = t.count ∷ t.op ∷ t.op_mod ∷ t.in_mod ∷ t.in_param ∷ []

-- the number of what a pop comes to; how many are left, and the record, where there is one
abbrev told_pop : Outcome (Option (Undo × ℕ)) → List ℕ
told_pop (value (some (u, n))) = 0 ∷ n ∷ u.op ∷ u.op_mod ∷ u.in_mod ∷ u.in_param ∷ []
told_pop (value none) = 0 ∷ []
told_pop (refused n vs) = n ∷ vs

-- the number of what a push comes to
abbrev numbered : Result ℕ PushError → ℕ
numbered p = number_of (outcome p)

-- whether one of the records from a place on, and below a count, is reserved
abbrev reserved_in : (mark count : ℕ) → ℕ
reserved_in m n = yes (any_reserved (drop m (take n records)))

-- the opcodes after a push
abbrev pushed : ℕ → Undo → List ℕ
pushed n u = flat (λ (x : Undo). x.op ∷ []) (pushed_in (take 2 records) n u)

abbrev pub undos : List Row
undos =
    -- number (pushed, short, opcode, full): a full list is 18; pushed is 1
    row (numbered (Ok 1) ∷ numbered (Err v.Short) ∷ numbered (Err v.Opcode) ∷ numbered (Err v.Full) ∷ []) (0 ∷ 21 ∷ 22 ∷ 18 ∷ []) (1 ∷ 21 ∷ 22 ∷ 19 ∷ []) ∷
    -- pop_undo of two: the record at the count; as many are left
    row (told_pop (pop_of records 2)) (0 ∷ 1 ∷ 0x007 ∷ 7 ∷ 8 ∷ 9 ∷ []) (0 ∷ 2 ∷ 0x44 ∷ 4 ∷ 5 ∷ 6 ∷ []) ∷
    -- pop_undo of none: the first record; 21
    row (told_pop (pop_of records 0)) (0 ∷ 0 ∷ 0x43 ∷ 1 ∷ 2 ∷ 3 ∷ []) (21 ∷ []) ∷
    -- pop_undo of a count above the slice: nothing; the last record
    row (told_pop (pop_of records 4)) (0 ∷ []) (0 ∷ 2 ∷ 0x007 ∷ 7 ∷ 8 ∷ 9 ∷ []) ∷
    -- pop_undo of 257 of 300: the newest record; 19
    row (told_pop (pop_of (replicate 300 (undo_of 0x43 1 2 3)) 257)) (0 ∷ 256 ∷ 0x43 ∷ 1 ∷ 2 ∷ 3 ∷ []) (19 ∷ []) ∷
    -- top of two: the record at the count; the oldest
    row (told_top (top_of records 2)) (2 ∷ 0x007 ∷ 7 ∷ 8 ∷ 9 ∷ []) (2 ∷ 0x43 ∷ 1 ∷ 2 ∷ 3 ∷ []) ∷
    -- top of all three: none past the end; one too many
    row (told_top (top_of records 3)) (3 ∷ 0 ∷ 0 ∷ 0 ∷ 0 ∷ []) (257 ∷ 0 ∷ 0 ∷ 0 ∷ 0 ∷ []) ∷
    -- top of none: the first record; 257
    row (told_top (top_of records 0)) (0 ∷ 0x43 ∷ 1 ∷ 2 ∷ 3 ∷ []) (257 ∷ 0 ∷ 0 ∷ 0 ∷ 0 ∷ []) ∷
    -- top of a count above the slice: as one that a call takes; the count as it is
    row (told_top (top_of records 4)) (256 ∷ 0 ∷ 0 ∷ 0 ∷ 0 ∷ []) (4 ∷ 0 ∷ 0 ∷ 0 ∷ 0 ∷ []) ∷
    -- reserved_above (two of three, all, all from the last, none from there): the records above the count too; only the first of them
    row (reserved_in 0 2 ∷ reserved_in 0 3 ∷ reserved_in 2 3 ∷ reserved_in 3 3 ∷ []) (1 ∷ 1 ∷ 1 ∷ 0 ∷ []) (0 ∷ 0 ∷ 1 ∷ 0 ∷ []) ∷
    -- reserved_above, from the mark on: below it too; from the next on
    row (reserved_in 2 2 ∷ reserved_in 2 3 ∷ reserved_in 3 4 ∷ []) (0 ∷ 1 ∷ 1 ∷ []) (0 ∷ 0 ∷ 0 ∷ []) ∷
    -- push_undo at 255: a list is full at 255; the count is not raised
    row (told (push_of 300 255 0x43)) (19 ∷ []) (0 ∷ 255 ∷ []) ∷
    -- push_undo at 256: pushed; 21
    row (told (push_of 300 256 0x43)) (0 ∷ 257 ∷ []) (21 ∷ []) ∷
    -- push_undo of a reserved opcode: a full list; pushed
    row (told (push_of 3 1 0x007)) (19 ∷ []) (0 ∷ 2 ∷ []) ∷
    -- push_undo of a reserved opcode to a full list: 19 first; 21
    row (told (push_of 256 256 0x007)) (19 ∷ []) (21 ∷ []) ∷
    -- push_undo, a count above the slice with a reserved opcode: 22 first; 19
    row (told (push_of 2 3 0x007)) (22 ∷ []) (19 ∷ []) ∷
    -- push_undo of a reserved opcode where the slice has no place: 22 first; 19
    row (told (push_of 5 5 0xfff)) (22 ∷ []) (19 ∷ []) ∷
    -- push_undo at 256 of 256, all of the slice: 21 first; pushed
    row (told (push_of 256 256 0x43)) (21 ∷ []) (0 ∷ 257 ∷ []) ∷
    -- push_undo where the slice has no place: 19; past the end
    row (told (push_of 2 2 0x43)) (19 ∷ []) (0 ∷ 3 ∷ []) ∷
    -- push_undo, the list then: one place too high; not at all
    row (pushed 0 (undo_of 0x99 0 0 0)) (0x43 ∷ 0x99 ∷ []) (0x43 ∷ 0x44 ∷ []) ∷
    -- push_undo, refused, the list then: pushed all the same; over the last
    row (pushed 0 (undo_of 0x007 0 0 0) ++ pushed 2 (undo_of 0x99 0 0 0)) (0x007 ∷ 0x44 ∷ 0x43 ∷ 0x44 ∷ []) (0x43 ∷ 0x44 ∷ 0x43 ∷ 0x99 ∷ []) ∷
    []

abbrev pub wrong : List Row
wrong = cmd_questions ++ cmd_steps ++ reset_questions ++ reset_steps ++ buffers ++ small_tasks ++ searches ++ works ++ undos

-- Cmd::step after so many stalls that the wait is not computed: hcr's laws give it
abbrev pub late : List Row
late =
    -- Poll after 600,990 stalls, pending: a stall more; half the wait
    row (told_cmd (cmd_step_of (cmd_with cp.Poll 600990 ck.Unknown) (a.Dword 0x2000))) (1 ∷ 5 ∷ 0 ∷ 1 ∷ 600990 ∷ []) (0 ∷ 1 ∷ 30000000 ∷ 7 ∷ 30000000 ∷ []) ∷
    -- the same with a catastrophic buffer: it is not read; a stall more
    row (told_cmd (cmd_step_of (cmd_with cp.Poll 600990 (ck.Known 2 0x100)) (a.Dword 0x2000))) (0 ∷ 1 ∷ 60000000 ∷ 7 ∷ 60000000 ∷ []) (1 ∷ 5 ∷ 0 ∷ 1 ∷ 600990 ∷ []) ∷
    -- Poll after 600,989 stalls, pending: a Timeout one stall early; the stall is counted before it is made
    row (told_cmd (cmd_step_of (cmd_with cp.Poll 600989 ck.Unknown) (a.Dword 0x2000))) (0 ∷ 1 ∷ 59999900 ∷ 7 ∷ 59999900 ∷ []) (1 ∷ 5 ∷ 0 ∷ 1 ∷ 600990 ∷ []) ∷
    []
