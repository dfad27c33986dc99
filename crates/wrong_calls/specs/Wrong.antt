-- WRONG ANSWERS of the functions that take an answer or a call, of a session and of its bytes, as in `wrong/specs/Wrong.antt`.
use Rattle.std.specs.Prelude.{ℕ, ◌+◌, ◌*◌, ◌-◌, ◌^◌, true, false, List, [], ◌∷◌, ◌++◌, length, replicate, set, take, drop, get_or, None}
use Rattle.fields.specs.Outcome.{Outcome, value, refused, number_of}
use Rattle.wrong.specs.Wrong.{Row, row, yes}
use Rattle.wrong_session.specs.Wrong.{why, whole, boxed, opened, having, sending, newest, request, rest, mapping, fw_reply}
use Rattle.words.specs.Words.{at, words_in, flat}
use Rattle.words.specs.Places.{stage_at, port1_at, port2_at, reset_at, slots_at, state_words, state_bytes}
use Rattle.words_task.specs.Coding.{task_words}
use Rattle.words_calls.specs.Calls.{question_words}
use Rattle.words_stage.specs.Coding.{form_words}
use Rattle.pci.specs.declared.Answer.TheVariants as a
use Rattle.pci.specs.declared.Refusal.TheVariants as no
use Rattle.dma.specs.declared.Buffer.{Buffer}
use Rattle.pci.specs.declared.Question.TheVariants as ask
use Rattle.command.specs.declared.Catas.TheVariants as catas
use Rattle.command.specs.declared.CmdResult.TheVariants as cmd
use Rattle.command.specs.declared.Phase.TheVariants as phase
use Rattle.buffer.specs.declared.MakePhase.TheVariants as make
use Rattle.work.specs.Work.{resting, work_asks, work_step_of}
use Rattle.work.specs.declared.End.{End}
use Rattle.work.specs.declared.End.TheVariants as e
use Rattle.work.specs.declared.Ending.{Ending}
use Rattle.work.specs.declared.Ending.TheVariants as going
use Rattle.work.specs.declared.Task.TheVariants as t
use Rattle.session.specs.Session.{no_info, session, fresh, starts, sends_of, planned, listing, imm_of, with_out_of}
use Rattle.session.specs.declared.Note.{Note}
use Rattle.session.specs.declared.Note.TheVariants as nt
use Rattle.session.specs.declared.Client.TheVariants as i
use Rattle.session.specs.declared.Boot.TheVariants as b
use Rattle.session.specs.declared.Close.TheVariants as k
use Rattle.session.specs.declared.Closing.{Closing}
use Rattle.session.specs.declared.Closing.TheVariants as closing
use Rattle.session.specs.declared.Failure.{Failure}
use Rattle.session.specs.declared.Failure.TheVariants as by
use Rattle.session.specs.declared.Fill.TheVariants as w
use Rattle.session.specs.declared.Form.{Form}
use Rattle.session.specs.declared.Form.TheVariants as form
use Rattle.session.specs.declared.Gave.TheVariants as v
use Rattle.session.specs.declared.Prepare.{Prepare}
use Rattle.session.specs.declared.Prepare.TheVariants as p
use Rattle.session.specs.declared.Session.{Session}
use Rattle.session.specs.declared.Stage.TheVariants as g
use Rattle.client_plan.specs.declared.Request.{Request}
use Rattle.behind.specs.Behind.{noted_in}
use Rattle.words_session.specs.Image.{core_of, put_task}
use Rattle.opening.specs.Notes.{note_at}
use Rattle.intask.specs.InTask.{work_in, going_of, beside_in}
use Rattle.intask.specs.declared.Going.{Going}
use Rattle.booking.specs.Booking.{slot_by}
use Rattle.bytes_plan.specs.Left.{stepped_in, headed_in}
use Rattle.fw_begin.specs.Begins.{said_of}
use Rattle.fw_begin.specs.declared.Said.{Said}
use Rattle.fw_step.specs.Step.{took_of}
use Rattle.fw_step.specs.declared.Took.{Took}
use Rattle.fw_plan.specs.declared.Wipe.{Wipe}
use Rattle.fw_plan.specs.declared.Wipe.TheVariants as wipe
use Rattle.fw_plan.specs.Calls.{turn_of, begun_of, begun_in, begun_out, wiped_in, wiped_out, is_session, is_lent, answerable, answer_of, answer_in, answer_out, outcome_of}
use Rattle.fw_plan.specs.declared.Turn.{Turn}
use Rattle.calls_plan.specs.Calls.{callable, is_idle, call_of, call_in, call_out}
use Rattle.calls_plan.specs.declared.Call.{Call}
use Rattle.calls_plan.specs.declared.Call.TheVariants as q
use Rattle.results.specs.Results.{outcome_words}
use Rattle.undo.specs.List.{undo_of, top_of, push_of, pushed_in}
use Rattle.undo.specs.declared.Undo.{Undo}
use Rattle.abi.specs.Turns.{After, called, answered, call_known, answer_known, fresh_code, fresh_in}
use Rattle.abi.specs.Readers.{Read, question, result, setup, books, question_known, result_known, setup_known, books_known}
use Rattle.abi.specs.Calls.{call_from, made, call}
use Rattle.abi.specs.Calls as abi

-- A TURN AS NUMBERS: 0 or why it is refused, the question in four words, the undo records left
abbrev turn : Turn → List ℕ
turn y = why y.refusal ++ (question_words y.question ++ (y.undo ∷ []))

-- what a call says: the question, the undo records left
abbrev says : Said → List ℕ
says y = question_words y.question ++ (y.undo ∷ [])

-- a task that goes on, or has ended; what an answer makes of it; which mailbox is zeroed; a note
abbrev ended : Ending → ℕ
ended going.Going = 0
ended (going.Ended y) = 1

abbrev went : Going → List ℕ
went y = at (task_words y.task) 0 ∷ at (task_words y.task) 1 ∷ ended y.ending ∷ []

abbrev wipe_no : Wipe → ℕ
wipe_no wipe.Neither = 0
wipe_no wipe.Inbox = 1
wipe_no wipe.Outbox = 2

abbrev took : Took → List ℕ
took y = at (task_words y.task) 0 ∷ ended y.ending ∷ wipe_no y.wipe ∷ []

abbrev note_words : Note → List ℕ
note_words nt.Nothing = 0 ∷ []
note_words nt.Cap = 1 ∷ []
note_words (nt.Port n) = 2 ∷ n ∷ []

-- what a call of the bytes leaves: its number, the bytes, the mailboxes, `out`; what is read: its number and `out`
abbrev left : After → List ℕ
left y = y.code ∷ (y.state ++ (y.inbox ++ (y.outbox ++ y.out)))

abbrev said : Read → List ℕ
said y = y.code ∷ y.out

-- a poll: its number, the phase and the stalls in the bytes, the kind of the question and its first value
abbrev polling : After → List ℕ
polling y = y.code ∷ get_or y.state 8 0 ∷ get_or y.state 72 0 ∷ get_or y.out 0 0 ∷ get_or y.out 8 0 ∷ []

-- a call that is wanted: 0 and the call, or 20
abbrev call_words : Call → List ℕ
call_words q.Open = 0 ∷ []
call_words (q.Command y) = 1 ∷ (form_words y.form ++ (y.op ∷ y.op_mod ∷ y.in_mod ∷ y.in_param ∷ []))
call_words (q.Lend n) = 2 ∷ n ∷ []
call_words (q.UndoTo m y) = 3 ∷ m ∷ yes y ∷ []
call_words q.Quiesce = 4 ∷ []
call_words q.Close = 5 ∷ []

abbrev wanted : Outcome Call → List ℕ
wanted (value y) = 0 ∷ call_words y
wanted (refused n ns) = n ∷ []

unfoldable pub opcodes : List Undo → List ℕ
opcodes [] = []
opcodes (y ∷ ys) = y.op ∷ opcodes ys

-- THE INPUTS. Mailboxes of zeros, of ones, with a reply to QUERY_FW
abbrev page : List ℕ
page = replicate 4096 0

abbrev ones : List ℕ
ones = replicate 4096 1

abbrev firmware : List ℕ
firmware = fw_reply 3 ++ replicate 4035 0

-- an open session with these counts; one that ended; an open one that has a failure
abbrev counted : (ranges lends : ℕ) → Session
counted n m = having (listing opened (record { slots = opened.lists.slots; ranges = n; lends = m }))

abbrev over : Failure → Closing → Session
over y c = session g.Ended resting boxed no_info y c

abbrev spoilt : Session
spoilt = session (g.Open v.Nothing) resting opened no_info (by.By (no.Timeout 60)) closing.Clean

-- one whose mailbox is being allocated; one at the last question of QUERY_FW
abbrev making : Prepare → Session
making y = starts fresh (g.Prepare y) (t.Make (record { bytes = 4096; phase = make.Allocate }))

abbrev querying : Session
querying =
    starts (having boxed) (g.Boot b.QueryFw)
    (t.Cmd (record { phase = phase.Low 0; post = with_out_of boxed 0x004 0; toggle = false; stalls = 0; catas = catas.Unknown }))

-- the first page list of three pages, in the inbox
abbrev listed : List ℕ
listed = begun_in (planned mapping (w.List (rest 0x3000)) 0) ones

-- a client's command with a reserved opcode
abbrev reserved : Form → Request
reserved y = record { form = y; op = 0x008; op_mod = 0; in_mod = 0; in_param = 0 }

-- bytes that have the count of ranges at 15; bytes with a command that is polled, toggle 1
abbrev no_session : List ℕ
no_session = set (replicate state_bytes 0) 168 15

abbrev polled : (phase stalls : ℕ) → List ℕ
polled y n = set (set (set (set (replicate state_bytes 0) 0 8) 8 y) 64 1) 72 n

-- THE IMAGE of a session, all words 0 but those from word k on, each of one byte; too few bytes; and one word
abbrev image : (k : ℕ) → List ℕ → List ℕ
image k ws = replicate (k * 8) 0 ++ (flat (λ (x : ℕ). x ∷ replicate 7 0) ws ++ replicate ((state_words - (k + length ws)) * 8) 0)

abbrev empty : List ℕ
empty = replicate state_bytes 0

abbrev few : List ℕ
few = 9 ∷ 0 ∷ []

abbrev one_at : ℕ → List ℕ → List ℕ
one_at n xs = words_in xs n 1

-- a session that lends its first buffer, of a page; one that frees it
abbrev lending : Session
lending = starts fresh (g.Client (i.Lend 0)) (t.Make (record { bytes = 4096; phase = make.Allocate }))

abbrev freeing : Session
freeing = starts (having opened) (g.Close (k.Free 0)) t.Rest

-- its slot in the bytes: a run of two pages, mapped
abbrev in_slot : List ℕ
in_slot = image slots_at (1 ∷ 0 ∷ 7 ∷ 0 ∷ 2 ∷ 1 ∷ [])

-- a reset that has 16 dwords to save, and nothing saved yet
abbrev saving : List ℕ
saving = image reset_at (0 ∷ 15 ∷ [])

-- a good QUERY_PORT, and one with a status
abbrev good : End
good = e.Cmd (record { result = cmd.Done 0 9; toggle = false })

abbrev bad : End
bad = e.Cmd (record { result = cmd.Status 2 50; toggle = false })

-- opening, intask, booking, fw_step: a reply noted, the task under way in the bytes, the slot that it books
abbrev pub stepping : List Row
stepping =
    -- note_of, QUERY_PORT about port 2 (good, with a status, a reply too short): not noted; noted all the same
    row (note_words (note_at None (g.Boot (b.Port 2)) good (replicate 40 0)) ++ (note_words (note_at None (g.Boot (b.Port 2)) bad (replicate 40 0)) ++ note_words (note_at None (g.Boot (b.Port 2)) good [])))
    (0 ∷ 0 ∷ 0 ∷ []) (2 ∷ 2 ∷ 2 ∷ 2 ∷ 2 ∷ 2 ∷ []) ∷
    -- note_of, QUERY_PORT about port 2: as port 1; as the capabilities
    row (note_words (note_at None (g.Boot (b.Port 2)) good (replicate 40 0))) (2 ∷ 1 ∷ []) (1 ∷ []) ∷
    -- asks, a command that begins, nothing under way: a write; the status at another place
    row (question_words (work_asks (work_in sending.work.task few)) ++ question_words (work_asks (work_in t.Rest few))) (6 ∷ 0 ∷ 0x80698 ∷ 0 ∷ 0 ∷ 0 ∷ 0 ∷ 0 ∷ []) (5 ∷ 0 ∷ 0x80680 ∷ 0 ∷ 0 ∷ 0 ∷ 0 ∷ 0 ∷ []) ∷
    -- asks, a reset whose words stand in the bytes, at its pointer: as it begins; as the search for the UAR BAR begins
    row (question_words (work_asks (work_in t.Reset (image reset_at (1 ∷ []))))) (2 ∷ 0 ∷ 0 ∷ 0 ∷ []) (2 ∷ 0x10 ∷ 0 ∷ 0 ∷ []) ∷
    -- step, the first dword of a reset (the task, whether it has ended): it has ended; nothing is under way
    row (went (going_of (work_step_of (work_in t.Reset few) (a.Dword 5) []))) (3 ∷ 0 ∷ 1 ∷ []) (0 ∷ 0 ∷ 0 ∷ []) ∷
    -- step, the first dword of a reset (the dwords still to be saved, in the bytes): not written; as it begins
    row (one_at (reset_at + 1) (beside_in t.Reset (work_step_of (work_in t.Reset saving) (a.Dword 5) []) saving)) (15 ∷ []) (0 ∷ []) ∷
    -- step, of another task (the bytes): a reset's words; cleared
    row (beside_in t.Look (work_step_of (work_in t.Look few) (a.Dword 5) []) few) (0 ∷ 15 ∷ []) (0 ∷ 0 ∷ []) ∷
    -- book, pages handed over (how many runs the slot has): put down only with its map; the handle for it
    row (one_at slots_at (slot_by lending (ask.Allocate 1) (a.Handle 7) empty)) (0 ∷ []) (7 ∷ []) ∷
    -- book, pages not to be had: put down all the same; its pages alone
    row (words_in (slot_by lending (ask.Allocate 1) a.Failed empty) slots_at 5) (1 ∷ 0 ∷ 0 ∷ 0 ∷ 1 ∷ []) (0 ∷ 0 ∷ 0 ∷ 0 ∷ 1 ∷ []) ∷
    -- book, unmapped (how many runs): taken off with its unmap; one run more
    row (one_at slots_at (slot_by freeing (ask.Unmap 7) a.Done in_slot)) (0 ∷ []) (2 ∷ []) ∷
    -- book, unmapped (whether it is mapped): it still is; the pages
    row (one_at (slots_at + 5) (slot_by freeing (ask.Unmap 7) a.Done in_slot)) (1 ∷ []) (2 ∷ []) ∷
    -- book, freed (how many runs): not cleared; one run more
    row (one_at slots_at (slot_by freeing (ask.Free 7 2) a.Done in_slot)) (1 ∷ []) (2 ∷ []) ∷
    -- book, any other question, too few bytes: the slot written; cleared
    row (slot_by lending (ask.Stall 1) a.Done few) (1 ∷ 0 ∷ []) (0 ∷ 0 ∷ []) ∷
    -- take, the inbox's pages (the task, whether it has ended, which mailbox is zeroed): neither; the outbox
    row (took (took_of (making p.Inbox) (a.Handle 7) [])) (5 ∷ 0 ∷ 0 ∷ []) (5 ∷ 0 ∷ 2 ∷ []) ∷
    -- take, the inbox's pages not to be had: zeroed all the same; it goes on
    row (took (took_of (making p.Inbox) a.Failed [])) (0 ∷ 1 ∷ 1 ∷ []) (5 ∷ 0 ∷ 0 ∷ []) ∷
    -- take, a lent buffer's pages (its slot in the bytes): the head goes on without its slot; the handle for the run
    row (one_at slots_at (stepped_in lending (a.Handle 7) [] empty)) (0 ∷ []) (7 ∷ []) ∷
    -- go_on (the question, undo records): nothing asked; no records left
    row (says (said_of (turn_of sending 2))) (0 ∷ 0 ∷ 0 ∷ 0 ∷ 2 ∷ []) (5 ∷ 0 ∷ 0x80698 ∷ 0 ∷ 0 ∷ []) ∷
    -- go_on, the inbox's pages were handed over (inbox, outbox): not zeroed; the outbox zeroed
    row (wiped_in wipe.Inbox (7 ∷ []) ++ wiped_out wipe.Inbox (8 ∷ [])) (7 ∷ 8 ∷ []) (7 ∷ 0 ∷ []) ∷
    -- go_on (the task's word in the bytes): the task of before; nothing under way
    row (one_at 0 (put_task t.Look (image 0 (8 ∷ [])))) (8 ∷ []) (0 ∷ []) ∷
    -- put_note, port 2 (its first word, the port's number): not noted; read as the reply of port 1
    row (one_at port2_at (noted_in (nt.Port 2) None (replicate 40 0) empty)) (0 ∷ []) (1 ∷ []) ∷
    -- put_note, port 2 (the first word of port 1): noted as port 1 too; port 1 cleared
    row (one_at port1_at (noted_in (nt.Port 2) None (replicate 40 0) (image port1_at (1 ∷ [])))) (2 ∷ []) (0 ∷ []) ∷
    -- put_note, nothing to note, too few bytes: the port; cleared
    row (noted_in nt.Nothing None (replicate 40 0) few) (2 ∷ 0 ∷ []) (0 ∷ 0 ∷ []) ∷
    []

-- fw_begin, fw: an answer to the open question
abbrev pub answering : List Row
answering =
    -- begin: nothing asked; no records left
    row (says (said_of (begun_of (planned sending w.Outbox 2) []))) (0 ∷ 0 ∷ 0 ∷ 0 ∷ 2 ∷ []) (5 ∷ 0 ∷ 0x80698 ∷ 0 ∷ 0 ∷ []) ∷
    -- begin (the stage's first word in the bytes): the head is not written; that of a fresh session
    row (one_at stage_at (headed_in (begun_of (planned sending w.Outbox 2) []).session (image stage_at (1 ∷ [])))) (1 ∷ []) (0 ∷ []) ∷
    -- begin, an outbox to be zeroed (inbox, outbox): not zeroed; the inbox in its place
    row (begun_in (planned sending w.Outbox 2) (7 ∷ []) ++ begun_out (planned sending w.Outbox 2) (8 ∷ 9 ∷ [])) (7 ∷ 8 ∷ 9 ∷ []) (0 ∷ 8 ∷ 9 ∷ []) ∷
    -- begin, a page list (the ends of two entries): not written; the exponents as they are
    row (take 2 (drop 14 listed) ++ take 2 (drop 30 listed)) (1 ∷ 1 ∷ 1 ∷ 1 ∷ []) (0x50 ∷ 12 ∷ 0x60 ∷ 13 ∷ []) ∷
    -- is_session (full lists, 15 ranges, 65 lent): 15 let through; full lists are none
    row (yes (is_session (counted 14 64)) ∷ yes (is_session (counted 15 64)) ∷ yes (is_session (counted 14 65)) ∷ []) (1 ∷ 1 ∷ 0 ∷ []) (0 ∷ 0 ∷ 0 ∷ []) ∷
    -- is_lent (256 records, 257, a byte too few, no outbox): 257 let through; the outbox not looked at
    row (yes (is_lent page page (newest 256 0)) ∷ yes (is_lent page page (newest 257 0)) ∷ yes (is_lent (drop 1 page) page (newest 0 0)) ∷ yes (is_lent page [] (newest 0 0)) ∷ [])
    (1 ∷ 1 ∷ 0 ∷ 0 ∷ []) (1 ∷ 0 ∷ 0 ∷ 1 ∷ []) ∷
    -- answerable (a dword, a word, no session): whatever its kind; whatever the counts
    row (yes (answerable sending (a.Dword 5)) ∷ yes (answerable sending (a.Word 5)) ∷ yes (answerable (sends_of (counted 15 0) (g.Close k.CloseHca) (imm_of 8 0 0 0)) (a.Dword 5)) ∷ [])
    (1 ∷ 1 ∷ 0 ∷ []) (1 ∷ 0 ∷ 1 ∷ []) ∷
    -- answer of the wrong kind, no mailboxes: 21 before 20; taken
    row (turn (answer_of sending (a.Word 5) [] [] [] (newest 2 0x20))) (21 ∷ 5 ∷ 0 ∷ 0x80698 ∷ 0 ∷ 2 ∷ []) (0 ∷ 6 ∷ 0 ∷ 0x80680 ∷ 0 ∷ 2 ∷ []) ∷
    -- answer, no mailboxes: told as of the wrong kind; taken
    row (turn (answer_of sending (a.Dword 0) [] [] [] (newest 2 0x20))) (20 ∷ 5 ∷ 0 ∷ 0x80698 ∷ 0 ∷ 2 ∷ []) (0 ∷ 6 ∷ 0 ∷ 0x80680 ∷ 0 ∷ 2 ∷ []) ∷
    -- answer, refused (inbox, outbox): zeroed; each with the other's bytes
    row (answer_in sending (a.Dword 0) [] (7 ∷ []) (8 ∷ []) (newest 2 0x20) ++ answer_out sending (a.Dword 0) [] (7 ∷ []) (8 ∷ []) (newest 2 0x20))
    (0 ∷ 0 ∷ []) (8 ∷ 7 ∷ []) ∷
    -- answer, the status with GO clear: told as Busy; posted without the writes
    row (turn (answer_of sending (a.Dword 0) [] page page (newest 2 0x20))) (0 ∷ 0 ∷ 0 ∷ 0 ∷ 0 ∷ 2 ∷ []) (0 ∷ 14 ∷ 0 ∷ 0 ∷ 0 ∷ 2 ∷ []) ∷
    -- answer, the inbox's pages (inbox, outbox): not zeroed; the outbox zeroed
    row (take 1 (answer_in (making p.Inbox) (a.Handle 7) [] ones ones (newest 0 0)) ++ take 1 (answer_out (making p.Inbox) (a.Handle 7) [] ones ones (newest 0 0)))
    (1 ∷ 1 ∷ []) (1 ∷ 0 ∷ []) ∷
    -- answer, the outbox's pages (inbox, outbox): not zeroed; the inbox zeroed
    row (take 1 (answer_in (making p.Outbox) (a.Handle 7) [] ones ones (newest 0 0)) ++ take 1 (answer_out (making p.Outbox) (a.Handle 7) [] ones ones (newest 0 0)))
    (1 ∷ 1 ∷ []) (0 ∷ 1 ∷ []) ∷
    -- answer, QUERY_FW good, its reply in the outbox: the inbox is read; the mailbox freed at once
    row (turn (answer_of querying (a.Dword 0) [] page firmware (newest 0 0))) (0 ∷ 12 ∷ 7 ∷ 0 ∷ 0 ∷ 0 ∷ []) (0 ∷ 13 ∷ 7 ∷ 2 ∷ 0 ∷ 0 ∷ []) ∷
    -- outcome, an opening that failed (why, the closing): told as closed; the closing not beside it
    row (outcome_words [] (outcome_of (over (by.By (no.Timeout 60)) closing.Reset))) (4 ∷ 0 ∷ 0 ∷ 0 ∷ 1 ∷ []) (3 ∷ 7 ∷ 60 ∷ 0 ∷ 0 ∷ []) ∷
    -- outcome, closed and everything kept: told as clean; told as open
    row (outcome_words [] (outcome_of (over by.Nothing closing.Kept))) (4 ∷ 0 ∷ 0 ∷ 0 ∷ 0 ∷ []) (2 ∷ 0 ∷ 0 ∷ 0 ∷ 0 ∷ []) ∷
    -- outcome, a call is running: told as open; told as not opened
    row (outcome_words [] (outcome_of sending)) (2 ∷ 0 ∷ 0 ∷ 0 ∷ 0 ∷ []) (0 ∷ 0 ∷ 0 ∷ 0 ∷ 0 ∷ []) ∷
    []

-- calls: when a call begins, and what refuses it
abbrev pub calling : List Row
calling =
    -- callable (a fresh one opened, an open one opened, an open one closed, a running one closed): every opening refused; a running one is closed
    row (yes (callable fresh q.Open) ∷ yes (callable (having opened) q.Open) ∷ yes (callable (having opened) q.Close) ∷ yes (callable sending q.Close) ∷ [])
    (0 ∷ 1 ∷ 1 ∷ 0 ∷ []) (1 ∷ 0 ∷ 1 ∷ 1 ∷ []) ∷
    -- is_idle (open, running, fresh, no session): a running one; whatever the counts
    row (yes (is_idle (having opened)) ∷ yes (is_idle sending) ∷ yes (is_idle fresh) ∷ yes (is_idle (counted 15 0)) ∷ []) (1 ∷ 1 ∷ 0 ∷ 0 ∷ []) (1 ∷ 0 ∷ 0 ∷ 1 ∷ []) ∷
    -- make at the wrong time, no mailboxes: 21 before 20; begins
    row (turn (call_of sending q.Close [] [] [] (newest 2 0x20))) (21 ∷ 5 ∷ 0 ∷ 0x80698 ∷ 0 ∷ 2 ∷ []) (0 ∷ 5 ∷ 0 ∷ 0x80698 ∷ 0 ∷ 1 ∷ []) ∷
    -- make, a reserved opcode, no mailboxes: 22 before 21; 20
    row (turn (call_of (having opened) (q.Command (reserved form.Imm)) [] [] [] (newest 2 0x20))) (22 ∷ 0 ∷ 0 ∷ 0 ∷ 0 ∷ 2 ∷ []) (20 ∷ 0 ∷ 0 ∷ 0 ∷ 0 ∷ 2 ∷ []) ∷
    -- make, a reserved opcode: let through; told as 20
    row (turn (call_of (having opened) (q.Command (reserved form.Imm)) [] page page (newest 2 0x20))) (0 ∷ 5 ∷ 0 ∷ 0x80698 ∷ 0 ∷ 2 ∷ []) (20 ∷ 0 ∷ 0 ∷ 0 ∷ 0 ∷ 2 ∷ []) ∷
    -- make, a reserved opcode with input (the inbox): the input written; zeroed
    row (take 3 (call_in (having opened) (q.Command (reserved form.WithIn)) (7 ∷ 8 ∷ []) ones page (newest 2 0x20))) (7 ∷ 8 ∷ 0 ∷ []) (0 ∷ 0 ∷ 0 ∷ []) ∷
    -- make, a command with input (the inbox): the bytes of before behind it; not written
    row (take 3 (call_in (having opened) (q.Command (request form.WithIn)) (7 ∷ 8 ∷ []) ones page (newest 2 0x20))) (7 ∷ 8 ∷ 1 ∷ []) (1 ∷ 1 ∷ 1 ∷ []) ∷
    -- make, a command with output (the outbox): not zeroed; the input in it
    row (take 2 (call_out (having opened) (q.Command (request form.WithOut)) (7 ∷ 8 ∷ []) page ones (newest 2 0x20))) (1 ∷ 1 ∷ []) (7 ∷ 8 ∷ []) ∷
    -- make, lend with a full list, too many bytes: 18 before 19; told as 5
    row (turn (call_of (counted 2 64) (q.Lend (2 ^ 64 - 4095)) [] page page (newest 0 0))) (18 ∷ 0 ∷ 0 ∷ 0 ∷ 0 ∷ 0 ∷ []) (5 ∷ 0 ∷ 0 ∷ 0 ∷ 0 ∷ 0 ∷ []) ∷
    -- make, lend with a full list: a 65th is lent; told as 18
    row (turn (call_of (counted 2 64) (q.Lend 4096) [] page page (newest 0 0))) (0 ∷ 10 ∷ 1 ∷ 0 ∷ 0 ∷ 0 ∷ []) (18 ∷ 0 ∷ 0 ∷ 0 ∷ 0 ∷ 0 ∷ []) ∷
    -- make, lend with 63 lent: refused as full; the bytes for the pages
    row (turn (call_of (counted 2 63) (q.Lend 4097) [] page page (newest 0 0))) (19 ∷ 0 ∷ 0 ∷ 0 ∷ 0 ∷ 0 ∷ []) (0 ∷ 10 ∷ 4097 ∷ 0 ∷ 0 ∷ 0 ∷ []) ∷
    -- make, lend of too many bytes: 5; no page for them
    row (turn (call_of (having opened) (q.Lend (2 ^ 64 - 4095)) [] page page (newest 0 0))) (5 ∷ 0 ∷ 0 ∷ 0 ∷ 0 ∷ 0 ∷ []) (0 ∷ 10 ∷ 0 ∷ 0 ∷ 0 ∷ 0 ∷ []) ∷
    -- make, undo_to with a reserved record wanted: begins; 23
    row (turn (call_of (having opened) (q.UndoTo 0 true) [] page page (newest 2 0x20))) (0 ∷ 5 ∷ 0 ∷ 0x80698 ∷ 0 ∷ 1 ∷ []) (23 ∷ 0 ∷ 0 ∷ 0 ∷ 0 ∷ 2 ∷ []) ∷
    -- make, undo_to: the record not taken off; nothing asked
    row (turn (call_of (having opened) (q.UndoTo 0 false) [] page page (newest 2 0x20))) (0 ∷ 5 ∷ 0 ∷ 0x80698 ∷ 0 ∷ 2 ∷ []) (0 ∷ 0 ∷ 0 ∷ 0 ∷ 0 ∷ 2 ∷ []) ∷
    -- make, open: asks what a quiesce asks; nothing asked
    row (turn (call_of fresh q.Open [] page page (newest 2 0x20))) (0 ∷ 5 ∷ 0 ∷ 0x80698 ∷ 0 ∷ 1 ∷ []) (0 ∷ 0 ∷ 0 ∷ 0 ∷ 0 ∷ 2 ∷ []) ∷
    -- make, close (why it failed before, the first question, the records left): the failure of before kept; the record not taken off
    row (why (call_of spoilt q.Close [] page page (newest 2 0x20)).session.failure ++ turn (call_of spoilt q.Close [] page page (newest 2 0x20)))
    (7 ∷ 60 ∷ 0 ∷ 5 ∷ 0 ∷ 0x80698 ∷ 0 ∷ 1 ∷ []) (0 ∷ 0 ∷ 5 ∷ 0 ∷ 0x80698 ∷ 0 ∷ 2 ∷ []) ∷
    -- make, quiesce (silent, broken): not silent; broken at once
    row (yes (call_of (having opened) q.Quiesce [] page page (newest 2 0x20)).session.books.wire.silent ∷ yes (call_of (having opened) q.Quiesce [] page page (newest 2 0x20)).session.books.wire.broken ∷ [])
    (0 ∷ 0 ∷ []) (1 ∷ 1 ∷ []) ∷
    []

-- turns, calls, fw: a session's bytes
abbrev pub turning : List Row
turning =
    -- fresh_bytes, hca_fresh (a byte too few, enough): let through; refused as no session
    row (fresh_code (drop 1 empty) ∷ fresh_code empty ∷ []) (0 ∷ 0 ∷ []) (20 ∷ 0 ∷ []) ∷
    -- fresh_bytes, too few bytes (what they hold then): zeroed; cut off
    row (fresh_in (7 ∷ 8 ∷ [])) (0 ∷ 0 ∷ []) [] ∷
    -- make, too few bytes (the number, the bytes, inbox, outbox, out): 20; the inbox zeroed
    row (left (called q.Open [] (newest 0 0) (1 ∷ []) (2 ∷ []) (3 ∷ []) (4 ∷ []))) (20 ∷ 1 ∷ 2 ∷ 3 ∷ 4 ∷ []) (21 ∷ 1 ∷ 0 ∷ 3 ∷ 4 ∷ []) ∷
    -- make, bytes that are no session, out too short: 21 before 20; out written
    row ((called q.Open [] (newest 0 0) no_session (2 ∷ []) (3 ∷ []) (4 ∷ [])).code ∷ (called q.Open [] (newest 0 0) no_session (2 ∷ []) (3 ∷ []) (4 ∷ [])).out)
    (21 ∷ 4 ∷ []) (20 ∷ 0 ∷ []) ∷
    -- answer, too few bytes: 20; the outbox zeroed
    row (left (answered (a.Dword 0) [] (newest 0 0) (1 ∷ []) (2 ∷ []) (3 ∷ []) (4 ∷ []))) (20 ∷ 1 ∷ 2 ∷ 3 ∷ 4 ∷ []) (21 ∷ 1 ∷ 2 ∷ 0 ∷ 4 ∷ []) ∷
    -- answer, bytes that are no session, out too short: 21 before 20; out written
    row ((answered (a.Dword 0) [] (newest 0 0) no_session (2 ∷ []) (3 ∷ []) (4 ∷ [])).code ∷ (answered (a.Dword 0) [] (newest 0 0) no_session (2 ∷ []) (3 ∷ []) (4 ∷ [])).out)
    (21 ∷ 4 ∷ []) (20 ∷ 0 ∷ []) ∷
    -- make at the wrong time, out too short: 21 before 20; the session written
    row (left (call_known sending q.Close [] (newest 2 0x20) (1 ∷ []) (2 ∷ []) (3 ∷ []) (4 ∷ []))) (21 ∷ 1 ∷ 2 ∷ 3 ∷ 4 ∷ []) (20 ∷ 0 ∷ 2 ∷ 3 ∷ 4 ∷ []) ∷
    -- make, out too short (the number, the inbox): the input written; told as of the wrong kind
    row ((call_known (having opened) (q.Command (request form.WithIn)) (7 ∷ []) (newest 0 0) (1 ∷ []) ones page (4 ∷ [])).code ∷ take 2 (call_known (having opened) (q.Command (request form.WithIn)) (7 ∷ []) (newest 0 0) (1 ∷ []) ones page (4 ∷ [])).inbox)
    (21 ∷ 7 ∷ 0 ∷ []) (20 ∷ 1 ∷ 1 ∷ []) ∷
    -- answer, QUERY_FW good (the number, the question): the outbox taken for the inbox; told as the end of the poll
    row (polling (answer_known querying (a.Dword 0) [] (newest 0 0) (1 ∷ []) page firmware (replicate 40 0))) (0 ∷ 0 ∷ 0 ∷ 12 ∷ 7 ∷ []) (0 ∷ 0 ∷ 0 ∷ 14 ∷ 0 ∷ []) ∷
    -- answer of the wrong kind, out too short: 21 before 20; out written
    row (left (answer_known sending (a.Word 5) [] (newest 2 0x20) (1 ∷ []) (2 ∷ []) (3 ∷ []) (4 ∷ []))) (21 ∷ 1 ∷ 2 ∷ 3 ∷ 4 ∷ []) (20 ∷ 1 ∷ 2 ∷ 3 ∷ 5 ∷ []) ∷
    -- make, refused with 22 (the number, the bytes, the first byte of out): says what is asked now; told as good
    row ((call_known (having opened) (q.Command (reserved form.Imm)) [] (newest 2 0x20) (1 ∷ []) page page (replicate 40 9)).code ∷ ((call_known (having opened) (q.Command (reserved form.Imm)) [] (newest 2 0x20) (1 ∷ []) page page (replicate 40 9)).state ++ take 1 (call_known (having opened) (q.Command (reserved form.Imm)) [] (newest 2 0x20) (1 ∷ []) page page (replicate 40 9)).out))
    (22 ∷ 1 ∷ 5 ∷ []) (0 ∷ 1 ∷ 9 ∷ []) ∷
    -- make, a close (the number, the first byte of out, the undo records): says nothing; no records left
    row ((call_known (having opened) q.Close [] (newest 2 0x20) (1 ∷ []) page page (replicate 40 0)).code ∷ (take 1 (call_known (having opened) q.Close [] (newest 2 0x20) (1 ∷ []) page page (replicate 40 0)).out ++ take 1 (drop 32 (call_known (having opened) q.Close [] (newest 2 0x20) (1 ∷ []) page page (replicate 40 0)).out)))
    (0 ∷ 0 ∷ 0 ∷ []) (0 ∷ 5 ∷ 0 ∷ []) ∷
    []

-- readers: what can be read of a session's bytes
abbrev pub reading : List Row
reading =
    -- question_bytes, hca_question, too few bytes: 20; out written
    row (said (question (1 ∷ []) (4 ∷ []))) (20 ∷ 4 ∷ []) (21 ∷ 0 ∷ []) ∷
    -- result_bytes, hca_result, too few bytes: 20; out written
    row (said (result (1 ∷ []) (4 ∷ []))) (20 ∷ 4 ∷ []) (21 ∷ 0 ∷ []) ∷
    -- setup_bytes, hca_setup, too few bytes: 20; out written
    row (said (setup (1 ∷ []) (4 ∷ []))) (20 ∷ 4 ∷ []) (21 ∷ 0 ∷ []) ∷
    -- books_bytes, hca_books, too few bytes: 20; out written
    row (said (books (1 ∷ []) (4 ∷ []))) (20 ∷ 4 ∷ []) (21 ∷ 0 ∷ []) ∷
    -- question_bytes, hca_question, no session, out too short: 21 before 20; out written
    row (said (question no_session (4 ∷ []))) (21 ∷ 4 ∷ []) (20 ∷ 0 ∷ []) ∷
    -- result_bytes, hca_result, no session, out too short: 21 before 20; out written
    row (said (result no_session (4 ∷ []))) (21 ∷ 4 ∷ []) (20 ∷ 0 ∷ []) ∷
    -- setup_bytes, hca_setup, no session, out too short: 21 before 20; out written
    row (said (setup no_session (4 ∷ []))) (21 ∷ 4 ∷ []) (20 ∷ 0 ∷ []) ∷
    -- books_bytes, hca_books, no session, out too short: 21 before 20; out written
    row (said (books no_session (4 ∷ []))) (21 ∷ 4 ∷ []) (20 ∷ 0 ∷ []) ∷
    -- give_question, a byte too few: what fits is written; 20
    row (take 2 (said (question_known sending (replicate 31 9)))) (0 ∷ 0 ∷ []) (20 ∷ 9 ∷ []) ∷
    -- give_question (the number, the kind): what has become of the session; not written
    row (take 1 (said (question_known sending (replicate 32 9))) ++ take 1 (drop 1 (said (question_known sending (replicate 32 9))))) (0 ∷ 1 ∷ []) (0 ∷ 9 ∷ []) ∷
    -- give_result, a byte too few: room for all but how the closing went; 20
    row (take 2 (said (result_known sending (replicate 39 9)))) (0 ∷ 0 ∷ []) (20 ∷ 9 ∷ []) ∷
    -- give_result (the number, the kind, how the closing went): the question; the closing not told
    row (take 1 (said (result_known (over by.Nothing closing.Kept) (replicate 40 9))) ++ (take 1 (drop 1 (said (result_known (over by.Nothing closing.Kept) (replicate 40 9)))) ++ take 1 (drop 33 (said (result_known (over by.Nothing closing.Kept) (replicate 40 9))))))
    (0 ∷ 0 ∷ 0 ∷ []) (0 ∷ 4 ∷ 9 ∷ []) ∷
    -- give_setup (a call is running, out too short; open, out too short): 21 before 20; told of a running session
    row (said (setup_known sending (4 ∷ [])) ++ said (setup_known (having opened) (4 ∷ []))) (21 ∷ 4 ∷ 21 ∷ 4 ∷ []) (0 ∷ 0 ∷ 21 ∷ 4 ∷ []) ∷
    -- give_books, a byte too few: what fits is written; 20
    row (take 2 (said (books_known (having opened) (replicate 2239 9)))) (0 ∷ 0 ∷ []) (20 ∷ 9 ∷ []) ∷
    []

-- linkage, turn_call, turn_answer: calls and answers as numbers
abbrev pub linked : List Row
linked =
    -- call_from (kinds 6, 7, 10): lend and undo_to change places; an unknown kind closes
    row (wanted (call_from 6 0 0 0 9 true) ++ (wanted (call_from 7 0 0 0 9 true) ++ wanted (call_from 10 0 0 0 9 true)))
    (0 ∷ 3 ∷ 9 ∷ 1 ∷ 0 ∷ 3 ∷ 9 ∷ 1 ∷ 20 ∷ []) (0 ∷ 2 ∷ 9 ∷ 0 ∷ 3 ∷ 9 ∷ 1 ∷ 0 ∷ 5 ∷ []) ∷
    -- call_from (kinds 0, 8, 9): quiesce and close change places; open is none
    row (wanted (call_from 0 0 0 0 9 true) ++ (wanted (call_from 8 0 0 0 9 true) ++ wanted (call_from 9 0 0 0 9 true)))
    (0 ∷ 0 ∷ 0 ∷ 5 ∷ 0 ∷ 4 ∷ []) (20 ∷ 0 ∷ 4 ∷ 0 ∷ 5 ∷ []) ∷
    -- command (kind 2): another form; the modifiers change places
    row (wanted (call_from 2 0x43 1 2 3 false)) (0 ∷ 1 ∷ 2 ∷ 0x43 ∷ 1 ∷ 2 ∷ 3 ∷ []) (0 ∷ 1 ∷ 1 ∷ 0x43 ∷ 2 ∷ 1 ∷ 3 ∷ []) ∷
    -- called, an unknown kind, too few bytes: 21 before 20; taken as good
    row (left (made 10 0 0 0 0 false [] (newest 0 0) (1 ∷ []) (2 ∷ []) (3 ∷ []) (4 ∷ []))) (21 ∷ 1 ∷ 2 ∷ 3 ∷ 4 ∷ []) (0 ∷ 1 ∷ 2 ∷ 3 ∷ 4 ∷ []) ∷
    -- called, too few bytes: 20; the inbox zeroed
    row (left (made 0 0 0 0 0 false [] (newest 0 0) (1 ∷ []) (2 ∷ []) (3 ∷ []) (4 ∷ []))) (20 ∷ 1 ∷ 2 ∷ 3 ∷ 4 ∷ []) (21 ∷ 1 ∷ 0 ∷ 3 ∷ 4 ∷ []) ∷
    -- hca_call, an unknown kind, too few bytes: 21 before 20; taken as good
    row (left (call 10 0 0 0 0 [] [] 0 (1 ∷ []) (2 ∷ []) (3 ∷ []) (4 ∷ []))) (21 ∷ 1 ∷ 2 ∷ 3 ∷ 4 ∷ []) (0 ∷ 1 ∷ 2 ∷ 3 ∷ 4 ∷ []) ∷
    -- hca_call, too few bytes, a list shorter than its count: 20; out written
    row (left (call 9 0 0 0 0 [] [] 3 (1 ∷ []) (2 ∷ []) (3 ∷ []) (4 ∷ []))) (20 ∷ 1 ∷ 2 ∷ 3 ∷ 4 ∷ []) (21 ∷ 1 ∷ 2 ∷ 3 ∷ 0 ∷ []) ∷
    -- answered, an unknown kind, too few bytes: 21 before 20; taken as good
    row (left (abi.told 9 0 0 [] (newest 0 0) (1 ∷ []) (2 ∷ []) (3 ∷ []) (4 ∷ []))) (21 ∷ 1 ∷ 2 ∷ 3 ∷ 4 ∷ []) (0 ∷ 1 ∷ 2 ∷ 3 ∷ 4 ∷ []) ∷
    -- answered, a word of 17 bits, too few bytes: cut to 16; 21 before 20 with the outbox zeroed
    row (left (abi.told 1 65536 0 [] (newest 0 0) (1 ∷ []) (2 ∷ []) (3 ∷ []) (4 ∷ []))) (21 ∷ 1 ∷ 2 ∷ 3 ∷ 4 ∷ []) (21 ∷ 1 ∷ 2 ∷ 0 ∷ 4 ∷ []) ∷
    -- hca_answer, too few bytes: 20; out written
    row (left (abi.told 2 0 0 [] (top_of [] 0) (1 ∷ []) (2 ∷ []) (3 ∷ []) (4 ∷ []))) (20 ∷ 1 ∷ 2 ∷ 3 ∷ 4 ∷ []) (21 ∷ 1 ∷ 2 ∷ 3 ∷ 0 ∷ []) ∷
    -- hca_answer, GO set while polled (the number, phase, stalls, question): read again without a stall; the stall counted before it is over
    row (polling (abi.told 2 0x8000 0 [] (top_of [] 0) (polled 4 3) page page (replicate 40 0))) (0 ∷ 4 ∷ 3 ∷ 5 ∷ 0 ∷ []) (0 ∷ 5 ∷ 4 ∷ 9 ∷ 1 ∷ []) ∷
    -- hca_answer, the stall over (the number, phase, stalls, question): it still waits; the stall not counted
    row (polling (abi.told 4 0 0 [] (top_of [] 0) (polled 5 3) page page (replicate 40 0))) (0 ∷ 5 ∷ 3 ∷ 5 ∷ 0 ∷ []) (0 ∷ 4 ∷ 3 ∷ 5 ∷ 0 ∷ []) ∷
    -- hca_push_undo (good, reserved, 256 there, no room, a count above the list with a reserved opcode): a reserved opcode let through; 22 before 21
    row (number_of (push_of 2 1 0x20) ∷ number_of (push_of 2 1 0x008) ∷ number_of (push_of 300 256 0x20) ∷ number_of (push_of 2 2 0x20) ∷ number_of (push_of 2 3 0x008) ∷ [])
    (0 ∷ 0 ∷ 19 ∷ 21 ∷ 21 ∷ []) (0 ∷ 22 ∷ 19 ∷ 21 ∷ 22 ∷ []) ∷
    -- hca_push_undo (0xfff to five of five; 256 of 256, a good opcode, a reserved one): 22 before
    -- 21; 19 before 22
    row (number_of (push_of 5 5 0xfff) ∷ number_of (push_of 256 256 0x20) ∷ number_of (push_of 256 256 0x008) ∷ [])
    (22 ∷ 19 ∷ 22 ∷ []) (21 ∷ 19 ∷ 19 ∷ []) ∷
    -- hca_push_undo (the opcodes on the list then): over the newest one; not pushed
    row (opcodes (pushed_in (undo_of 0x11 0 0 0 ∷ undo_of 0 0 0 0 ∷ []) 1 (undo_of 0x20 0 0 0))) (0x20 ∷ 0 ∷ []) (0x11 ∷ 0 ∷ []) ∷
    -- hca_push_undo, refused: pushed all the same; the newest one lost
    row (opcodes (pushed_in (undo_of 0x11 0 0 0 ∷ undo_of 0 0 0 0 ∷ []) 1 (undo_of 0x008 0 0 0))) (0x11 ∷ 8 ∷ []) (0 ∷ 0 ∷ []) ∷
    []

abbrev pub wrong : List Row
wrong = stepping ++ answering ++ calling ++ turning ++ reading ++ linked
