-- WRONG ANSWERS of functions on a session's parts, as in `wrong/specs/Wrong.antt`.
use Rattle.std.specs.Prelude.{ℕ, ◌+◌, ◌-◌, ◌^◌, Bool, true, false, List, [], ◌∷◌, ◌++◌, length, replicate, set, drop, Ok, Err, None}
use Rattle.fields.specs.Outcome.{Outcome, value, refused}
use Rattle.wrong.specs.Wrong.{Row, row, told, yes}
use Rattle.words.specs.Words.{at}
use Rattle.words_calls.specs.Calls.{question_words}
use Rattle.words_task.specs.Coding.{task_words}
use Rattle.words_books.specs.Coding.{closing_words}
use Rattle.words_stage.specs.Coding.{stage_words, virt_words, cutter_words}
use Rattle.bars.specs.declared.Pick.{Pick}
use Rattle.dma.specs.declared.Buffer.{Buffer}
use Rattle.dma.specs.declared.Cutter.{Cutter}
use Rattle.dma.specs.declared.Listed.{Listed}
use Rattle.reply.specs.Replies.{port_of}
use Rattle.reply.specs.declared.DevCap.{DevCap}
use Rattle.reply.specs.declared.FwInfo.{FwInfo}
use Rattle.reply.specs.declared.PortInfo.{PortInfo}
use Rattle.layout.specs.declared.Range.{Range}
use Rattle.hcr.specs.declared.Post.{Post}
use Rattle.pci.specs.Refusals.{refusal}
use Rattle.pci.specs.declared.Refusal.TheVariants as no
use Rattle.command.specs.declared.Catas.{Catas}
use Rattle.command.specs.declared.Catas.TheVariants as c
use Rattle.command.specs.declared.CmdEnd.{CmdEnd}
use Rattle.command.specs.declared.CmdResult.{CmdResult}
use Rattle.command.specs.declared.CmdResult.TheVariants as r
use Rattle.reset.specs.Reset.{is_good}
use Rattle.reset.specs.declared.Control.TheVariants as control
use Rattle.reset.specs.declared.Phase.TheVariants as phase
use Rattle.reset.specs.declared.ResetEnd.TheVariants as x
use Rattle.buffer.specs.declared.Fault.TheVariants as f
use Rattle.buffer.specs.declared.Made.{Made}
use Rattle.buffer.specs.declared.Made.TheVariants as m
use Rattle.tasks.specs.declared.Attributes.{Attributes}
use Rattle.tasks.specs.declared.Attributes.TheVariants as ta
use Rattle.tasks.specs.declared.Claimed.{Claimed}
use Rattle.tasks.specs.declared.Claimed.TheVariants as tc
use Rattle.uar.specs.Uar.{Found}
use Rattle.uar.specs.declared.NotFound.TheVariants as u
use Rattle.work.specs.Work.{working, resting, work_asks}
use Rattle.work.specs.declared.Task.{Task}
use Rattle.work.specs.declared.Task.TheVariants as t
use Rattle.work.specs.declared.End.{End}
use Rattle.work.specs.declared.End.TheVariants as e
use Rattle.session.specs.Session.{no_slot, bare, mapped_at, no_books, no_info, session, fresh, starts, bookkeeps, informs, sends_of, wired, listing, puts, is_held, aux_of, fa_of, inbox_of, outbox_of, AUX, FA, INBOX, OUTBOX, buffer_of, bytes_in, imm_of, names_in, names_out, catas_for, end_seen, lent_to}
use Rattle.session.specs.Core.{Behind, full, none_behind, start_of, send_of, took_by, break_of, silence_of, close_as, original_as, started_as, plan_in}
use Rattle.session.specs.Core as h
use Rattle.session.specs.Failures.{fault_of, failure_of, needs_reset, broken_by, immediate_of, made_in, gave_of}
use Rattle.session.specs.declared.Slot.{Slot}
use Rattle.session.specs.declared.Wire.{Wire}
use Rattle.session.specs.declared.Books.{Books}
use Rattle.session.specs.declared.Info.{Info}
use Rattle.session.specs.declared.Top.{Top}
use Rattle.session.specs.declared.Area.TheVariants as a
use Rattle.session.specs.declared.Prepare.TheVariants as p
use Rattle.session.specs.declared.Boot.TheVariants as b
use Rattle.session.specs.declared.Form.{Form}
use Rattle.session.specs.declared.Form.TheVariants as form
use Rattle.session.specs.declared.Client.TheVariants as i
use Rattle.session.specs.declared.Close.TheVariants as k
use Rattle.session.specs.declared.Gave.TheVariants as v
use Rattle.session.specs.declared.Stage.{Stage}
use Rattle.session.specs.declared.Stage.TheVariants as g
use Rattle.session.specs.declared.Failure.{Failure}
use Rattle.session.specs.declared.Failure.TheVariants as by
use Rattle.session.specs.declared.Closing.TheVariants as closing
use Rattle.session.specs.declared.Fill.{Fill}
use Rattle.session.specs.declared.Fill.TheVariants as w
use Rattle.session.specs.declared.Session.{Session}
use Rattle.session.specs.declared.Core.{Core}
use Rattle.session.specs.declared.Planned.{Planned}
use Rattle.closing_plan.specs.Closing.{is_done}
use Rattle.closing_plan.specs.Plan as close
use Rattle.client_plan.specs.Client.{takes_input, over}
use Rattle.client_plan.specs.Plan as client
use Rattle.client_plan.specs.declared.Request.{Request}
use Rattle.opening_plan.specs.Values.{fw_failure_of, with_toggle, with_catas, with_original, now_started, range_at, op_for, enters, cut_in, with_revision, with_cap}
use Rattle.opening_plan.specs.Plan as plan

abbrev buffer : Buffer
buffer = record { handle = 7; dev = 0x5000; pages = 2 }

abbrev other : Buffer
other = record { handle = 8; dev = 0x6000; pages = 1 }

abbrev range : Slot
range = record { runs = 1; virt = 1; handle = 2; dev = 3; pages = 4; mapped = true }

-- a buffer in its slot, handed over and mapped; a range's with its card address
abbrev pub whole : (virt : ℕ) → Buffer → Slot
whole y b = mapped_at (bare y b.handle b.pages) b.dev

-- a command register with a catastrophic buffer, loud or silent
abbrev wire : Bool → Wire
wire s = record { toggle = true; running = false; broken = false; silent = s; catas = c.Known 0 0x100 }

abbrev posted : Post → List ℕ
posted p = p.op ∷ p.op_mod ∷ p.in_mod ∷ p.in_param ∷ p.out_param ∷ []

abbrev place : Catas → List ℕ
place (c.Known b off) = b ∷ off ∷ []
place c.Unknown = []

-- a function of each way in which a command ends: good, a status, Timeout, Busy, the bus
abbrev ends : (CmdResult → Bool) → List ℕ
ends t = yes (t (r.Done 5 9)) ∷ yes (t (r.Status 2 50)) ∷ yes (t (r.Timeout 60000000)) ∷ yes (t r.Busy) ∷ yes (t (r.Bus 3)) ∷ []

-- and of each form of a client's command
abbrev forms : (Form → Bool) → List ℕ
forms t = yes (t form.Imm) ∷ yes (t form.WithIn) ∷ yes (t form.WithOut) ∷ yes (t form.InImm) ∷ yes (t form.InOut) ∷ []

abbrev timed_out : CmdEnd
timed_out = record { result = r.Timeout 60000000; toggle = false }

-- A SESSION AS NUMBERS. The stage's first three words: 0 fresh, 1 open, 2 ended, 3 before bring-up, 4 bring-up, 5 a client's call, 6 closing, each with what it is
-- at (`words_stage`; 7 in a closing: the slot that is freed); then the task: 0 none, 1 attributes, 2 claim, 3 reset, 4 BAR, 5 a buffer made, 6 one freed, 7 the first look, 8 a
-- command, 9 parting
abbrev stands_at : Stage → Task → List ℕ
stands_at s k = at (stage_words s) 0 ∷ at (stage_words s) 1 ∷ at (stage_words s) 2 ∷ at (task_words k) 0 ∷ []

abbrev stands : Session → List ℕ
stands s = stands_at s.stage s.work.task

abbrev stands_of : Core → List ℕ
stands_of c = stands_at c.stage c.task

-- the command that is posted
abbrev sent : Session → List ℕ
sent s =
    at (task_words s.work.task) 3 ∷ at (task_words s.work.task) 4 ∷ at (task_words s.work.task) 5 ∷ at (task_words s.work.task) 6
    ∷ at (task_words s.work.task) 7 ∷ []

-- what any other task carries
abbrev carried : Session → List ℕ
carried s = at (task_words s.work.task) 1 ∷ at (task_words s.work.task) 2 ∷ at (task_words s.work.task) 3 ∷ []

-- what the last call gave: 0 and the values, or the refusal's number and values; nothing where it runs
abbrev told_all : Outcome (List ℕ) → List ℕ
told_all (value ns) = 0 ∷ ns
told_all (refused n ns) = n ∷ ns

abbrev gave_at : Books → Stage → List ℕ
gave_at b g.Fresh = []
gave_at b (g.Open y) = told_all (gave_of b y)
gave_at b g.Ended = []
gave_at b (g.Prepare y) = []
gave_at b (g.Boot y) = []
gave_at b (g.Client y) = []
gave_at b (g.Close y) = []

abbrev gave : Session → List ℕ
gave s = gave_at s.books s.stage

-- why an opening failed; what is to be written; how the making of a buffer and a command ended
abbrev pub why : Failure → List ℕ
why by.Nothing = 0 ∷ []
why (by.By y) = told (refusal y)

abbrev fill_no : Fill → ℕ
fill_no w.Nothing = 0
fill_no w.Outbox = 1
fill_no (w.List y) = 2
fill_no w.ModStat = 3
fill_no w.InitHca = 4

abbrev made : Made → List ℕ
made (m.Ready b) = 0 ∷ b.handle ∷ []
made (m.Refused y) = told (refusal (fault_of y))

abbrev ended : CmdEnd → List ℕ
ended y = yes (is_done y.result) ∷ (told (refusal (failure_of y.result)) ++ (yes y.toggle ∷ []))

-- how the first tasks of an opening ended; a range
abbrev attributes : Attributes → List ℕ
attributes (ta.Enabled y) = 0 ∷ y ∷ []
attributes ta.Refused = 1 ∷ []

abbrev claimed : Claimed → List ℕ
claimed tc.Good = 0 ∷ []
claimed tc.Refused = 2 ∷ []

abbrev found : Found → List ℕ
found (Ok y) = 0 ∷ y.index ∷ []
found (Err u.Refused) = 4 ∷ []
found (Err u.BadList) = 27 ∷ []

abbrev spot : Range → List ℕ
spot y = y.virt ∷ y.bytes ∷ []

-- whether a command may run, broken, silent; whether the four buffers are held, and how many ranges and lent buffers
abbrev flags_in : Books → List ℕ
flags_in b = yes b.wire.running ∷ yes b.wire.broken ∷ yes b.wire.silent ∷ []

abbrev kept : Books → List ℕ
kept b =
    yes (is_held (inbox_of b)) ∷ yes (is_held (outbox_of b)) ∷ yes (is_held (fa_of b)) ∷ yes (is_held (aux_of b)) ∷ b.lists.ranges ∷ b.lists.lends ∷ []

-- WHERE A PLAN LEADS: the session and the undo records left; with the command; with it and what is written; with what the task carries; with the closing; with the flags; with why it failed
abbrev leads : Planned → List ℕ
leads p = stands p.session ++ (p.undo ∷ [])

abbrev posts : Planned → List ℕ
posts p = leads p ++ sent p.session

abbrev fills : Planned → List ℕ
fills p = posts p ++ (fill_no p.fill ∷ [])

abbrev carries : Planned → List ℕ
carries p = leads p ++ carried p.session

abbrev closes : Planned → List ℕ
closes p = leads p ++ closing_words p.session.closing

abbrev flags : Planned → List ℕ
flags p = leads p ++ flags_in p.session.books

abbrev fails : Planned → List ℕ
fails p = leads p ++ why p.session.failure

-- what it gave, with the flags; with the undo records left; with how many buffers are lent
abbrev gives : Planned → List ℕ
gives p = gave p.session ++ flags_in p.session.books

abbrev leaves : Planned → List ℕ
leaves p = gave p.session ++ (p.undo ∷ [])

abbrev lends : Planned → List ℕ
lends p = gave p.session ++ (p.session.books.lists.lends ∷ [])

-- THE INPUTS. Books with the mailboxes; with all buffers, two ranges and a lent buffer too; and with INIT_HCA seen good
abbrev area : Buffer
area = record { handle = 9; dev = 0x9000; pages = 1 }

abbrev spare : Buffer
spare = record { handle = 10; dev = 0xa000; pages = 1 }

abbrev pub boxed : Books
boxed = puts OUTBOX (whole 0 other) (puts INBOX (whole 0 buffer) (with_original no_books 0x70))

-- a range in its slot, and counted
abbrev ranged : (i virt : ℕ) → Buffer → Books → Books
ranged i y d b = enters (a.Range i) (puts (64 + i) (whole y d) b)

abbrev before : Books
before = lent_to (puts 0 (whole 0 buffer) (ranged 1 0x20000 spare (ranged 0 0x10000 area (puts AUX (whole 0 spare) (puts FA (whole 0 area) boxed)))))

abbrev pub opened : Books
opened = now_started before

-- books that count so many ranges and lent buffers
abbrev counting : (ranges lends : ℕ) → Books
counting y z = listing no_books (record { slots = no_books.lists.slots; ranges = y; lends = z })

abbrev flagged : (running broken silent : Bool) → Books → Books
flagged y z s b = wired b (record { toggle = true; running = y; broken = z; silent = s; catas = c.Unknown })

-- an open session; one that is silent, one with a command under way, one in the midst of a reset
abbrev pub having : Books → Session
having b = session (g.Open v.Nothing) resting b no_info by.Nothing closing.Clean

abbrev pub sending : Session
sending = sends_of (having opened) (g.Close k.CloseHca) (imm_of 8 0 0 0)

-- THE HEAD of a session
abbrev head_of : Session → Core
head_of s = record {
  stage = s.stage;
  task = s.work.task;
  wire = s.books.wire;
  ranges = s.books.lists.ranges;
  lends = s.books.lists.lends;
  started = s.books.started;
  original = s.books.original;
  uar = s.info.uar;
  func = s.info.func;
  rev3 = s.info.rev3;
  failure = s.failure;
  closing = s.closing;
}

abbrev head : Core
head = head_of (having opened)

abbrev quiet : Core
quiet = head_of (having (wired opened (wire true)))

abbrev resetting : Session
resetting =
    session (g.Close k.Reset) (working t.Reset (record { phase = phase.Pointer; dwords = replicate 16 0; control = control.Absent }) resting.find) opened no_info by.Nothing closing.Clean

-- the newest undo record, and a client's command
abbrev pub newest : (count op : ℕ) → Top
newest n op = record { count = n; op = op; op_mod = 1; in_mod = 2; in_param = 3 }

abbrev pub request : Form → Request
request y = record { form = y; op = 0x43; op_mod = 1; in_mod = 2; in_param = 3 }

-- commands that ended: good, with a status, with a Timeout
abbrev done : End
done = e.Cmd (record { result = r.Done 5 9; toggle = false })

abbrev failed : End
failed = e.Cmd (record { result = r.Status 2 50; toggle = false })

abbrev lost : End
lost = e.Cmd timed_out

-- BAR 2; replies to QUERY_FW of a revision and two pages, to QUERY_DEV_CAP (document 01's input L), and to QUERY_FUNC with 64 EQs; a port
abbrev bar : Pick
bar = record { index = 2; size = no_info.uar.size; how = no_info.uar.how }

abbrev pub fw_reply : (revision : ℕ) → List ℕ
fw_reply y = set (set (replicate 61 0) 0x01 2) 0x0b y

abbrev firmware : FwInfo
firmware =
    record { pages = 2; major = 0; subminor = 0; minor = 0; ppf = 0; rev = 3; log_max_cmds = 0; catas_offset = 0x100; catas_size = 0; catas_bar = 2 }

abbrev entries : List ℕ
entries =
    set (set (set (set (set (set (set (set (set (set (replicate 168 0) 0x81 32) 0x82 1) 0x85 32) 0x87 64) 0x89 128) 0x8b 128) 0x8d 128) 0x8f 64) 0x91 8) 0x93 64

abbrev cap_reply : List ℕ
cap_reply = set (set (set (set (set (set entries 0x1f 7) 0x37 1) 0x4b 12) 0xa3 1) 0xa5 0x12) 0xa6 0x10

abbrev func_reply : List ℕ
func_reply = set (replicate 12 0) 0x07 64

abbrev link : ℕ → PortInfo
link n = port_of (replicate 40 0) n

-- a card with the layout of input L, two ports and four reserved EQs
abbrev card : DevCap
card =
    record {
      rsvd_qps = 1;
      rsvd_srqs = 1;
      rsvd_cqs = 1;
      rsvd_eqs = 4;
      max_eqs = 128;
      rsvd_mtts = 1;
      rsvd_mpts = 1;
      rsvd_uars = 8;
      rsvd_pds = 0;
      num_sys_eqs = 0;
      ports = 2;
      log_max_qp_wqes = 0;
      log_max_cqes = 0;
      log_min_page = 12;
      flags = 0;
      flags2 = 0;
      bmme = 0;
      eth_prot_ctrl = false;
      eth_backpl_an_rep = false;
      uar_bytes = 0;
      entry = 256 ∷ 32 ∷ 64 ∷ 32 ∷ 128 ∷ 128 ∷ 128 ∷ 64 ∷ 64 ∷ 8 ∷ 1024 ∷ [];
      max_icm = 0x100121000;
    }

abbrev known : Info
known = with_cap no_info card

-- a session of revision 3, that with two ports, one that has its inbox, one that maps the firmware area
abbrev revised : Session
revised = informs (having boxed) (with_revision no_info 3)

abbrev two_ports : Session
two_ports = informs (having boxed) (with_revision known 3)

abbrev inboxed : Session
inboxed = bookkeeps fresh (puts INBOX (whole 0 buffer) no_books)

abbrev pub rest : (bytes : ℕ) → Cutter
rest n = record { virt = None; phys = 0x5000; left = n }

abbrev pub mapping : Session
mapping = starts (having boxed) (g.Boot (b.Map a.Fa (rest 16384))) t.Rest

-- books with the firmware area in its slot; and with a third range in its own, not counted yet
abbrev firmwared : Books
firmwared = puts FA (whole 0 spare) boxed

abbrev third_made : Books
third_made = puts 66 (whole 0x30000 other) before

-- a page list of three entries, with a page left behind it
abbrev three : Listed
three = record { entries = 3; rest = record { virt = None; phys = 0x8000; left = 4096 } }

-- buffers and commands
abbrev pub commands : List Row
commands =
    -- imm: the modifiers change places; the parameter goes out
    row (posted (imm_of 0x43 1 2 3)) (0x43 ∷ 2 ∷ 1 ∷ 3 ∷ 0 ∷ []) (0x43 ∷ 1 ∷ 2 ∷ 0 ∷ 3 ∷ []) ∷
    -- with_in: no modifier; the inbox as output
    row (posted (names_in 0x5000 7 1)) (7 ∷ 0 ∷ 0 ∷ 0x5000 ∷ 0 ∷ []) (7 ∷ 0 ∷ 1 ∷ 0 ∷ 0x5000 ∷ []) ∷
    -- with_out: no modifier; the outbox as input
    row (posted (names_out 0x6000 4 1)) (4 ∷ 0 ∷ 0 ∷ 0 ∷ 0x6000 ∷ []) (4 ∷ 0 ∷ 1 ∷ 0x6000 ∷ 0 ∷ []) ∷
    -- catas_for (loud, silent): a silent session reads it; no session does
    row (place (catas_for (wire false)) ++ place (catas_for (wire true))) (0 ∷ 0x100 ∷ 0 ∷ 0x100 ∷ []) [] ∷
    -- bytes: the pages; one page
    row (bytes_in buffer ∷ []) (2 ∷ []) (4096 ∷ []) ∷
    -- buffer_of: the card address for the handle; for the device address
    row ((buffer_of range).handle ∷ (buffer_of range).dev ∷ (buffer_of range).pages ∷ []) (1 ∷ 3 ∷ 4 ∷ []) (2 ∷ 1 ∷ 4 ∷ []) ∷
    -- takes_input: without input for InOut; with input for Imm
    row (forms takes_input) (0 ∷ 1 ∷ 0 ∷ 1 ∷ 0 ∷ []) (1 ∷ 1 ∷ 0 ∷ 1 ∷ 1 ∷ []) ∷
    -- copy: at the end; the rest zeroed
    row (over (1 ∷ 2 ∷ []) (7 ∷ 8 ∷ 9 ∷ [])) (7 ∷ 1 ∷ 2 ∷ []) (1 ∷ 2 ∷ 0 ∷ []) ∷
    []

-- how a command has ended, and what the books say then
abbrev pub results : List Row
results =
    -- end_seen: not at a status; at a Timeout
    row (ends end_seen) (1 ∷ 0 ∷ 0 ∷ 0 ∷ 0 ∷ []) (1 ∷ 1 ∷ 1 ∷ 0 ∷ 0 ∷ []) ∷
    -- needs_reset: at a status; not at a Timeout
    row (ends needs_reset) (0 ∷ 1 ∷ 1 ∷ 1 ∷ 1 ∷ []) (0 ∷ 0 ∷ 0 ∷ 1 ∷ 1 ∷ []) ∷
    -- immediate (good, a status): the microseconds; the status
    row (immediate_of (r.Done 5 9) ∷ immediate_of (r.Status 2 9) ∷ []) (9 ∷ 0 ∷ []) (5 ∷ 2 ∷ []) ∷
    -- fault_of: both 5; exchanged
    row (told (refusal (fault_of f.Memory)) ++ told (refusal (fault_of f.Address))) (5 ∷ 5 ∷ []) (18 ∷ 5 ∷ []) ∷
    -- failure_of (a status, Timeout, Busy): status and microseconds change places; a Timeout told as the bus
    row (told (refusal (failure_of (r.Status 2 50))) ++ told (refusal (failure_of (r.Timeout 60))) ++ told (refusal (failure_of r.Busy)))
    (6 ∷ 50 ∷ 2 ∷ 7 ∷ 60 ∷ 8 ∷ 0 ∷ []) (6 ∷ 2 ∷ 50 ∷ 9 ∷ 60 ∷ 8 ∷ 0 ∷ []) ∷
    -- broken_by (a status, Timeout): a status breaks; a Timeout does not
    row (yes (broken_by (r.Status 2 50) no_books).wire.broken ∷ yes (broken_by (r.Timeout 60) no_books).wire.broken ∷ []) (1 ∷ 1 ∷ []) (0 ∷ 0 ∷ []) ∷
    -- took (toggle, whether a command may run): the toggle of before; its end seen
    row (yes (took_by head timed_out).wire.toggle ∷ yes (took_by head timed_out).wire.running ∷ []) (1 ∷ 1 ∷ []) (0 ∷ 0 ∷ []) ∷
    -- breaks (broken, silent): not; silent too
    row (yes (break_of head).wire.broken ∷ yes (break_of head).wire.silent ∷ []) (0 ∷ 0 ∷ []) (1 ∷ 1 ∷ []) ∷
    -- silenced (broken, silent): broken; both
    row (yes (silence_of head).wire.broken ∷ yes (silence_of head).wire.silent ∷ []) (1 ∷ 0 ∷ []) (1 ∷ 1 ∷ []) ∷
    -- lend (how many are lent, how many ranges): not counted; counted as a range
    row ((lent_to opened).lists.lends ∷ (lent_to opened).lists.ranges ∷ []) (1 ∷ 2 ∷ []) (1 ∷ 3 ∷ []) ∷
    -- lend, all 64 lent: a 65th; the first again
    row ((lent_to (counting 14 64)).lists.lends ∷ []) (65 ∷ []) (0 ∷ []) ∷
    []

-- a session's own functions
abbrev pub sessions : List Row
sessions =
    -- Core::fresh (toggle, whether a command runs, ranges, lends): toggle 0; all slots counted
    row (yes fresh.books.wire.toggle ∷ yes fresh.books.wire.running ∷ fresh.books.lists.ranges ∷ fresh.books.lists.lends ∷ [])
    (0 ∷ 0 ∷ 0 ∷ 0 ∷ []) (1 ∷ 0 ∷ 14 ∷ 64 ∷ []) ∷
    -- Core::fresh (the UAR BAR, most EQs, revision 3): the register's number; revision 3 before the card has said so
    row (fresh.info.uar.index ∷ fresh.info.func.max_eqs ∷ yes fresh.info.rev3 ∷ []) (2 ∷ 0 ∷ 0 ∷ []) (0 ∷ 0 ∷ 1 ∷ []) ∷
    -- made_in (a buffer, a task of another kind): told as 18; a buffer whatever the task was
    row (made (made_in (e.Made (m.Ready buffer))) ++ made (made_in e.Freed)) (0 ∷ 7 ∷ 18 ∷ []) (0 ∷ 7 ∷ 0 ∷ 0 ∷ []) ∷
    -- Core::fresh (stage, task, failure, closing): open at once; kept before anything was held
    row (stands fresh ++ (why fresh.failure ++ closing_words fresh.closing)) (1 ∷ 0 ∷ 0 ∷ 0 ∷ 0 ∷ 0 ∷ []) (0 ∷ 0 ∷ 0 ∷ 0 ∷ 0 ∷ 2 ∷ []) ∷
    -- start: the stage of before; the task of before
    row (stands_of (start_of (head_of fresh) (g.Close k.Reset) t.Look)) (0 ∷ 0 ∷ 0 ∷ 7 ∷ []) (6 ∷ 6 ∷ 0 ∷ 0 ∷ []) ∷
    -- send, silent: toggle 0; the catastrophic buffer is read
    row (task_words (send_of quiet (g.Close k.CloseHca) (imm_of 8 0 0 0)).task)
    (8 ∷ 0 ∷ 0 ∷ 8 ∷ 0 ∷ 0 ∷ 0 ∷ 0 ∷ 0 ∷ 0 ∷ 1 ∷ 0 ∷ 0 ∷ []) (8 ∷ 0 ∷ 0 ∷ 8 ∷ 0 ∷ 0 ∷ 0 ∷ 0 ∷ 1 ∷ 0 ∷ 0 ∷ 0 ∷ 256 ∷ []) ∷
    -- Plan::new (what is written, undo records): the outbox zeroed; no record left
    row (fills (plan_in (h.leads head w.Nothing 2) none_behind)) (1 ∷ 0 ∷ 0 ∷ 0 ∷ 2 ∷ 0 ∷ 0 ∷ 0 ∷ 0 ∷ 0 ∷ 1 ∷ []) (1 ∷ 0 ∷ 0 ∷ 0 ∷ 0 ∷ 0 ∷ 0 ∷ 0 ∷ 0 ∷ 0 ∷ 0 ∷ []) ∷
    []

-- giving, closing: where each step leads
abbrev pub closings : List Row
closings =
    -- cmd_in (a Timeout, a task of another kind): that counts as good; with toggle 0
    row (ended (close.cmd_in lost) ++ ended (close.cmd_in e.Freed)) (0 ∷ 7 ∷ 60000000 ∷ 0 ∷ 1 ∷ 9 ∷ 0 ∷ 1 ∷ []) (0 ∷ 7 ∷ 60000000 ∷ 0 ∷ 0 ∷ 9 ∷ 0 ∷ 0 ∷ []) ∷
    -- reset_in (good, a task of another kind): that counts as good; none is good
    row (yes (is_good (close.reset_in (e.Reset x.Good))) ∷ yes (is_good (close.reset_in e.Freed)) ∷ []) (1 ∷ 1 ∷ []) (0 ∷ 0 ∷ []) ∷
    -- is_done: a status is; a Timeout is
    row (ends is_done) (1 ∷ 1 ∷ 0 ∷ 0 ∷ 0 ∷ []) (1 ∷ 0 ∷ 1 ∷ 0 ∷ 0 ∷ []) ∷
    -- is_held (an empty slot, one with a run): always; never
    row (yes (is_held no_slot) ∷ yes (is_held (bare 0 7 2)) ∷ []) (1 ∷ 1 ∷ []) (0 ∷ 0 ∷ []) ∷
    -- ends: open; the command goes on
    row (stands_of (start_of (head_of sending) g.Ended t.Rest)) (1 ∷ 0 ∷ 0 ∷ 0 ∷ []) (2 ∷ 0 ∷ 0 ∷ 8 ∷ []) ∷
    -- closes (the closing, ranges, lends): told as clean; the counts cleared
    row (closing_words (close_as head closing.Kept).closing ++ ((close_as head closing.Kept).ranges ∷ (close_as head closing.Kept).lends ∷ []))
    (0 ∷ 2 ∷ 1 ∷ []) (2 ∷ 0 ∷ 0 ∷ []) ∷
    -- free_from, slot 1 (the first range is next): the lent buffer once more; the first range kept
    row (leads (close.frees_plan 81 1 (having opened) 2)) (6 ∷ 7 ∷ 0 ∷ 6 ∷ 2 ∷ []) (6 ∷ 7 ∷ 65 ∷ 6 ∷ 2 ∷ []) ∷
    -- free_from, behind the last slot: the outbox once more; ended, the owner not released
    row (leads (close.frees_plan 0 82 (having opened) 2)) (6 ∷ 7 ∷ 81 ∷ 6 ∷ 2 ∷ []) (2 ∷ 0 ∷ 0 ∷ 0 ∷ 2 ∷ []) ∷
    -- give (and the closing): told as clean; frees from slot 1, the lent buffer kept
    row (closes (close.give_plan (having opened) closing.Reset 0)) (6 ∷ 7 ∷ 0 ∷ 6 ∷ 0 ∷ 0 ∷ []) (6 ∷ 7 ∷ 64 ∷ 6 ∷ 0 ∷ 1 ∷ []) ∷
    -- rests (what was given, task): not told; the task goes on
    row (gave_at opened (start_of (head_of sending) (g.Open (v.Command 5 9)) t.Rest).stage ++ stands_of (start_of (head_of sending) (g.Open (v.Command 5 9)) t.Rest)) (0 ∷ 1 ∷ 0 ∷ 0 ∷ 0 ∷ []) (0 ∷ 5 ∷ 9 ∷ 1 ∷ 1 ∷ 5 ∷ 8 ∷ []) ∷
    -- reset, in the midst of another reset (stage, undo records, its first question): it goes on with the old one; it looks for the BAR
    row (leads (close.reset_plan resetting 1) ++ question_words (work_asks (close.reset_plan resetting 1).session.work))
    (6 ∷ 6 ∷ 0 ∷ 3 ∷ 1 ∷ 2 ∷ 0x34 ∷ 0 ∷ 0 ∷ []) (6 ∷ 6 ∷ 0 ∷ 4 ∷ 1 ∷ 2 ∷ 0 ∷ 0 ∷ 0 ∷ []) ∷
    -- restore: the attributes of before not looked at; the owner cleared once more
    row (carries (close.restore_plan (having opened) 2)) (6 ∷ 9 ∷ 0 ∷ 9 ∷ 2 ∷ 2 ∷ 0 ∷ 0 ∷ []) (6 ∷ 9 ∷ 0 ∷ 9 ∷ 2 ∷ 0 ∷ 0 ∷ 0 ∷ []) ∷
    -- release: the attributes at once, the card still owned; the owner cleared without the wait
    row (carries (close.release_plan (having opened) 2)) (6 ∷ 9 ∷ 0 ∷ 9 ∷ 2 ∷ 2 ∷ 0x70 ∷ 0 ∷ []) (6 ∷ 8 ∷ 0 ∷ 9 ∷ 2 ∷ 3 ∷ 0 ∷ 0 ∷ []) ∷
    -- stop, a record on the list: always resets; the record not taken off
    row (posts (close.stop_plan (having opened) (newest 2 0x20))) (6 ∷ 6 ∷ 0 ∷ 3 ∷ 2 ∷ 0 ∷ 0 ∷ 0 ∷ 0 ∷ 0 ∷ []) (6 ∷ 0 ∷ 4294967294 ∷ 8 ∷ 2 ∷ 0x20 ∷ 1 ∷ 2 ∷ 3 ∷ 0 ∷ []) ∷
    -- stop, broken: the record is sent; everything is freed
    row (leads (close.stop_plan (having (flagged false true false opened)) (newest 2 0x20))) (6 ∷ 0 ∷ 4294967294 ∷ 8 ∷ 1 ∷ []) (6 ∷ 7 ∷ 0 ∷ 6 ∷ 2 ∷ []) ∷
    -- stop, broken by a quiesce: closed without a reset; quiet again
    row (leads (close.stop_plan (having (flagged false true true opened)) (newest 0 0))) (6 ∷ 1 ∷ 0 ∷ 8 ∷ 0 ∷ []) (6 ∷ 5 ∷ 0 ∷ 9 ∷ 0 ∷ []) ∷
    -- stop, a record with a reserved opcode: it is sent; it is taken off
    row (leads (close.stop_plan (having opened) (newest 2 0x008))) (6 ∷ 0 ∷ 4294967294 ∷ 8 ∷ 1 ∷ []) (6 ∷ 6 ∷ 0 ∷ 3 ∷ 1 ∷ []) ∷
    -- stop, no record: the ranges before CLOSE_HCA; opcode 0x009
    row (posts (close.stop_plan (having opened) (newest 0 0))) (6 ∷ 2 ∷ 1 ∷ 8 ∷ 0 ∷ 0xff9 ∷ 0 ∷ 1 ∷ 0x20000 ∷ 0 ∷ []) (6 ∷ 1 ∷ 0 ∷ 8 ∷ 0 ∷ 9 ∷ 0 ∷ 0 ∷ 0 ∷ 0 ∷ []) ∷
    -- stop, INIT_HCA not seen good: CLOSE_HCA is sent; the oldest range first
    row (posts (close.stop_plan (having before) (newest 0 0))) (6 ∷ 1 ∷ 0 ∷ 8 ∷ 0 ∷ 8 ∷ 0 ∷ 0 ∷ 0 ∷ 0 ∷ []) (6 ∷ 2 ∷ 0 ∷ 8 ∷ 0 ∷ 0xff9 ∷ 0 ∷ 1 ∷ 0x10000 ∷ 0 ∷ []) ∷
    -- stop, nothing to send and QUERY_FW not seen done: the mailboxes are freed; all is kept
    row (closes (close.stop_plan (having (flagged true false false boxed)) (newest 0 0))) (6 ∷ 7 ∷ 80 ∷ 6 ∷ 0 ∷ 0 ∷ []) (6 ∷ 8 ∷ 0 ∷ 9 ∷ 0 ∷ 2 ∷ []) ∷
    -- quiesce, a record (silent, broken): not silent; broken before its commands
    row (flags (close.quiesce_plan (having opened) (newest 2 0x20))) (6 ∷ 0 ∷ 4294967294 ∷ 8 ∷ 1 ∷ 0 ∷ 0 ∷ 0 ∷ []) (6 ∷ 0 ∷ 4294967294 ∷ 8 ∷ 1 ∷ 0 ∷ 1 ∷ 1 ∷ []) ∷
    -- quiesce, broken: resets; the record is sent
    row (leads (close.quiesce_plan (having (flagged false true false opened)) (newest 2 0x20))) (6 ∷ 6 ∷ 0 ∷ 3 ∷ 2 ∷ []) (6 ∷ 0 ∷ 4294967294 ∷ 8 ∷ 1 ∷ []) ∷
    []

-- giving, closing: `closed`, by what the task was for; where a buffer was freed, the rows are those of `free_from`, too
abbrev pub closed : List Row
closed =
    -- an undo command, good, one more: CLOSE_HCA though a record is left; the record not taken off
    row (leads (close.close_plan (having opened) (k.Undo 7) done (newest 1 0x20))) (6 ∷ 1 ∷ 0 ∷ 8 ∷ 1 ∷ []) (6 ∷ 0 ∷ 6 ∷ 8 ∷ 1 ∷ []) ∷
    -- an undo command, good, the last: CLOSE_HCA not sent; all is freed
    row (leads (close.close_plan (having opened) (k.Undo 7) done (newest 0 0))) (6 ∷ 2 ∷ 1 ∷ 8 ∷ 0 ∷ []) (6 ∷ 7 ∷ 0 ∷ 6 ∷ 0 ∷ []) ∷
    -- an undo command, refused: the next one is sent; CLOSE_HCA is sent
    row (leads (close.close_plan (having opened) (k.Undo 7) failed (newest 1 0x20))) (6 ∷ 0 ∷ 6 ∷ 8 ∷ 0 ∷ []) (6 ∷ 1 ∷ 0 ∷ 8 ∷ 1 ∷ []) ∷
    -- CLOSE_HCA, good: the oldest range first; the lent buffer freed before the ranges are unmapped
    row (posts (close.close_plan (having opened) k.CloseHca done (newest 0 0)))
    (6 ∷ 2 ∷ 0 ∷ 8 ∷ 0 ∷ 0xff9 ∷ 0 ∷ 1 ∷ 0x10000 ∷ 0 ∷ []) (6 ∷ 7 ∷ 0 ∷ 6 ∷ 0 ∷ 0 ∷ 0 ∷ 0 ∷ 0 ∷ 0 ∷ []) ∷
    -- CLOSE_HCA, refused: goes on; frees
    row (leads (close.close_plan (having opened) k.CloseHca failed (newest 0 0))) (6 ∷ 2 ∷ 1 ∷ 8 ∷ 0 ∷ []) (6 ∷ 7 ∷ 0 ∷ 6 ∷ 0 ∷ []) ∷
    -- UNMAP_ICM, good, the last: UNMAP_FA before UNMAP_ICM_AUX; the opcode of MAP_ICM_AUX
    row (posts (close.close_plan (having opened) (k.Unmap 0) done (newest 0 0)))
    (6 ∷ 4 ∷ 0 ∷ 8 ∷ 0 ∷ 0xffe ∷ 0 ∷ 0 ∷ 0 ∷ 0 ∷ []) (6 ∷ 3 ∷ 0 ∷ 8 ∷ 0 ∷ 0xffc ∷ 0 ∷ 0 ∷ 0 ∷ 0 ∷ []) ∷
    -- UNMAP_ICM, refused: frees without a reset; goes on
    row (leads (close.close_plan (having opened) (k.Unmap 1) failed (newest 0 0))) (6 ∷ 7 ∷ 0 ∷ 6 ∷ 0 ∷ []) (6 ∷ 2 ∷ 0 ∷ 8 ∷ 0 ∷ []) ∷
    -- UNMAP_ICM_AUX, good: frees, the firmware area still mapped; the opcode of MAP_FA
    row (posts (close.close_plan (having opened) k.UnmapAux done (newest 0 0)))
    (6 ∷ 7 ∷ 0 ∷ 6 ∷ 0 ∷ 0 ∷ 0 ∷ 0 ∷ 0 ∷ 0 ∷ []) (6 ∷ 4 ∷ 0 ∷ 8 ∷ 0 ∷ 0xfff ∷ 0 ∷ 0 ∷ 0 ∷ 0 ∷ []) ∷
    -- UNMAP_FA, good (with the buffer freed first, and the closing): keeps every page; the first lent buffer kept
    row (carries (close.close_plan (having opened) k.UnmapFa done (newest 0 0)) ++ closing_words (close.close_plan (having opened) k.UnmapFa done (newest 0 0)).session.closing)
    (6 ∷ 8 ∷ 0 ∷ 9 ∷ 0 ∷ 0 ∷ 0 ∷ 0 ∷ 2 ∷ []) (6 ∷ 7 ∷ 64 ∷ 6 ∷ 0 ∷ 9 ∷ 1 ∷ 0 ∷ 0 ∷ []) ∷
    -- UNMAP_FA, Timeout: frees; waits for nothing and ends
    row (leads (close.close_plan (having opened) k.UnmapFa lost (newest 0 0))) (6 ∷ 7 ∷ 0 ∷ 6 ∷ 0 ∷ []) (2 ∷ 0 ∷ 0 ∷ 0 ∷ 0 ∷ []) ∷
    -- UNMAP_FA of a quiesce, good (running, broken, silent): frees; not broken
    row (flags (close.close_plan (having (flagged false false true opened)) k.UnmapFa done (newest 0 0)))
    (6 ∷ 7 ∷ 0 ∷ 6 ∷ 0 ∷ 0 ∷ 0 ∷ 1 ∷ []) (6 ∷ 5 ∷ 0 ∷ 9 ∷ 0 ∷ 0 ∷ 0 ∷ 1 ∷ []) ∷
    -- UNMAP_FA of a quiesce, refused: gives everything back; resets
    row (leads (close.close_plan (having (flagged false false true opened)) k.UnmapFa failed (newest 0 0))) (6 ∷ 7 ∷ 0 ∷ 6 ∷ 0 ∷ []) (6 ∷ 6 ∷ 0 ∷ 3 ∷ 0 ∷ []) ∷
    -- a reset, good (and the closing): told as clean; all is kept
    row (closes (close.close_plan (having opened) k.Reset (e.Reset x.Good) (newest 0 0))) (6 ∷ 7 ∷ 0 ∷ 6 ∷ 0 ∷ 0 ∷ []) (6 ∷ 8 ∷ 0 ∷ 9 ∷ 0 ∷ 2 ∷ []) ∷
    -- a reset, failed (and the closing): frees; told as reset
    row (closes (close.close_plan (having opened) k.Reset (e.Reset x.Vendor) (newest 0 0))) (6 ∷ 7 ∷ 0 ∷ 6 ∷ 0 ∷ 2 ∷ []) (6 ∷ 8 ∷ 0 ∷ 9 ∷ 0 ∷ 1 ∷ []) ∷
    -- the end of a quiesce: the session ended; frees
    row (leads (close.close_plan (having opened) k.Quiesce e.Parted (newest 2 0x20))) (2 ∷ 0 ∷ 0 ∷ 0 ∷ 2 ∷ []) (6 ∷ 7 ∷ 0 ∷ 6 ∷ 2 ∷ []) ∷
    -- the last lent buffer freed: the same one again; the ranges kept
    row (leads (close.close_plan (having opened) (k.Free 0) e.Freed (newest 0 0))) (6 ∷ 7 ∷ 0 ∷ 6 ∷ 0 ∷ []) (6 ∷ 7 ∷ 78 ∷ 6 ∷ 0 ∷ []) ∷
    -- the last range freed: the auxiliary area kept; all else kept
    row (leads (close.close_plan (having opened) (k.Free 65) e.Freed (newest 0 0))) (6 ∷ 7 ∷ 79 ∷ 6 ∷ 0 ∷ []) (6 ∷ 8 ∷ 0 ∷ 9 ∷ 0 ∷ []) ∷
    -- the auxiliary area freed: once more; the firmware area kept
    row (leads (close.close_plan (having opened) (k.Free 78) e.Freed (newest 0 0))) (6 ∷ 7 ∷ 78 ∷ 6 ∷ 0 ∷ []) (6 ∷ 7 ∷ 80 ∷ 6 ∷ 0 ∷ []) ∷
    -- the firmware area freed: the inbox kept; both mailboxes kept
    row (leads (close.close_plan (having opened) (k.Free 79) e.Freed (newest 0 0))) (6 ∷ 7 ∷ 81 ∷ 6 ∷ 0 ∷ []) (6 ∷ 8 ∷ 0 ∷ 9 ∷ 0 ∷ []) ∷
    -- the inbox freed: once more; the outbox kept
    row (leads (close.close_plan (having opened) (k.Free 80) e.Freed (newest 0 0))) (6 ∷ 7 ∷ 80 ∷ 6 ∷ 0 ∷ []) (6 ∷ 8 ∷ 0 ∷ 9 ∷ 0 ∷ []) ∷
    -- the outbox freed: once more; the owner not released
    row (leads (close.close_plan (having opened) (k.Free 81) e.Freed (newest 0 0))) (6 ∷ 7 ∷ 81 ∷ 6 ∷ 0 ∷ []) (6 ∷ 9 ∷ 0 ∷ 9 ∷ 0 ∷ []) ∷
    -- a slot that there is none of freed: from the first one again; ended, the owner not released
    row (leads (close.close_plan (having opened) (k.Free 90) e.Freed (newest 0 0))) (6 ∷ 7 ∷ 0 ∷ 6 ∷ 0 ∷ []) (2 ∷ 0 ∷ 0 ∷ 0 ∷ 0 ∷ []) ∷
    -- the owner released: ended, the attributes left changed; released once more
    row (carries (close.close_plan (having opened) k.Release e.Parted (newest 0 0))) (2 ∷ 0 ∷ 0 ∷ 0 ∷ 0 ∷ 0 ∷ 0 ∷ 0 ∷ []) (6 ∷ 8 ∷ 0 ∷ 9 ∷ 0 ∷ 0 ∷ 0 ∷ 0 ∷ []) ∷
    -- the attributes restored: open; restored once more
    row (leads (close.close_plan (having opened) k.Restore e.Parted (newest 0 0))) (1 ∷ 0 ∷ 0 ∷ 0 ∷ 0 ∷ []) (6 ∷ 9 ∷ 0 ∷ 9 ∷ 0 ∷ []) ∷
    []

-- client: how a call begins, and what follows when its task has ended
abbrev pub clients : List Row
clients =
    -- command, WithOut (command, what is written): the inbox is named; the outbox not zeroed
    row (fills (client.command_plan (having opened) (request form.WithOut) 2))
    (5 ∷ 0 ∷ 2 ∷ 8 ∷ 2 ∷ 0x43 ∷ 1 ∷ 2 ∷ 0 ∷ 0x5000 ∷ 1 ∷ []) (5 ∷ 0 ∷ 2 ∷ 8 ∷ 2 ∷ 0x43 ∷ 1 ∷ 2 ∷ 0 ∷ 0x6000 ∷ 0 ∷ []) ∷
    -- command, InImm: the outbox is named; the parameter is kept
    row (posts (client.command_plan (having opened) (request form.InImm) 2))
    (5 ∷ 0 ∷ 3 ∷ 8 ∷ 2 ∷ 0x43 ∷ 1 ∷ 2 ∷ 0x6000 ∷ 0 ∷ []) (5 ∷ 0 ∷ 3 ∷ 8 ∷ 2 ∷ 0x43 ∷ 1 ∷ 2 ∷ 3 ∷ 0 ∷ []) ∷
    -- command, Imm: the modifiers change places; the inbox is named
    row (posts (client.command_plan (having opened) (request form.Imm) 2))
    (5 ∷ 0 ∷ 0 ∷ 8 ∷ 2 ∷ 0x43 ∷ 2 ∷ 1 ∷ 3 ∷ 0 ∷ []) (5 ∷ 0 ∷ 0 ∷ 8 ∷ 2 ∷ 0x43 ∷ 1 ∷ 2 ∷ 0x5000 ∷ 0 ∷ []) ∷
    -- lend, 4,097 bytes: not whole pages; one page too few
    row (carries (client.lend_plan (having opened) 4097 2)) (5 ∷ 1 ∷ 1 ∷ 5 ∷ 2 ∷ 4097 ∷ 0 ∷ 0 ∷ []) (5 ∷ 1 ∷ 1 ∷ 5 ∷ 2 ∷ 4096 ∷ 0 ∷ 0 ∷ []) ∷
    -- lend, one buffer lent: in its slot once more; in the slot behind the next
    row (leads (client.lend_plan (having opened) 4096 2)) (5 ∷ 1 ∷ 0 ∷ 5 ∷ 2 ∷ []) (5 ∷ 1 ∷ 2 ∷ 5 ∷ 2 ∷ []) ∷
    -- lend, too many bytes: 5; nothing is asked and nothing told
    row (gave (client.lend_plan (having opened) (2 ^ 64 - 4095) 2).session) (5 ∷ []) (0 ∷ []) ∷
    -- undo_to, a record above the mark: the record not taken off; the modifiers change places
    row (posts (client.undo_to_plan (having opened) 1 (newest 2 0x20))) (5 ∷ 2 ∷ 1 ∷ 8 ∷ 2 ∷ 0x20 ∷ 1 ∷ 2 ∷ 3 ∷ 0 ∷ []) (5 ∷ 2 ∷ 1 ∷ 8 ∷ 1 ∷ 0x20 ∷ 2 ∷ 1 ∷ 3 ∷ 0 ∷ []) ∷
    -- undo_to, no record above the mark: taken off whatever the mark; 23
    row (leads (client.undo_to_plan (having opened) 2 (newest 2 0x20))) (5 ∷ 2 ∷ 2 ∷ 8 ∷ 1 ∷ []) (1 ∷ 3 ∷ 22 ∷ 0 ∷ 2 ∷ []) ∷
    -- undo_to, broken: the record is sent; 22
    row (leaves (client.undo_to_plan (having (flagged false true false opened)) 1 (newest 2 0x20))) (1 ∷ []) (22 ∷ 2 ∷ []) ∷
    -- undo_to, a reserved opcode: the record taken off; 23
    row (leaves (client.undo_to_plan (having opened) 1 (newest 2 0x008))) (22 ∷ 1 ∷ []) (23 ∷ 2 ∷ []) ∷
    -- served, a command's Timeout (broken after it): not broken; told as a failed bus
    row (gives (client.client_plan (having opened) (i.Command form.WithOut) lost (newest 2 0x20))) (7 ∷ 60000000 ∷ 1 ∷ 0 ∷ 0 ∷ []) (9 ∷ 60000000 ∷ 1 ∷ 1 ∷ 0 ∷ []) ∷
    -- served, a command's status: broken; status and microseconds change places
    row (gives (client.client_plan (having opened) (i.Command form.Imm) failed (newest 2 0x20))) (6 ∷ 2 ∷ 50 ∷ 0 ∷ 1 ∷ 0 ∷ []) (6 ∷ 50 ∷ 2 ∷ 0 ∷ 0 ∷ 0 ∷ []) ∷
    -- served, WithOut, good: no wait told; an immediate that the form has not
    row (gave (client.client_plan (having opened) (i.Command form.WithOut) done (newest 2 0x20)).session) (0 ∷ 0 ∷ 0 ∷ []) (0 ∷ 5 ∷ 9 ∷ []) ∷
    -- served, Imm, good: the immediate not told; immediate and microseconds change places
    row (gave (client.client_plan (having opened) (i.Command form.Imm) done (newest 2 0x20)).session) (0 ∷ 0 ∷ 9 ∷ []) (0 ∷ 9 ∷ 5 ∷ []) ∷
    -- served, a buffer lent (the one of its slot, how many then): not counted; the one of the slot before
    row (lends (client.client_plan (having (puts 1 (whole 0 other) opened)) (i.Lend 1) (e.Made (m.Ready other)) (newest 2 0x20)))
    (0 ∷ 8 ∷ 0x6000 ∷ 1 ∷ 1 ∷ []) (0 ∷ 7 ∷ 0x5000 ∷ 2 ∷ 2 ∷ []) ∷
    -- served, no buffer for its address (how many then): 5; listed
    row (lends (client.client_plan (having opened) (i.Lend 1) (e.Made (m.Refused f.Address)) (newest 2 0x20))) (5 ∷ 1 ∷ []) (18 ∷ 2 ∷ []) ∷
    -- served, an undo command, good, one more above the mark: it ends; the record not taken off
    row (leads (client.client_plan (having opened) (i.UndoTo 1 7) done (newest 2 0x20))) (1 ∷ 0 ∷ 0 ∷ 0 ∷ 2 ∷ []) (5 ∷ 2 ∷ 1 ∷ 8 ∷ 2 ∷ []) ∷
    -- served, an undo command, refused (broken after it): not broken; told as the status
    row (gives (client.client_plan (having opened) (i.UndoTo 1 7) failed (newest 2 0x20))) (23 ∷ 0 ∷ 0 ∷ 0 ∷ []) (6 ∷ 2 ∷ 50 ∷ 0 ∷ 1 ∷ 0 ∷ []) ∷
    []

-- opening_values: what an opening notes as it goes
abbrev pub notes : List Row
notes =
    -- attr_in (enabled, a task of another kind): that counts as enabled; refused always
    row (attributes (plan.attr_in (e.Attr (ta.Enabled 0x70))) ++ attributes (plan.attr_in e.Freed)) (0 ∷ 0x70 ∷ 0 ∷ 0 ∷ []) (1 ∷ 1 ∷ []) ∷
    -- claim_in (good, a task of another kind): that counts as good; refused always
    row (claimed (plan.claim_in (e.Claim tc.Good)) ++ claimed (plan.claim_in e.Freed)) (0 ∷ 0 ∷ []) (2 ∷ 2 ∷ []) ∷
    -- bar_in (BAR 2, a task of another kind): BAR 0 from that; refused always
    row (found (plan.bar_in (e.Bar (Ok bar))) ++ found (plan.bar_in e.Freed)) (0 ∷ 2 ∷ 0 ∷ 0 ∷ []) (4 ∷ 4 ∷ []) ∷
    -- toggle_in (looked, toggle 0; a task of another kind): 1 always; 0 from that
    row (yes (plan.toggle_in (e.Looked false)) ∷ yes (plan.toggle_in e.Freed) ∷ []) (1 ∷ 1 ∷ []) (0 ∷ 0 ∷ []) ∷
    -- fw_failure_of (status 0x50, another one, Timeout): 0x50 told as a status; every status told as 10
    row (told (refusal (fw_failure_of (r.Status 0x50 7))) ++ (told (refusal (fw_failure_of (r.Status 2 7))) ++ told (refusal (fw_failure_of (r.Timeout 60)))))
    (6 ∷ 0x50 ∷ 7 ∷ 6 ∷ 2 ∷ 7 ∷ 7 ∷ 60 ∷ []) (10 ∷ 10 ∷ 7 ∷ 60 ∷ []) ∷
    -- with_toggle (toggle, then the flags): the toggle of before; the flags cleared
    row (yes (with_toggle (flagged true true true no_books) false).wire.toggle ∷ flags_in (with_toggle (flagged true true true no_books) false))
    (1 ∷ 1 ∷ 1 ∷ 1 ∷ []) (0 ∷ 0 ∷ 0 ∷ 0 ∷ []) ∷
    -- with_catas: still unknown; in BAR 0
    row (place (with_catas no_books firmware).wire.catas) [] (0 ∷ 0x100 ∷ []) ∷
    -- with_original: not kept; kept as INIT_HCA seen good too
    row ((original_as (head_of fresh) 0x70).original ∷ yes (original_as (head_of fresh) 0x70).started ∷ []) (0 ∷ 0 ∷ []) (0x70 ∷ 1 ∷ []) ∷
    -- now_started: not; the attributes lost
    row (yes (started_as (head_of (having boxed))).started ∷ (started_as (head_of (having boxed))).original ∷ []) (0 ∷ 0x70 ∷ []) (1 ∷ 0 ∷ []) ∷
    -- range_at (cMPT's second quarter, MCG, behind the ranges): the quarters at one place; the last range behind them too
    row (spot (range_at known 1) ++ (spot (range_at known 13) ++ spot (range_at known 14)))
    (0 ∷ 0x1000 ∷ 0x1000c0000 ∷ 0x40000 ∷ 0 ∷ 0 ∷ []) (0x40000000 ∷ 0x1000 ∷ 0x1000c0000 ∷ 0x40000 ∷ 0x1000c0000 ∷ 0x40000 ∷ []) ∷
    -- op_for: the areas change places; the opcodes that unmap
    row (op_for a.Fa ∷ op_for a.Aux ∷ op_for (a.Range 3) ∷ []) (0xffc ∷ 0xfff ∷ 0xffa ∷ []) (0xffe ∷ 0xffb ∷ 0xff9 ∷ []) ∷
    -- enters, the firmware area (what is held, ranges, lends): as a range; lent
    row (kept (enters a.Fa boxed)) (1 ∷ 1 ∷ 0 ∷ 0 ∷ 1 ∷ 0 ∷ []) (1 ∷ 1 ∷ 0 ∷ 0 ∷ 0 ∷ 1 ∷ []) ∷
    -- enters, the auxiliary area: as a range; lent
    row (kept (enters a.Aux boxed)) (1 ∷ 1 ∷ 0 ∷ 0 ∷ 1 ∷ 0 ∷ []) (1 ∷ 1 ∷ 0 ∷ 0 ∷ 0 ∷ 1 ∷ []) ∷
    -- enters, a range: not counted; lent
    row (kept (enters (a.Range 0) boxed)) (1 ∷ 1 ∷ 0 ∷ 0 ∷ 0 ∷ 0 ∷ []) (1 ∷ 1 ∷ 0 ∷ 0 ∷ 0 ∷ 1 ∷ []) ∷
    -- enters, a range where there are fourteen (ranges, lends): a fifteenth; lent
    row ((enters (a.Range 14) (counting 14 0)).lists.ranges ∷ (enters (a.Range 14) (counting 14 0)).lists.lends ∷ []) (15 ∷ 0 ∷ []) (14 ∷ 1 ∷ []) ∷
    -- cut_in, the firmware area (no card address, device address, bytes): pages for bytes; the slot before, the auxiliary area's
    row (cutter_words (cut_in known a.Fa opened)) (1 ∷ 0 ∷ 0x9000 ∷ 1 ∷ []) (1 ∷ 0 ∷ 0xa000 ∷ 4096 ∷ []) ∷
    -- cut_in, the second range: the slot of the range before; without a card address
    row (cutter_words (cut_in known (a.Range 1) opened)) (0 ∷ 0x40000000 ∷ 0x9000 ∷ 4096 ∷ []) (1 ∷ 0 ∷ 0xa000 ∷ 4096 ∷ []) ∷
    -- with_cap (what QUERY_FUNC replaces): not noted; reserved and most EQs change places
    row ((with_cap no_info card).func.rsvd_eqs ∷ (with_cap no_info card).func.max_eqs ∷ (with_cap no_info card).func.rsvd_uars ∷ []) (0 ∷ 0 ∷ 0 ∷ []) (128 ∷ 4 ∷ 8 ∷ []) ∷
    -- with_revision (2, 3): 3 always; turned about
    row (yes (with_revision no_info 2).rev3 ∷ yes (with_revision no_info 3).rev3 ∷ []) (1 ∷ 1 ∷ []) (1 ∷ 0 ∷ []) ∷
    -- plan: nothing is written; no undo record is left
    row (fills (plan_in (h.leads head w.Outbox 2) none_behind)) (1 ∷ 0 ∷ 0 ∷ 0 ∷ 2 ∷ 0 ∷ 0 ∷ 0 ∷ 0 ∷ 0 ∷ 0 ∷ []) (1 ∷ 0 ∷ 0 ∷ 0 ∷ 0 ∷ 0 ∷ 0 ∷ 0 ∷ 0 ∷ 0 ∷ 1 ∷ []) ∷
    -- ask: the outbox as input; the outbox not zeroed
    row (fills (plan.ask_plan (having opened) b.DevCap 0x003 0 (newest 2 0x20)))
    (4 ∷ 5 ∷ 0 ∷ 8 ∷ 2 ∷ 3 ∷ 0 ∷ 0 ∷ 0x6000 ∷ 0 ∷ 1 ∷ []) (4 ∷ 5 ∷ 0 ∷ 8 ∷ 2 ∷ 3 ∷ 0 ∷ 0 ∷ 0 ∷ 0x6000 ∷ 0 ∷ []) ∷
    []

-- opening_values, areas, ports, opening: how it fails; `booted`, by what the task was for, with `made`, `map_ended`, `cap_replied` and `port_replied` among it
abbrev pub booting : List Row
booting =
    -- fail: told as 20; nothing is torn down
    row (fails (plan.fail_plan (having boxed) no.Short (newest 0 0))) (6 ∷ 7 ∷ 80 ∷ 6 ∷ 0 ∷ 20 ∷ []) (2 ∷ 0 ∷ 0 ∷ 0 ∷ 0 ∷ 21 ∷ []) ∷
    -- fail_by, Timeout: frees without a reset; told as a failed bus
    row (fails (plan.fail_by_plan (having boxed) (r.Timeout 60) (newest 0 0))) (6 ∷ 7 ∷ 80 ∷ 6 ∷ 0 ∷ 7 ∷ 60 ∷ []) (6 ∷ 6 ∷ 0 ∷ 3 ∷ 0 ∷ 9 ∷ 60 ∷ []) ∷
    -- give: the outbox is named; nothing is written
    row (fills (plan.give_plan (having opened) b.InitHca 0x007 w.InitHca (newest 2 0x20)))
    (4 ∷ 8 ∷ 0 ∷ 8 ∷ 2 ∷ 7 ∷ 0 ∷ 0 ∷ 0x6000 ∷ 0 ∷ 4 ∷ []) (4 ∷ 8 ∷ 0 ∷ 8 ∷ 2 ∷ 7 ∷ 0 ∷ 0 ∷ 0x5000 ∷ 0 ∷ 0 ∷ []) ∷
    -- imm: the inbox is named; the step before it
    row (posts (plan.imm_plan (having opened) b.RunFw 0xff6 0 (newest 2 0x20)))
    (4 ∷ 3 ∷ 0 ∷ 8 ∷ 2 ∷ 0xff6 ∷ 0 ∷ 0 ∷ 0x5000 ∷ 0 ∷ []) (4 ∷ 2 ∷ 0 ∷ 8 ∷ 2 ∷ 0xff6 ∷ 0 ∷ 0 ∷ 0 ∷ 0 ∷ []) ∷
    -- make, the auxiliary area: pages for bytes; the firmware area
    row (carries (plan.make_plan (having boxed) a.Aux 8192 (newest 0 0))) (4 ∷ 1 ∷ 1 ∷ 5 ∷ 0 ∷ 2 ∷ 0 ∷ 0 ∷ []) (4 ∷ 1 ∷ 0 ∷ 5 ∷ 0 ∷ 8192 ∷ 0 ∷ 0 ∷ []) ∷
    -- QUERY_FW, revision 3, two pages (the buffer's bytes, revision 3): pages for bytes; taken for revision 2
    row (carries (plan.boot_plan (having boxed) b.QueryFw done (fw_reply 3) (newest 0 0)) ++ (yes (plan.boot_plan (having boxed) b.QueryFw done (fw_reply 3) (newest 0 0)).session.info.rev3 ∷ []))
    (4 ∷ 1 ∷ 0 ∷ 5 ∷ 0 ∷ 4096 ∷ 0 ∷ 0 ∷ 1 ∷ []) (4 ∷ 1 ∷ 0 ∷ 5 ∷ 0 ∷ 8192 ∷ 0 ∷ 0 ∷ 0 ∷ []) ∷
    -- QUERY_FW, revision 1: goes on; told without the revision
    row (fails (plan.boot_plan (having boxed) b.QueryFw done (fw_reply 1) (newest 0 0))) (4 ∷ 1 ∷ 0 ∷ 5 ∷ 0 ∷ 0 ∷ []) (6 ∷ 7 ∷ 80 ∷ 6 ∷ 0 ∷ 11 ∷ []) ∷
    -- QUERY_FW, a reply too short: goes on; told as a failed bus
    row (fails (plan.boot_plan (having boxed) b.QueryFw done [] (newest 0 0))) (4 ∷ 1 ∷ 0 ∷ 5 ∷ 0 ∷ 0 ∷ []) (6 ∷ 7 ∷ 80 ∷ 6 ∷ 0 ∷ 9 ∷ 9 ∷ []) ∷
    -- QUERY_FW, status 0x50: told as a status; goes on
    row (fails (plan.boot_plan (having boxed) b.QueryFw (e.Cmd (record { result = r.Status 0x50 9; toggle = false })) [] (newest 0 0)))
    (6 ∷ 7 ∷ 80 ∷ 6 ∷ 0 ∷ 6 ∷ 0x50 ∷ 9 ∷ []) (4 ∷ 1 ∷ 0 ∷ 5 ∷ 0 ∷ 0 ∷ []) ∷
    -- QUERY_FW, Timeout: frees without a reset; told as a failed bus
    row (fails (plan.boot_plan (having boxed) b.QueryFw lost [] (newest 0 0))) (6 ∷ 7 ∷ 80 ∷ 6 ∷ 0 ∷ 7 ∷ 60000000 ∷ []) (6 ∷ 6 ∷ 0 ∷ 3 ∷ 0 ∷ 9 ∷ 60000000 ∷ []) ∷
    -- the firmware area is made (what is written, what is to be cut): no page list; cut from the auxiliary area's slot, which is empty
    row (fills (plan.boot_plan (having firmwared) (b.Make a.Fa) (e.Made (m.Ready spare)) [] (newest 0 0)) ++ drop 4 (stage_words (plan.boot_plan (having firmwared) (b.Make a.Fa) (e.Made (m.Ready spare)) [] (newest 0 0)).session.stage))
    (4 ∷ 2 ∷ 0 ∷ 0 ∷ 0 ∷ 0 ∷ 0 ∷ 0 ∷ 0 ∷ 0 ∷ 0 ∷ 1 ∷ 0 ∷ 0xa000 ∷ 4096 ∷ []) (4 ∷ 3 ∷ 0 ∷ 8 ∷ 0 ∷ 0xff6 ∷ 0 ∷ 0 ∷ 0 ∷ 0 ∷ 0 ∷ 0 ∷ 0 ∷ 0 ∷ 0 ∷ []) ∷
    -- the third range is made (ranges, what is to be cut): not counted; cut from the slot of the range before
    row ((plan.boot_plan (having third_made) (b.Make (a.Range 2)) (e.Made (m.Ready other)) [] (newest 0 0)).session.books.lists.ranges ∷ drop 4 (stage_words (plan.boot_plan (having third_made) (b.Make (a.Range 2)) (e.Made (m.Ready other)) [] (newest 0 0)).session.stage))
    (2 ∷ 0 ∷ 0 ∷ 0x6000 ∷ 4096 ∷ []) (3 ∷ 0 ∷ 0 ∷ 0xa000 ∷ 4096 ∷ []) ∷
    -- the firmware area is not to be had: told as 18; goes on
    row (fails (plan.boot_plan (having boxed) (b.Make a.Fa) (e.Made (m.Refused f.Memory)) [] (newest 0 0))) (6 ∷ 7 ∷ 80 ∷ 6 ∷ 0 ∷ 18 ∷ []) (4 ∷ 3 ∷ 0 ∷ 8 ∷ 0 ∷ 0 ∷ []) ∷
    -- MAP_FA, good, nothing left: the area once more; MOD_STAT_CFG before RUN_FW
    row (posts (plan.boot_plan (having boxed) (b.Map a.Fa (rest 0)) done [] (newest 0 0)))
    (4 ∷ 2 ∷ 0 ∷ 0 ∷ 0 ∷ 0 ∷ 0 ∷ 0 ∷ 0 ∷ 0 ∷ []) (4 ∷ 4 ∷ 0 ∷ 8 ∷ 0 ∷ 0x034 ∷ 0 ∷ 0 ∷ 0x5000 ∷ 0 ∷ []) ∷
    -- MAP_FA, good, a page left: RUN_FW, the rest not posted; posted and not written
    row (fills (plan.boot_plan (having boxed) (b.Map a.Fa (rest 4096)) done [] (newest 0 0)))
    (4 ∷ 3 ∷ 0 ∷ 8 ∷ 0 ∷ 0xff6 ∷ 0 ∷ 0 ∷ 0 ∷ 0 ∷ 0 ∷ []) (4 ∷ 2 ∷ 0 ∷ 0 ∷ 0 ∷ 0 ∷ 0 ∷ 0 ∷ 0 ∷ 0 ∷ 0 ∷ []) ∷
    -- MAP_FA, refused: goes on; frees the area though part of it may be mapped
    row (fails (plan.boot_plan (having firmwared) (b.Map a.Fa (rest 0)) failed [] (newest 0 0)))
    (4 ∷ 3 ∷ 0 ∷ 8 ∷ 0 ∷ 0 ∷ []) (6 ∷ 7 ∷ 79 ∷ 6 ∷ 0 ∷ 6 ∷ 2 ∷ 50 ∷ []) ∷
    -- MAP_ICM of the last range, good: a fifteenth range; INIT_HCA not written
    row (fills (plan.boot_plan (having opened) (b.Map (a.Range 13) (rest 0)) done [] (newest 0 0)))
    (4 ∷ 1 ∷ 2 ∷ 5 ∷ 0 ∷ 0 ∷ 0 ∷ 0 ∷ 0 ∷ 0 ∷ 0 ∷ []) (4 ∷ 8 ∷ 0 ∷ 8 ∷ 0 ∷ 7 ∷ 0 ∷ 0 ∷ 0x5000 ∷ 0 ∷ 0 ∷ []) ∷
    -- RUN_FW, good: MOD_STAT_CFG left out; its mailbox not written
    row (fills (plan.boot_plan (having boxed) b.RunFw done [] (newest 0 0)))
    (4 ∷ 5 ∷ 0 ∷ 8 ∷ 0 ∷ 3 ∷ 0 ∷ 0 ∷ 0 ∷ 0x6000 ∷ 1 ∷ []) (4 ∷ 4 ∷ 0 ∷ 8 ∷ 0 ∷ 0x034 ∷ 0 ∷ 0 ∷ 0x5000 ∷ 0 ∷ 0 ∷ []) ∷
    -- MOD_STAT_CFG, a status: fatal; sent again
    row (posts (plan.boot_plan (having boxed) b.ModStat failed [] (newest 0 0)))
    (6 ∷ 7 ∷ 80 ∷ 6 ∷ 0 ∷ 0 ∷ 0 ∷ 0 ∷ 0 ∷ 0 ∷ []) (4 ∷ 4 ∷ 0 ∷ 8 ∷ 0 ∷ 0x034 ∷ 0 ∷ 0 ∷ 0x5000 ∷ 0 ∷ []) ∷
    -- MOD_STAT_CFG, Timeout: passed over; not reset
    row (fails (plan.boot_plan (having boxed) b.ModStat lost [] (newest 0 0))) (4 ∷ 5 ∷ 0 ∷ 8 ∷ 0 ∷ 0 ∷ []) (6 ∷ 7 ∷ 80 ∷ 6 ∷ 0 ∷ 7 ∷ 60000000 ∷ []) ∷
    -- QUERY_DEV_CAP, good, revision 3: no port asked about; port 0
    row (posts (plan.boot_plan revised b.DevCap done cap_reply (newest 0 0)))
    (4 ∷ 7 ∷ 0 ∷ 8 ∷ 0 ∷ 0xffd ∷ 0 ∷ 0 ∷ 0x100121000 ∷ 0 ∷ []) (4 ∷ 6 ∷ 0 ∷ 8 ∷ 0 ∷ 0x043 ∷ 0 ∷ 0 ∷ 0 ∷ 0x6000 ∷ []) ∷
    -- QUERY_DEV_CAP, good, revision 2: a port asked about; pages for bytes
    row (posts (plan.boot_plan (having boxed) b.DevCap done cap_reply (newest 0 0)))
    (4 ∷ 6 ∷ 1 ∷ 8 ∷ 0 ∷ 0x043 ∷ 0 ∷ 1 ∷ 0 ∷ 0x6000 ∷ []) (4 ∷ 7 ∷ 0 ∷ 8 ∷ 0 ∷ 0xffd ∷ 0 ∷ 0 ∷ 0x100121 ∷ 0 ∷ []) ∷
    -- QUERY_DEV_CAP, a reply too short: goes on; told as a failed bus
    row (fails (plan.boot_plan (having boxed) b.DevCap done [] (newest 0 0))) (4 ∷ 7 ∷ 0 ∷ 8 ∷ 0 ∷ 0 ∷ []) (6 ∷ 7 ∷ 80 ∷ 6 ∷ 0 ∷ 9 ∷ 9 ∷ []) ∷
    -- QUERY_PORT, port 1 of 2, good: the layout, port 2 not asked about; port 1 again
    row (posts (plan.boot_plan two_ports (b.Port 1) done (replicate 40 0) (newest 0 0)))
    (4 ∷ 7 ∷ 0 ∷ 8 ∷ 0 ∷ 0xffd ∷ 0 ∷ 0 ∷ 0 ∷ 0 ∷ []) (4 ∷ 6 ∷ 1 ∷ 8 ∷ 0 ∷ 0x043 ∷ 0 ∷ 1 ∷ 0 ∷ 0x6000 ∷ []) ∷
    -- QUERY_PORT, the last one, good, an entry that is no power of two: goes on; the wrong index
    row (fails (plan.boot_plan (having boxed) (b.Port 1) done (replicate 40 0) (newest 0 0))) (4 ∷ 7 ∷ 0 ∷ 8 ∷ 0 ∷ 0 ∷ []) (6 ∷ 7 ∷ 80 ∷ 6 ∷ 0 ∷ 16 ∷ 1 ∷ []) ∷
    -- SET_ICM_SIZE, good, five pages: five bytes; the first range
    row (carries (plan.boot_plan (having boxed) b.IcmSize done [] (newest 0 0))) (4 ∷ 1 ∷ 1 ∷ 5 ∷ 0 ∷ 4096 ∷ 0 ∷ 0 ∷ []) (4 ∷ 1 ∷ 2 ∷ 5 ∷ 0 ∷ 20480 ∷ 0 ∷ 0 ∷ []) ∷
    -- INIT_HCA, good (whether CLOSE_HCA is owed): not owed; QUERY_FUNC for a card that has none
    row (posts (plan.boot_plan (having before) b.InitHca done [] (newest 0 0)) ++ (yes (plan.boot_plan (having before) b.InitHca done [] (newest 0 0)).session.books.started ∷ []))
    (4 ∷ 10 ∷ 0 ∷ 8 ∷ 0 ∷ 6 ∷ 0 ∷ 0 ∷ 0 ∷ 0x6000 ∷ 0 ∷ []) (4 ∷ 9 ∷ 0 ∷ 8 ∷ 0 ∷ 0x056 ∷ 0 ∷ 0 ∷ 0 ∷ 0x6000 ∷ 1 ∷ []) ∷
    -- INIT_HCA, refused: CLOSE_HCA is sent; goes on
    row (fails (plan.boot_plan (having before) b.InitHca failed [] (newest 0 0))) (6 ∷ 1 ∷ 0 ∷ 8 ∷ 0 ∷ 6 ∷ 2 ∷ 50 ∷ []) (4 ∷ 10 ∷ 0 ∷ 8 ∷ 0 ∷ 0 ∷ []) ∷
    -- QUERY_FUNC, good (most EQs then): not kept; open at once
    row (leads (plan.boot_plan (having opened) b.Func done func_reply (newest 0 0)) ++ ((plan.boot_plan (having opened) b.Func done func_reply (newest 0 0)).session.info.func.max_eqs ∷ []))
    (4 ∷ 10 ∷ 0 ∷ 8 ∷ 0 ∷ 0 ∷ []) (1 ∷ 0 ∷ 0 ∷ 0 ∷ 0 ∷ 64 ∷ []) ∷
    -- QUERY_ADAPTER, Timeout (whether a command may run, broken): fatal; its end counts as seen
    row (flags (plan.boot_plan (having opened) b.Adapter lost [] (newest 0 0))) (6 ∷ 6 ∷ 0 ∷ 3 ∷ 0 ∷ 1 ∷ 1 ∷ 0 ∷ []) (1 ∷ 0 ∷ 0 ∷ 0 ∷ 0 ∷ 0 ∷ 0 ∷ 0 ∷ []) ∷
    []

-- preparing, opening_values: `prepared`, `open`; `lists`
abbrev pub preparing : List Row
preparing =
    -- attributes enabled (and those of before): not kept; the card reset before it is claimed
    row (leads (plan.prepare_plan fresh p.Attributes (e.Attr (ta.Enabled 0x70)) (newest 0 0)) ++ ((plan.prepare_plan fresh p.Attributes (e.Attr (ta.Enabled 0x70)) (newest 0 0)).session.books.original ∷ []))
    (3 ∷ 1 ∷ 0 ∷ 2 ∷ 0 ∷ 0 ∷ []) (3 ∷ 2 ∷ 0 ∷ 3 ∷ 0 ∷ 0x70 ∷ []) ∷
    -- attributes refused: goes on; restores what it has not read
    row (fails (plan.prepare_plan fresh p.Attributes (e.Attr ta.Refused) (newest 0 0))) (3 ∷ 1 ∷ 0 ∷ 2 ∷ 0 ∷ 0 ∷ []) (6 ∷ 9 ∷ 0 ∷ 9 ∷ 0 ∷ 1 ∷ []) ∷
    -- claimed: no reset; claimed again
    row (leads (plan.prepare_plan fresh p.Claim (e.Claim tc.Good) (newest 0 0))) (3 ∷ 3 ∷ 0 ∷ 4 ∷ 0 ∷ []) (3 ∷ 1 ∷ 0 ∷ 2 ∷ 0 ∷ []) ∷
    -- another owns the card: the attributes left changed; the other's owner register cleared
    row (fails (plan.prepare_plan fresh p.Claim (e.Claim tc.Refused) (newest 0 0))) (2 ∷ 0 ∷ 0 ∷ 0 ∷ 0 ∷ 2 ∷ []) (6 ∷ 8 ∷ 0 ∷ 9 ∷ 0 ∷ 2 ∷ []) ∷
    -- reset: the mailboxes before the BAR is known; reset again
    row (leads (plan.prepare_plan fresh p.Reset (e.Reset x.Good) (newest 0 0))) (3 ∷ 4 ∷ 0 ∷ 5 ∷ 0 ∷ []) (3 ∷ 2 ∷ 0 ∷ 3 ∷ 0 ∷ []) ∷
    -- reset failed: the BAR is looked for; the owner not released
    row (fails (plan.prepare_plan fresh p.Reset (e.Reset x.Save) (newest 0 0))) (3 ∷ 3 ∷ 0 ∷ 4 ∷ 0 ∷ 0 ∷ []) (6 ∷ 9 ∷ 0 ∷ 9 ∷ 0 ∷ 3 ∷ []) ∷
    -- the BAR found (its index): not kept; the first look at once
    row (leads (plan.prepare_plan fresh p.Bar (e.Bar (Ok bar)) (newest 0 0)) ++ ((plan.prepare_plan fresh p.Bar (e.Bar (Ok bar)) (newest 0 0)).session.info.uar.index ∷ []))
    (3 ∷ 4 ∷ 0 ∷ 5 ∷ 0 ∷ 0 ∷ []) (3 ∷ 6 ∷ 0 ∷ 7 ∷ 0 ∷ 2 ∷ []) ∷
    -- no BAR found: goes on with BAR 0; told as a reset that failed
    row (fails (plan.prepare_plan fresh p.Bar (e.Bar (Err u.Refused)) (newest 0 0))) (3 ∷ 4 ∷ 0 ∷ 5 ∷ 0 ∷ 0 ∷ []) (6 ∷ 8 ∷ 0 ∷ 9 ∷ 0 ∷ 3 ∷ []) ∷
    -- the inbox made: once more; the first look without an outbox
    row (leads (plan.prepare_plan inboxed p.Inbox (e.Made (m.Ready buffer)) (newest 0 0))) (3 ∷ 4 ∷ 0 ∷ 5 ∷ 0 ∷ []) (3 ∷ 6 ∷ 0 ∷ 7 ∷ 0 ∷ []) ∷
    -- no inbox for its address: told as 5; goes on
    row (fails (plan.prepare_plan fresh p.Inbox (e.Made (m.Refused f.Address)) (newest 0 0))) (6 ∷ 8 ∷ 0 ∷ 9 ∷ 0 ∷ 5 ∷ []) (3 ∷ 5 ∷ 0 ∷ 5 ∷ 0 ∷ 0 ∷ []) ∷
    -- the outbox made: once more; a command before the first look
    row (leads (plan.prepare_plan inboxed p.Outbox (e.Made (m.Ready other)) (newest 0 0))) (3 ∷ 5 ∷ 0 ∷ 5 ∷ 0 ∷ []) (4 ∷ 0 ∷ 0 ∷ 8 ∷ 0 ∷ []) ∷
    -- no outbox: the inbox is kept; the first look without an outbox
    row (carries (plan.prepare_plan inboxed p.Outbox (e.Made (m.Refused f.Memory)) (newest 0 0)))
    (6 ∷ 8 ∷ 0 ∷ 9 ∷ 0 ∷ 0 ∷ 0 ∷ 0 ∷ []) (3 ∷ 6 ∷ 0 ∷ 7 ∷ 0 ∷ 0 ∷ 0 ∷ 0 ∷ []) ∷
    -- no outbox for its address (the inbox is freed, and why): told as 5; not told
    row (fails (plan.prepare_plan inboxed p.Outbox (e.Made (m.Refused f.Address)) (newest 0 0))) (6 ∷ 7 ∷ 80 ∷ 6 ∷ 0 ∷ 5 ∷ []) (6 ∷ 7 ∷ 80 ∷ 6 ∷ 0 ∷ 0 ∷ []) ∷
    -- the first look, toggle 0 (QUERY_FW, its toggle): toggle 1; QUERY_DEV_CAP
    row (posts (plan.prepare_plan (having boxed) p.Look (e.Looked false) (newest 0 0)) ++ (at (task_words (plan.prepare_plan (having boxed) p.Look (e.Looked false) (newest 0 0)).session.work.task) 8 ∷ []))
    (4 ∷ 0 ∷ 0 ∷ 8 ∷ 0 ∷ 4 ∷ 0 ∷ 0 ∷ 0 ∷ 0x6000 ∷ 1 ∷ []) (4 ∷ 5 ∷ 0 ∷ 8 ∷ 0 ∷ 3 ∷ 0 ∷ 0 ∷ 0 ∷ 0x6000 ∷ 0 ∷ []) ∷
    -- open: the card claimed with the attributes as they are; a command at once
    row (carries (plan.open_plan fresh (newest 2 0x20))) (3 ∷ 1 ∷ 0 ∷ 2 ∷ 2 ∷ 0 ∷ 0 ∷ 0 ∷ []) (4 ∷ 0 ∷ 0 ∷ 8 ∷ 2 ∷ 0 ∷ 0 ∷ 4 ∷ []) ∷
    -- lists (MAP_FA of three entries, a page left): no entries told; the opcode of MAP_ICM
    row (stands (plan.lists mapping three) ++ sent (plan.lists mapping three))
    (4 ∷ 2 ∷ 0 ∷ 8 ∷ 0xfff ∷ 0 ∷ 0 ∷ 0x5000 ∷ 0 ∷ []) (4 ∷ 2 ∷ 0 ∷ 8 ∷ 0xffa ∷ 0 ∷ 3 ∷ 0x5000 ∷ 0 ∷ []) ∷
    -- lists, what is left behind it: what was left before it; nothing
    row (drop 4 (stage_words (plan.lists mapping three).stage)) (1 ∷ 0 ∷ 0x5000 ∷ 16384 ∷ []) (1 ∷ 0 ∷ 0 ∷ 0 ∷ []) ∷
    []

abbrev pub wrong : List Row
wrong = commands ++ results ++ sessions ++ closings ++ closed ++ clients ++ notes ++ booting ++ preparing
