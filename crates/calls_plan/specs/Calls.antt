-- The calls of a session: what each leaves of the session, the mailboxes and the undo list, and when it is refused. "Several at one call: 20, 21, 22, 19, 18, then the
-- Rust's order"; "19 to 22 everything" is left.
use Rattle.std.specs.Prelude.{ℕ, Bool, true, false, ◌&&◌, List, leb, length}
use Rattle.fields.specs.Outcome.{Outcome, value, refused, pick}
use Rattle.dma.specs.Buffers.{pages_for}
use Rattle.hcr.specs.Words.{is_reserved}
use Rattle.pci.specs.declared.Refusal.{Refusal}
use Rattle.pci.specs.declared.Refusal.TheVariants as x
use Rattle.session.specs.Session.{session, fresh}
use Rattle.session.specs.Course.{Course, Here, Rest}
use Rattle.session.specs.declared.Top.{Top}
use Rattle.session.specs.declared.Stage.{Stage}
use Rattle.session.specs.declared.Stage.TheVariants as g
use Rattle.session.specs.declared.Failure.{Failure}
use Rattle.session.specs.declared.Failure.TheVariants as f
use Rattle.session.specs.declared.Session.{Session}
use Rattle.session.specs.declared.Planned.{Planned}
use Rattle.closing_plan.specs.Closing.{stopping, quiescing}
use Rattle.closing_plan.specs.Plan.{stop_plan, quiesce_plan}
use Rattle.client_plan.specs.Client.{takes_input, input_in, commanding, lending, undoing_to}
use Rattle.client_plan.specs.Plan.{command_plan, lend_plan, undo_to_plan}
use Rattle.client_plan.specs.declared.Request.{Request}
use Rattle.opening_plan.specs.Opening.{opening}
use Rattle.opening_plan.specs.Plan.{open_plan}
use Rattle.fw_plan.specs.Calls.{is_session, is_lent, in_time, refused_of, begun_of, begun_in, begun_out}
use Rattle.fw_plan.specs.declared.Turn.{Turn}
use Rattle.calls_plan.specs.declared.Call.{Call}
use Rattle.calls_plan.specs.declared.Call.TheVariants as k

-- WHEN IT IS THE TIME for a call: "A session is opened once, and a new opening takes a fresh one"; every other call is on an open session, broken and quiesced ones too,
-- while no other call runs
abbrev pub is_fresh : Stage → Bool
is_fresh g.Fresh = true
is_fresh (g.Open y) = false
is_fresh g.Ended = false
is_fresh (g.Prepare y) = false
is_fresh (g.Boot y) = false
is_fresh (g.Client y) = false
is_fresh (g.Close y) = false

abbrev pub is_open : Stage → Bool
is_open g.Fresh = false
is_open (g.Open y) = true
is_open g.Ended = false
is_open (g.Prepare y) = false
is_open (g.Boot y) = false
is_open (g.Client y) = false
is_open (g.Close y) = false

abbrev pub is_time : Stage → Call → Bool
is_time st k.Open = is_fresh st
is_time st (k.Command y) = is_open st
is_time st (k.Lend bytes) = is_open st
is_time st (k.UndoTo mark r) = is_open st
is_time st k.Quiesce = is_open st
is_time st k.Close = is_open st

abbrev pub callable : Session → Call → Bool
callable s c = is_session s && is_time s.stage c

abbrev pub is_idle : Session → Bool
is_idle s = is_session s && is_open s.stage

-- WHAT MUST BE LENT: "slice too short, or mailbox not 4,096 bytes"; an input that the inbox has no room for is too long for it
abbrev pub fits_inbox : Request → (input : List ℕ) → Bool
fits_inbox y input = pick (takes_input y.form) (leb (length input) 4096) true

abbrev pub has_room : Call → (input : List ℕ) → Bool
has_room k.Open input = true
has_room (k.Command y) input = fits_inbox y input
has_room (k.Lend bytes) input = true
has_room (k.UndoTo mark r) input = true
has_room k.Quiesce input = true
has_room k.Close input = true

abbrev pub lent_for : Call → (input inbox outbox : List ℕ) → Top → Bool
lent_for c y i o u = is_lent i o u && has_room c y

-- 22, 19, 18. "`undo_to` looks for 22 in every record wanted before it sends one"
abbrev pub by_opcode : Bool → Failure
by_opcode reserved = pick reserved (f.By x.Opcode) f.Nothing

abbrev pub by_pages : Outcome ℕ → Failure
by_pages (value n) = f.Nothing
by_pages (refused i vs) = f.By x.Address

abbrev pub by_list : (lends bytes : ℕ) → Failure
by_list n bytes = pick (leb 64 n) (f.By x.Full) (by_pages (pages_for bytes))

abbrev pub barred : Session → Call → Failure
barred s k.Open = f.Nothing
barred s (k.Command y) = by_opcode (is_reserved y.op)
barred s (k.Lend bytes) = by_list s.books.lists.lends bytes
barred s (k.UndoTo mark r) = by_opcode r
barred s k.Quiesce = f.Nothing
barred s k.Close = f.Nothing

-- HOW A CALL BEGINS: what the inbox holds then, and its plan
abbrev pub input_for : Request → (input inbox : List ℕ) → List ℕ
input_for y input i = input_in y.form input i

abbrev pub ready_in : Call → (input inbox : List ℕ) → List ℕ
ready_in k.Open input i = i
ready_in (k.Command y) input i = input_for y input i
ready_in (k.Lend bytes) input i = i
ready_in (k.UndoTo mark r) input i = i
ready_in k.Quiesce input i = i
ready_in k.Close input i = i

abbrev pub without_failure : Session → Session
without_failure s = session s.stage s.work s.books s.info f.Nothing s.closing

abbrev pub plan_for : Session → Call → Top → Planned
plan_for s k.Open u = open_plan fresh u
plan_for s (k.Command y) u = command_plan s y u.count
plan_for s (k.Lend bytes) u = lend_plan s bytes u.count
plan_for s (k.UndoTo mark r) u = undo_to_plan s mark u
plan_for s k.Quiesce u = quiesce_plan s u
plan_for s k.Close u = stop_plan (without_failure s) u

unfoldable pub begun_turn : Session → Call → (input inbox : List ℕ) → Top → Turn
begun_turn s c y i u = begun_of (plan_for s c u) (ready_in c y i)

unfoldable pub begun_inbox : Session → Call → (input inbox : List ℕ) → Top → List ℕ
begun_inbox s c y i u = begun_in (plan_for s c u) (ready_in c y i)

unfoldable pub begun_outbox : Session → Call → (outbox : List ℕ) → Top → List ℕ
begun_outbox s c o u = begun_out (plan_for s c u) o

-- unless it is barred
abbrev pub unless : {A : Type 0} → Failure → A → (Refusal → A) → A
unless f.Nothing y z = y
unless (f.By w) y z = z w

abbrev pub admitted : Session → Call → (input inbox : List ℕ) → Top → Turn
admitted s c y i u = unless (barred s c) (begun_turn s c y i u) (λ w. refused_of s w u.count)

abbrev pub admitted_in : Session → Call → (input inbox : List ℕ) → Top → List ℕ
admitted_in s c y i u = unless (barred s c) (begun_inbox s c y i u) (λ w. i)

abbrev pub admitted_out : Session → Call → (outbox : List ℕ) → Top → List ℕ
admitted_out s c o u = unless (barred s c) (begun_outbox s c o u) (λ w. o)

-- THE CALL
abbrev pub call_of : Session → Call → (input inbox outbox : List ℕ) → Top → Turn
call_of s c y i o u = in_time (callable s c) (lent_for c y i o u) (admitted s c y i u) (refused_of s x.Short u.count) (refused_of s x.Wrong u.count)

abbrev pub call_in : Session → Call → (input inbox outbox : List ℕ) → Top → List ℕ
call_in s c y i o u = in_time (callable s c) (lent_for c y i o u) (admitted_in s c y i u) i i

abbrev pub call_out : Session → Call → (input inbox outbox : List ℕ) → Top → List ℕ
call_out s c y i o u = in_time (callable s c) (lent_for c y i o u) (admitted_out s c o u) o o

-- THE COURSE that a call begins: what document 01 says that it asks
abbrev pub course_for : Call → Session → (input : List ℕ) → Here → Course Rest
course_for k.Open s y h = opening h
course_for (k.Command z) s y h = commanding s.info s.failure s.closing z y s.books h
course_for (k.Lend bytes) s y h = lending s.info s.failure s.closing bytes s.books h
course_for (k.UndoTo mark r) s y h = undoing_to s.info s.failure s.closing mark s.books h
course_for k.Quiesce s y h = quiescing s.info s.failure s.books h
course_for k.Close s y h = stopping s.info f.Nothing s.books h
