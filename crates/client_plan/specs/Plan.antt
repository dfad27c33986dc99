-- The plans of a client's calls: how each begins, and what follows when a task has ended, as functions on the session.
use Rattle.std.specs.Prelude.{ℕ, zero, suc, ◌*◌, leb}
use Rattle.fields.specs.Outcome.{pick}
use Rattle.dma.specs.Buffers.{pages_for}
use Rattle.hcr.specs.Words.{is_reserved}
use Rattle.pci.specs.declared.Refusal.TheVariants as x
use Rattle.command.specs.declared.CmdEnd.{CmdEnd}
use Rattle.buffer.specs.Buffer.{by_outcome}
use Rattle.buffer.specs.declared.Made.{Made}
use Rattle.buffer.specs.declared.Made.TheVariants as m
use Rattle.buffer.specs.declared.MakePhase.TheVariants as mp
use Rattle.work.specs.Work.{work_script}
use Rattle.work.specs.declared.Task.TheVariants as t
use Rattle.work.specs.declared.End.{End}
use Rattle.session.specs.Session.{starts, sends_of, took_of, breaks_of, bookkeeps, lent_to, planned, wired, broken}
use Rattle.session.specs.Failures.{fault_of, made_in, broken_by}
use Rattle.session.specs.Course.{Course, Here, Place, neither, run, Rest}
use Rattle.session.specs.declared.Top.{Top}
use Rattle.session.specs.declared.Form.{Form}
use Rattle.session.specs.declared.Gave.{Gave}
use Rattle.session.specs.declared.Gave.TheVariants as v
use Rattle.session.specs.declared.Client.{Client}
use Rattle.session.specs.declared.Client.TheVariants as k
use Rattle.session.specs.declared.Stage.TheVariants as g
use Rattle.session.specs.declared.Fill.{Fill}
use Rattle.session.specs.declared.Fill.TheVariants as w
use Rattle.session.specs.declared.Session.{Session}
use Rattle.session.specs.declared.Planned.{Planned}
use Rattle.closing_plan.specs.Closing.{is_done, undo_post, popped, UNDOS}
use Rattle.closing_plan.specs.Plan.{cmd_in, rests_of, took_books}
use Rattle.client_plan.specs.Client.{lend_at, gives_output, post_of, gave_by, gives, lent_by, undoing}
use Rattle.client_plan.specs.declared.Request.{Request}

abbrev pub rest_plan : Session → Gave → ℕ → Planned
rest_plan s y u = planned (rests_of s y) w.Nothing u

-- HOW A CALL BEGINS
abbrev pub fill_for : Form → Fill
fill_for y = pick (gives_output y) w.Outbox w.Nothing

unfoldable pub command_plan : Session → Request → ℕ → Planned
command_plan s y u = planned (sends_of s (g.Client (k.Command y.form)) (post_of s.books y)) (fill_for y.form) u

unfoldable pub lend_plan : Session → (bytes : ℕ) → ℕ → Planned
lend_plan s bytes u =
    by_outcome (pages_for bytes) (λ n. planned (starts s (g.Client (k.Lend s.books.lists.lends)) (t.Make (record { bytes = n * 4096; phase = mp.Allocate }))) w.Nothing u)
    (rest_plan s (v.Failed x.Address) u)

abbrev pub undo_send : Session → (mark more : ℕ) → Top → Planned
undo_send s mark zero u = rest_plan (breaks_of s) (v.Failed x.Undo) u.count
undo_send s mark (suc m) u =
    pick (is_reserved u.op) (rest_plan s (v.Failed x.Opcode) u.count)
    (planned (sends_of s (g.Client (k.UndoTo mark m)) (undo_post u)) w.Nothing (popped u).count)

unfoldable pub undo_plan : Session → (mark more : ℕ) → Top → Planned
undo_plan s mark m u =
    pick (leb u.count mark) (rest_plan s v.Nothing u.count) (pick s.books.wire.broken (rest_plan s (v.Failed x.Undo) u.count) (undo_send s mark m u))

abbrev pub undo_to_plan : Session → (mark : ℕ) → Top → Planned
undo_to_plan s mark u = undo_plan s mark UNDOS u

-- WHAT FOLLOWS WHEN A TASK HAS ENDED
abbrev pub command_ended : Session → Form → CmdEnd → ℕ → Planned
command_ended s y e u = rest_plan (bookkeeps (took_of s e) (broken_by e.result (took_of s e).books)) (gave_by y e.result) u

abbrev pub lend_ended : Session → (i : ℕ) → Made → ℕ → Planned
lend_ended s i (m.Ready y) u = rest_plan (bookkeeps s (lent_to s.books)) (v.Lent i) u
lend_ended s i (m.Refused y) u = rest_plan s (v.Failed (fault_of y)) u

abbrev pub undo_ended : Session → (mark more : ℕ) → CmdEnd → Top → Planned
undo_ended s mark m e u = pick (is_done e.result) (undo_plan (took_of s e) mark m u) (rest_plan (breaks_of (took_of s e)) (v.Failed x.Undo) u.count)

abbrev pub client_plan_at : Session → End → Top → Client → Planned
client_plan_at s e u (k.Command y) = command_ended s y (cmd_in e) u.count
client_plan_at s e u (k.Lend i) = lend_ended s i (made_in e) u.count
client_plan_at s e u (k.UndoTo mark m) = undo_ended s mark m (cmd_in e) u

unfoldable pub client_plan : Session → Client → End → Top → Planned
client_plan s y e u = client_plan_at s e u y

-- THE COURSE that is left after the task under way, by what it is for
abbrev pub after_client : Client → Session → End → Here → Course Rest
after_client (k.Command y) s e h = gives s.info s.failure s.closing (gave_by y (cmd_in e).result) (broken_by (cmd_in e).result (took_books s e)) h
after_client (k.Lend i) s e h = lent_by s.info s.failure s.closing i (made_in e) s.books h
after_client (k.UndoTo mark m) s e h =
    pick (is_done (cmd_in e).result) (undoing s.info s.failure s.closing mark m (took_books s e) h)
    (gives s.info s.failure s.closing (v.Failed x.Undo) (wired (took_books s e) (broken (took_books s e).wire)) h)

-- the slot that the task under way is for
abbrev pub place_in : Client → Place
place_in (k.Command y) = neither
place_in (k.Lend i) = lend_at i
place_in (k.UndoTo mark m) = neither

unfoldable pub client_course : Client → Session → Here → Course Rest
client_course y s h = run (place_in y) (work_script h.inbox s.work) (λ e d j. after_client y (bookkeeps s d) e j) s.books h
