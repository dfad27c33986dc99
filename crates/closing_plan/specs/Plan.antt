-- The plan of a closing and of a quiesce: what follows when a task has ended, as a function on the session.
use Rattle.std.specs.Prelude.{ℕ, zero, suc, ◌-◌, ◌%◌, ◌^◌, true, eqb}
use Rattle.fields.specs.Outcome.{pick}
use Rattle.dma.specs.declared.Buffer.{Buffer}
use Rattle.hcr.specs.Words.{is_reserved}
use Rattle.command.specs.declared.CmdEnd.{CmdEnd}
use Rattle.command.specs.declared.CmdResult.TheVariants as r
use Rattle.reset.specs.Reset.{is_good}
use Rattle.reset.specs.Steps.{started}
use Rattle.reset.specs.declared.ResetEnd.{ResetEnd}
use Rattle.reset.specs.declared.ResetEnd.TheVariants as x
use Rattle.buffer.specs.Steps.{start_free}
use Rattle.tasks.specs.declared.Parting.TheVariants as p
use Rattle.work.specs.Work.{working, work_script}
use Rattle.work.specs.declared.Task.TheVariants as t
use Rattle.work.specs.declared.End.{End}
use Rattle.work.specs.declared.End.TheVariants as e
use Rattle.session.specs.Session.{session, starts, sends_of, took_of, breaks_of, silenced_of, bookkeeps, planned, slot_at, icm_at, buffer_of, is_held, fa_of, aux_of, imm_of, wired, after}
use Rattle.session.specs.Course.{Course, ret, Here, here, left, Place, neither, slot, run, Rest, at_rest}
use Rattle.session.specs.declared.Top.{Top}
use Rattle.session.specs.declared.Books.{Books}
use Rattle.session.specs.declared.Gave.{Gave}
use Rattle.session.specs.declared.Gave.TheVariants as v
use Rattle.session.specs.declared.Stage.{Stage}
use Rattle.session.specs.declared.Stage.TheVariants as g
use Rattle.session.specs.declared.Close.{Close}
use Rattle.session.specs.declared.Close.TheVariants as k
use Rattle.session.specs.declared.Closing.{Closing}
use Rattle.session.specs.declared.Closing.TheVariants as c
use Rattle.session.specs.declared.Fill.TheVariants as w
use Rattle.session.specs.declared.Session.{Session}
use Rattle.session.specs.declared.Planned.{Planned}
use Rattle.closing_plan.specs.Closing.{is_done, undo_post, popped, UNDOS}
use Rattle.closing_plan.specs.Closing as q

-- how a command and a reset ended; a task of the plan ends in its own kind, any other counts as failed
abbrev pub cmd_in : End → CmdEnd
cmd_in (e.Cmd x) = x
cmd_in (e.Attr x) = record { result = r.Bus 0; toggle = true }
cmd_in (e.Claim x) = record { result = r.Bus 0; toggle = true }
cmd_in (e.Reset x) = record { result = r.Bus 0; toggle = true }
cmd_in (e.Bar x) = record { result = r.Bus 0; toggle = true }
cmd_in (e.Made x) = record { result = r.Bus 0; toggle = true }
cmd_in e.Freed = record { result = r.Bus 0; toggle = true }
cmd_in (e.Looked x) = record { result = r.Bus 0; toggle = true }
cmd_in e.Parted = record { result = r.Bus 0; toggle = true }

abbrev pub reset_in : End → ResetEnd
reset_in (e.Reset y) = y
reset_in (e.Attr y) = x.Save
reset_in (e.Claim y) = x.Save
reset_in (e.Bar y) = x.Save
reset_in (e.Made y) = x.Save
reset_in e.Freed = x.Save
reset_in (e.Looked y) = x.Save
reset_in (e.Cmd y) = x.Save
reset_in e.Parted = x.Save

-- the session with nothing under way, ended
abbrev pub ends_of : Session → Session
ends_of s = starts s g.Ended t.Rest

-- the session is open, with nothing under way
abbrev pub rests_of : Session → Gave → Session
rests_of s y = starts s (g.Open y) t.Rest

abbrev pub closes_of : Session → Closing → Books → Session
closes_of s c b = session s.stage s.work b s.info s.failure c

-- a reset begins; its stage is the caller's
abbrev pub resets_of : Session → Stage → Session
resets_of s st = session st (working t.Reset started s.work.find) s.books s.info s.failure s.closing

-- each step with what follows it, from the last to the first
abbrev pub restore_plan : Session → ℕ → Planned
restore_plan s u = planned (starts s (g.Close k.Restore) (t.Part (p.Restore s.books.original))) w.Nothing u

abbrev pub release_plan : Session → ℕ → Planned
release_plan s u = planned (starts s (g.Close k.Release) (t.Part p.Disown)) w.Nothing u

abbrev pub free_plan : Session → Close → Buffer → ℕ → Planned
free_plan s st b u = planned (starts s (g.Close st) (t.Free (start_free b))) w.Nothing u

-- the next of the m slots from i on that has a buffer; behind the last the owner is released
unfoldable pub frees_plan : (m i : ℕ) → Session → ℕ → Planned
frees_plan zero i s u = release_plan s u
frees_plan (suc m) i s u =
    pick (is_held (slot_at s.books.lists.slots i)) (free_plan s (k.Free i) (buffer_of (slot_at s.books.lists.slots i)) u) (frees_plan m (suc i) s u)

abbrev pub give_plan : Session → Closing → ℕ → Planned
give_plan s c u = frees_plan 82 0 (closes_of s c s.books) u

abbrev pub reset_plan : Session → ℕ → Planned
reset_plan s u = planned (resets_of s (g.Close k.Reset)) w.Nothing u

-- a quiesce ends; and what follows a command that failed
abbrev pub quiet_plan : Session → ℕ → Planned
quiet_plan s u = planned (starts (closes_of (breaks_of s) c.Clean (breaks_of s).books) (g.Close k.Quiesce) (t.Part p.Owner)) w.Nothing u

unfoldable pub failed_plan : Session → ℕ → Planned
failed_plan s u = pick s.books.wire.silent (quiet_plan s u) (reset_plan s u)

unfoldable pub stopped_plan : Session → ℕ → Planned
stopped_plan s u = pick s.books.wire.silent (quiet_plan s u) (pick s.books.wire.running (reset_plan s u) (give_plan s c.Clean u))

abbrev pub send_plan : Session → Close → (op in_mod in_param : ℕ) → ℕ → Planned
send_plan s st op m x u = planned (sends_of s (g.Close st) (imm_of op 0 m x)) w.Nothing u

unfoldable pub unmap_fa_plan : Session → ℕ → Planned
unmap_fa_plan s u = pick (is_held (fa_of s.books)) (send_plan s k.UnmapFa 0xffe 0 0 u) (stopped_plan s u)

unfoldable pub unmap_aux_plan : Session → ℕ → Planned
unmap_aux_plan s u = pick (is_held (aux_of s.books)) (send_plan s k.UnmapAux 0xffb 0 0 u) (unmap_fa_plan s u)

unfoldable pub unmap_plan : Session → (i : ℕ) → ℕ → Planned
unmap_plan s zero u = unmap_aux_plan s u
unmap_plan s (suc i) u = send_plan s (k.Unmap i) 0xff9 ((icm_at s.books.lists.slots i).pages % 2 ^ 32) (icm_at s.books.lists.slots i).virt u

unfoldable pub close_hca_plan : Session → ℕ → Planned
close_hca_plan s u = pick s.books.started (send_plan s k.CloseHca 0x008 0 0 u) (unmap_plan s s.books.lists.ranges u)

abbrev pub undo_send : Session → (more : ℕ) → Top → Planned
undo_send s zero u = failed_plan s u.count
undo_send s (suc m) u =
    pick (is_reserved u.op) (failed_plan s u.count) (planned (sends_of s (g.Close (k.Undo m)) (undo_post u)) w.Nothing (popped u).count)

unfoldable pub undo_plan : Session → (more : ℕ) → Top → Planned
undo_plan s m u = pick (eqb u.count 0) (close_hca_plan s u.count) (undo_send s m u)

unfoldable pub stop_plan : Session → Top → Planned
stop_plan s u = pick s.books.wire.broken (reset_plan s u.count) (undo_plan s UNDOS u)

unfoldable pub quiesce_plan : Session → Top → Planned
quiesce_plan s u = pick s.books.wire.broken (quiet_plan (silenced_of s) u.count) (undo_plan (silenced_of s) UNDOS u)

-- a command has ended
abbrev pub onward_plan : CmdEnd → Planned → Planned → Planned
onward_plan x next bad = pick (is_done x.result) next bad

abbrev pub was_reset : Session → ResetEnd → ℕ → Planned
was_reset s x u = pick (is_good x) (give_plan s c.Reset u) (release_plan (closes_of s c.Kept s.books) u)

abbrev pub close_plan_at : Session → End → Top → Close → Planned
close_plan_at s y u (k.Undo m) = onward_plan (cmd_in y) (undo_plan (took_of s (cmd_in y)) m u) (failed_plan (took_of s (cmd_in y)) u.count)
close_plan_at s y u k.CloseHca =
    onward_plan (cmd_in y) (unmap_plan (took_of s (cmd_in y)) s.books.lists.ranges u.count) (failed_plan (took_of s (cmd_in y)) u.count)
close_plan_at s y u (k.Unmap i) = onward_plan (cmd_in y) (unmap_plan (took_of s (cmd_in y)) i u.count) (failed_plan (took_of s (cmd_in y)) u.count)
close_plan_at s y u k.UnmapAux = onward_plan (cmd_in y) (unmap_fa_plan (took_of s (cmd_in y)) u.count) (failed_plan (took_of s (cmd_in y)) u.count)
close_plan_at s y u k.UnmapFa = onward_plan (cmd_in y) (stopped_plan (took_of s (cmd_in y)) u.count) (failed_plan (took_of s (cmd_in y)) u.count)
close_plan_at s y u k.Quiesce = planned (rests_of s v.Nothing) w.Nothing u.count
close_plan_at s y u k.Reset = was_reset s (reset_in y) u.count
close_plan_at s y u (k.Free i) = frees_plan (81 - i) (suc i) s u.count
close_plan_at s y u k.Release = restore_plan s u.count
close_plan_at s y u k.Restore = planned (ends_of s) w.Nothing u.count

unfoldable pub close_plan : Session → Close → End → Top → Planned
close_plan s st y u = close_plan_at s y u st

-- THE COURSE that is left after the task under way, by what it is for
abbrev pub took_books : Session → End → Books
took_books s y = wired s.books (after s.books.wire (cmd_in y))

abbrev pub then : Session → End → (Books → Here → Course Rest) → Here → Course Rest
then s y next h = q.onward s.info s.failure next (cmd_in y).result (took_books s y) h

abbrev pub after_close : Close → Session → End → Here → Course Rest
after_close (k.Undo m) s y h = then s y (q.undoing s.info s.failure m) h
after_close k.CloseHca s y h = then s y (q.unmapping s.info s.failure s.books.lists.ranges) h
after_close (k.Unmap i) s y h = then s y (q.unmapping s.info s.failure i) h
after_close k.UnmapAux s y h = then s y (q.unmap_fa s.info s.failure) h
after_close k.UnmapFa s y h = then s y (q.stopped s.info s.failure) h
after_close k.Quiesce s y h = ret (left h) (at_rest (g.Open v.Nothing) s.books s.info s.failure s.closing)
after_close k.Reset s y h =
    pick (is_good (reset_in y)) (q.giving s.info s.failure c.Reset s.books h) (q.parted s.info s.failure c.Kept s.books h)
after_close (k.Free i) s y h = q.freed s.info s.failure (81 - i) (suc i) (λ d j. q.parted s.info s.failure s.closing d j) s.books h
after_close k.Release s y h = q.restored s.info s.failure s.closing s.books h
after_close k.Restore s y h = ret (left h) (at_rest g.Ended s.books s.info s.failure s.closing)

-- the slot that the task under way frees
abbrev pub place_in : Close → Place
place_in (k.Undo m) = neither
place_in k.CloseHca = neither
place_in (k.Unmap i) = neither
place_in k.UnmapAux = neither
place_in k.UnmapFa = neither
place_in k.Quiesce = neither
place_in k.Reset = neither
place_in (k.Free i) = slot i 0
place_in k.Release = neither
place_in k.Restore = neither

unfoldable pub close_course : Close → Session → Here → Course Rest
close_course st s h = run (place_in st) (work_script h.inbox s.work) (λ y d j. after_close st (bookkeeps s d) y j) s.books h

-- where a plan leads, with what it left of the undo list
abbrev pub plan_here : Planned → Here → Here
plan_here p h =
    here h.inbox h.outbox
    (record { count = p.undo; op = h.undo.op; op_mod = h.undo.op_mod; in_mod = h.undo.in_mod; in_param = h.undo.in_param })
