-- Each plan of a closing begins what its course says: the course that is left in the session where a plan leads is the course that the paper's closing has there.
use Prim.Native.Nat.{ℕ, zero, suc, ◌-◌}
use mathlib.Core.Bool.{Bool, true, false}
use mathlib.Core.Path.{◌≡◌, refl, ap, sym, ◌∙◌}
use native.Mathlib.Omega.{arith}
use lib.Dec.{eqb}
use Rattle.fields.specs.Outcome.{pick}
use Rattle.pci.specs.Script.{◌>>=◌}
use Rattle.pci.specs.Script as sc
use Rattle.hcr.specs.Words.{is_reserved}
use Rattle.hcr.specs.declared.Post.{Post}
use Rattle.command.specs.Machine.{cmd_script, first}
use Rattle.command.specs.Script.{command}
use Rattle.reset.specs.Reset.{is_good}
use Rattle.reset.specs.Steps.{started, reset_script}
use Rattle.buffer.specs.Steps.{start_free, free_script}
use Rattle.tasks.specs.Parting.{releasing, restoring, quieting}
use Rattle.work.specs.declared.Task.TheVariants as t
use Rattle.work.specs.declared.End.{End}
use Rattle.work.specs.declared.End.TheVariants as e
use Rattle.command.specs.declared.CmdEnd.{CmdEnd}
use Rattle.session.specs.Session.{slot_at, buffer_of, is_held, fa_of, aux_of, imm_of, catas_for, took_of, breaks_of, silenced_of, sends_of, bookkeeps, planned, wired, after}
use Rattle.session.specs.Course.{Course, ret, Here, left, Place, neither, slot, run, sends, Rest, rest_of}
use Rattle.session.proofs.Courses.{run_turned, run_same}
use Rattle.session.specs.declared.Books.{Books}
use Rattle.session.specs.declared.Stage.{Stage}
use Rattle.session.specs.declared.Stage.TheVariants as g
use Rattle.session.specs.declared.Prepare.{Prepare}
use Rattle.session.specs.declared.Boot.{Boot}
use Rattle.session.specs.declared.Client.{Client}
use Rattle.session.specs.declared.Close.{Close}
use Rattle.session.specs.declared.Close.TheVariants as k
use Rattle.session.specs.declared.Closing.{Closing}
use Rattle.session.specs.declared.Closing.TheVariants as c
use Rattle.session.specs.declared.Fill.{Fill}
use Rattle.session.specs.declared.Fill.TheVariants as w
use Rattle.session.specs.declared.Session.{Session}
use Rattle.session.specs.declared.Planned.{Planned}
use Rattle.closing_plan.specs.Closing.{is_done, undo_post, UNDOS}
use Rattle.closing_plan.specs.Closing as q
use Rattle.closing_plan.specs.Plan.{cmd_in, reset_in, closes_of, restore_plan, release_plan, frees_plan, give_plan, reset_plan, quiet_plan, failed_plan, quiesce_plan, stopped_plan, unmap_fa_plan, unmap_aux_plan, unmap_plan, close_hca_plan, undo_plan, stop_plan, close_plan, after_close, place_in, close_course, plan_here}

-- what the stages of an opening and of a client's call mean is left open
module _ (P : Prepare → Session → Here → Course Rest) (B : Boot → Session → Here → Course Rest) (U : Client → Session → Here → Course Rest) where
  -- the course that is left in a session
  abbrev pub means : Stage → Session → Here → Course Rest
  means g.Fresh s h = ret (left h) (rest_of s)
  means (g.Open x) s h = ret (left h) (rest_of s)
  means g.Ended s h = ret (left h) (rest_of s)
  means (g.Prepare x) s h = P x s h
  means (g.Boot x) s h = B x s h
  means (g.Client x) s h = U x s h
  means (g.Close x) s h = close_course x s h

  -- and so is what is written to the mailboxes
  module _ (F : Fill → Session → Here → Course Rest) where
    abbrev pub filled : Fill → Session → Here → Course Rest
    filled w.Nothing s h = means s.stage s h
    filled w.Outbox s h = F w.Outbox s h
    filled (w.List x) s h = F (w.List x) s h
    filled w.ModStat s h = F w.ModStat s h
    filled w.InitHca s h = F w.InitHca s h

    -- and where a plan leads
    abbrev pub leads : Planned → Here → Course Rest
    leads p h = filled p.fill p.session (plan_here p h)

    pub pick_leads : (b : Bool) (x y : Planned) (h : Here) (u v : Course Rest) → leads x h ≡ u → leads y h ≡ v → leads (pick b x y) h ≡ pick b u v
    pick_leads true x y h u v d e = d
    pick_leads false x y h u v d e = e

    pub restore-leads : (s : Session) (h : Here) → leads (restore_plan s h.undo.count) h ≡ q.restored s.info s.failure s.closing s.books h
    unfolding q.restored close_course
    restore-leads s h = run_turned neither (restoring s.books.original) (λ x. e.Parted) (λ y d j. after_close k.Restore (bookkeeps s d) y j) s.books h

    pub release-leads : (s : Session) (h : Here) → leads (release_plan s h.undo.count) h ≡ q.parted s.info s.failure s.closing s.books h
    unfolding q.parted close_course
    release-leads s h = run_turned neither releasing (λ x. e.Parted) _ s.books h

    -- the next slot that has a buffer is freed, and then those behind it
    frees-leads : (m i : ℕ) (s : Session) (h : Here) → m ≡ 82 - i
        → leads (frees_plan m i s h.undo.count) h ≡ q.freed s.info s.failure m i (λ d j. q.parted s.info s.failure s.closing d j) s.books h
    unfolding frees_plan q.freed close_course
    frees-leads zero i s h x = release-leads s h
    frees-leads (suc m) i s h x =
        pick_leads (is_held (slot_at s.books.lists.slots i)) _ _ h _ _
        (run_turned (slot i 0) (free_script (start_free (buffer_of (slot_at s.books.lists.slots i)))) (λ u. e.Freed) (λ y d j. after_close (k.Free i) (bookkeeps s d) y j) s.books h
        ∙ ap (λ (n : ℕ). run (slot i 0) (free_script (start_free (buffer_of (slot_at s.books.lists.slots i)))) (λ u d j. q.freed s.info s.failure n (suc i) (λ d j. q.parted s.info s.failure s.closing d j) d j) s.books h)
        (let z : 81 - i ≡ m = omega (arith, x) in z))
        (frees-leads m (suc i) s h (let z : m ≡ 82 - suc i = omega (arith, x) in z))

    -- the slots behind i
    behind-leads : (i : ℕ) (s : Session) (h : Here)
        → leads (frees_plan (81 - i) (suc i) s h.undo.count) h ≡ q.freed s.info s.failure (81 - i) (suc i) (λ d j. q.parted s.info s.failure s.closing d j) s.books h
    behind-leads i s h = frees-leads (81 - i) (suc i) s h (let z : 81 - i ≡ 82 - suc i = omega arith in z)

    pub give-leads : (s : Session) (c : Closing) (h : Here) → leads (give_plan s c h.undo.count) h ≡ q.giving s.info s.failure c s.books h
    unfolding q.giving
    give-leads s c h = frees-leads 82 0 (closes_of s c s.books) h refl

    reset_leads : (s : Session) (h : Here) → leads (reset_plan s h.undo.count) h ≡ q.resetting s.info s.failure s.books h
    unfolding q.resetting close_course
    reset_leads s h = run_turned neither (reset_script started) (λ x. e.Reset x) _ s.books h

    quiet-leads : (s : Session) (h : Here) → leads (quiet_plan s h.undo.count) h ≡ q.quieted s.info s.failure s.books h
    unfolding q.quieted close_course
    quiet-leads s h = run_turned neither quieting (λ x. e.Parted) _ (breaks_of s).books h

    failed_leads : (s : Session) (h : Here) → leads (failed_plan s h.undo.count) h ≡ q.failing s.info s.failure s.books h
    unfolding q.failing failed_plan
    failed_leads s h = pick_leads s.books.wire.silent _ _ h _ _ (quiet-leads s h) (reset_leads s h)

    stopped-leads : (s : Session) (h : Here) → leads (stopped_plan s h.undo.count) h ≡ q.stopped s.info s.failure s.books h
    unfolding q.stopped stopped_plan
    stopped-leads s h = pick_leads s.books.wire.silent _ _ h _ _ (quiet-leads s h) (pick_leads s.books.wire.running _ _ h _ _ (reset_leads s h) (give-leads s c.Clean h))

    -- a command, and what follows a good one
    module _ (s : Session) (st : Close) (p : Post) (next : Books → Here → Course Rest) (still : place_in st ≡ neither)
        (a : (y : CmdEnd) (d : Books) (j : Here) → after_close st (bookkeeps (sends_of s (g.Close st) p) d) (e.Cmd y) j ≡ q.onward s.info s.failure next y.result (wired d (after d.wire y)) j) where
      send_leads : (h : Here) (n : ℕ) → leads (planned (sends_of s (g.Close st) p) w.Nothing n) h
          ≡ sends s.books p (q.onward s.info s.failure next) (plan_here (planned (sends_of s (g.Close st) p) w.Nothing n) h)
      unfolding close_course cmd_script
      send_leads h n =
          ap (λ (x : Place). run x (cmd_script h.inbox (first p s.books.wire.toggle (catas_for s.books.wire)) >>= (λ x. sc.ret (e.Cmd x))) (λ y d j. after_close st (bookkeeps (sends_of s (g.Close st) p) d) y j) s.books (plan_here (planned (sends_of s (g.Close st) p) w.Nothing n) h)) still
          ∙ run_turned neither (cmd_script h.inbox (first p s.books.wire.toggle (catas_for s.books.wire))) (λ x. e.Cmd x) _ s.books _
          ∙ run_same neither (command (catas_for s.books.wire) h.inbox s.books.wire.toggle p) _ _ s.books _ a

    unmap-fa-leads : (s : Session) (h : Here) → leads (unmap_fa_plan s h.undo.count) h ≡ q.unmap_fa s.info s.failure s.books h
    unfolding q.unmap_fa unmap_fa_plan
    unmap-fa-leads s h =
        pick_leads (is_held (fa_of s.books)) _ _ h _ _
        (send_leads s k.UnmapFa (imm_of 0xffe 0 0 0) (q.stopped s.info s.failure) refl (λ y d j. refl) h h.undo.count) (stopped-leads s h)

    unmap-aux-leads : (s : Session) (h : Here) → leads (unmap_aux_plan s h.undo.count) h ≡ q.unmap_aux s.info s.failure s.books h
    unfolding q.unmap_aux unmap_aux_plan
    unmap-aux-leads s h =
        pick_leads (is_held (aux_of s.books)) _ _ h _ _
        (send_leads s k.UnmapAux (imm_of 0xffb 0 0 0) (q.unmap_fa s.info s.failure) refl (λ y d j. refl) h h.undo.count) (unmap-fa-leads s h)

    unmap-leads : (s : Session) (i : ℕ) (h : Here) → leads (unmap_plan s i h.undo.count) h ≡ q.unmapping s.info s.failure i s.books h
    unfolding q.unmapping unmap_plan
    unmap-leads s zero h = unmap-aux-leads s h
    unmap-leads s (suc i) h = send_leads s (k.Unmap i) _ (q.unmapping s.info s.failure i) refl (λ y d j. refl) h h.undo.count

    close-leads : (s : Session) (h : Here) → leads (close_hca_plan s h.undo.count) h ≡ q.close_hca s.info s.failure s.books h
    unfolding q.close_hca close_hca_plan
    close-leads s h =
        pick_leads s.books.started _ _ h _ _
        (send_leads s k.CloseHca (imm_of 0x008 0 0 0) (λ d j. q.unmapping s.info s.failure d.lists.ranges d j) refl (λ y d j. refl) h h.undo.count)
        (unmap-leads s s.books.lists.ranges h)

    undo_leads : (s : Session) (m : ℕ) (h : Here) → leads (undo_plan s m h.undo) h ≡ q.undoing s.info s.failure m s.books h
    unfolding q.undoing undo_plan
    undo_leads s zero h = pick_leads (eqb h.undo.count 0) _ _ h _ _ (close-leads s h) (failed_leads s h)
    undo_leads s (suc m) h =
        pick_leads (eqb h.undo.count 0) _ _ h _ _ (close-leads s h)
        (pick_leads (is_reserved h.undo.op) _ _ h _ _ (failed_leads s h)
        (send_leads s (k.Undo m) (undo_post h.undo) (q.undoing s.info s.failure m) refl (λ y d j. refl) h (h.undo.count - 1)))

    pub stop-leads : (s : Session) (h : Here) → leads (stop_plan s h.undo) h ≡ q.stopping s.info s.failure s.books h
    unfolding q.stopping stop_plan
    stop-leads s h = pick_leads s.books.wire.broken _ _ h _ _ (reset_leads s h) (undo_leads s UNDOS h)

    pub quiesce-leads : (s : Session) (h : Here) → leads (quiesce_plan s h.undo) h ≡ q.quiescing s.info s.failure s.books h
    unfolding q.quiescing quiesce_plan
    quiesce-leads s h = pick_leads s.books.wire.broken _ _ h _ _ (quiet-leads (silenced_of s) h) (undo_leads (silenced_of s) UNDOS h)

    -- WHEN A TASK OF THE CLOSING HAS ENDED, the plan leads where the course goes on
    pub close-lands : (st : Close) (s : Session) (y : End) (h : Here) → leads (close_plan s st y h.undo) h ≡ after_close st s y h
    unfolding close_plan
    close-lands (k.Undo m) s y h = pick_leads (is_done (cmd_in y).result) _ _ h _ _ (undo_leads (took_of s (cmd_in y)) m h) (failed_leads (took_of s (cmd_in y)) h)
    close-lands k.CloseHca s y h = pick_leads (is_done (cmd_in y).result) _ _ h _ _ (unmap-leads (took_of s (cmd_in y)) s.books.lists.ranges h) (failed_leads (took_of s (cmd_in y)) h)
    close-lands (k.Unmap i) s y h = pick_leads (is_done (cmd_in y).result) _ _ h _ _ (unmap-leads (took_of s (cmd_in y)) i h) (failed_leads (took_of s (cmd_in y)) h)
    close-lands k.UnmapAux s y h = pick_leads (is_done (cmd_in y).result) _ _ h _ _ (unmap-fa-leads (took_of s (cmd_in y)) h) (failed_leads (took_of s (cmd_in y)) h)
    close-lands k.UnmapFa s y h = pick_leads (is_done (cmd_in y).result) _ _ h _ _ (stopped-leads (took_of s (cmd_in y)) h) (failed_leads (took_of s (cmd_in y)) h)
    close-lands k.Quiesce s y h = refl
    close-lands k.Reset s y h = pick_leads (is_good (reset_in y)) _ _ h _ _ (give-leads s c.Reset h) (release-leads (closes_of s c.Kept s.books) h)
    close-lands (k.Free i) s y h = behind-leads i s h
    close-lands k.Release s y h = restore-leads s h
    close-lands k.Restore s y h = refl
