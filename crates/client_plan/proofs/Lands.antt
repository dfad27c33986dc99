-- Each plan of a client's call begins what its course says.
use Prim.Native.Nat.{ℕ, zero, suc, ◌*◌, ◌/◌, ◌-◌}
use mathlib.Core.Bool.{Bool}
use mathlib.Core.Path.{◌≡◌, refl, ap, ◌∙◌}
use native.Mathlib.Omega.{arith}
use lib.Dec.{leb}
use Rattle.fields.specs.Outcome.{Outcome, value, refused, pick}
use Rattle.dma.specs.Buffers.{pages_for}
use Rattle.hcr.specs.Words.{is_reserved}
use Rattle.hcr.specs.declared.Post.{Post}
use Rattle.pci.specs.Script.{◌>>=◌}
use Rattle.pci.specs.Script as sc
use Rattle.pci.specs.declared.Refusal.TheVariants as x
use Rattle.command.specs.Machine.{cmd_script, first}
use Rattle.command.specs.Script.{command}
use Rattle.command.specs.declared.CmdEnd.{CmdEnd}
use Rattle.command.specs.declared.CmdResult.{CmdResult}
use Rattle.buffer.specs.Buffer.{by_outcome, allocating}
use Rattle.buffer.specs.declared.Fault.TheVariants as q
use Rattle.buffer.specs.declared.Made.{Made}
use Rattle.buffer.specs.declared.Made.TheVariants as m
use Rattle.buffer.specs.declared.MakePhase.TheVariants as mp
use Rattle.work.specs.declared.Task.TheVariants as t
use Rattle.work.specs.declared.End.{End}
use Rattle.work.specs.declared.End.TheVariants as e
use Rattle.session.specs.Session.{starts, sends_of, took_of, breaks_of, bookkeeps, planned, catas_for, wired, broken, after}
use Rattle.session.specs.Failures.{made_in}
use Rattle.session.specs.Course.{Course, Here, here, Place, neither, run, sends, Rest}
use Rattle.session.proofs.Courses.{run_turned, run_same}
use Rattle.session.specs.declared.Books.{Books}
use Rattle.session.specs.declared.Gave.{Gave}
use Rattle.session.specs.declared.Gave.TheVariants as v
use Rattle.session.specs.declared.Prepare.{Prepare}
use Rattle.session.specs.declared.Boot.{Boot}
use Rattle.session.specs.declared.Client.{Client}
use Rattle.session.specs.declared.Client.TheVariants as k
use Rattle.session.specs.declared.Stage.TheVariants as g
use Rattle.session.specs.declared.Fill.{Fill}
use Rattle.session.specs.declared.Fill.TheVariants as w
use Rattle.session.specs.declared.Session.{Session}
use Rattle.session.specs.declared.Planned.{Planned}
use Rattle.closing_plan.specs.Closing.{is_done, undo_post, popped, UNDOS}
use Rattle.closing_plan.specs.Plan.{cmd_in}
use Rattle.closing_plan.proofs.Lands as z
use Rattle.client_plan.specs.Client.{lend_at, gives, lent_by, lending, undoing, undoing_to}
use Rattle.client_plan.specs.Plan.{place_in, rest_plan, lend_plan, undo_plan, undo_to_plan, lend_ended, client_plan, after_client, client_course}

-- what the stages of an opening mean, and what is written to the mailboxes, is left open
module _ (P : Prepare → Session → Here → Course Rest) (B : Boot → Session → Here → Course Rest) (F : Fill → Session → Here → Course Rest) where
  abbrev pub leads : Planned → Here → Course Rest
  leads y h = z.leads P B client_course F y h

  pick_leads : (b : Bool) (x y : Planned) (h : Here) (u t : Course Rest) → leads x h ≡ u → leads y h ≡ t → leads (pick b x y) h ≡ pick b u t
  pick_leads b x y h u t d e = z.pick_leads P B client_course F b x y h u t d e

  -- the call is over
  rest_leads : (s : Session) (y : Gave) (h : Here) → leads (rest_plan s y h.undo.count) h ≡ gives s.info s.failure s.closing y s.books h
  rest_leads s y h = refl

  -- a command, and what follows it
  module _ (s : Session) (st : Client) (y : Post) (K : CmdResult → Books → Here → Course Rest) (still : place_in st ≡ neither)
      (goes : (a : CmdEnd) (d : Books) (j : Here) → after_client st (bookkeeps (sends_of s (g.Client st) y) d) (e.Cmd a) j ≡ K a.result (wired d (after d.wire a)) j) where
    pub send_leads : (h : Here) → client_course st (sends_of s (g.Client st) y) h ≡ sends s.books y K h
    unfolding client_course cmd_script
    send_leads h =
        ap (λ (x : Place). run x (cmd_script h.inbox (first y s.books.wire.toggle (catas_for s.books.wire)) >>= (λ a. sc.ret (e.Cmd a))) (λ e d j. after_client st (bookkeeps (sends_of s (g.Client st) y) d) e j) s.books h) still
        ∙ run_turned neither (cmd_script h.inbox (first y s.books.wire.toggle (catas_for s.books.wire))) (λ a. e.Cmd a) _ s.books h
        ∙ run_same neither (command (catas_for s.books.wire) h.inbox s.books.wire.toggle y) _ _ s.books h goes

  -- a lending: too many bytes are refused before any question
  whole : (n : ℕ) → n * 4096 / 4096 ≡ n
  whole n = omega arith

  module _ (s : Session) (h : Here) where
    abbrev made : Made → Books → Here → Course Rest
    made y d j = lent_by s.info s.failure s.closing s.books.lists.lends y d j

    pages_leads : (y : Outcome ℕ)
        → leads (by_outcome y (λ n. planned (starts s (g.Client (k.Lend s.books.lists.lends)) (t.Make (record { bytes = n * 4096; phase = mp.Allocate }))) w.Nothing h.undo.count) (rest_plan s (v.Failed x.Address) h.undo.count)) h
        ≡ run (lend_at s.books.lists.lends) (by_outcome y allocating (sc.ret (m.Refused q.Address))) made s.books h
    unfolding client_course
    pages_leads (value n) = run_turned (lend_at s.books.lists.lends) (allocating (n * 4096 / 4096)) (λ y. e.Made y) (λ y d j. after_client (k.Lend s.books.lists.lends) (bookkeeps s d) y j) s.books h ∙ ap (λ (i : ℕ). run (lend_at s.books.lists.lends) (allocating i) made s.books h) (whole n)
    pages_leads (refused i vs) = refl

    pub lend-leads : (bytes : ℕ) → leads (lend_plan s bytes h.undo.count) h ≡ lending s.info s.failure s.closing bytes s.books h
    unfolding lend_plan lending
    lend-leads bytes = pages_leads (pages_for bytes)

  -- the undo records
  undo_leads : (s : Session) (mark m : ℕ) (h : Here) → leads (undo_plan s mark m h.undo) h ≡ undoing s.info s.failure s.closing mark m s.books h
  unfolding undoing undo_plan
  undo_leads s mark zero h =
      pick_leads (leb h.undo.count mark) _ _ h _ _ (rest_leads s v.Nothing h)
      (pick_leads s.books.wire.broken _ _ h _ _ (rest_leads s (v.Failed x.Undo) h) (rest_leads (breaks_of s) (v.Failed x.Undo) h))
  undo_leads s mark (suc m) h =
      pick_leads (leb h.undo.count mark) _ _ h _ _ (rest_leads s v.Nothing h)
      (pick_leads s.books.wire.broken _ _ h _ _ (rest_leads s (v.Failed x.Undo) h)
      (pick_leads (is_reserved h.undo.op) _ _ h _ _ (rest_leads s (v.Failed x.Opcode) h)
      (send_leads s (k.UndoTo mark m) (undo_post h.undo)
      (λ a b j. pick (is_done a) (undoing s.info s.failure s.closing mark m b j) (gives s.info s.failure s.closing (v.Failed x.Undo) (wired b (broken b.wire)) j)) refl (λ a d j. refl)
      (here h.inbox h.outbox (popped h.undo)))))

  pub undo_to_leads : (s : Session) (mark : ℕ) (h : Here) → leads (undo_to_plan s mark h.undo) h ≡ undoing_to s.info s.failure s.closing mark s.books h
  undo_to_leads s mark h = undo_leads s mark UNDOS h

  lent_leads : (s : Session) (i : ℕ) (y : Made) (h : Here) → leads (lend_ended s i y h.undo.count) h ≡ lent_by s.info s.failure s.closing i y s.books h
  lent_leads s i (m.Ready y) h = refl
  lent_leads s i (m.Refused y) h = refl

  -- WHEN A TASK OF A CLIENT'S CALL HAS ENDED, the plan leads where the course goes on
  pub client_lands : (st : Client) (s : Session) (y : End) (h : Here) → leads (client_plan s st y h.undo) h ≡ after_client st s y h
  unfolding client_plan
  client_lands (k.Command o) s y h = refl
  client_lands (k.Lend i) s y h = lent_leads s i (made_in y) h
  client_lands (k.UndoTo mark m) s y h =
      pick_leads (is_done (cmd_in y).result) _ _ h _ _ (undo_leads (took_of s (cmd_in y)) mark m h) (rest_leads (breaks_of (took_of s (cmd_in y))) (v.Failed x.Undo) h)
