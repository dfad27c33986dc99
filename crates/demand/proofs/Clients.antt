-- While a client's call is under way the books stay as they were but for the command register.
use Prim.Native.Nat.{ℕ, zero, suc, ◌*◌, ◌≤◌, ◌<◌}
use mathlib.Core.Bool.{Bool, true, false}
use mathlib.Core.List.{List}
use mathlib.Core.Option.{none}
use mathlib.Core.Path.{◌≡◌, refl, sym, subst, ap, ◌∙◌}
use lib.Dec.{leb, ltb}
use Rattle.std.specs.Prelude.{Result, Ok, Err}
use Rattle.fields.specs.Outcome.{Outcome, value, refused, pick}
use Rattle.dma.specs.Buffers.{pages_for}
use Rattle.hcr.specs.Words.{is_reserved}
use Rattle.pci.specs.declared.Answer.{Answer}
use Rattle.pci.specs.declared.Question.{Question}
use Rattle.pci.specs.declared.Question.TheVariants as qv
use Rattle.pci.specs.declared.NoReply.{NoReply}
use Rattle.pci.specs.Views.{granted_of, mapped_of}
use Rattle.session.specs.Course.{neither, slot}
use Rattle.session.specs.declared.Slot.{Slot}
use Rattle.session.specs.declared.Wire.{Wire}
use Rattle.client_plan.specs.Plan.{place_in}
use Rattle.card_calls.proofs.Slots.{put_there}
use borrow.Author.Tests.{ltb-true}
use native.Mathlib.Omega.{arith}
use Rattle.pci.specs.declared.Refusal.TheVariants as x
use Rattle.buffer.specs.Buffer.{by_outcome}
use Rattle.buffer.specs.declared.Made.{Made}
use Rattle.buffer.specs.declared.Made.TheVariants as m
use Rattle.buffer.specs.declared.MakePhase.TheVariants as mp
use Rattle.work.specs.Work.{work_step_of}
use Rattle.work.specs.declared.Work.{Work}
use Rattle.work.specs.declared.End.{End}
use Rattle.work.specs.declared.Ending.{Ending}
use Rattle.work.specs.declared.Ending.TheVariants as e
use Rattle.work.specs.declared.Task.TheVariants as t
use Rattle.session.specs.Session.{session, starts, sends_of, took_of, breaks_of, planned, wired, slot_at, no_slot, puts, bare, mapped_at, unmapped_from}
use Rattle.session.specs.Failures.{made_in}
use Rattle.session.specs.declared.Top.{Top}
use Rattle.session.specs.declared.Books.{Books}
use Rattle.session.specs.declared.Gave.{Gave}
use Rattle.session.specs.declared.Gave.TheVariants as v
use Rattle.session.specs.declared.Client.{Client}
use Rattle.session.specs.declared.Client.TheVariants as k
use Rattle.session.specs.declared.Stage.{Stage}
use Rattle.session.specs.declared.Stage.TheVariants as g
use Rattle.session.specs.declared.Fill.{Fill}
use Rattle.session.specs.declared.Fill.TheVariants as w
use Rattle.session.specs.declared.Session.{Session}
use Rattle.session.specs.declared.Planned.{Planned}
use Rattle.closing_plan.specs.Closing.{is_done, UNDOS}
use Rattle.closing_plan.specs.Plan.{cmd_in}
use Rattle.client_plan.specs.Client.{gives_output, post_of}
use Rattle.client_plan.specs.Plan.{rest_plan, command_plan, lend_plan, lend_ended, undo_send, undo_plan, client_plan}
use Rattle.fw_plan.specs.Calls.{asks_of, booked_of, booked_by, answers_by, granted_books, mapped_books, place_at, plan_of, plan_at, filled, with_work, begun_of, step_turn, step_of, outcome_of}
use Rattle.calls_plan.specs.Calls.{ready_in, begun_turn}
use Rattle.calls_plan.specs.declared.Call.{Call}
use Rattle.calls_plan.specs.declared.Call.TheVariants as c
use Rattle.demand.specs.Events.{given_by}

abbrev pub IsClient : Stage → Type 0
IsClient g.Fresh = ⊥
IsClient (g.Open y) = ⊥
IsClient g.Ended = ⊥
IsClient (g.Prepare y) = ⊥
IsClient (g.Boot y) = ⊥
IsClient (g.Client y) = Unit {0}
IsClient (g.Close y) = ⊥

-- the same ranges, areas and mailboxes, a command register that is as silent as before, and the same word of the card
pub record Same (s u : Session) : Type 0 where
  pub ranges : u.books.lists.ranges ≡ s.books.lists.ranges
  pub slots : (k : ℕ) → 64 ≤ k → slot_at u.books.lists.slots k ≡ slot_at s.books.lists.slots k
  pub silent : u.books.wire.silent ≡ s.books.wire.silent
  pub info : u.info ≡ s.info

pub record Steady (s : Session) (p : Planned) : Type 0 where
  pub fill : p.fill ≡ w.Nothing
  pub same : IsClient p.session.stage → Same s p.session

steady_pick : (s : Session) (b : Bool) (y z : Planned) → Steady s y → Steady s z → Steady s (pick b y z)
steady_pick s true y z h d = h
steady_pick s false y z h d = d

rest_steady : (s u : Session) (y : Gave) (n : ℕ) → Steady s (rest_plan u y n)
rest_steady s u y n = record { fill = refl; same = λ h. absurd h }

send_steady : (s : Session) (mark m : ℕ) (u : Top) → Steady s (undo_send s mark m u)
send_steady s mark zero u = rest_steady s (breaks_of s) (v.Failed x.Undo) u.count
send_steady s mark (suc m) u =
    steady_pick s (is_reserved u.op) _ _ (rest_steady s s (v.Failed x.Opcode) u.count) (record { fill = refl; same = λ h. record { ranges = refl; slots = λ k h. refl; silent = refl; info = refl } })

undo_steady : (s : Session) (mark m : ℕ) (u : Top) → Steady s (undo_plan s mark m u)
unfolding undo_plan
undo_steady s mark m u =
    steady_pick s (leb u.count mark) _ _ (rest_steady s s v.Nothing u.count)
    (steady_pick s s.books.wire.broken _ _ (rest_steady s s (v.Failed x.Undo) u.count) (send_steady s mark m u))

-- what is so of the session after a command is so of the one before
same_took : (s u z : Session) → Same s u → Same u z → Same s z
same_took s u z p h = record {
  ranges = h.ranges ∙ p.ranges;
  slots = λ k l. h.slots k l ∙ p.slots k l;
  silent = h.silent ∙ p.silent;
  info = h.info ∙ p.info;
}

lend_steady : (s : Session) (i : ℕ) (y : Made) (n : ℕ) → Steady s (lend_ended s i y n)
lend_steady s i (m.Ready y) n = record { fill = refl; same = λ h. absurd h }
lend_steady s i (m.Refused y) n = record { fill = refl; same = λ h. absurd h }

client_steady : (st : Client) (s : Session) (y : End) (u : Top) → Steady s (client_plan s st y u)
unfolding client_plan
client_steady (k.Command o) s y u = record { fill = refl; same = λ h. absurd h }
client_steady (k.Lend i) s y u = lend_steady s i (made_in y) u.count
client_steady (k.UndoTo mark i) s y u =
    steady_pick s (is_done (cmd_in y).result) _ _
    (let h = undo_steady (took_of s (cmd_in y)) mark i u in record { fill = h.fill; same = λ d. same_took s (took_of s (cmd_in y)) _ (record { ranges = refl; slots = λ k l. refl; silent = refl; info = refl }) (h.same d) })
    (rest_steady s (breaks_of (took_of s (cmd_in y))) (v.Failed x.Undo) u.count)

filled_same : (f : Fill) (s u : Session) (i : List ℕ) → f ≡ w.Nothing → (IsClient u.stage → Same s u) → IsClient (filled f u i).stage → Same s (filled f u i)
filled_same f s u i e h d = subst (λ (z : Fill). IsClient (filled z u i).stage → Same s (filled z u i)) (sym e) h d

-- what an answer to a lending puts down or takes off is a lent buffer's
record Kept (b d : Books) : Type 0 where
  pub ranges : d.lists.ranges ≡ b.lists.ranges
  pub slots : (k : ℕ) → 64 ≤ k → slot_at d.lists.slots k ≡ slot_at b.lists.slots k
  pub wire : d.wire ≡ b.wire

kept_all : (b : Books) → Kept b b
kept_all b = record { ranges = refl; slots = λ k h. refl; wire = refl }

put_kept : (i : ℕ) (y : Slot) (b : Books) → i < 64 → Kept b (puts i y b)
put_kept i y b l = record { ranges = refl; slots = λ k h. put_there b.lists.slots i k y (λ q. let z : ⊥ = omega (arith, h, l, q) in z); wire = refl }

answers_kept : (i o : ℕ) → i < 64 → (y : Question) (a : Answer) (b : Books) → Kept b (answers_by i o y a b)
answers_kept i o l (qv.ConfigRead16 d) a b = kept_all b
answers_kept i o l (qv.ConfigRead32 d) a b = kept_all b
answers_kept i o l (qv.ConfigWrite16 d y) a b = kept_all b
answers_kept i o l (qv.ConfigWrite32 d y) a b = kept_all b
answers_kept i o l (qv.RegRead k d) a b = kept_all b
answers_kept i o l (qv.RegWrite k d y) a b = kept_all b
answers_kept i o l (qv.Attributes d y) a b = kept_all b
answers_kept i o l (qv.Resource k) a b = kept_all b
answers_kept i o l (qv.Stall u) a b = kept_all b
answers_kept i o l (qv.Allocate n) a b = by (granted_of a)
  where
    by : (r : Result ℕ NoReply) → Kept b (granted_books i o n r b)
    by (Ok k) = put_kept i (bare o k n) b l
    by (Err _) = kept_all b
answers_kept i o l (qv.Map k n) a b = by (mapped_of a)
  where
    by : (r : Result (ℕ × ℕ) NoReply) → Kept b (mapped_books i r b)
    by (Ok (x, y)) = put_kept i (mapped_at (slot_at b.lists.slots i) x) b l
    by (Err _) = kept_all b
answers_kept i o l (qv.Unmap k) a b = put_kept i (unmapped_from (slot_at b.lists.slots i)) b l
answers_kept i o l (qv.Free k n) a b = put_kept i no_slot b l
answers_kept i o l qv.Fence a b = kept_all b
answers_kept i o l qv.Finished a b = kept_all b

lend_kept : (t : Bool) (i : ℕ) → ltb i 64 ≡ t → (y : Question) (a : Answer) (b : Books) → Kept b (booked_by (pick t (slot i 0) neither) y a b)
lend_kept true i e y a b = answers_kept i 0 (ltb-true i 64 e) y a b
lend_kept false i e y a b = kept_all b

client_kept : (st : Client) (y : Question) (a : Answer) (b : Books) → Kept b (booked_by (place_in st) y a b)
client_kept (k.Command f) y a b = kept_all b
client_kept (k.Lend i) y a b = lend_kept (ltb i 64) i refl y a b
client_kept (k.UndoTo m n) y a b = kept_all b

-- A STEP of a client's call
module _ (s : Session) (st : Client) (here : s.stage ≡ g.Client st) where
  by_ending : (a : Answer) (u : Work) (i o : List ℕ) (top : Top) (n : Ending) → IsClient (step_turn s a u i o top n).session.stage → Same s (step_turn s a u i o top n).session
  by_ending a u i o top e.Going d = record { ranges = refl; slots = λ k h. refl; silent = refl; info = refl }
  by_ending a u i o top (e.Ended y) d =
      filled_same (plan_of (with_work s u) y o top).fill s (plan_of (with_work s u) y o top).session i plan.fill (λ h. from (plan.same h)) d
    where
      plan : Steady (with_work s u) (plan_of (with_work s u) y o top)
      plan = subst (λ (z : Stage). Steady (with_work s u) (plan_at (with_work s u) y o top z)) (sym here) (client_steady st (with_work s u) y top)

      from : {z : Session} → Same (with_work s u) z → Same s z
      from h = record { ranges = h.ranges; slots = h.slots; silent = h.silent; info = h.info }

pub step_same : (s : Session) (st : Client) → s.stage ≡ g.Client st → (a : Answer) (r i o : List ℕ) (top : Top) → IsClient (step_of s a r i o top).session.stage → Same s (step_of s a r i o top).session
unfolding step_of
step_same s st here a r i o top d =
    same_took s (booked_of s a) _ (record { ranges = kept.ranges; slots = kept.slots; silent = ap (λ (z : Wire). z.silent) kept.wire; info = refl })
    (by_ending (booked_of s a) st here a (work_step_of s.work a r).work i o top (work_step_of s.work a r).ending d)
  where
    kept : Kept s.books (booked_of s a).books
    kept = subst (λ (z : Stage). Kept s.books (booked_by (place_at z s.info) (asks_of s) a s.books)) (sym here) (client_kept st (asks_of s) a s.books)

-- A CLIENT'S CALL BEGINS
abbrev pub OfClient : Call → Type 0
OfClient c.Open = ⊥
OfClient (c.Command y) = Unit {0}
OfClient (c.Lend bytes) = Unit {0}
OfClient (c.UndoTo mark r) = Unit {0}
OfClient c.Quiesce = ⊥
OfClient c.Close = ⊥

pub begun_same : (y : Call) (s : Session) (input i : List ℕ) (u : Top) → OfClient y → IsClient (begun_turn s y input i u).session.stage → Same s (begun_turn s y input i u).session
unfolding begun_turn command_plan lend_plan
begun_same c.Open s input i u o d = absurd o
begun_same (c.Command z) s input i u o d = by-output (gives_output z.form)
  where
    by-output : (b : Bool) → Same s (filled (pick b w.Outbox w.Nothing) (sends_of s (g.Client (k.Command z.form)) (post_of s.books z)) (ready_in (c.Command z) input i))
    by-output true = record { ranges = refl; slots = λ k h. refl; silent = refl; info = refl }
    by-output false = record { ranges = refl; slots = λ k h. refl; silent = refl; info = refl }
begun_same (c.Lend bytes) s input i u o d = by_pages (pages_for bytes) d
  where
    begun : Outcome ℕ → Planned
    begun y = by_outcome y (λ n. planned (starts s (g.Client (k.Lend s.books.lists.lends)) (t.Make (record { bytes = n * 4096; phase = mp.Allocate }))) w.Nothing u.count) (rest_plan s (v.Failed x.Address) u.count)

    by_pages : (y : Outcome ℕ) → IsClient (begun_of (begun y) (ready_in (c.Lend bytes) input i)).session.stage → Same s (begun_of (begun y) (ready_in (c.Lend bytes) input i)).session
    by_pages (value n) d = record { ranges = refl; slots = λ k h. refl; silent = refl; info = refl }
    by_pages (refused j vs) d = absurd d
begun_same (c.UndoTo mark r) s input i u o d =
    let h = undo_steady s mark UNDOS u in filled_same (undo_plan s mark UNDOS u).fill s (undo_plan s mark UNDOS u).session (ready_in (c.UndoTo mark r) input i) h.fill h.same d
begun_same c.Quiesce s input i u o d = absurd o
begun_same c.Close s input i u o d = absurd o

-- A LENDING that begins has given nothing yet
pub lend_gives : (bytes : ℕ) (s : Session) (input i : List ℕ) (u : Top) → given_by (begun_turn s (c.Lend bytes) input i u).session.books (outcome_of (begun_turn s (c.Lend bytes) input i u).session) ≡ none
unfolding begun_turn lend_plan
lend_gives bytes s input i u = by_pages (pages_for bytes)
  where
    begun : Outcome ℕ → Planned
    begun y = by_outcome y (λ n. planned (starts s (g.Client (k.Lend s.books.lists.lends)) (t.Make (record { bytes = n * 4096; phase = mp.Allocate }))) w.Nothing u.count) (rest_plan s (v.Failed x.Address) u.count)

    by_pages : (y : Outcome ℕ) → given_by (begun_of (begun y) (ready_in (c.Lend bytes) input i)).session.books (outcome_of (begun_of (begun y) (ready_in (c.Lend bytes) input i)).session) ≡ none
    by_pages (value n) = refl
    by_pages (refused j vs) = refl
