-- THE SLOT FITS THE QUESTION, at every question of every call: it is empty where pages are asked for, and holds the handle that is mapped, unmapped or freed. By the session alone, whatever the card and the
-- host say: buffers are made in one order, and the slots of those to come are empty.
use Rattle.std.specs.Prelude.{Ok, Err}
use Prim.Native.Nat.{ℕ, zero, suc, ◌+◌, ◌*◌, ◌-◌, ◌≤◌, ◌<◌}
use native.Mathlib.Omega.{arith}
use native.Mathlib.Nat.{le_trans}
use mathlib.Core.Bool.{Bool, true, false, false≢true}
use mathlib.Core.List.{List}
use mathlib.Core.Option.{some, some-injective}
use mathlib.Core.Path.{◌≡◌, refl, sym, ◌∙◌, ap, subst}
use lib.Dec.{eqb, leb, ltb, lit≤}
use lib.ListN.{length, set, replicate, length-set}
use borrow.Author.Tests.{ltb-true, ltb-false, leb-true, leb-false, eqb-true, eqb-false, lt-ltb, le-ltb}
use Rattle.std.specs.Prelude.{Result, Ok, Err}
use Rattle.fields.specs.Outcome.{Outcome, value, refused, pick}
use Rattle.dma.specs.Buffers.{pages_for, accept_at}
use Rattle.dma.specs.PageList.{listed_of}
use Rattle.dma.specs.declared.Cutter.{Cutter}
use Rattle.dma.specs.declared.Listed.{Listed}
use Rattle.hcr.specs.Words.{is_reserved}
use Rattle.pci.specs.Script.{Ask, shown}
use Rattle.pci.specs.Suits.{is_kind, suits_of}
use Rattle.pci.specs.Views.{done_of, granted_of, mapped_of}
use Rattle.pci.specs.declared.Refusal.{Refusal}
use Rattle.pci.specs.declared.Refusal.TheVariants as x
use Rattle.pci.specs.declared.Answer.{Answer}
use Rattle.pci.specs.declared.Question.{Question}
use Rattle.pci.specs.declared.NoReply.{NoReply}
use Rattle.pci.specs.declared.NoReply.TheVariants.{Failed, Wrong}
use Rattle.command.specs.declared.CmdResult.{CmdResult}
use Rattle.reset.specs.Reset.{is_good}
use Rattle.reset.specs.declared.Reset.{Reset}
use Rattle.buffer.specs.Buffer.{by_outcome}
use Rattle.buffer.specs.Steps.{pages_in, in_phase, make_asks_at, make_step_at, allocated, map_step, unmapped, freed, free_asks_at, free_step_at}
use Rattle.buffer.specs.declared.Fault.TheVariants as fl
use Rattle.buffer.specs.declared.Made.{Made}
use Rattle.buffer.specs.declared.Made.TheVariants as m
use Rattle.buffer.specs.declared.Making.{Making}
use Rattle.buffer.specs.declared.MakePhase.{MakePhase}
use Rattle.buffer.specs.declared.MakePhase.TheVariants as mp
use Rattle.buffer.specs.declared.MakeStep.TheVariants as ms
use Rattle.buffer.specs.declared.Freeing.{Freeing}
use Rattle.buffer.specs.declared.FreePhase.{FreePhase}
use Rattle.buffer.specs.declared.FreePhase.TheVariants as fp
use Rattle.tasks.specs.declared.Attributes.{Attributes}
use Rattle.tasks.specs.declared.Attributes.TheVariants as at
use Rattle.tasks.specs.declared.Claimed.{Claimed}
use Rattle.tasks.specs.declared.Claimed.TheVariants as l
use Rattle.uar.specs.declared.FindBar.{FindBar}
use Rattle.uar.specs.Uar.{Found}
use Rattle.uar.specs.declared.NotFound.TheVariants as u
use Rattle.reply.specs.Capability.{capability_of}
use Rattle.reply.specs.Replies.{query_fw_of, fw_held, query_port_of, query_func_of}
use Rattle.reply.specs.declared.DevCap.{DevCap}
use Rattle.reply.specs.declared.FwInfo.{FwInfo}
use Rattle.reply.specs.declared.FuncInfo.{FuncInfo}
use Rattle.reply.specs.declared.PortInfo.{PortInfo}
use Rattle.layout.specs.Counts.{profile_of}
use Rattle.layout.specs.declared.Layout.{Layout}
use Rattle.work.specs.Work.{task_asks, task_step, work_step_of, make_work, free_work}
use Rattle.work.specs.declared.Task.{Task}
use Rattle.work.specs.declared.Task.TheVariants as t
use Rattle.work.specs.declared.Work.{Work}
use Rattle.work.specs.declared.WorkStep.{WorkStep}
use Rattle.work.specs.declared.End.{End}
use Rattle.work.specs.declared.Ending.{Ending}
use Rattle.work.specs.declared.Ending.TheVariants as e
use Rattle.session.specs.Failures.{broken_by, made_in, needs_reset, fault_of}
use Rattle.session.specs.Session.{session, fresh, no_books, no_slot, slot_at, bare, mapped_at, unmapped_from, puts, is_held, fa_of, aux_of, took_of, silenced_of, INBOX, OUTBOX}
use Rattle.session.specs.Course.{Place, neither, inbox, outbox, slot}
use Rattle.session.specs.declared.Slot.{Slot}
use Rattle.session.specs.declared.Lists.{Lists}
use Rattle.session.specs.declared.Top.{Top}
use Rattle.session.specs.declared.Books.{Books}
use Rattle.session.specs.declared.Info.{Info}
use Rattle.session.specs.declared.Area.{Area}
use Rattle.session.specs.declared.Area.TheVariants as a
use Rattle.session.specs.declared.Stage.{Stage}
use Rattle.session.specs.declared.Stage.TheVariants as g
use Rattle.session.specs.declared.Prepare.{Prepare}
use Rattle.session.specs.declared.Prepare.TheVariants as p
use Rattle.session.specs.declared.Boot.{Boot}
use Rattle.session.specs.declared.Boot.TheVariants as b
use Rattle.session.specs.declared.Client.{Client}
use Rattle.session.specs.declared.Client.TheVariants as kc
use Rattle.session.specs.declared.Close.{Close}
use Rattle.session.specs.declared.Close.TheVariants as k
use Rattle.session.specs.declared.Closing.{Closing}
use Rattle.session.specs.declared.Closing.TheVariants as c
use Rattle.session.specs.declared.Failure.{Failure}
use Rattle.session.specs.declared.Failure.TheVariants as f
use Rattle.session.specs.declared.Fill.{Fill}
use Rattle.session.specs.declared.Fill.TheVariants as w
use Rattle.session.specs.declared.Session.{Session}
use Rattle.session.specs.declared.Planned.{Planned}
use Rattle.closing_plan.specs.Closing.{is_done, UNDOS}
use Rattle.closing_plan.specs.Plan.{cmd_in, reset_in, frees_plan, failed_plan, stopped_plan, unmap_fa_plan, unmap_aux_plan, unmap_plan, close_hca_plan, undo_send, undo_plan, stop_plan, quiesce_plan, closes_of, close_plan_at, close_plan}
use Rattle.client_plan.specs.Plan as cl
use Rattle.client_plan.specs.Plan.{command_plan, lend_plan, lend_ended, client_plan_at, client_plan}
use Rattle.opening_plan.specs.Opening.{ports_of}
use Rattle.opening_plan.specs.Values.{enters, slot_for}
use Rattle.opening_plan.specs.Plan as n
use Rattle.opening_plan.specs.Plan.{attr_in, claim_in, bar_in, fail_plan, fail_by_plan, func_plan, make_plan, next_range, mapped_plan, map_plan, area_plan, layout_plan, port_plan, fw_replied, cap_replied, port_replied, func_replied, boot_plan_at, boot_plan, prepare_plan_at, prepare_plan, lists_at, lists_boot, lists}
use Rattle.fw_plan.specs.Calls.{asks_of, wants, place_at, booked_of, booked_by, granted_books, mapped_books, answers_by, plan_at, filled, with_work, step_turn, step_of}
use Rattle.calls_plan.specs.Calls.{without_failure, is_open, is_time, by_pages, by_list, plan_for, begun_turn, ready_in, barred}
use Rattle.calls_plan.specs.declared.Call.{Call}
use Rattle.calls_plan.specs.declared.Call.TheVariants as kn
use Rattle.card_calls.proofs.Slots.{put_here, put_there}
use Rattle.card_calls.proofs.Named.{Has-handle, Fitting}
use Rattle.demand.specs.Events.{asked}
use Rattle.demand.proofs.Plans.{NoHost, task_going}

-- THE ORDER OF MAKING: inbox, outbox, firmware area, auxiliary area, the ranges, and what is lent
abbrev rank_box : ℕ → ℕ
rank_box k = pick (ltb k 80) (81 - k) (pick (eqb k 80) 0 1)

abbrev rank_range : ℕ → ℕ
rank_range k = pick (ltb k 78) (k - 60) (rank_box k)

unfoldable pub rank : ℕ → ℕ
rank k = pick (ltb k 64) (18 + k) (rank_range k)

rank_lent : (i : ℕ) → i < 64 → rank i ≡ 18 + i
unfolding rank
rank_lent i h = ap (λ (t : Bool). pick t (18 + i) (rank_range i)) (lt-ltb i 64 h)

rank_range_lem : (i : ℕ) → i < 14 → rank (64 + i) ≡ 4 + i
unfolding rank
rank_range_lem i h =
    ap (λ (t : Bool). pick t (18 + (64 + i)) (rank_range (64 + i))) (le-ltb (64 + i) 64 (omega arith))
    ∙ ap (λ (t : Bool). pick t (64 + i - 60) (rank_box (64 + i))) (lt-ltb (64 + i) 78 (omega (arith, h)))
    ∙ (let q : 64 + i - 60 ≡ 4 + i = omega arith in q)

-- no two have the rank of what is lent
rank_apart : (n k : ℕ) → (k ≡ n → ⊥) → 18 + n ≤ rank k → 19 + n ≤ rank k
unfolding rank
rank_apart n k d h = first (ltb k 64) refl h
  where
    Goes : ℕ → Type 0
    Goes v = 18 + n ≤ v → 19 + n ≤ v

    last : (t : Bool) → Goes (pick t 0 1)
    last true h = omega (arith, h)
    last false h = omega (arith, h)

    third : (t : Bool) → 78 ≤ k → Goes (pick t (81 - k) (pick (eqb k 80) 0 1))
    third true l h = omega (arith, h, l)
    third false l h = last (eqb k 80) h

    second : (t : Bool) → ltb k 78 ≡ t → Goes (pick t (k - 60) (rank_box k))
    second true e h = let l = ltb-true k 78 e in omega (arith, h, l)
    second false e h = third (ltb k 80) (ltb-false k 78 e) h

    first : (t : Bool) → ltb k 64 ≡ t → Goes (pick t (18 + k) (rank_range k))
    first true e h = omega (arith, h, d)
    first false e h = second (ltb k 78) refl h

-- HOW MANY MAY BE MADE in a stage, the one under way among them
abbrev made_area : Area → ℕ
made_area a.Fa = 3
made_area a.Aux = 4
made_area (a.Range i) = 5 + i

abbrev made_prepare : Prepare → ℕ
made_prepare p.Attributes = 0
made_prepare p.Claim = 0
made_prepare p.Reset = 0
made_prepare p.Bar = 0
made_prepare p.Inbox = 1
made_prepare p.Outbox = 2
made_prepare p.Look = 2

abbrev made_boot : Boot → ℕ
made_boot b.QueryFw = 2
made_boot (b.Make z) = made_area z
made_boot (b.Map z v) = made_area z
made_boot b.RunFw = 3
made_boot b.ModStat = 3
made_boot b.DevCap = 3
made_boot (b.Port i) = 3
made_boot b.IcmSize = 3
made_boot b.InitHca = 18
made_boot b.Func = 18
made_boot b.Adapter = 18

abbrev made_client : Client → (lends : ℕ) → ℕ
made_client (kc.Command z) n = 18 + n
made_client (kc.Lend i) n = 19 + i
made_client (kc.UndoTo mark i) n = 18 + n

abbrev made_at : Stage → (lends : ℕ) → ℕ
made_at g.Fresh n = 0
made_at (g.Open y) n = 18 + n
made_at g.Ended n = 18 + n
made_at (g.Prepare z) n = made_prepare z
made_at (g.Boot z) n = made_boot z
made_at (g.Client z) n = made_client z n
made_at (g.Close z) n = 18 + n

abbrev made_now : Session → ℕ
made_now s = made_at s.stage s.books.lists.lends

-- the slots of the others are empty
abbrev Empty : (made : ℕ) → List Slot → Type 0
Empty d ls = (i : ℕ) → d ≤ rank i → slot_at ls i ≡ no_slot

-- a range is one of fourteen, and what is lent goes to the next of 64; a fresh session has nothing
abbrev OneOf : Area → Type 0
OneOf a.Fa = Unit {0}
OneOf a.Aux = Unit {0}
OneOf (a.Range i) = i < 14

abbrev SmallBoot : Boot → Type 0
SmallBoot b.QueryFw = Unit {0}
SmallBoot (b.Make z) = OneOf z
SmallBoot (b.Map z v) = OneOf z
SmallBoot b.RunFw = Unit {0}
SmallBoot b.ModStat = Unit {0}
SmallBoot b.DevCap = Unit {0}
SmallBoot (b.Port i) = Unit {0}
SmallBoot b.IcmSize = Unit {0}
SmallBoot b.InitHca = Unit {0}
SmallBoot b.Func = Unit {0}
SmallBoot b.Adapter = Unit {0}

abbrev SmallClient : Client → Lists → Type 0
SmallClient (kc.Command z) ls = Unit {0}
SmallClient (kc.Lend i) ls = (i ≡ ls.lends) × (i < 64)
SmallClient (kc.UndoTo mark i) ls = Unit {0}

abbrev pub Small : Stage → Lists → Type 0
Small g.Fresh ls = ls.slots ≡ no_books.lists.slots
Small (g.Open y) ls = Unit {0}
Small g.Ended ls = Unit {0}
Small (g.Prepare z) ls = Unit {0}
Small (g.Boot z) ls = SmallBoot z
Small (g.Client z) ls = SmallClient z ls
Small (g.Close z) ls = Unit {0}

-- THE TASK UNDER WAY AND ITS SLOT
abbrev InPhase : (i : ℕ) → MakePhase → List Slot → Type 0
InPhase i mp.Allocate ls = slot_at ls i ≡ no_slot
InPhase i (mp.Map h) ls = Has-handle h (slot_at ls i)
InPhase i (mp.Unmap h x) ls = Has-handle h (slot_at ls i)
InPhase i (mp.Free h x) ls = Has-handle h (slot_at ls i)

abbrev InHand : (i : ℕ) → Task → List Slot → Type 0
InHand i t.Rest ls = ⊥
InHand i (t.Attr y) ls = ⊥
InHand i (t.Claim y) ls = ⊥
InHand i t.Reset ls = ⊥
InHand i t.Bar ls = ⊥
InHand i (t.Make y) ls = InPhase i y.phase ls
InHand i (t.Free y) ls = Has-handle y.handle (slot_at ls i)
InHand i t.Look ls = ⊥
InHand i (t.Cmd y) ls = ⊥
InHand i (t.Part y) ls = ⊥

abbrev Handles : (i made : ℕ) → Task → List Slot → Type 0
Handles i d y ls = (i < 82) × (rank i < d) × InHand i y ls

-- a task with no slot asks nothing of the host
abbrev pub FitsAt : Place → (made : ℕ) → Task → List Slot → Type 0
FitsAt neither d y ls = NoHost y
FitsAt inbox d y ls = Handles INBOX d y ls
FitsAt outbox d y ls = Handles OUTBOX d y ls
FitsAt (slot i v) d y ls = Handles i d y ls

pub record Fits (s : Session) : Type 0 where
  pub room : length s.books.lists.slots ≡ 82
  pub empty : Empty (made_now s) s.books.lists.slots
  pub small : Small s.stage s.books.lists
  pub task : FitsAt (wants s) (made_now s) s.work.task s.books.lists.slots

-- THE QUESTION of a task with a slot
pub in_hand : (i : ℕ) (y : Task) (ls : List Slot) → InHand i y ls → (r : Reset) (v : FindBar) (n : List ℕ) (q : Ask) → asked (task_asks r v y) n ≡ some q → (task_asks r v y ≡ shown q) × Fitting i q ls
in_hand i t.Rest ls h r v n q d = absurd h
in_hand i (t.Attr y) ls h r v n q d = absurd h
in_hand i (t.Claim y) ls h r v n q d = absurd h
in_hand i t.Reset ls h r v n q d = absurd h
in_hand i t.Bar ls h r v n q d = absurd h
in_hand i (t.Make y) ls h r v n q d = by y.phase h d
  where
    by : (z : MakePhase) → InPhase i z ls → asked (make_asks_at (pages_in y) z) n ≡ some q → (make_asks_at (pages_in y) z ≡ shown q) × Fitting i q ls
    by mp.Allocate h d = subst (λ (z : Ask). (make_asks_at (pages_in y) mp.Allocate ≡ shown z) × Fitting i z ls) (some-injective _ q d) (refl, h)
    by (mp.Map c) h d = subst (λ (z : Ask). (make_asks_at (pages_in y) (mp.Map c) ≡ shown z) × Fitting i z ls) (some-injective _ q d) (refl, h)
    by (mp.Unmap c x) h d = subst (λ (z : Ask). (make_asks_at (pages_in y) (mp.Unmap c x) ≡ shown z) × Fitting i z ls) (some-injective _ q d) (refl, h)
    by (mp.Free c x) h d = subst (λ (z : Ask). (make_asks_at (pages_in y) (mp.Free c x) ≡ shown z) × Fitting i z ls) (some-injective _ q d) (refl, h)
in_hand i (t.Free y) ls h r v n q d = by y.phase d
  where
    by : (z : FreePhase) → asked (free_asks_at y.handle y.pages z) n ≡ some q → (free_asks_at y.handle y.pages z ≡ shown q) × Fitting i q ls
    by fp.Unmap d = subst (λ (z : Ask). (free_asks_at y.handle y.pages fp.Unmap ≡ shown z) × Fitting i z ls) (some-injective _ q d) (refl, h)
    by fp.Free d = subst (λ (z : Ask). (free_asks_at y.handle y.pages fp.Free ≡ shown z) × Fitting i z ls) (some-injective _ q d) (refl, h)
in_hand i t.Look ls h r v n q d = absurd h
in_hand i (t.Cmd y) ls h r v n q d = absurd h
in_hand i (t.Part y) ls h r v n q d = absurd h

-- ITS ANSWER. The task goes on with its slot; where it ends without a buffer, the slot is empty
abbrev Gone : (i : ℕ) → Made → List Slot → Type 0
Gone i (m.Ready z) ls = Unit {0}
Gone i (m.Refused z) ls = slot_at ls i ≡ no_slot

abbrev GoneAt : Place → Task → Made → List Slot → Type 0
GoneAt neither y z ls = NoHost y
GoneAt inbox y z ls = Gone INBOX z ls
GoneAt outbox y z ls = Gone OUTBOX z ls
GoneAt (slot i v) y z ls = Gone i z ls

abbrev Onward : Place → (made : ℕ) → Task → List Slot → Ending → Type 0
Onward q d y ls e.Going = FitsAt q d y ls
Onward q d y ls (e.Ended z) = GoneAt q y (made_in z) ls

record Goes (q : Place) (d : ℕ) (y : WorkStep) (old new : Lists) : Type 0 where
  pub room : length new.slots ≡ 82
  pub empty : Empty d new.slots
  pub lends : new.lends ≡ old.lends
  pub onward : Onward q d y.work.task new.slots y.ending

module _ (i v d : ℕ) (bk : Books) (a₁ : i < 82) (made : rank i < d) (room : length bk.lists.slots ≡ 82) (empty : Empty d bk.lists.slots) where
  abbrev ls : List Slot
  ls = bk.lists.slots

  there : i < length bk.lists.slots
  there = omega (arith, a₁, room)

  put : (y : Slot) (z : WorkStep) → (slot_at (set ls i y) i ≡ y → Onward (slot i v) d z.work.task (set ls i y) z.ending) → Goes (slot i v) d z bk.lists (puts i y bk).lists
  put y z h = record {
    room = length-set ls i y ∙ room;
    empty = λ j g₁. by j g₁ (eqb j i) refl;
    lends = refl;
    onward = h (put_here ls i y there);
  }
    where
      by : (j : ℕ) → d ≤ rank j → (t : Bool) → eqb j i ≡ t → slot_at (set ls i y) j ≡ no_slot
      by j g₁ true q = absurd (let q₁ : rank j ≡ rank i = ap rank (eqb-true j i q) in let z : ⊥ = omega (arith, g₁, made, q₁) in z)
      by j g₁ false q = put_there ls i j y (eqb-false j i q) ∙ empty j g₁

  stay : (z : WorkStep) → Onward (slot i v) d z.work.task ls z.ending → Goes (slot i v) d z bk.lists bk.lists
  stay z h = record { room = room; empty = empty; lends = refl; onward = h }

  -- the handle of what is put there
  has : (h : ℕ) (y z : Slot) → Has-handle h z → y ≡ z → Has-handle h y
  has h y z e q = subst (Has-handle h) (sym q) e

  module _ (k : Work) (y : Making) where
    granted : (r : Result ℕ NoReply) → slot_at ls i ≡ no_slot → y.phase ≡ mp.Allocate → Goes (slot i v) d (make_work k (allocated y r)) bk.lists (granted_books i v (pages_in y) r bk).lists
    granted (Ok h) e q = put (bare v h (pages_in y)) _ (λ at. (a₁, made, has h _ (bare v h (pages_in y)) (refl, refl) at))
    granted (Err Failed) e q = stay _ e
    granted (Err Wrong) e q = stay _ (a₁, made, subst (λ (z : MakePhase). InPhase i z ls) (sym q) e)

    placed : (h : ℕ) (r : Result (ℕ × ℕ) NoReply) → Has-handle h (slot_at ls i) → y.phase ≡ mp.Map h → Goes (slot i v) d (make_work k (map_step y h r)) bk.lists (mapped_books i r bk).lists
    placed h (Ok (address, bytes)) e q = put (mapped_at (slot_at ls i) address) _ (λ at. spot at (accept_at address (pages_in y)))
      where
        spot : slot_at (set ls i (mapped_at (slot_at ls i) address)) i ≡ mapped_at (slot_at ls i) address → (w₁ : Outcome (Unit {0}))
            → (let z = make_work k (by_outcome w₁ (λ u₁. pick (eqb bytes (pages_in y * 4096)) (ms.Ended (m.Ready (record { handle = h; dev = address; pages = pages_in y }))) (ms.More (in_phase y (mp.Unmap h fl.Memory)))) (ms.More (in_phase y (mp.Unmap h fl.Address)))) in
            Onward (slot i v) d z.work.task (set ls i (mapped_at (slot_at ls i) address)) z.ending)
        spot at (value u₁) = by (eqb bytes (pages_in y * 4096))
          where
            by : (t : Bool) → (let z = make_work k (pick t (ms.Ended (m.Ready (record { handle = h; dev = address; pages = pages_in y }))) (ms.More (in_phase y (mp.Unmap h fl.Memory)))) in
                Onward (slot i v) d z.work.task (set ls i (mapped_at (slot_at ls i) address)) z.ending)
            by true = tt
            by false = (a₁, made, has h _ (mapped_at (slot_at ls i) address) e at)
        spot at (refused j vs) = (a₁, made, has h _ (mapped_at (slot_at ls i) address) e at)
    placed h (Err Failed) e q = stay _ (a₁, made, e)
    placed h (Err Wrong) e q = stay _ (a₁, made, subst (λ (z : MakePhase). InPhase i z ls) (sym q) e)

    unplaced : (h : ℕ) (x : _) (r : Result (Unit {0}) NoReply) → Has-handle h (slot_at ls i) → y.phase ≡ mp.Unmap h x → Goes (slot i v) d (make_work k (unmapped y h x r)) bk.lists (puts i (unmapped_from (slot_at ls i)) bk).lists
    unplaced h x (Ok _) e q = put (unmapped_from (slot_at ls i)) _ (λ at. (a₁, made, has h _ (unmapped_from (slot_at ls i)) e at))
    unplaced h x (Err Failed) e q = put (unmapped_from (slot_at ls i)) _ (λ at. (a₁, made, has h _ (unmapped_from (slot_at ls i)) e at))
    unplaced h x (Err Wrong) e q = put (unmapped_from (slot_at ls i)) _ (λ at. (a₁, made, subst (λ (z : MakePhase). InPhase i z (set ls i (unmapped_from (slot_at ls i)))) (sym q) (has h _ (unmapped_from (slot_at ls i)) e at)))

    given : (x : _) (r : Result (Unit {0}) NoReply) → is_kind r ≡ true → Goes (slot i v) d (make_work k (freed y x r)) bk.lists (puts i no_slot bk).lists
    given x (Ok _) s = put no_slot _ (λ at. at)
    given x (Err Failed) s = put no_slot _ (λ at. at)
    given x (Err Wrong) s = absurd (false≢true s)

    made-goes : (z : Answer) (x : MakePhase) → y.phase ≡ x → InPhase i x ls → suits_of (make_asks_at (pages_in y) x) z ≡ true → Goes (slot i v) d (make_work k (make_step_at y z x)) bk.lists (answers_by i v (make_asks_at (pages_in y) x) z bk).lists
    made-goes z mp.Allocate q h s = granted (granted_of z) h q
    made-goes z (mp.Map c) q h s = placed c (mapped_of z) h q
    made-goes z (mp.Unmap c x) q h s = unplaced c x (done_of z) h q
    made-goes z (mp.Free c x) q h s = given x (done_of z) s

  module _ (k : Work) (y : Freeing) (h : Has-handle y.handle (slot_at ls i)) where
    freed-goes : (z : Answer) (x : FreePhase) → suits_of (free_asks_at y.handle y.pages x) z ≡ true → Goes (slot i v) d (free_work k (free_step_at y (done_of z) x)) bk.lists (answers_by i v (free_asks_at y.handle y.pages x) z bk).lists
    freed-goes z fp.Unmap s = by (done_of z)
      where
        by : (r : Result (Unit {0}) NoReply) → Goes (slot i v) d (free_work k (free_step_at y r fp.Unmap)) bk.lists (puts i (unmapped_from (slot_at ls i)) bk).lists
        by (Ok _) = put (unmapped_from (slot_at ls i)) _ (λ at. (a₁, made, has y.handle _ (unmapped_from (slot_at ls i)) h at))
        by (Err Failed) = put (unmapped_from (slot_at ls i)) _ (λ at. (a₁, made, has y.handle _ (unmapped_from (slot_at ls i)) h at))
        by (Err Wrong) = put (unmapped_from (slot_at ls i)) _ (λ at. (a₁, made, has y.handle _ (unmapped_from (slot_at ls i)) h at))
    freed-goes z fp.Free s = by (done_of z) s
      where
        by : (r : Result (Unit {0}) NoReply) → is_kind r ≡ true → Goes (slot i v) d (free_work k (free_step_at y r fp.Free)) bk.lists (puts i no_slot bk).lists
        by (Ok _) e = put no_slot _ (λ at. at)
        by (Err Failed) e = put no_slot _ (λ at. at)
        by (Err Wrong) e = absurd (false≢true e)

  handled : (k : Work) (z : Answer) (res : List ℕ) (y : Task) → InHand i y ls → suits_of (task_asks k.reset k.find y) z ≡ true → Goes (slot i v) d (task_step k z res y) bk.lists (answers_by i v (task_asks k.reset k.find y) z bk).lists
  handled k z res t.Rest h s = absurd h
  handled k z res (t.Attr y) h s = absurd h
  handled k z res (t.Claim y) h s = absurd h
  handled k z res t.Reset h s = absurd h
  handled k z res t.Bar h s = absurd h
  handled k z res (t.Make y) h s = made-goes k y z y.phase refl h s
  handled k z res (t.Free y) h s = freed-goes k y h z y.phase s
  handled k z res t.Look h s = absurd h
  handled k z res (t.Cmd y) h s = absurd h
  handled k z res (t.Part y) h s = absurd h

-- any task
goes : (pl : Place) (d : ℕ) (bk : Books) (k : Work) (z : Answer) (res : List ℕ) → length bk.lists.slots ≡ 82 → Empty d bk.lists.slots → FitsAt pl d k.task bk.lists.slots
    → suits_of (task_asks k.reset k.find k.task) z ≡ true → Goes pl d (work_step_of k z res) bk.lists (booked_by pl (task_asks k.reset k.find k.task) z bk).lists
goes neither d bk k z res room empty h s = record { room = room; empty = empty; lends = refl; onward = by (work_step_of k z res).ending (task_going k z res k.task h) }
  where
    by : (x : Ending) → NoHost (work_step_of k z res).work.task → Onward neither d (work_step_of k z res).work.task bk.lists.slots x
    by e.Going h = h
    by (e.Ended y) h = h
goes inbox d bk k z res room empty h s =
    let y = handled INBOX 0 d bk h.0 h.1 room empty k z res k.task h.2 s in record { room = y.room; empty = y.empty; lends = y.lends; onward = by (work_step_of k z res).ending y.onward }
  where
    by : (x : Ending) → Onward (slot INBOX 0) d (work_step_of k z res).work.task (answers_by INBOX 0 (task_asks k.reset k.find k.task) z bk).lists.slots x → Onward inbox d (work_step_of k z res).work.task (answers_by INBOX 0 (task_asks k.reset k.find k.task) z bk).lists.slots x
    by e.Going h = h
    by (e.Ended y) h = h
goes outbox d bk k z res room empty h s =
    let y = handled OUTBOX 0 d bk h.0 h.1 room empty k z res k.task h.2 s in record { room = y.room; empty = y.empty; lends = y.lends; onward = by (work_step_of k z res).ending y.onward }
  where
    by : (x : Ending) → Onward (slot OUTBOX 0) d (work_step_of k z res).work.task (answers_by OUTBOX 0 (task_asks k.reset k.find k.task) z bk).lists.slots x → Onward outbox d (work_step_of k z res).work.task (answers_by OUTBOX 0 (task_asks k.reset k.find k.task) z bk).lists.slots x
    by e.Going h = h
    by (e.Ended y) h = h
goes (slot i v) d bk k z res room empty h s = handled i v d bk h.0 h.1 room empty k z res k.task h.2 s

-- BETWEEN TWO TASKS: so many may be made
record Was (d : ℕ) (ls : Lists) : Type 0 where
  pub room : length ls.slots ≡ 82
  pub empty : Empty d ls.slots
  pub low : d ≤ 18 + ls.lends

abbrev Late : Lists → Type 0
Late ls = Was (18 + ls.lends) ls

more : (d j : ℕ) (ls : Lists) → d ≤ j → j ≤ 18 + ls.lends → Was d ls → Was j ls
more d j ls q r h = record { room = h.room; empty = λ i g₁. h.empty i (le_trans q g₁); low = r }

late : (d : ℕ) (ls : Lists) → Was d ls → Late ls
late d ls h = more d (18 + ls.lends) ls h.low (omega arith) h

abbrev After : Planned → Type 0
After y = Fits y.session

-- the next task asks nothing of the host
onto : (s : Session) → Was (made_now s) s.books.lists → Small s.stage s.books.lists → FitsAt (wants s) (made_now s) s.work.task s.books.lists.slots → Fits s
onto s h q r = record { room = h.room; empty = h.empty; small = q; task = r }

either : {A : Type 0} (P : A → Type 0) (t : Bool) (y z : A) → (t ≡ true → P y) → (t ≡ false → P z) → P (pick t y z)
either P true y z h d = h refl
either P false y z h d = d refl

by_test : (t : Bool) (y z : Planned) → After y → After z → After (pick t y z)
by_test t y z h d = either After t y z (λ r. h) (λ r. d)

by_outcome_lem : (v : Outcome ℕ) (y : ℕ → Planned) (z : Planned) → ((i : ℕ) → After (y i)) → After z → After (by_outcome v y z)
by_outcome_lem (value i) y z h d = h i
by_outcome_lem (refused i vs) y z h d = d

broken_was : (d : ℕ) (r : CmdResult) (bk : Books) → Was d bk.lists → Was d (broken_by r bk).lists
broken_was d r bk h = either (λ (z : Books). Was d z.lists) (needs_reset r) _ bk (λ t. h) (λ t. h)

entered : (d : ℕ) (z : Area) (bk : Books) → Was d bk.lists → Was d (enters z bk).lists
entered d a.Fa bk h = h
entered d a.Aux bk h = h
entered d (a.Range j) bk h = either (Was d) (ltb bk.lists.ranges 14) _ bk.lists (λ t. record { room = h.room; empty = h.empty; low = h.low }) (λ t. h)

-- CLOSING: a slot that is held is of those made
held_made : (d : ℕ) (ls : List Slot) → Empty d ls → (i : ℕ) → is_held (slot_at ls i) ≡ true → rank i < d
held_made d ls h i q = by (leb d (rank i)) refl
  where
    by : (t : Bool) → leb d (rank i) ≡ t → rank i < d
    by true r = absurd (false≢true (sym (ap is_held (h i (leb-true d (rank i) r))) ∙ q))
    by false r = let l₁ = leb-false d (rank i) r in l₁

frees_fits : (j i : ℕ) → j ≡ 82 - i → (s : Session) → Late s.books.lists → (v : ℕ) → After (frees_plan j i s v)
unfolding frees_plan
frees_fits zero i q s h v = onto _ h tt tt
frees_fits (suc j) i q s h v =
    either After (is_held (slot_at s.books.lists.slots i)) _ _
    (λ r. onto _ h tt (let l₁ : i < 82 = omega (arith, q) in (l₁, held_made (18 + s.books.lists.lends) s.books.lists.slots h.empty i r, (r, refl))))
    (λ r. frees_fits j (suc i) (omega (arith, q)) s h v)

failed_fits : (s : Session) → Late s.books.lists → (v : ℕ) → After (failed_plan s v)
unfolding failed_plan
failed_fits s h v = by_test s.books.wire.silent _ _ (onto _ h tt tt) (onto _ h tt tt)

stopped_fits : (s : Session) → Late s.books.lists → (v : ℕ) → After (stopped_plan s v)
unfolding stopped_plan
stopped_fits s h v = by_test s.books.wire.silent _ _ (onto _ h tt tt) (by_test s.books.wire.running _ _ (onto _ h tt tt) (frees_fits 82 0 refl (closes_of s c.Clean s.books) h v))

fa_fits : (s : Session) → Late s.books.lists → (v : ℕ) → After (unmap_fa_plan s v)
unfolding unmap_fa_plan
fa_fits s h v = by_test (is_held (fa_of s.books)) _ _ (onto _ h tt tt) (stopped_fits s h v)

aux_fits : (s : Session) → Late s.books.lists → (v : ℕ) → After (unmap_aux_plan s v)
unfolding unmap_aux_plan
aux_fits s h v = by_test (is_held (aux_of s.books)) _ _ (onto _ h tt tt) (fa_fits s h v)

unmap_fits : (s : Session) → Late s.books.lists → (i v : ℕ) → After (unmap_plan s i v)
unfolding unmap_plan
unmap_fits s h zero v = aux_fits s h v
unmap_fits s h (suc i) v = onto _ h tt tt

hca_fits : (s : Session) → Late s.books.lists → (v : ℕ) → After (close_hca_plan s v)
unfolding close_hca_plan
hca_fits s h v = by_test s.books.started _ _ (onto _ h tt tt) (unmap_fits s h s.books.lists.ranges v)

sent_fits : (s : Session) → Late s.books.lists → (i : ℕ) (y : Top) → After (undo_send s i y)
sent_fits s h zero y = failed_fits s h y.count
sent_fits s h (suc i) y = by_test (is_reserved y.op) _ _ (failed_fits s h y.count) (onto _ h tt tt)

undo_fits : (s : Session) → Late s.books.lists → (i : ℕ) (y : Top) → After (undo_plan s i y)
unfolding undo_plan
undo_fits s h i y = by_test (eqb y.count 0) _ _ (hca_fits s h y.count) (sent_fits s h i y)

stop_fits : (s : Session) → Late s.books.lists → (y : Top) → After (stop_plan s y)
unfolding stop_plan
stop_fits s h y = by_test s.books.wire.broken _ _ (onto _ h tt tt) (undo_fits s h UNDOS y)

quiesce_fits : (s : Session) → Late s.books.lists → (y : Top) → After (quiesce_plan s y)
unfolding quiesce_plan
quiesce_fits s h y = by_test s.books.wire.broken _ _ (onto _ h tt tt) (undo_fits (silenced_of s) h UNDOS y)

close_fits : (s : Session) → Late s.books.lists → (y : End) (top : Top) (st : Close) → After (close_plan_at s y top st)
close_fits s h y top (k.Undo i) = by_test (is_done (cmd_in y).result) _ _ (undo_fits (took_of s (cmd_in y)) h i top) (failed_fits (took_of s (cmd_in y)) h top.count)
close_fits s h y top k.CloseHca = by_test (is_done (cmd_in y).result) _ _ (unmap_fits (took_of s (cmd_in y)) h s.books.lists.ranges top.count) (failed_fits (took_of s (cmd_in y)) h top.count)
close_fits s h y top (k.Unmap i) = by_test (is_done (cmd_in y).result) _ _ (unmap_fits (took_of s (cmd_in y)) h i top.count) (failed_fits (took_of s (cmd_in y)) h top.count)
close_fits s h y top k.UnmapAux = by_test (is_done (cmd_in y).result) _ _ (fa_fits (took_of s (cmd_in y)) h top.count) (failed_fits (took_of s (cmd_in y)) h top.count)
close_fits s h y top k.UnmapFa = by_test (is_done (cmd_in y).result) _ _ (stopped_fits (took_of s (cmd_in y)) h top.count) (failed_fits (took_of s (cmd_in y)) h top.count)
close_fits s h y top k.Quiesce = onto _ h tt tt
close_fits s h y top k.Reset = by_test (is_good (reset_in y)) _ _ (frees_fits 82 0 refl (closes_of s c.Reset s.books) h top.count) (onto _ h tt tt)
close_fits s h y top (k.Free i) = frees_fits (81 - i) (suc i) (omega arith) s h top.count
close_fits s h y top k.Release = onto _ h tt tt
close_fits s h y top k.Restore = onto _ h tt tt

-- A CLIENT'S CALL
lend_fits : (s : Session) → Late s.books.lists → s.books.lists.lends < 64 → (bytes v : ℕ) → After (lend_plan s bytes v)
unfolding lend_plan
lend_fits s h l₁ bytes v = by_outcome_lem (pages_for bytes) _ _ (λ i. begun i) (onto _ h tt tt)
  where
    begun : (i : ℕ) → Fits (session (g.Client (kc.Lend s.books.lists.lends)) (record { task = t.Make (record { bytes = i * 4096; phase = mp.Allocate }); reset = s.work.reset; find = s.work.find }) s.books s.info s.failure s.closing)
    begun i = record {
      room = h.room;
      empty = λ j g₁. h.empty j (omega (arith, g₁));
      small = (refl, l₁);
      task = subst (λ (t₁ : Bool). FitsAt (pick t₁ (slot s.books.lists.lends 0) neither) (19 + s.books.lists.lends) (t.Make (record { bytes = i * 4096; phase = mp.Allocate })) s.books.lists.slots) (sym (lt-ltb s.books.lists.lends 64 l₁))
          (let r = rank_lent s.books.lists.lends l₁ in
          let l₂ : s.books.lists.lends < 82 = omega (arith, l₁) in
          let l₃ : rank s.books.lists.lends < 19 + s.books.lists.lends = omega (arith, r) in
          let l₄ : 18 + s.books.lists.lends ≤ rank s.books.lists.lends = omega (arith, r) in
          (l₂, l₃, h.empty s.books.lists.lends l₄));
    }

-- a lending ends: with one more, or with its slot empty again
lent_fits : (s : Session) (i : ℕ) → length s.books.lists.slots ≡ 82 → Empty (19 + i) s.books.lists.slots → i ≡ s.books.lists.lends → i < 64
    → (y : Made) → Gone i y s.books.lists.slots → (v : ℕ) → After (lend_ended s i y v)
lent_fits s i room empty q l₁ (m.Ready y) gone v =
    onto _ (either (λ (z : Books). Late z.lists) (ltb s.books.lists.lends 64) _ s.books (λ r. record { room = room; empty = λ j g₁. empty j (omega (arith, g₁, q)); low = omega arith })
    (λ r. absurd (let l₂ = ltb-false s.books.lists.lends 64 r in let z : ⊥ = omega (arith, l₁, l₂, q) in z))) tt tt
lent_fits s i room empty q l₁ (m.Refused y) gone v = onto _ (record { room = room; empty = λ j g₁. by j g₁ (eqb j i) refl; low = omega arith }) tt tt
  where
    by : (j : ℕ) → 18 + s.books.lists.lends ≤ rank j → (t₁ : Bool) → eqb j i ≡ t₁ → slot_at s.books.lists.slots j ≡ no_slot
    by j g₁ true r = ap (slot_at s.books.lists.slots) (eqb-true j i r) ∙ gone
    by j g₁ false r = empty j (rank_apart i j (eqb-false j i r) (omega (arith, g₁, q)))

client_sent : (s : Session) → Late s.books.lists → (mark i : ℕ) (y : Top) → After (cl.undo_send s mark i y)
client_sent s h mark zero y = onto _ h tt tt
client_sent s h mark (suc i) y = by_test (is_reserved y.op) _ _ (onto _ h tt tt) (onto _ h tt tt)

undo_to_fits : (s : Session) → Late s.books.lists → (mark i : ℕ) (y : Top) → After (cl.undo_plan s mark i y)
unfolding cl.undo_plan
undo_to_fits s h mark i y = by_test (leb y.count mark) _ _ (onto _ h tt tt) (by_test s.books.wire.broken _ _ (onto _ h tt tt) (client_sent s h mark i y))

-- OPENING
fail_fits : (d : ℕ) (s : Session) → Was d s.books.lists → (y : Refusal) (top : Top) → After (fail_plan s y top)
unfolding fail_plan
fail_fits d s h y top = stop_fits (n.with_failure s y) (late d s.books.lists h) top

fail_by_fits : (d : ℕ) (s : Session) → Was d s.books.lists → (y : CmdResult) (top : Top) → After (fail_by_plan s y top)
unfolding fail_by_plan
fail_by_fits d s h y top = fail_fits d _ (broken_was d y s.books h) _ top

-- an area is made when those before it are
area_rank : (z : Area) → OneOf z → (suc (rank (slot_for z)) ≡ made_area z) × (slot_for z < 82)
unfolding rank
area_rank a.Fa l₁ = (refl, lit≤ tt)
area_rank a.Aux l₁ = (refl, lit≤ tt)
area_rank (a.Range i) l₁ = (ap suc (rank_range_lem i l₁) ∙ (let q : suc (4 + i) ≡ 5 + i = omega arith in q), let l₂ : 64 + i < 82 = omega (arith, l₁) in l₂)

make_fits : (d : ℕ) (s : Session) → Was d s.books.lists → (z : Area) → OneOf z → made_area z ≡ suc d → (bytes : ℕ) (top : Top) → After (make_plan s z bytes top)
unfolding make_plan
make_fits d s h z l₁ q bytes top =
    by_outcome_lem (pages_for bytes) _ _
    (λ i. record {
      room = h.room;
      empty = λ j g₁. h.empty j (omega (arith, g₁, q));
      small = l₁;
      task = (r.1, let l₂ : rank (slot_for z) < made_area z = omega (arith, e₁) in l₂, h.empty (slot_for z) (omega (arith, e₁, q)));
    }) (fail_fits d s h x.Address top)
  where
    r : (suc (rank (slot_for z)) ≡ made_area z) × (slot_for z < 82)
    r = area_rank z l₁

    e₁ : suc (rank (slot_for z)) ≡ made_area z
    e₁ = r.0

func_fits : (s : Session) → Was 18 s.books.lists → (top : Top) → After (func_plan s top)
unfolding func_plan
func_fits s h top = by_test (eqb s.info.cap.num_sys_eqs 0) _ _ (onto _ h tt tt) (onto _ h tt tt)

range_fits : (s : Session) (i : ℕ) → i < 14 → Was (5 + i) s.books.lists → (top : Top) → After (next_range s i top)
unfolding next_range
range_fits s i l₁ h top =
    either After (ltb i 13) _ _
    (λ r. let l₂ = ltb-true i 13 r in let l₃ : i + 1 < 14 = omega (arith, l₂) in let q : 5 + (i + 1) ≡ suc (5 + i) = omega arith in make_fits (5 + i) s h (a.Range (i + 1)) l₃ q _ top)
    (λ r. let l₂ : 5 + i ≤ 18 = omega (arith, l₁) in onto _ (more (5 + i) 18 s.books.lists l₂ (omega arith) h) tt tt)

mapped_fits : (s : Session) (z : Area) → OneOf z → Was (made_area z) s.books.lists → (top : Top) → After (mapped_plan s z top)
unfolding mapped_plan
mapped_fits s a.Fa l₁ h top = onto _ h tt tt
mapped_fits s a.Aux l₁ h top = make_fits 4 s h (a.Range 0) (lit≤ tt) refl _ top
mapped_fits s (a.Range i) l₁ h top = range_fits s i l₁ h top

map_fits : (s : Session) (z : Area) → OneOf z → Was (made_area z) s.books.lists → (y : Cutter) (top : Top) → After (map_plan s z y top)
unfolding map_plan
map_fits s z l₁ h y top = by_test (eqb y.left 0) _ _ (mapped_fits s z l₁ h top) (onto _ h l₁ tt)

area_fits : (s : Session) (z : Area) → OneOf z → Was (made_area z) s.books.lists → (y : Made) (top : Top) → After (area_plan s z y top)
area_fits s z l₁ h (m.Ready y) top = map_fits _ z l₁ (entered (made_area z) z s.books h) _ top
area_fits s z l₁ h (m.Refused y) top = fail_fits (made_area z) s h _ top

layout_fits : (s : Session) → Was 3 s.books.lists → (y : Outcome Layout) (top : Top) → After (layout_plan s y top)
unfolding layout_plan
layout_fits s h (value y) top = onto _ h tt tt
layout_fits s h (refused i vs) top = fail_fits 3 s h _ top

port_fits : (s : Session) → Was 3 s.books.lists → (i : ℕ) (top : Top) → After (port_plan s i top)
unfolding port_plan
port_fits s h i top = by_test (ltb i (ports_of s.info)) _ _ (onto _ h tt tt) (layout_fits s h (profile_of s.info.cap) top)

fw_fits : (s : Session) → Was 2 s.books.lists → (y : Outcome FwInfo) (z : FwInfo) (top : Top) → After (fw_replied s y z top)
unfolding fw_replied
fw_fits s h (value y) z top = make_fits 2 _ h a.Fa tt refl _ top
fw_fits s h (refused i vs) z top = fail_fits 2 _ h _ top

cap_fits : (s : Session) → Was 3 s.books.lists → (y : Outcome DevCap) (top : Top) → After (cap_replied s y top)
unfolding cap_replied
cap_fits s h (value y) top = port_fits _ h 0 top
cap_fits s h (refused i vs) top = fail_fits 3 s h _ top

replied_fits : (s : Session) → Was 3 s.books.lists → (i : ℕ) (y : Outcome PortInfo) (top : Top) → After (port_replied s i y top)
unfolding port_replied
replied_fits s h i (value y) top = port_fits _ h i top
replied_fits s h i (refused j vs) top = fail_fits 3 s h _ top

func_replied_lem : (s : Session) → Was 18 s.books.lists → (y : Outcome FuncInfo) (top : Top) → After (func_replied s y top)
unfolding func_replied
func_replied_lem s h (value y) top = onto _ h tt tt
func_replied_lem s h (refused i vs) top = fail_fits 18 s h _ top

boot_fits : (s : Session) (st : Boot) → SmallBoot st → Was (made_boot st) s.books.lists → (y : End) (out : List ℕ) (top : Top) → After (boot_plan_at s y out top st)
boot_fits s b.QueryFw l₁ h y out top = by_test (is_done (cmd_in y).result) _ _ (fw_fits _ h (query_fw_of out s.info.uar.index) (fw_held out s.info.uar.index) top) (fail_fits 2 _ (broken_was 2 (cmd_in y).result (took_of s (cmd_in y)).books h) _ top)
boot_fits s (b.Make z) l₁ h y out top = area_fits s z l₁ h (made_in y) top
boot_fits s (b.Map z v) l₁ h y out top = by_test (is_done (cmd_in y).result) _ _ (map_fits _ z l₁ h v top) (fail_by_fits (made_area z) _ h _ top)
boot_fits s b.RunFw l₁ h y out top = by_test (is_done (cmd_in y).result) _ _ (onto _ h tt tt) (fail_by_fits 3 _ h _ top)
boot_fits s b.ModStat l₁ h y out top = by_test (needs_reset (cmd_in y).result) _ _ (fail_by_fits 3 _ h _ top) (onto _ h tt tt)
boot_fits s b.DevCap l₁ h y out top = by_test (is_done (cmd_in y).result) _ _ (cap_fits _ h (capability_of out s.info.uar.size) top) (fail_by_fits 3 _ h _ top)
boot_fits s (b.Port i) l₁ h y out top = by_test (is_done (cmd_in y).result) _ _ (replied_fits _ h i (query_port_of out i) top) (fail_by_fits 3 _ h _ top)
boot_fits s b.IcmSize l₁ h y out top = by_test (is_done (cmd_in y).result) _ _ (make_fits 3 _ h a.Aux tt refl _ top) (fail_by_fits 3 _ h _ top)
boot_fits s b.InitHca l₁ h y out top = by_test (is_done (cmd_in y).result) _ _ (func_fits _ h top) (fail_by_fits 18 _ h _ top)
boot_fits s b.Func l₁ h y out top = by_test (is_done (cmd_in y).result) _ _ (func_replied_lem _ h (query_func_of out) top) (fail_by_fits 18 _ h _ top)
boot_fits s b.Adapter l₁ h y out top = onto _ (late 18 s.books.lists h) tt tt

attr_fits : (s : Session) → Was 0 s.books.lists → (y : Attributes) (top : Top) → After (n.attr_plan s y top)
attr_fits s h (at.Enabled v) top = onto _ h tt tt
attr_fits s h at.Refused top = onto _ (late 0 s.books.lists h) tt tt

claim_fits : (s : Session) → Was 0 s.books.lists → (y : Claimed) (top : Top) → After (n.claim_plan s y top)
claim_fits s h l.Good top = onto _ h tt tt
claim_fits s h l.Refused top = onto _ (late 0 s.books.lists h) tt tt

-- the mailboxes are made first
bar_fits : (s : Session) → Was 0 s.books.lists → (y : Found) (top : Top) → After (n.bar_plan s y top)
unfolding rank
bar_fits s h (Ok y) top = onto _ (more 0 1 s.books.lists (lit≤ tt) (omega arith) h) tt (lit≤ tt, lit≤ tt, h.empty INBOX (lit≤ tt))
bar_fits s h (Err u.Refused) top = onto _ (late 0 s.books.lists h) tt tt
bar_fits s h (Err u.BadList) top = onto _ (late 0 s.books.lists h) tt tt

in_fits : (s : Session) → Was 1 s.books.lists → (y : Made) (top : Top) → After (n.inbox_plan s y top)
unfolding rank
in_fits s h (m.Ready y) top = onto _ (more 1 2 s.books.lists (lit≤ tt) (omega arith) h) tt (lit≤ tt, lit≤ tt, h.empty OUTBOX (lit≤ tt))
in_fits s h (m.Refused y) top = onto _ (late 1 s.books.lists h) tt tt

out_fits : (s : Session) → Was 2 s.books.lists → (y : Made) (top : Top) → After (n.outbox_plan s y top)
out_fits s h (m.Ready y) top = onto _ h tt tt
out_fits s h (m.Refused y) top = frees_fits 82 0 refl (n.gives_up s (fault_of y) s.books) (late 2 s.books.lists h) top.count

prepare_fits : (s : Session) (st : Prepare) → Was (made_prepare st) s.books.lists → (y : End) (top : Top) → After (prepare_plan_at s y top st)
prepare_fits s p.Attributes h y top = attr_fits s h (attr_in y) top
prepare_fits s p.Claim h y top = claim_fits s h (claim_in y) top
prepare_fits s p.Reset h y top = by_test (is_good (reset_in y)) _ _ (onto _ h tt tt) (onto _ (late 0 s.books.lists h) tt tt)
prepare_fits s p.Bar h y top = bar_fits s h (bar_in y) top
prepare_fits s p.Inbox h y top = in_fits s h (made_in y) top
prepare_fits s p.Outbox h y top = out_fits s h (made_in y) top
prepare_fits s p.Look h y top = onto _ h tt tt

-- WHAT IS WRITTEN before the next question: a page list posts a command
lists_boot_lem : (v : Work) (d : Books) (i : Info) (z : Failure) (q : Closing) (y : Listed) (st : Boot) → Fits (session (g.Boot st) v d i z q) → Fits (lists_boot (session (g.Boot st) v d i z q) y st)
lists_boot_lem v d i z q y b.QueryFw h = h
lists_boot_lem v d i z q y (b.Make z₁) h = h
lists_boot_lem v d i z q y (b.Map z₁ r) h = record { room = h.room; empty = h.empty; small = h.small; task = tt }
lists_boot_lem v d i z q y b.RunFw h = h
lists_boot_lem v d i z q y b.ModStat h = h
lists_boot_lem v d i z q y b.DevCap h = h
lists_boot_lem v d i z q y (b.Port j) h = h
lists_boot_lem v d i z q y b.IcmSize h = h
lists_boot_lem v d i z q y b.InitHca h = h
lists_boot_lem v d i z q y b.Func h = h
lists_boot_lem v d i z q y b.Adapter h = h

lists_fits : (st : Stage) (v : Work) (d : Books) (i : Info) (z : Failure) (q : Closing) (y : Listed) → Fits (session st v d i z q) → Fits (lists_at (session st v d i z q) y st)
lists_fits g.Fresh v d i z q y h = h
lists_fits (g.Open s) v d i z q y h = h
lists_fits g.Ended v d i z q y h = h
lists_fits (g.Prepare s) v d i z q y h = h
lists_fits (g.Boot s) v d i z q y h = lists_boot_lem v d i z q y s h
lists_fits (g.Client s) v d i z q y h = h
lists_fits (g.Close s) v d i z q y h = h

filled_fits : (y : Fill) (s : Session) (i : List ℕ) → Fits s → Fits (filled y s i)
filled_fits w.Nothing s i h = h
filled_fits w.Outbox s i h = h
filled_fits (w.List v) s i h =
    either Fits (eqb (length i) 4096) (lists s (listed_of 63 256 v)) s (λ r. lists_fits s.stage s.work s.books s.info s.failure s.closing (listed_of 63 256 v) h) (λ r. h)
filled_fits w.ModStat s i h = h
filled_fits w.InitHca s i h = h

-- A TASK HAS ENDED
low_prepare : (st : Prepare) (v : ℕ) → made_prepare st ≤ 18 + v
low_prepare p.Attributes v = omega arith
low_prepare p.Claim v = omega arith
low_prepare p.Reset v = omega arith
low_prepare p.Bar v = omega arith
low_prepare p.Inbox v = omega arith
low_prepare p.Outbox v = omega arith
low_prepare p.Look v = omega arith

low_area : (z : Area) (v : ℕ) → OneOf z → made_area z ≤ 18 + v
low_area a.Fa v l₁ = omega arith
low_area a.Aux v l₁ = omega arith
low_area (a.Range i) v l₁ = omega (arith, l₁)

low_boot : (st : Boot) (v : ℕ) → SmallBoot st → made_boot st ≤ 18 + v
low_boot b.QueryFw v l₁ = omega arith
low_boot (b.Make z) v l₁ = low_area z v l₁
low_boot (b.Map z y) v l₁ = low_area z v l₁
low_boot b.RunFw v l₁ = omega arith
low_boot b.ModStat v l₁ = omega arith
low_boot b.DevCap v l₁ = omega arith
low_boot (b.Port i) v l₁ = omega arith
low_boot b.IcmSize v l₁ = omega arith
low_boot b.InitHca v l₁ = omega arith
low_boot b.Func v l₁ = omega arith
low_boot b.Adapter v l₁ = omega arith

module _ (s : Session) (room : length s.books.lists.slots ≡ 82) where
  abbrev Not : ℕ → Type 0
  Not d = Empty d s.books.lists.slots

  over : (d : ℕ) → Not d → d ≤ 18 + s.books.lists.lends → Was d s.books.lists
  over d h l₁ = record { room = room; empty = h; low = l₁ }

  client_fits : (st : Client) → Not (made_client st s.books.lists.lends) → SmallClient st s.books.lists → (y : End) → GoneAt (cl.place_in st) s.work.task (made_in y) s.books.lists.slots → (top : Top) → After (client_plan_at s y top st)
  client_fits (kc.Command z) h q y gone top =
      onto _ (either (λ (d : Books). Late d.lists) (needs_reset (cmd_in y).result) _ (took_of s (cmd_in y)).books (λ r. over _ h (omega arith)) (λ r. over _ h (omega arith))) tt tt
  client_fits (kc.Lend i) h q y gone top =
      lent_fits s i room h q.0 q.1 (made_in y) (subst (λ (r : Bool). GoneAt (pick r (slot i 0) neither) s.work.task (made_in y) s.books.lists.slots) (lt-ltb i 64 q.1) gone) top.count
  client_fits (kc.UndoTo mark i) h q y gone top =
      by_test (is_done (cmd_in y).result) _ _ (undo_to_fits (took_of s (cmd_in y)) (over _ h (omega arith)) mark i top) (onto _ (over _ h (omega arith)) tt tt)

  abbrev FitsIn : Stage → Type 0
  FitsIn st = FitsAt (place_at st s.info) (made_at st s.books.lists.lends) s.work.task s.books.lists.slots

  fits_in : (st : Stage) → s.stage ≡ st → Not (made_at st s.books.lists.lends) → Small st s.books.lists → FitsIn st → Fits s
  fits_in st e₁ h q r = record {
    room = room;
    empty = subst (λ (z : Stage). Not (made_at z s.books.lists.lends)) (sym e₁) h;
    small = subst (λ (z : Stage). Small z s.books.lists) (sym e₁) q;
    task = subst FitsIn (sym e₁) r;
  }

  plan_fits : (st : Stage) → s.stage ≡ st → Not (made_at st s.books.lists.lends) → Small st s.books.lists → (y : End) → GoneAt (place_at st s.info) s.work.task (made_in y) s.books.lists.slots → (out : List ℕ) (top : Top) → After (plan_at s y out top st)
  unfolding prepare_plan boot_plan client_plan close_plan
  plan_fits g.Fresh e₁ h q y gone out top = fits_in g.Fresh e₁ h q gone
  plan_fits (g.Open v) e₁ h q y gone out top = fits_in (g.Open v) e₁ h q gone
  plan_fits g.Ended e₁ h q y gone out top = fits_in g.Ended e₁ h q gone
  plan_fits (g.Prepare st) e₁ h q y gone out top = prepare_fits s st (over _ h (low_prepare st s.books.lists.lends)) y top
  plan_fits (g.Boot st) e₁ h q y gone out top = boot_fits s st q (over _ h (low_boot st s.books.lists.lends q)) y out top
  plan_fits (g.Client st) e₁ h q y gone out top = client_fits st h q y gone top
  plan_fits (g.Close st) e₁ h q y gone out top = close_fits s (over _ h (omega arith)) y top st

-- AN ANSWER that suits
turn_fits : (s : Session) → length s.books.lists.slots ≡ 82 → Empty (made_now s) s.books.lists.slots → Small s.stage s.books.lists → (v : Answer) (y : Work) (i out : List ℕ) (top : Top) (z : Ending)
    → Onward (wants s) (made_now s) y.task s.books.lists.slots z → Fits (step_turn s v y i out top z).session
turn_fits s room h q v y i out top e.Going r = record { room = room; empty = h; small = q; task = r }
turn_fits s room h q v y i out top (e.Ended z) r =
    filled_fits (plan_at (with_work s y) z out top s.stage).fill _ i (plan_fits (with_work s y) room s.stage refl h q z r out top)

-- what it does to the slot of its task is nothing to the stage
small_booked : (st : Stage) (n₁ : Info) (q : Question) (v : Answer) (d : Books) → (booked_by (place_at st n₁) q v d).lists.lends ≡ d.lists.lends → Small st d.lists → Small st (booked_by (place_at st n₁) q v d).lists
small_booked g.Fresh n₁ q v d r h = h
small_booked (g.Open y) n₁ q v d r h = tt
small_booked g.Ended n₁ q v d r h = tt
small_booked (g.Prepare y) n₁ q v d r h = tt
small_booked (g.Boot y) n₁ q v d r h = h
small_booked (g.Client (kc.Command y)) n₁ q v d r h = tt
small_booked (g.Client (kc.Lend i)) n₁ q v d r h = (h.0 ∙ sym r, h.1)
small_booked (g.Client (kc.UndoTo mark i)) n₁ q v d r h = tt
small_booked (g.Close y) n₁ q v d r h = tt

pub step_fits : (s : Session) → Fits s → (v : Answer) → suits_of (asks_of s) v ≡ true → (res i out : List ℕ) (top : Top) → Fits (step_of s v res i out top).session
unfolding step_of
step_fits s h v q res i out top =
    turn_fits (booked_of s v) y.room (subst (λ (n₁ : ℕ). Empty (made_at s.stage n₁) (booked_of s v).books.lists.slots) (sym y.lends) y.empty)
    (small_booked s.stage s.info (asks_of s) v s.books y.lends h.small) v (work_step_of s.work v res).work i out top (work_step_of s.work v res).ending
    (subst (λ (n₁ : ℕ). Onward (wants s) (made_at s.stage n₁) (work_step_of s.work v res).work.task (booked_of s v).books.lists.slots (work_step_of s.work v res).ending) (sym y.lends) y.onward)
  where
    y : Goes (wants s) (made_now s) (work_step_of s.work v res) s.books.lists (booked_of s v).books.lists
    y = goes (wants s) (made_now s) s.books s.work v res h.room h.empty h.task q

-- A CALL BEGINS: a fresh session has nothing, and one that is open what was made
all_empty : (n₁ i : ℕ) → slot_at (replicate n₁ no_slot) i ≡ no_slot
all_empty zero i = refl
all_empty (suc n₁) zero = refl
all_empty (suc n₁) (suc i) = all_empty n₁ i

open_late : (s : Session) → Fits s → (st : Stage) → s.stage ≡ st → is_open st ≡ true → Late s.books.lists
open_late s h g.Fresh q r = absurd (false≢true r)
open_late s h (g.Open y) q r = over s h.room _ (subst (λ (z : Stage). Empty (made_at z s.books.lists.lends) s.books.lists.slots) q h.empty) (omega arith)
open_late s h g.Ended q r = absurd (false≢true r)
open_late s h (g.Prepare y) q r = absurd (false≢true r)
open_late s h (g.Boot y) q r = absurd (false≢true r)
open_late s h (g.Client y) q r = absurd (false≢true r)
open_late s h (g.Close y) q r = absurd (false≢true r)

-- a lending that is not barred has room
has_room_lem : (lends bytes : ℕ) → by_list lends bytes ≡ f.Nothing → lends < 64
has_room_lem lends bytes q = by (leb 64 lends) refl q
  where
    IsBy : Failure → Type 0
    IsBy f.Nothing = ⊥
    IsBy (f.By y) = Unit {0}

    by : (t₁ : Bool) → leb 64 lends ≡ t₁ → pick t₁ (f.By x.Full) (by_pages (pages_for bytes)) ≡ f.Nothing → lends < 64
    by true d q = absurd (subst IsBy q tt)
    by false d q = let l₁ = leb-false 64 lends d in l₁

begins_fits : (y : Call) (s : Session) → Fits s → is_time s.stage y ≡ true → barred s y ≡ f.Nothing → (top : Top) → After (plan_for s y top)
unfolding command_plan
begins_fits kn.Open s h r z top = onto _ (record { room = refl; empty = λ i g₁. all_empty 82 i; low = lit≤ tt }) tt tt
begins_fits (kn.Command y) s h r z top = onto _ (open_late s h s.stage refl r) tt tt
begins_fits (kn.Lend bytes) s h r z top = lend_fits s (open_late s h s.stage refl r) (has_room_lem s.books.lists.lends bytes z) bytes top.count
begins_fits (kn.UndoTo mark y) s h r z top = undo_to_fits s (open_late s h s.stage refl r) mark UNDOS top
begins_fits kn.Quiesce s h r z top = quiesce_fits s (open_late s h s.stage refl r) top
begins_fits kn.Close s h r z top = stop_fits (without_failure s) (open_late s h s.stage refl r) top

pub begun_fits : (y : Call) (s : Session) → Fits s → is_time s.stage y ≡ true → barred s y ≡ f.Nothing → (input i : List ℕ) (top : Top) → Fits (begun_turn s y input i top).session
unfolding begun_turn
begun_fits y s h r z input i top = filled_fits (plan_for s y top).fill (plan_for s y top).session (ready_in y input i) (begins_fits y s h r z top)

-- A FRESH SESSION
pub fresh_fits : Fits fresh
fresh_fits = record { room = refl; empty = λ i g₁. all_empty 82 i; small = refl; task = tt }
