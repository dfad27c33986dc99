-- THE THEOREM of demand 3: what is left of each call's course is safe, after every event.
use Prim.Native.Nat.{ℕ, ◌+◌, ◌/◌, ◌<◌}
use native.Mathlib.Omega.{arith}
use mathlib.Core.Bool.{Bool, true, false, ◌&&◌, false≢true}
use mathlib.Core.List.{List, [], ◌∷◌}
use mathlib.Core.Logic.{◌⊎◌, inl, inr, ⊎_elim, ◌↔◌}
use mathlib.Core.Option.{Option, some, none, some-injective, none-ne-some}
use mathlib.Core.Path.{◌≡◌, refl, sym, ◌∙◌, ap, subst}
use lib.Dec.{eqb, leb}
use borrow.Author.Tests.{eqb-true, leb-false}
use lib.ListN.{length}
use Rattle.fields.specs.Outcome.{value, pick}
use Rattle.pci.specs.Script.{Ask, Reply, shown, reply_of, config_read16, config_read32, config_write16, config_write32, read, write, attributes, resource, stall, allocate, mapped, unmap, free, fence}
use Rattle.pci.specs.Machine.{Right}
use Rattle.pci.specs.declared.Question.TheVariants as q
use Rattle.pci.specs.declared.Answer.{Answer}
use Rattle.pci.specs.declared.Refusal.{Refusal}
use Rattle.pci.specs.declared.Refusal.TheVariants as r
use Rattle.work.specs.Work.{is_resting, work_step_of}
use Rattle.work.specs.declared.Work.{Work}
use Rattle.work.specs.declared.Ending.{Ending}
use Rattle.work.specs.declared.Ending.TheVariants as e
use Rattle.work.specs.declared.Task.{Task}
use Rattle.work.specs.declared.Task.TheVariants as t
use Rattle.dma.specs.Buffers.{pages_for}
use Rattle.dma.specs.declared.Buffer.{Buffer}
use Rattle.hcr.specs.Words.{is_reserved}
use Rattle.session.specs.Session.{icm_at, buffer_of, wired, broken, named, INBOX, OUTBOX}
use Rattle.session.specs.declared.Wire.{Wire}
use Rattle.session.specs.declared.Gave.{Gave}
use Rattle.session.specs.declared.Gave.TheVariants as gv
use Rattle.session.specs.declared.Client.{Client}
use Rattle.session.specs.Course.{Course, ret, ask, Here, here, Lent, Left, left, Rest, at_rest, rest_of}
use Rattle.session.specs.declared.Top.{Top}
use Rattle.session.specs.declared.Slot.{Slot}
use Rattle.session.specs.declared.Books.{Books}
use Rattle.card_calls.proofs.Slots.{in_more}
use Rattle.session.specs.declared.Info.{Info}
use Rattle.session.specs.declared.Stage.{Stage}
use Rattle.session.specs.declared.Stage.TheVariants as g
use Rattle.session.specs.declared.Close.{Close}
use Rattle.session.specs.declared.Prepare.{Prepare}
use Rattle.session.specs.declared.Prepare.TheVariants as p
use Rattle.session.specs.declared.Failure.{Failure}
use Rattle.session.specs.declared.Failure.TheVariants as f
use Rattle.session.specs.declared.Closing.{Closing}
use Rattle.session.specs.declared.Closing.TheVariants as c
use Rattle.session.specs.declared.Session.{Session}
use Rattle.fw_plan.specs.Calls.{booked_of, asks_of, outcome_at, is_session, is_lent, answerable, in_time, refused_of, answer_of, answer_in, step_turn, step_of, step_in}
use Rattle.calls_plan.specs.Calls.{is_fresh, is_open, is_time, callable, has_room, lent_for, by_opcode, by_pages, by_list, barred, begun_turn, begun_inbox, unless, admitted, call_of, call_in, course_for}
use Rattle.calls_plan.specs.declared.Call.{Call}
use Rattle.calls_plan.specs.declared.Call.TheVariants as kn
use Rattle.calls_plan.proofs.Begins.{begun_at, begins}
use Rattle.calls_plan.proofs.Counts.{Loudly, step_fact, begun_fact}
use Rattle.fw_plan.specs.Follows.{course_of, course_at, is_running, here_after, Follows}
use Rattle.fw_plan.specs.declared.Outcome.{Outcome}
use Rattle.fw_plan.specs.declared.Turn.{Turn}
use Rattle.fw_plan.proofs.Session.{session_follows}
use Rattle.card.specs.Card.{Held, Command, Card, Settles, Hold, standing, Host, HostStep, Ours, World, WorldStep, MayUse, Allowed, Meets, IsHeld, Other, kind, effect, lend_to}
use Rattle.card.specs.Owns.{Owns, Apart, InBooks, InOrder, spot_of, hold_of}
use Rattle.card.proofs.Command.{within_stable, within_more, quiet_stable}
use Rattle.card.proofs.View.{empty_uses, held_before, other_effect}
use Rattle.card.proofs.Fixed.{host_fixed}
use Rattle.card.proofs.Once.{Tied, step_tied}
use Rattle.card.proofs.Owns.{owns_ours}
use Rattle.card_calls.specs.SafeCourse.{Lendable, SafeCourse}
use Rattle.card_calls.proofs.Courses.{Fair}
use Rattle.card_calls.proofs.Closing.{safe-stopping}
use Rattle.card_calls.proofs.Books.{uses_owed, range_meets}
use Rattle.card_calls.proofs.Commands.{boxes_mailed}
use Rattle.card_calls.proofs.Idle.{moved_boxes, wired_entries, wired_bound}
use Rattle.card_calls.proofs.Quiet.{safe_quiescing}
use Rattle.card_calls.proofs.Client.{Given, safe_commanding, safe_lending, safe_undoing_to}
use Rattle.card_calls.proofs.Calm.{CalmAsk, CalmCourse, calm_step, commanding_calm, lending_calm, undoing_to_calm}
use Rattle.card_calls.proofs.Opening.{safe_opening}
use Rattle.demand.specs.Events.{Input, call_make, call_answer, Event, turn, asked, Stand, Rests, Answers, Happens, SameBox, box_left, calls_by, asks_back, is_close, is_opening, tears, began_once, began_now, inbox_after, buffer_at, gave_buffer, given_by, lent_by, lent_now, lends_to, SizedCall, Step}
use Rattle.demand.specs.Demand.{GivesBack, QuestionKept, Inside, range_of, Exact, AllBack, AllKept, EndedBy, Never, Closed, Opened, NoQuiesce, has_returned, Due, Good, Start, Always, Demand}
use Rattle.demand.proofs.Plans.{IsRest, Starts, Fit, Suited, HeldAt, Known, held_map, held_step as plan-held, Both, step_both, Needed, begun-both}
use Rattle.demand.proofs.Made.{Makes, starts_makes, unasked}
use Rattle.demand.proofs.Clients.{IsClient, Same, OfClient, step_same, begun_same, lend_gives}
use Rattle.demand.proofs.Settle.{settled_uses, at, rests_at, course_settled}
use Rattle.demand.proofs.Questions.{asked_shown, rest_asks, nothing_asked, task_leaves}
use Rattle.demand.proofs.OnePage.{range_each, apart_at, one_page, some_page, single_page}
use Rattle.demand.proofs.Inside.{HeldBy, held_step, same_gives, settled_inside, step_inside, step_gives}
use Rattle.demand.proofs.Alive.{Alive, Busy, counted, step_alive, call_alive}
use Rattle.opening_plan.specs.Values.{range_at}
use Rattle.card.specs.Known.{Empty, Nothing, Quiet, Within}
use Rattle.card_calls.specs.Owed.{OwedBy}
use Rattle.card_calls.specs.Holding.{InSlot, Boxes, Calm, Mine, Uses, Lies, Idle, lents}
use Rattle.card_calls.specs.Ranges.{OnRange, InRanges, Accepted, AsLaid}
use Rattle.card.proofs.Bools.{and_left, and_right}
use Rattle.demand.proofs.Inbox.{step_length, call_length}

-- BY THE LAST CALL that was taken: in what stages it runs, and how it may end
abbrev pub IsOpening : Call → Type 0
IsOpening kn.Open = Unit {0}
IsOpening (kn.Command y) = ⊥
IsOpening (kn.Lend bytes) = ⊥
IsOpening (kn.UndoTo mark r) = ⊥
IsOpening kn.Quiesce = ⊥
IsOpening kn.Close = ⊥

abbrev pub Tears : Call → Type 0
Tears kn.Open = Unit {0}
Tears (kn.Command y) = ⊥
Tears (kn.Lend bytes) = ⊥
Tears (kn.UndoTo mark r) = ⊥
Tears kn.Quiesce = Unit {0}
Tears kn.Close = Unit {0}

abbrev pub EndsOpen : Call → Type 0
EndsOpen kn.Open = Unit {0}
EndsOpen (kn.Command y) = Unit {0}
EndsOpen (kn.Lend bytes) = Unit {0}
EndsOpen (kn.UndoTo mark r) = Unit {0}
EndsOpen kn.Quiesce = Unit {0}
EndsOpen kn.Close = ⊥

abbrev pub Ends : Call → Type 0
Ends kn.Open = Unit {0}
Ends (kn.Command y) = ⊥
Ends (kn.Lend bytes) = ⊥
Ends (kn.UndoTo mark r) = ⊥
Ends kn.Quiesce = ⊥
Ends kn.Close = Unit {0}

abbrev IsClosing : Call → Type 0
IsClosing kn.Open = ⊥
IsClosing (kn.Command y) = ⊥
IsClosing (kn.Lend bytes) = ⊥
IsClosing (kn.UndoTo mark r) = ⊥
IsClosing kn.Quiesce = ⊥
IsClosing kn.Close = Unit {0}

closing_open : (d : Call) → IsClosing d → EndsOpen d → ⊥
closing_open kn.Open a b = a
closing_open (kn.Command y) a b = a
closing_open (kn.Lend bytes) a b = a
closing_open (kn.UndoTo mark r) a b = a
closing_open kn.Quiesce a b = a
closing_open kn.Close a b = b

abbrev pub Last : (Call → Type 0) → List Call → Type 0
Last P [] = ⊥
Last P (d ∷ l) = P d

abbrev pub Untaken : List Call → Type 0
Untaken [] = Unit {0}
Untaken (d ∷ l) = ⊥

client_opening : (d : Call) → OfClient d → IsOpening d → ⊥
client_opening kn.Open a b = a
client_opening (kn.Command y) a b = b
client_opening (kn.Lend bytes) a b = b
client_opening (kn.UndoTo mark r) a b = b
client_opening kn.Quiesce a b = a
client_opening kn.Close a b = a

client_tears : (d : Call) → OfClient d → Tears d → ⊥
client_tears kn.Open a b = a
client_tears (kn.Command y) a b = b
client_tears (kn.Lend bytes) a b = b
client_tears (kn.UndoTo mark r) a b = b
client_tears kn.Quiesce a b = a
client_tears kn.Close a b = a

pub last_not : (P R : Call → Type 0) → ((d : Call) → P d → R d → ⊥) → (l : List Call) → Last P l → Last R l → ⊥
last_not P R f [] a b = a
last_not P R f (d ∷ l) a b = f d a b

-- a quiesce is never taken back; an opening is the first call
quieter : (d : Call) (l : List Call) → (IsOpening d → Untaken l) → NoQuiesce (d ∷ l) → NoQuiesce l
quieter kn.Open [] f q = tt
quieter kn.Open (d ∷ l) f q = absurd (f tt)
quieter (kn.Command y) l f q = q
quieter (kn.Lend bytes) l f q = q
quieter (kn.UndoTo mark r) l f q = q
quieter kn.Quiesce l f q = absurd q
quieter kn.Close l f q = q

loudly : (d : Call) (l : List Call) → Loudly (NoQuiesce (d ∷ l)) d
loudly kn.Open l = tt
loudly (kn.Command y) l = tt
loudly (kn.Lend bytes) l = tt
loudly (kn.UndoTo mark r) l = tt
loudly kn.Quiesce l = λ q. q
loudly kn.Close l = tt

-- WHAT IS SO AT THE END OF A CALL. Nothing was asked of the host yet; or all is given back, and the card may use no page unless nothing was asked; or all is kept
pub record Waiting (k : Host) (l : List Call) (w : World) : Type 1 where
  pub host : w.host ≡ k
  pub untaken : Untaken l

pub record Back (base : ℕ → Option Hold) (k : Host) (w : World) : Type 1 where
  pub owns : Owns base [] w.host
  pub unused : (w.host ≡ k) ⊎ ((d : ℕ) → MayUse w.card d → ⊥)

pub record Stays (base : ℕ → Option Hold) (b : Books) (w : World) : Type 1 where
  pub owns : Owns base (named b) w.host

abbrev pub PostEnd : (ℕ → Option Hold) → Host → Books → World → Closing → Type 1
PostEnd base k b w c.Clean = Back base k w
PostEnd base k b w c.Reset = Back base k w
PostEnd base k b w c.Kept = Stays base b w

abbrev pub PostAt : (ℕ → Option Hold) → Host → List Call → World → Info → Books → Closing → Stage → Type 1
PostAt base k l w n b z g.Fresh = Waiting k l w
PostAt base k l w n b z (g.Open y) = Idle base n b w × Given y b × Last EndsOpen l
PostAt base k l w n b z g.Ended = PostEnd base k b w z × Last Ends l
PostAt base k l w n b z (g.Prepare y) = Never
PostAt base k l w n b z (g.Boot y) = Never
PostAt base k l w n b z (g.Client y) = Never
PostAt base k l w n b z (g.Close y) = Never

abbrev pub Post : (ℕ → Option Hold) → Host → List Call → World → Rest → Type 1
Post base k l w r = PostAt base k l w r.info r.books r.closing r.stage

-- a command that ends between two events leaves it
none_settled : (k d : Card) → Settles k d → k.pending ≡ none → d.pending ≡ none
none_settled k d s e = (quiet_stable (λ g. g ≡ g) k d s (e, refl)).0

back_settled : (base : ℕ → Option Hold) (k : Host) (w : World) (d : Card) → Settles w.card d → Back base k w → Back base k (at w d)
back_settled base k w d s x =
    record { owns = x.owns; unused = ⊎_elim (λ e. inl e) (λ u. inr (λ y z. u y (settled_uses w.card d s y z))) x.unused }

end_settled : (base : ℕ → Option Hold) (k : Host) (b : Books) (w : World) (d : Card) (z : Closing) → Settles w.card d → PostEnd base k b w z → PostEnd base k b (at w d) z
end_settled base k b w d c.Clean s x = back_settled base k w d s x
end_settled base k b w d c.Reset s x = back_settled base k w d s x
end_settled base k b w d c.Kept s x = record { owns = x.owns }

idle_settled : (base : ℕ → Option Hold) (n : Info) (b : Books) (w : World) (d : Card) → Settles w.card d → Idle base n b w → Idle base n b (at w d)
idle_settled base n b w d s x = record {
  owns = x.owns;
  boxes = x.boxes;
  entries = x.entries;
  bound = within_stable (Lies b) (Mine b) w.card d s x.bound;
  exact = λ t. let o = x.exact t in record {
    fourteen = o.fourteen;
    laid = o.laid;
    started = o.started;
    card = within_stable (Uses b) (Calm b) w.card d s o.card;
    quiet = λ e. none_settled w.card d s (o.quiet e);
  };
  broken = x.broken;
}

post_settled : (base : ℕ → Option Hold) (k : Host) (l : List Call) (w : World) (d : Card) (n : Info) (b : Books) (z : Closing) (st : Stage) → Settles w.card d → PostAt base k l w n b z st → PostAt base k l (at w d) n b z st
post_settled base k l w d n b z g.Fresh s x = record { host = x.host; untaken = x.untaken }
post_settled base k l w d n b z (g.Open y) s x = (idle_settled base n b w d s x.0, x.1, x.2)
post_settled base k l w d n b z g.Ended s x = (end_settled base k b w d z s x.0, x.1)
post_settled base k l w d n b z (g.Prepare y) s x = record { never = x.never }
post_settled base k l w d n b z (g.Boot y) s x = record { never = x.never }
post_settled base k l w d n b z (g.Client y) s x = record { never = x.never }
post_settled base k l w d n b z (g.Close y) s x = record { never = x.never }

-- WHILE A CLIENT'S CALL RUNS, before a quiesce: the map is what it was
abbrev pub Still : Command → Type 0
Still p = kind (p).opcode ≡ Other

pub record Maps (b : Books) (g : Held) : Type 1 where
  pub icm : (x d : ℕ) → g.icm x d ↔ InRanges b x d

pub record Live (n : Info) (b : Books) (w : World) : Type 1 where
  pub fourteen : b.lists.ranges ≡ 14
  pub laid : AsLaid n b 14
  pub one : (x y d : ℕ) → InRanges b x d → InRanges b y d → x ≡ y
  pub apart : (j k : ℕ) → j < k → k < 14 → Apart (range_of b j) (range_of b k)
  pub card : Within (Maps b) Still w.card
  pub boxes : Boxes b w.host
  pub held : (j : ℕ) → j < 14 → HeldBy (range_of b j) w.host

idle_live : (base : ℕ → Option Hold) (n : Info) (b : Books) (w : World) → Idle base n b w → b.wire.silent ≡ false → Live n b w
idle_live base n b w i s = let o = i.exact s in record {
  fourteen = o.fourteen;
  laid = o.laid;
  one = one_page b i.entries i.owns.apart;
  apart = λ j k l m. apart_at b i.entries i.owns.apart j k l (subst (λ (z : ℕ). k < z) (sym o.fourteen) m);
  card = within_more (Uses b) (Maps b) (Calm b) Still w.card (λ h x. record { icm = x.icm }) (λ p x. x.0) o.card;
  boxes = i.boxes;
  held = λ j l.
      let l₁ = subst (λ (m : ℕ). j < m) (sym o.fourteen) l in
      record {
        hand = range_each (λ y. w.host.hand y.handle ≡ some (hold_of y)) b i.entries i.owns.own j l₁;
        deal = range_each (λ y. standing y.handle w.host.log ≡ some y.pages) b i.entries i.owns.dealt j l₁;
      };
}

-- the same ranges and mailboxes
live_same : (s u : Session) (w : World) → Same s u → Live s.info s.books w → Live u.info u.books w
live_same s u w e x = record {
  fourteen = e.ranges ∙ x.fourteen;
  laid = (
    subst Accepted (sym e.info) x.laid.0,
    λ k h. subst (λ (n : Info). ((icm_at u.books.lists.slots k).virt ≡ (range_at n k).virt) × (pages_for (range_at n k).bytes ≡ value (icm_at u.books.lists.slots k).pages)) (sym e.info)
        (subst (λ (y : Slot). (y.virt ≡ (range_at s.info k).virt) × (pages_for (range_at s.info k).bytes ≡ value y.pages)) (sym (at-range k)) (x.laid.1 k h)),
  );
  one = λ a b d p q. x.one a b d (from a d p) (from b d q);
  apart = λ j k p q. subst (λ (y : Slot). Apart (buffer_of y) (range_of u.books k)) (sym (at-range j)) (subst (λ (y : Slot). Apart (range_of s.books j) (buffer_of y)) (sym (at-range k)) (x.apart j k p q));
  card = within_more (Maps s.books) (Maps u.books) Still Still w.card (λ h m. record { icm = λ y d. (λ z. to y d ((m.icm y d).0 z), λ z. (m.icm y d).1 (from y d z)) }) (λ p z. z) x.card;
  boxes = record {
    inbox = x.boxes.inbox;
    outbox = x.boxes.outbox;
    in_held = subst (λ (y : Slot). InSlot y x.boxes.inbox) (sym (e.slots INBOX (omega arith))) x.boxes.in_held;
    out_held = subst (λ (y : Slot). InSlot y x.boxes.outbox) (sym (e.slots OUTBOX (omega arith))) x.boxes.out_held;
    in_at = x.boxes.in_at;
    out_at = x.boxes.out_at;
    in_less = x.boxes.in_less;
    out_less = x.boxes.out_less;
  };
  held = λ j l. subst (λ (y : Slot). HeldBy (buffer_of y) w.host) (sym (at-range j)) (x.held j l);
}
  where
    at-range : (k : ℕ) → icm_at u.books.lists.slots k ≡ icm_at s.books.lists.slots k
    at-range k = e.slots (64 + k) (omega arith)

    to : (y d : ℕ) → InRanges s.books y d → InRanges u.books y d
    to y d (k, l, z) = (k, subst (λ (m : ℕ). k < m) (sym e.ranges) l, subst (λ (a : Slot). OnRange a y d) (sym (at-range k)) z)

    from : (y d : ℕ) → InRanges u.books y d → InRanges s.books y d
    from y d (k, l, z) = (k, subst (λ (m : ℕ). k < m) e.ranges l, subst (λ (a : Slot). OnRange a y d) (at-range k) z)

live_settled : (n : Info) (b : Books) (w : World) (d : Card) → Settles w.card d → Live n b w → Live n b (at w d)
live_settled n b w d s x = record { fourteen = x.fourteen; laid = x.laid; one = x.one; apart = x.apart; card = within_stable (Maps b) Still w.card d s x.card; boxes = x.boxes; held = x.held }

live_step : (n : Info) (b : Books) (w v : World) (q : Ask) (r : Reply q) (i : List ℕ) → Allowed i w q → CalmAsk q → WorldStep w q r v → Live n b w → Live n b v
live_step n b w v q r i al calm st x =
    let f = host_fixed (spot_of x.boxes.inbox) (spot_of x.boxes.outbox) q r w.host v.host st.1 (x.boxes.in_at, x.boxes.out_at) in
    record {
      fourteen = x.fourteen;
      laid = x.laid;
      one = x.one;
      apart = x.apart;
      card = calm_step (Maps b) q r w v calm st x.card;
      boxes = record {
        inbox = x.boxes.inbox;
        outbox = x.boxes.outbox;
        in_held = x.boxes.in_held;
        out_held = x.boxes.out_held;
        in_at = f.0;
        out_at = f.1;
        in_less = x.boxes.in_less;
        out_less = x.boxes.out_less;
      };
      -- the card uses the first page of each range
      held = λ j l.
          let e = icm_at b.lists.slots j in
          let l₁ : j < b.lists.ranges = subst (λ (m : ℕ). j < m) (sym x.fourteen) l in
          let p : 0 < e.pages = some_page (range_at n j).bytes e.pages (x.laid.1 j l).1 in
          let on : OnRange e (e.virt / 4096 + 0) (e.dev / 4096 + 0) = (0, p, refl, refl) in
          held_step (range_of b j) w v (e.dev / 4096 + 0) (range_meets e (e.virt / 4096 + 0) (e.dev / 4096 + 0) on)
          (inl (inl (e.virt / 4096 + 0, (x.card.now.icm (e.virt / 4096 + 0) (e.dev / 4096 + 0)).1 (j, l₁, on)))) (x.held j l) q r i al st.1;
    }

-- what is lent when a lending has ended lies in the books
given_lent : (base : ℕ → Option Hold) (n : Info) (b : Books) (w : World) (y : Buffer) → ((d : ℕ) → Meets (spot_of y) d → InBooks (lents b) d) → Idle base n b w
    → Idle base n b (lends_to (some y) w)
unfolding effect
given_lent base n b w y lies x = record {
  owns = x.owns;
  boxes = x.boxes;
  entries = x.entries;
  bound = record { now = record { within = held w.card.held x.bound.now }; then = λ p e. ((x.bound.then p e).0, record { within = λ d z. later p e d z }) };
  exact = λ t. let o = x.exact t in record {
    fourteen = o.fourteen;
    laid = o.laid;
    started = o.started;
    card = record { now = uses o.card.now; then = λ p e. ((o.card.then p e).0, subst (Uses b) (sym (other_effect p _ (o.card.then p e).0.0)) (uses o.card.now)) };
    quiet = o.quiet;
  };
  broken = x.broken;
}
  where
    more : Held
    more = (lend_to (Meets (spot_of y)) w.card).held

    held : (h : Held) → Lies b h → (d : ℕ) → IsHeld (lend_to (Meets (spot_of y)) (record { held = h; pending = w.card.pending; last = w.card.last; status = w.card.status; registers = w.card.registers; mail = w.card.mail })).held d → InBooks (named b) d
    held h l d (inl z) = l.within d (inl z)
    held h l d (inr (inl z)) = l.within d (inr (inl z))
    held h l d (inr (inr (inl z))) = l.within d (inr (inr (inl z)))
    held h l d (inr (inr (inr (inl z)))) = l.within d (inr (inr (inr z)))
    held h l d (inr (inr (inr (inr z)))) = in_more 64 82 0 b.lists.slots d (omega arith) (lies d z)

    later : (p : Command) (e : w.card.pending ≡ some p) (d : ℕ) → IsHeld (effect p more) d → InBooks (named b) d
    later p e d z = ⊎_elim (λ u. held w.card.held x.bound.now d u) (λ u. (x.bound.then p e).0 d (inr (inr u))) (held_before (kind (p).opcode) p more d z)

    uses : Uses b w.card.held → Uses b more
    uses o = record { icm = o.icm; firmware = o.firmware; auxiliary = o.auxiliary; lent = λ d z. ⊎_elim (λ u. o.lent d u) (λ u. lies d u) z }

-- THE CLOSING HAS NOT BEGUN, or the host is as it was then
abbrev pub AsBegan : Host → Option Host → Type 0
AsBegan k z = (l : Host) → z ≡ some l → k ≡ l

-- an opening whose closing has not begun, and its task
abbrev pub Opens : Option Host → Host → Task → Type 0
Opens z k x = (z ≡ none) × Makes x k

opens_again : (z : Option Host) (k : Host) (x y : Task) → Starts y → Opens z k x → Opens z k y
opens_again z k x y e o = (o.0, starts_makes y k e)

none_began : (k : Host) (z : Option Host) → z ≡ none → AsBegan k z
none_began k z e l q = absurd (none-ne-some l (sym e ∙ q))

-- a call that is taken
begun_at_lem : (d : Call) (k l : Host) (z : Option Host) → z ≡ pick (is_close d) (some k) none → l ≡ k → AsBegan l z
begun_at_lem kn.Open k l z e h = none_began l z e
begun_at_lem (kn.Command y) k l z e h = none_began l z e
begun_at_lem (kn.Lend bytes) k l z e h = none_began l z e
begun_at_lem (kn.UndoTo mark r) k l z e h = none_began l z e
begun_at_lem kn.Quiesce k l z e h = none_began l z e
begun_at_lem kn.Close k l z e h = λ m q. h ∙ some-injective k m (sym e ∙ q)

needs : (d : Call) (k l : Host) (z : Option Host) → z ≡ pick (is_close d) (some k) none → Needed (OfClient d) (IsOpening d) (Tears d) (Opens z l) (opens_again z l) d
needs kn.Open k l z e = (tt, tt, λ x h. (e, starts_makes x l h))
needs (kn.Command y) k l z e = tt
needs (kn.Lend bytes) k l z e = tt
needs (kn.UndoTo mark r) k l z e = tt
needs kn.Quiesce k l z e = tt
needs kn.Close k l z e = tt

-- an answer to a question that asks nothing usable back
never_tears : (l : List Call) (p : Ask) (k : Host) → asks_back k p ≡ false → tears l (some p) k ≡ false
never_tears l p k e = ap (λ (b : Bool). is_opening l && b) e ∙ and_false (is_opening l)
  where
    and_false : (b : Bool) → (b && false) ≡ false
    and_false true = refl
    and_false false = refl

once_more : (k : Host) (z : Option Host) → began_once false k z ≡ z
once_more k none = refl
once_more k (some l) = refl

-- THE INVARIANT
pub record Inv (base : ℕ → Option Hold) (k : Host) (x : Stand) : Type 1 where
  pub there : Here
  pub box : there.inbox ≡ x.inbox
  pub safe : SafeCourse x.world (course_of x.session there) (Post base k x.calls)
  pub tied : Tied x.world.host
  pub inside : Inside x.world
  pub suited : Suited (Last OfClient x.calls) (Last IsOpening x.calls) (Last Tears x.calls) (Opens x.began x.world.host) x.session
  pub held : HeldAt x.session.stage x.session.closing (AsBegan x.world.host x.began)
  pub alive : Alive x.session
  pub loud : NoQuiesce x.calls → x.session.books.wire.silent ≡ false
  pub long : is_running x.session.stage ≡ true → length x.inbox ≡ 4096
  -- a client's call: no question of it changes the map, which is as it was
  pub calm : IsClient x.session.stage → CalmCourse (course_of x.session there)
  pub live : IsClient x.session.stage → NoQuiesce x.calls → Live x.session.info x.session.books x.world

-- a call in time, and with all that it must be lent; or not
pub in_good : {A : Type 0} (t r : Bool) (y s w : A) → t ≡ true → r ≡ true → in_time t r y s w ≡ y
in_good true true y s w p q = refl
in_good true false y s w p q = absurd (false≢true q)
in_good false r y s w p q = absurd (false≢true p)

in_short : {A : Type 0} (t r : Bool) (y s w : A) → t ≡ true → r ≡ false → in_time t r y s w ≡ s
in_short true true y s w p q = absurd (false≢true (sym q))
in_short true false y s w p q = refl
in_short false r y s w p q = absurd (false≢true p)

in_wrong : {A : Type 0} (t r : Bool) (y s w : A) → t ≡ false → in_time t r y s w ≡ w
in_wrong true r y s w p = absurd (false≢true (sym p))
in_wrong false r y s w p = refl

pub lent_length : (i o : List ℕ) (u : Top) → is_lent i o u ≡ true → length i ≡ 4096
lent_length i o u e = eqb-true (length i) 4096 (and_left (eqb (length i) 4096) _ e)

pub fresh_stage : (st : Stage) → is_fresh st ≡ true → st ≡ g.Fresh
fresh_stage g.Fresh e = refl
fresh_stage (g.Open y) e = absurd (false≢true e)
fresh_stage g.Ended e = absurd (false≢true e)
fresh_stage (g.Prepare y) e = absurd (false≢true e)
fresh_stage (g.Boot y) e = absurd (false≢true e)
fresh_stage (g.Client y) e = absurd (false≢true e)
fresh_stage (g.Close y) e = absurd (false≢true e)

abbrev IsOpened : Stage → Type 0
IsOpened g.Fresh = ⊥
IsOpened (g.Open y) = Unit {0}
IsOpened g.Ended = ⊥
IsOpened (g.Prepare y) = ⊥
IsOpened (g.Boot y) = ⊥
IsOpened (g.Client y) = ⊥
IsOpened (g.Close y) = ⊥

open_stage : (st : Stage) → is_open st ≡ true → IsOpened st
open_stage g.Fresh e = absurd (false≢true e)
open_stage (g.Open y) e = tt
open_stage g.Ended e = absurd (false≢true e)
open_stage (g.Prepare y) e = absurd (false≢true e)
open_stage (g.Boot y) e = absurd (false≢true e)
open_stage (g.Client y) e = absurd (false≢true e)
open_stage (g.Close y) e = absurd (false≢true e)

-- what must be so where a client's call is under way
client_fits : (C P D : Type 0) (T : Task → Type 0) (st : Stage) (z : Closing) (x : Task) → IsClient st → Fit C P D T st z x → C
client_fits C P D T g.Fresh z x q h = absurd q
client_fits C P D T (g.Open y) z x q h = absurd q
client_fits C P D T g.Ended z x q h = absurd q
client_fits C P D T (g.Prepare y) z x q h = absurd q
client_fits C P D T (g.Boot y) z x q h = absurd q
client_fits C P D T (g.Client y) z x q h = h
client_fits C P D T (g.Close y) z x q h = absurd q

-- a task that is not under way
pub resting : (z : Task) → is_resting z ≡ true → IsRest z
resting t.Rest e = tt
resting (t.Attr z) e = absurd (false≢true e)
resting (t.Claim z) e = absurd (false≢true e)
resting t.Reset e = absurd (false≢true e)
resting t.Bar e = absurd (false≢true e)
resting (t.Make z) e = absurd (false≢true e)
resting (t.Free z) e = absurd (false≢true e)
resting t.Look e = absurd (false≢true e)
resting (t.Cmd z) e = absurd (false≢true e)
resting (t.Part z) e = absurd (false≢true e)

-- a step that is taken refuses nothing
turn_taken : (s : Session) (a : Answer) (w : Work) (i o : List ℕ) (u : Top) (n : Ending) → (step_turn s a w i o u n).refusal ≡ f.Nothing
turn_taken s a w i o u e.Going = refl
turn_taken s a w i o u (e.Ended z) = refl

pub step_taken : (s : Session) (a : Answer) (r i o : List ℕ) (u : Top) → (step_of s a r i o u).refusal ≡ f.Nothing
unfolding step_of
step_taken s a r i o u = turn_taken (booked_of s a) a (work_step_of s.work a r).work i o u (work_step_of s.work a r).ending

abbrev event : Input → List ℕ → List ℕ → Top → Event
event a i o u = record { call = a; inbox = i; outbox = o; undo = u }

pub lent_host : (b : Option Buffer) (w : World) → (lends_to b w).host ≡ w.host
lent_host none w = refl
lent_host (some y) w = refl

-- a buffer was given: the session is open and says so
given_open : (b : Books) (y : Failure) (z : Closing) (st : Stage) (x : Buffer) → given_by b (outcome_at y z st) ≡ some x → (i : ℕ) × (st ≡ g.Open (gv.Lent i)) × (buffer_at b i ≡ x)
given_open b y z g.Fresh x e = absurd (none-ne-some x e)
given_open b y z (g.Open v) x e = gave v e
  where
    gave : (v : Gave) → gave_buffer b v ≡ some x → (i : ℕ) × (g.Open v ≡ g.Open (gv.Lent i)) × (buffer_at b i ≡ x)
    gave gv.Nothing e = absurd (none-ne-some x e)
    gave (gv.Command v us) e = absurd (none-ne-some x e)
    gave (gv.Lent i) e = (i, refl, some-injective (buffer_at b i) x e)
    gave (gv.Failed v) e = absurd (none-ne-some x e)
given_open b f.Nothing z g.Ended x e = absurd (none-ne-some x e)
given_open b (f.By w) z g.Ended x e = absurd (none-ne-some x e)
given_open b y z (g.Prepare v) x e = absurd (none-ne-some x e)
given_open b y z (g.Boot v) x e = absurd (none-ne-some x e)
given_open b y z (g.Client v) x e = absurd (none-ne-some x e)
given_open b y z (g.Close v) x e = absurd (none-ne-some x e)

pub lent_given : (l : List Call) (s : Session) (y : Buffer) → lent_by l s ≡ some y → (i : ℕ) × (s.stage ≡ g.Open (gv.Lent i)) × (buffer_at s.books i ≡ y)
lent_given [] s y e = absurd (none-ne-some y e)
lent_given (kn.Open ∷ l) s y e = absurd (none-ne-some y e)
lent_given (kn.Command v ∷ l) s y e = absurd (none-ne-some y e)
lent_given (kn.Lend bytes ∷ l) s y e = given_open s.books s.failure s.closing s.stage y e
lent_given (kn.UndoTo mark r ∷ l) s y e = absurd (none-ne-some y e)
lent_given (kn.Quiesce ∷ l) s y e = absurd (none-ne-some y e)
lent_given (kn.Close ∷ l) s y e = absurd (none-ne-some y e)

-- so where a client's call goes on nothing is lent
not_open : (st : Stage) (y : Gave) → IsClient st → st ≡ g.Open y → ⊥
not_open st y h e = subst IsClient e h

client_lends : (l : List Call) (s : Session) → IsClient s.stage → (z : Option Buffer) → lent_by l s ≡ z → lent_by l s ≡ none
client_lends l s h none e = e
client_lends l s h (some y) e = let z = lent_given l s y e in absurd (not_open s.stage (gv.Lent z.0) h z.1)

-- and a call that begins has lent nothing yet
pub begun_lends : (d : Call) (l : List Call) (s : Session) (input i : List ℕ) (u : Top) → lent_by (d ∷ l) (begun_turn s d input i u).session ≡ none
begun_lends kn.Open l s input i u = refl
begun_lends (kn.Command y) l s input i u = refl
begun_lends (kn.Lend bytes) l s input i u = lend_gives bytes s input i u
begun_lends (kn.UndoTo mark v) l s input i u = refl
begun_lends kn.Quiesce l s input i u = refl
begun_lends kn.Close l s input i u = refl

-- and then what is lent leaves the session as it is
lent_post : (base : ℕ → Option Hold) (k : Host) (l : List Call) (s : Session) (h : Here) (w : World) (i : ℕ) → s.stage ≡ g.Open (gv.Lent i) → SafeCourse w (course_of s h) (Post base k l)
    → SafeCourse (lends_to (some (buffer_at s.books i)) w) (course_of s h) (Post base k l) × ((d : ℕ) → Meets (spot_of (buffer_at s.books i)) d → Ours w.host d)
lent_post base k l s h w i e x = by s.stage e x
  where
    posted : (st : Stage) → st ≡ g.Open (gv.Lent i) → PostAt base k l w s.info s.books s.closing st → PostAt base k l (lends_to (some (buffer_at s.books i)) w) s.info s.books s.closing st × ((d : ℕ) → Meets (spot_of (buffer_at s.books i)) d → Ours w.host d)
    posted st d p =
        subst (λ (z : Stage). PostAt base k l w s.info s.books s.closing z → PostAt base k l (lends_to (some (buffer_at s.books i)) w) s.info s.books s.closing z × ((d : ℕ) → Meets (spot_of (buffer_at s.books i)) d → Ours w.host d)) (sym d)
        (λ q. (
          (given_lent base s.info s.books w (buffer_at s.books i) q.1 q.0, q.1, q.2),
          λ d m. owns_ours (named s.books) w.host q.0.owns.own q.0.owns.dealt d (in_more 64 82 0 s.books.lists.slots d (omega arith) (q.1 d m)),
        )) p

    by : (st : Stage) → st ≡ g.Open (gv.Lent i) → SafeCourse w (course_at st s h) (Post base k l)
        → SafeCourse (lends_to (some (buffer_at s.books i)) w) (course_at st s h) (Post base k l) × ((d : ℕ) → Meets (spot_of (buffer_at s.books i)) d → Ours w.host d)
    by st d x =
        subst (λ (z : Stage). SafeCourse w (course_at z s h) (Post base k l) → SafeCourse (lends_to (some (buffer_at s.books i)) w) (course_at z s h) (Post base k l) × ((d : ℕ) → Meets (spot_of (buffer_at s.books i)) d → Ours w.host d)) (sym d)
        (λ p. posted s.stage e p) x

lent_inside : (w : World) (y : Buffer) → ((d : ℕ) → Meets (spot_of y) d → Ours w.host d) → Inside w → Inside (lends_to (some y) w)
lent_inside w y f (inl z) = inl z
lent_inside w y f (inr g) = inr (λ d u. by d u)
  where
    by : (d : ℕ) → MayUse (lend_to (Meets (spot_of y)) w.card) d → Ours w.host d
    by d (inl (inl z)) = g d (inl (inl z))
    by d (inl (inr (inl z))) = g d (inl (inr (inl z)))
    by d (inl (inr (inr (inl z)))) = g d (inl (inr (inr (inl z))))
    by d (inl (inr (inr (inr (inl z))))) = g d (inl (inr (inr (inr z))))
    by d (inl (inr (inr (inr (inr z))))) = f d z
    by d (inr z) = g d (inr z)

pub begun_taken : (s : Session) (d : Call) (y i : List ℕ) (u : Top) → (begun_turn s d y i u).refusal ≡ f.Nothing
unfolding begun_turn
begun_taken s d y i u = refl

-- a question is no end
shown_asks : (y : Ask) → has_returned (shown y) ≡ false
shown_asks (config_read16 o) = refl
shown_asks (config_read32 o) = refl
shown_asks (config_write16 o v) = refl
shown_asks (config_write32 o v) = refl
shown_asks (read b o) = refl
shown_asks (write b o v) = refl
shown_asks (attributes o v) = refl
shown_asks (resource b) = refl
shown_asks (stall u) = refl
shown_asks (allocate n) = refl
shown_asks (mapped k n) = refl
shown_asks (unmap k) = refl
shown_asks (free k n) = refl
shown_asks (fence j) = refl

pub busy_of : (st : Stage) (x : Task) → is_running st ≡ true → Busy st x → is_resting x ≡ false
busy_of g.Fresh x q b = absurd (false≢true q)
busy_of (g.Open y) x q b = absurd (false≢true q)
busy_of g.Ended x q b = absurd (false≢true q)
busy_of (g.Prepare y) x q b = b
busy_of (g.Boot y) x q b = b
busy_of (g.Client y) x q b = b
busy_of (g.Close y) x q b = b

-- the facts of the start
module _ (k : Host) (log : k.log ≡ []) (in-none : k.inbox ≡ none) (out_none : k.outbox ≡ none) where
  abbrev pub base : ℕ → Option Hold
  base = k.hand

  start_owns : Owns base [] k
  start_owns = record { own = tt; dealt = tt; new = tt; apart = tt; others = λ h e. (refl, ap (standing h) log) }

  -- THE ENDS of the two courses
  module _ (l : List Call) where
    back : Last Ends l → (n : Info) (y : Failure) (z : Closing) (b : Books) (v : World) → (z ≡ c.Kept → ⊥) → Owns base [] v.host → Quiet Empty v.card → Post base k l v (at_rest g.Ended b n y z)
    back q n y c.Clean b v e o s = (record { owns = o; unused = inr (empty_uses v.card s) }, q)
    back q n y c.Reset b v e o s = (record { owns = o; unused = inr (empty_uses v.card s) }, q)
    back q n y c.Kept b v e o s = absurd (e refl)

    kept : Last Ends l → (n : Info) (y : Failure) (b : Books) (v : World) → Owns base (named b) v.host → Post base k l v (at_rest g.Ended b n y c.Kept)
    kept q n y b v o = (record { owns = o }, q)

    opened : Last EndsOpen l → (n : Info) (b : Books) (v : World) → Idle base n b v → Post base k l v (at_rest (g.Open gv.Nothing) b n f.Nothing c.Clean)
    opened q n b v o = (o, tt, q)

    idles : Last EndsOpen l → (n : Info) (y : Failure) (z : Closing) (a : Gave) (b : Books) (v : World) → Given a b → Idle base n b v → Post base k l v (at_rest (g.Open a) b n y z)
    idles q n y z a b v d o = (o, d, q)

    early : Last Ends l → (n : Info) (y : Failure) (b : Books) (v : World) → v.host ≡ k → Post base k l v (at_rest g.Ended b n y c.Clean)
    early q n y b v e = (record { owns = subst (Owns base []) (sym e) start_owns; unused = inl e }, q)

  -- WHAT THE INVARIANT SAYS of the task, by the stage
  abbrev FitAt : Stand → Stage → Type 0
  FitAt x st = Fit (Last OfClient x.calls) (Last IsOpening x.calls) (Last Tears x.calls) (Opens x.began x.world.host) st x.session.closing x.session.work.task

  fit : (x : Stand) → Inv base k x → (st : Stage) → x.session.stage ≡ st → FitAt x st
  fit x i st e = subst (FitAt x) e i.suited

  -- WHAT THE INVARIANT SAYS between two calls
  abbrev pub PostOf : Stand → Stage → Type 1
  PostOf x st = PostAt base k x.calls x.world x.session.info x.session.books x.session.closing st

  rest_only : (x : Stand) (h : Here) (st : Stage) → is_running st ≡ false → SafeCourse x.world (course_at st x.session h) (Post base k x.calls) → Post base k x.calls x.world (rest_of x.session)
  rest_only x h g.Fresh q s = s
  rest_only x h (g.Open y) q s = s
  rest_only x h g.Ended q s = s
  rest_only x h (g.Prepare y) q s = absurd (false≢true (sym q))
  rest_only x h (g.Boot y) q s = absurd (false≢true (sym q))
  rest_only x h (g.Client y) q s = absurd (false≢true (sym q))
  rest_only x h (g.Close y) q s = absurd (false≢true (sym q))

  pub at_stage : (x : Stand) (st : Stage) → x.session.stage ≡ st → is_running st ≡ false → Inv base k x → PostOf x st
  at_stage x st e r i = subst (PostOf x) e (rest_only x i.there x.session.stage (ap is_running e ∙ r) i.safe)

  -- an open session between two calls
  idle_at : (x : Stand) (st : Stage) → x.session.stage ≡ st → IsOpened st → Inv base k x → Idle base x.session.info x.session.books x.world × Last EndsOpen x.calls
  idle_at x g.Fresh e o i = absurd o
  idle_at x (g.Open y) e o i = let z = at_stage x (g.Open y) e refl i in (z.0, z.2)
  idle_at x g.Ended e o i = absurd o
  idle_at x (g.Prepare y) e o i = absurd o
  idle_at x (g.Boot y) e o i = absurd o
  idle_at x (g.Client y) e o i = absurd o
  idle_at x (g.Close y) e o i = absurd o

  -- where nothing is asked no call runs
  no_end : (x : Stand) (st : Stage) → is_running st ≡ true → PostOf x st → ⊥
  no_end x g.Fresh q p = false≢true q
  no_end x (g.Open y) q p = false≢true q
  no_end x g.Ended q p = false≢true q
  no_end x (g.Prepare y) q p = (p).never
  no_end x (g.Boot y) q p = (p).never
  no_end x (g.Client y) q p = (p).never
  no_end x (g.Close y) q p = (p).never

  pub rests : (x : Stand) → Inv base k x → has_returned (asks_of x.session) ≡ true → (b : Bool) → is_running x.session.stage ≡ b → is_running x.session.stage ≡ false
  rests x i e false q = q
  rests x i e true q =
      absurd (by (course_of x.session i.there)
      (session_follows x.session i.there (ap length i.box ∙ i.long q) q (busy_of x.session.stage x.session.work.task q i.alive.1)) i.safe)
    where
      by : (z : Course Rest) → Follows x.session i.there z → SafeCourse x.world z (Post base k x.calls) → ⊥
      by (ret l r₁) fol s = no_end x x.session.stage q (subst (λ (z : Rest). Post base k x.calls x.world z) fol.2 s)
      by (ask y l d) fol s = false≢true (sym (shown_asks y) ∙ ap has_returned (sym fol.0) ∙ e)

  -- (b) and (c)
  returned : (x : Stand) → Inv base k x → Back base k x.world → AllBack x.world
  returned x i p = record {
    once = i.tied.order;
    all = λ h. ((p).owns.others h tt).1;
    unused = ⊎_elim (λ e. inl (ap (λ (y : Host). y.log) e ∙ log)) (λ u. inr u) (p).unused;
  }

  ended_good : (x : Stand) (z : Closing) → Inv base k x → (z ≡ c.Kept → AsBegan x.world.host x.began) → PostEnd base k x.session.books x.world z → EndedBy base x z
  ended_good x c.Clean i h p = returned x i p
  ended_good x c.Reset i h p = returned x i p
  ended_good x c.Kept i h p = record { named = (p).owns; none = h refl }

  ended_at : (x : Stand) → x.session.stage ≡ g.Ended → Inv base k x → EndedBy base x x.session.closing
  ended_at x e i =
      ended_good x x.session.closing i (subst (λ (st : Stage). HeldAt st x.session.closing (AsBegan x.world.host x.began)) e i.held) (at_stage x g.Ended e refl i).0

  exact : (x : Stand) → Live x.session.info x.session.books x.world → Exact x.session.info x.session.books x.world
  exact x o = record {
    fourteen = o.fourteen;
    laid = o.laid;
    icm = o.card.now.icm;
    single = λ y d e a b. single_page x.session.info x.session.books o.fourteen o.laid y d e ((o.card.now.icm y d).0 a) ((o.card.now.icm y e).0 b);
    one = λ y z d a b. o.one y z d ((o.card.now.icm y d).0 a) ((o.card.now.icm z d).0 b);
    handed = λ j l. (o.held j l).hand;
    stands = λ j l. (o.held j l).deal;
    apart = o.apart;
    boxes = o.boxes;
  }

  exact_open : (x : Stand) (y : Gave) → x.session.stage ≡ g.Open y → Inv base k x → NoQuiesce x.calls → Exact x.session.info x.session.books x.world
  exact_open x y e i q = exact x (idle_live base x.session.info x.session.books x.world (at_stage x (g.Open y) e refl i).0 (i.loud q))

  pub some_taken : (l : List Call) (P : Call → Type 0) → Last P l → Untaken l → ⊥
  some_taken [] P a b = a
  some_taken (d ∷ l) P a b = b

  pub ends_client : (d : Call) → OfClient d → Ends d → ⊥
  ends_client kn.Open a b = a
  ends_client (kn.Command y) a b = b
  ends_client (kn.Lend bytes) a b = b
  ends_client (kn.UndoTo mark r₁) a b = b
  ends_client kn.Quiesce a b = a
  ends_client kn.Close a b = a

  -- after and in a client's call
  exact_client : (x : Stand) → Inv base k x → Last OfClient x.calls → NoQuiesce x.calls → Exact x.session.info x.session.books x.world
  exact_client x i c₁ q = by x.session.stage refl
    where
      by : (st : Stage) → x.session.stage ≡ st → Exact x.session.info x.session.books x.world
      by g.Fresh e = absurd (some_taken x.calls OfClient c₁ (at_stage x g.Fresh e refl i).untaken)
      by (g.Open y) e = exact_open x y e i q
      by g.Ended e = absurd (last_not OfClient Ends ends_client x.calls c₁ (at_stage x g.Ended e refl i).1)
      by (g.Prepare y) e = absurd (last_not OfClient IsOpening client_opening x.calls c₁ (fit x i (g.Prepare y) e).0)
      by (g.Boot y) e = absurd (last_not OfClient IsOpening client_opening x.calls c₁ (fit x i (g.Boot y) e).0)
      by (g.Client y) e = exact x (i.live (subst IsClient (sym e) tt) q)
      by (g.Close y) e = absurd (last_not OfClient Tears client_tears x.calls c₁ (fit x i (g.Close y) e).0)

  -- what an ended session tells
  ended_told : (x : Stand) (y : Failure) (z : Closing) → EndedBy base x z → Closed base x (outcome_at y z g.Ended) × Opened base x (outcome_at y z g.Ended)
  ended_told x f.Nothing z p = (p, p)
  ended_told x (f.By w) z p = (p, p)

  due : (x : Stand) → Inv base k x → Due base x.calls (has_returned (asks_of x.session)) x
  due x i = by x.calls refl (has_returned (asks_of x.session)) refl
    where
      over : (st : Stage) → x.session.stage ≡ st → is_running st ≡ false → Last (λ d. IsClosing d) x.calls → Closed base x (outcome_at x.session.failure x.session.closing st)
      over g.Fresh e q c₁ = absurd (some_taken x.calls (λ d. IsClosing d) c₁ (at_stage x g.Fresh e refl i).untaken)
      over (g.Open y) e q c₁ = absurd (last_not (λ d. IsClosing d) EndsOpen closing_open x.calls c₁ (at_stage x (g.Open y) e refl i).2)
      over g.Ended e q c₁ = (ended_told x x.session.failure x.session.closing (ended_at x e i)).0
      over (g.Prepare y) e q c₁ = absurd (false≢true (sym q))
      over (g.Boot y) e q c₁ = absurd (false≢true (sym q))
      over (g.Client y) e q c₁ = absurd (false≢true (sym q))
      over (g.Close y) e q c₁ = absurd (false≢true (sym q))

      begun : (st : Stage) → x.session.stage ≡ st → is_running st ≡ false → Last IsOpening x.calls → NoQuiesce x.calls → Opened base x (outcome_at x.session.failure x.session.closing st)
      begun g.Fresh e q c₁ n = absurd (some_taken x.calls IsOpening c₁ (at_stage x g.Fresh e refl i).untaken)
      begun (g.Open y) e q c₁ n = exact_open x y e i n
      begun g.Ended e q c₁ n = (ended_told x x.session.failure x.session.closing (ended_at x e i)).1
      begun (g.Prepare y) e q c₁ n = absurd (false≢true (sym q))
      begun (g.Boot y) e q c₁ n = absurd (false≢true (sym q))
      begun (g.Client y) e q c₁ n = absurd (false≢true (sym q))
      begun (g.Close y) e q c₁ n = absurd (false≢true (sym q))

      by : (l : List Call) → x.calls ≡ l → (t : Bool) → has_returned (asks_of x.session) ≡ t → Due base l t x
      by [] e t q = record {}
      by (kn.Open ∷ l) e false q = record {}
      by (kn.Open ∷ l) e true q = begun x.session.stage refl (rests x i q (is_running x.session.stage) refl) (subst (Last IsOpening) (sym e) tt) (subst NoQuiesce (sym e) tt)
      by (kn.Command y ∷ l) e t q = λ n. exact_client x i (subst (Last OfClient) (sym e) tt) (subst NoQuiesce (sym e) n)
      by (kn.Lend bytes ∷ l) e t q = λ n. exact_client x i (subst (Last OfClient) (sym e) tt) (subst NoQuiesce (sym e) n)
      by (kn.UndoTo mark r₁ ∷ l) e t q = λ n. exact_client x i (subst (Last OfClient) (sym e) tt) (subst NoQuiesce (sym e) n)
      by (kn.Quiesce ∷ l) e t q = record {}
      by (kn.Close ∷ l) e false q = record {}
      by (kn.Close ∷ l) e true q = over x.session.stage refl (rests x i q (is_running x.session.stage) refl) (subst (Last (λ d. IsClosing d)) (sym e) tt)

  -- where no call runs nothing is asked
  pub quiet : (x : Stand) → Inv base k x → is_running x.session.stage ≡ false → asks_of x.session ≡ q.Finished
  quiet x i e = rest_asks x.session.work.reset x.session.work.find x.session.work.task (by x.session.stage refl e)
    where
      by : (st : Stage) → x.session.stage ≡ st → is_running st ≡ false → IsRest x.session.work.task
      by g.Fresh s q = fit x i g.Fresh s
      by (g.Open y) s q = fit x i (g.Open y) s
      by g.Ended s q = fit x i g.Ended s
      by (g.Prepare y) s q = absurd (false≢true (sym q))
      by (g.Boot y) s q = absurd (false≢true (sym q))
      by (g.Client y) s q = absurd (false≢true (sym q))
      by (g.Close y) s q = absurd (false≢true (sym q))

  -- SOMETHING IS ASKED
  module _ (x : Stand) (i : Inv base k x) (n : List ℕ) where
    -- so a call is running and a task is under way
    idle : (p : Ask) → asked (asks_of x.session) n ≡ some p → IsRest x.session.work.task → ⊥
    idle p e r = nothing_asked (asks_of x.session) n p (rest_asks x.session.work.reset x.session.work.find x.session.work.task r) e

    runs : (p : Ask) → asked (asks_of x.session) n ≡ some p → (st : Stage) → x.session.stage ≡ st → is_running st ≡ true
    runs p e g.Fresh s = absurd (idle p e (fit x i g.Fresh s))
    runs p e (g.Open y) s = absurd (idle p e (fit x i (g.Open y) s))
    runs p e g.Ended s = absurd (idle p e (fit x i g.Ended s))
    runs p e (g.Prepare y) s = refl
    runs p e (g.Boot y) s = refl
    runs p e (g.Client y) s = refl
    runs p e (g.Close y) s = refl

    busy : (p : Ask) → asked (asks_of x.session) n ≡ some p → (b : Bool) → is_resting x.session.work.task ≡ b → is_resting x.session.work.task ≡ false
    busy p e true r = absurd (idle p e (resting x.session.work.task r))
    busy p e false r = r

    follows : (p : Ask) → asked (asks_of x.session) n ≡ some p → length n ≡ 4096 → Follows x.session (here n i.there.outbox i.there.undo) (course_of x.session (here n i.there.outbox i.there.undo))
    follows p e l =
        session_follows x.session (here n i.there.outbox i.there.undo) l (runs p e x.session.stage refl) (busy p e (is_resting x.session.work.task) refl)

    safe-here : n ≡ x.inbox → SafeCourse x.world (course_of x.session (here n i.there.outbox i.there.undo)) (Post base k x.calls)
    safe-here e = subst (λ (z : List ℕ). SafeCourse x.world (course_of x.session (here z i.there.outbox i.there.undo)) (Post base k x.calls)) (i.box ∙ sym e) i.safe

    -- the question is the course's, which is allowed
    asked_by : (h : Here) (z : Course Rest) → h.inbox ≡ n → Follows x.session h z → SafeCourse x.world z (Post base k x.calls) → (p : Ask) → asked (asks_of x.session) n ≡ some p → Allowed n x.world p
    asked_by h (ret l r₁) b fol s p e = absurd (nothing_asked (asks_of x.session) n p fol.0 e)
    asked_by h (ask q l d) b fol s p e =
        let al : Allowed n x.world q = subst (λ (z : List ℕ). Allowed z x.world q) (ap (λ (z : Left). z.inbox) fol.1 ∙ b) s.0 in
        subst (Allowed n x.world) (some-injective q p (sym (ap (λ z. asked z n) fol.0 ∙ asked_shown q n x.world al) ∙ e)) al

  question : (x : Stand) → Inv base k x → QuestionKept x
  question x i p e =
      asked_by x i x.inbox (here x.inbox i.there.outbox i.there.undo) (course_of x.session (here x.inbox i.there.outbox i.there.undo)) refl
      (follows x i x.inbox p e (i.long (runs x i x.inbox p e x.session.stage refl))) (safe-here x i x.inbox refl) p e

  good : (x : Stand) → Inv base k x → Good base x
  good x i = record { question = question x i; inside = i.inside; order = i.tied.order; due = due x i }

  -- ONE EVENT leaves the invariant, and gives back only what it may
  abbrev pub Onto : Stand → Stand → Type 1
  Onto x y = Inv base k y × GivesBack x.world y.world

  -- A REFUSED CALL leaves everything; a pending command may end
  refused : (x : Stand) (e : Event) (y : Stand) (z : Refusal) → (turn x.session e).session ≡ x.session → (turn x.session e).refusal ≡ f.By z → Inv base k x → Step x e y → Onto x y
  refused x e y z s r i st = (
    record {
      there = i.there;
      box = i.box ∙ sym inbox;
      safe =
          subst (λ (h : Session). SafeCourse y.world (course_of h i.there) (Post base k y.calls)) (sym session)
          (subst (λ (l : List Call). SafeCourse y.world (course_of x.session i.there) (Post base k l)) (sym calls)
          (subst (λ (v : World). SafeCourse v (course_of x.session i.there) (Post base k x.calls)) (sym settled)
          (course_settled (Post base k x.calls) (course_of x.session i.there) x.world y.world.card rests₁.0
          (λ h p. post_settled base k x.calls x.world y.world.card h.info h.books h.closing h.stage rests₁.0 p) i.safe)));
      tied = subst Tied (sym rests₁.1) i.tied;
      inside = settled_inside x.world y.world rests₁.1 rests₁.0 i.inside;
      suited =
          subst (λ (l : List Call). Suited (Last OfClient l) (Last IsOpening l) (Last Tears l) (Opens y.began y.world.host) y.session) (sym calls)
          (subst (λ (b : Option Host). Suited (Last OfClient x.calls) (Last IsOpening x.calls) (Last Tears x.calls) (Opens b y.world.host) y.session) (sym began)
          (subst (λ (h : Host). Suited (Last OfClient x.calls) (Last IsOpening x.calls) (Last Tears x.calls) (Opens x.began h) y.session) (sym rests₁.1)
          (subst (Suited (Last OfClient x.calls) (Last IsOpening x.calls) (Last Tears x.calls) (Opens x.began x.world.host)) (sym session) i.suited)));
      held =
          subst (λ (h : Session). HeldAt h.stage h.closing (AsBegan y.world.host y.began)) (sym session)
          (held_map x.session.stage x.session.closing (AsBegan x.world.host x.began) (AsBegan y.world.host y.began) (λ h l q. rests₁.1 ∙ h l (sym began ∙ q)) i.held);
      alive = subst Alive (sym session) i.alive;
      loud = λ q. ap (λ (h : Session). h.books.wire.silent) session ∙ i.loud (subst NoQuiesce calls q);
      long = λ q. ap length inbox ∙ i.long (ap (λ (h : Session). is_running h.stage) (sym session) ∙ q);
      calm = subst (λ (h : Session). IsClient h.stage → CalmCourse (course_of h i.there)) (sym session) i.calm;
      live =
          subst (λ (h : Session). IsClient h.stage → NoQuiesce y.calls → Live h.info h.books y.world) (sym session)
          (λ a b. subst (Live x.session.info x.session.books) (sym settled)
          (live_settled x.session.info x.session.books x.world y.world.card rests₁.0 (i.live a (subst NoQuiesce calls b))));
    },
    same_gives x.world y.world rests₁.1,
  )
    where
      session : y.session ≡ x.session
      session = st.session ∙ s

      calls : y.calls ≡ x.calls
      calls = st.calls ∙ ap (λ (h : Failure). calls_by h e.call x.calls) r

      began : y.began ≡ x.began
      began = st.began ∙ ap (λ (h : Failure). began_now h e.call x.calls (asked (asks_of x.session) e.inbox) x.world.host x.began) r

      world : y.world ≡ st.between
      world = st.world ∙ ap (λ (h : Failure). lends_to (lent_now h y.calls y.session) st.between) r

      rests₁ : Rests x.world y.world
      rests₁ = subst (Rests x.world) (sym world) (subst (λ (h : Failure). Happens h e.call x.session e.inbox x.world st.between) r st.happens)

      settled : y.world ≡ at x.world y.world.card
      settled = rests_at x.world y.world rests₁.1

      inbox : y.inbox ≡ x.inbox
      inbox = st.left ∙ ap (λ (h : Failure). box_left h (inbox_after x.session e) x.inbox) r

  -- WHAT A CALL IN ITS TIME FINDS
  fair : (n o : List ℕ) (u : Top) → Lendable (record { outbox = o; undo = u }) → is_lent n o u ≡ true → Fair (here n o u)
  fair n o u a b = record { inbox = lent_length n o u b; outbox = a.outbox; undo = a.undo }

  by_opcode_lem : (b : Bool) → by_opcode b ≡ f.Nothing → b ≡ false
  by_opcode_lem true e = absurd (subst (λ (z : Failure). IsBy z) e tt)
    where
      IsBy : Failure → Type 0
      IsBy f.Nothing = ⊥
      IsBy (f.By y) = Unit {0}
  by_opcode_lem false e = refl

  by_room : (lends bytes : ℕ) → by_list lends bytes ≡ f.Nothing → lends < 64
  by_room lends bytes e = by (leb 64 lends) refl e
    where
      IsBy : Failure → Type 0
      IsBy f.Nothing = ⊥
      IsBy (f.By y) = Unit {0}

      by : (b : Bool) → leb 64 lends ≡ b → pick b (f.By r.Full) (by_pages (pages_for bytes)) ≡ f.Nothing → lends < 64
      by true d e = absurd (subst IsBy e tt)
      by false d e = let l = leb-false 64 lends d in l

  module _ (x : Stand) (n o : List ℕ) (u : Top) (i : Inv base k x) (v : World) (rests : Rests x.world v) (q : Fair (here n o u)) where
    idle-now : is_open x.session.stage ≡ true → Idle base x.session.info x.session.books v
    idle-now e =
        subst (Idle base x.session.info x.session.books) (sym (rests_at x.world v rests.1))
        (idle_settled base x.session.info x.session.books x.world v.card rests.0 (idle_at x x.session.stage refl (open_stage x.session.stage e) i).0)

    -- the whole course of each call is safe
    call-safe : (d : Call) (y : List ℕ) → is_time x.session.stage d ≡ true → barred x.session d ≡ f.Nothing → SizedCall d → SafeCourse v (course_for d x.session y (here n o u)) (Post base k (d ∷ x.calls))
    call-safe kn.Open y t b s =
        let host : v.host ≡ k = rests.1 ∙ (at_stage x g.Fresh (fresh_stage x.session.stage t) refl i).host in
        safe_opening base (Post base k (kn.Open ∷ x.calls)) k (back (kn.Open ∷ x.calls) tt) (kept (kn.Open ∷ x.calls) tt) (opened (kn.Open ∷ x.calls) tt) (early (kn.Open ∷ x.calls) tt) (here n o u) v q host (subst (Owns base []) (sym host) start_owns)
        (ap (λ (h : Host). h.inbox) host ∙ in-none) (ap (λ (h : Host). h.outbox) host ∙ out_none)
    call-safe (kn.Command z) y t b s =
        safe_commanding base x.session.info x.session.failure x.session.closing (Post base k (kn.Command z ∷ x.calls)) (idles (kn.Command z ∷ x.calls) tt x.session.info x.session.failure x.session.closing) z y x.session.books (here n o u) v
        (by_opcode_lem (is_reserved z.op) b) s q (idle-now t)
    call-safe (kn.Lend bytes) y t b s =
        safe_lending base x.session.info x.session.failure x.session.closing (Post base k (kn.Lend bytes ∷ x.calls)) (idles (kn.Lend bytes ∷ x.calls) tt x.session.info x.session.failure x.session.closing) bytes x.session.books (here n o u) v
        (by_room x.session.books.lists.lends bytes b) q (idle-now t)
    call-safe (kn.UndoTo mark r₁) y t b s =
        safe_undoing_to base x.session.info x.session.failure x.session.closing (Post base k (kn.UndoTo mark r₁ ∷ x.calls)) (idles (kn.UndoTo mark r₁ ∷ x.calls) tt x.session.info x.session.failure x.session.closing) mark x.session.books (here n o u) v q (idle-now t)
    call-safe kn.Quiesce y t b s =
        let w = idle-now t in
        safe_quiescing x.session.info x.session.failure (Post base k (kn.Quiesce ∷ x.calls)) v.host x.session.books w.boxes w.entries (boxes_mailed base x.session.books v.host w.boxes w.owns)
        (λ z a p e m. (quieted z a p e m w, tt, tt)) (here n o u) v q refl w.bound
      where
        quieted : (z : Wire) (a : World) → z.silent ≡ true → a.host ≡ v.host → Within (Lies x.session.books) (Mine x.session.books) a.card → Idle base x.session.info x.session.books v
            → Idle base x.session.info (wired x.session.books (broken z)) a
        quieted z a p e m w = record {
          owns = subst (Owns base (named x.session.books)) (sym e) w.owns;
          boxes = moved_boxes x.session.books (broken z) v.host a.host e w.boxes;
          entries = wired_entries x.session.books (broken z) w.entries;
          bound = wired_bound x.session.books (broken z) a.card m;
          exact = λ t. absurd (false≢true (sym t ∙ p));
          broken = λ t. refl;
        }
    call-safe kn.Close y t b s =
        let w = idle-now t in
        safe-stopping x.session.info f.Nothing (Post base k (kn.Close ∷ x.calls)) base v.host (boxes_mailed base x.session.books v.host w.boxes w.owns)
        (λ z d a e s r. back (kn.Close ∷ x.calls) tt x.session.info f.Nothing z d a e s r) (λ d a s r. kept (kn.Close ∷ x.calls) tt x.session.info f.Nothing d a s)
        x.session.books (here n o u) v w.entries.addressed q refl w.owns (λ e. loud w e x.session.books.wire.silent refl)
        (λ e. let o₁ = w.exact (loud w e x.session.books.wire.silent refl) in (
          within_more (Uses x.session.books) (OwedBy x.session.books) (Calm x.session.books) (λ p. Unit {0}) v.card (λ h z. uses_owed x.session.books h w.entries o₁.started z) (λ p z. tt) o₁.card,
          o₁.quiet,
        ))
      where
        loud : Idle base x.session.info x.session.books v → x.session.books.wire.broken ≡ false → (b : Bool) → x.session.books.wire.silent ≡ b → x.session.books.wire.silent ≡ false
        loud w e true s = absurd (false≢true (sym e ∙ w.broken s))
        loud w e false s = s

    -- and a client's changes nothing of the map
    call-calm : (d : Call) (y : List ℕ) → OfClient d → barred x.session d ≡ f.Nothing → CalmCourse (course_for d x.session y (here n o u))
    call-calm kn.Open y c₁ b = absurd c₁
    call-calm (kn.Command z) y c₁ b = commanding_calm x.session.info x.session.failure x.session.closing z y x.session.books (here n o u) (by_opcode_lem (is_reserved z.op) b)
    call-calm (kn.Lend bytes) y c₁ b = lending_calm x.session.info x.session.failure x.session.closing bytes x.session.books (here n o u)
    call-calm (kn.UndoTo mark r₁) y c₁ b = undoing_to_calm x.session.info x.session.failure x.session.closing mark x.session.books (here n o u)
    call-calm kn.Quiesce y c₁ b = absurd c₁
    call-calm kn.Close y c₁ b = absurd c₁

  -- where it is the time for a call of a client, the session is open
  client_time : (d : Call) (st : Stage) → OfClient d → is_time st d ≡ true → is_open st ≡ true
  client_time kn.Open st c₁ e = absurd c₁
  client_time (kn.Command z) st c₁ e = e
  client_time (kn.Lend bytes) st c₁ e = e
  client_time (kn.UndoTo mark r₁) st c₁ e = e
  client_time kn.Quiesce st c₁ e = absurd c₁
  client_time kn.Close st c₁ e = absurd c₁

  -- a call begins in a fresh or in an open session: no closing has begun
  opening_untaken : (x : Stand) (d : Call) → Inv base k x → is_time x.session.stage d ≡ true → IsOpening d → Untaken x.calls
  opening_untaken x kn.Open i e q = (at_stage x g.Fresh (fresh_stage x.session.stage e) refl i).untaken
  opening_untaken x (kn.Command z) i e q = absurd q
  opening_untaken x (kn.Lend bytes) i e q = absurd q
  opening_untaken x (kn.UndoTo mark r₁) i e q = absurd q
  opening_untaken x kn.Quiesce i e q = absurd q
  opening_untaken x kn.Close i e q = absurd q

  -- AN ACCEPTED CALL
  module _ (x y : Stand) (d : Call) (input n o : List ℕ) (u : Top) (i : Inv base k x) where
    abbrev pub first : Session
    first = (begun_turn x.session d input n u).session

    abbrev pub there₀ : Here
    there₀ = begun_at d x.session input (here n o u)

    pub made_by : callable x.session d ≡ true → lent_for d input n o u ≡ true → barred x.session d ≡ f.Nothing → Step x (event (call_make d input) n o u) y → (j : Inv base k y) × (j.there ≡ there₀) × GivesBack x.world y.world
    made_by a b bar st = (
      record {
        there = there₀;
        box = sym (st.left ∙ ap (λ (h : Failure). box_left h (call_in x.session d input n o u) x.inbox) (ap (λ (h : Turn). h.refusal) t ∙ taken) ∙ boxed);
        safe =
            subst (λ (h : Session). SafeCourse y.world (course_of h there₀) (Post base k y.calls)) (sym session)
            (subst (λ (l : List Call). SafeCourse y.world (course_of first there₀) (Post base k l)) (sym calls)
            (subst (λ (h : Course Rest). SafeCourse y.world h (Post base k (d ∷ x.calls))) (sym (begins d x.session input (here n o u) long))
            (call-safe x n o u i y.world rests₁ ready d input time bar st.sized)));
        tied = subst Tied (sym rests₁.1) i.tied;
        inside = settled_inside x.world y.world rests₁.1 rests₁.0 i.inside;
        suited =
            subst (λ (l : List Call). Suited (Last OfClient l) (Last IsOpening l) (Last Tears l) (Opens y.began y.world.host) y.session) (sym calls)
            (subst (Suited (OfClient d) (IsOpening d) (Tears d) (Opens y.began y.world.host)) (sym session) both.0);
        held = subst (λ (h : Session). HeldAt h.stage h.closing (AsBegan y.world.host y.began)) (sym session) both.1;
        alive = subst Alive (sym session) (call_alive n long x.session i.alive.0 d input u);
        loud = λ q.
            ap (λ (h : Session). h.books.wire.silent) session
            ∙ (begun_fact (NoQuiesce (d ∷ x.calls)) x.session (counted x.session i.alive.0, λ z. i.loud (quieter d x.calls (opening_untaken x d i time) z)) d input n u (loudly d x.calls)).1 (subst NoQuiesce calls q);
        long = λ q. ap length (st.left ∙ ap (λ (h : Failure). box_left h (call_in x.session d input n o u) x.inbox) (ap (λ (h : Turn). h.refusal) t ∙ taken) ∙ boxed) ∙ call_length x.session d input n u long;
        calm = subst (λ (h : Session). IsClient h.stage → CalmCourse (course_of h there₀)) (sym session)
            (λ q. subst CalmCourse (sym (begins d x.session input (here n o u) long)) (call-calm x n o u i y.world rests₁ ready d input (of-client q) bar));
        live = subst (λ (h : Session). IsClient h.stage → NoQuiesce y.calls → Live h.info h.books y.world) (sym session)
            (λ q s.
            let c₁ = of-client q in
            let e = begun_same d x.session input n u c₁ q in
            live_same x.session first y.world e
            (idle_live base x.session.info x.session.books y.world (idle-now x n o u i y.world rests₁ ready (client_time d x.session.stage c₁ time))
            (i.loud (quieter d x.calls (opening_untaken x d i time) (subst NoQuiesce calls s)))));
      },
      refl,
      same_gives x.world y.world rests₁.1,
    )
      where
        time : is_time x.session.stage d ≡ true
        time = and_right (is_session x.session) (is_time x.session.stage d) a

        lent : is_lent n o u ≡ true
        lent = and_left (is_lent n o u) (has_room d input) b

        long : length n ≡ 4096
        long = lent_length n o u lent

        ready : Fair (here n o u)
        ready = fair n o u st.lendable lent

        t : call_of x.session d input n o u ≡ begun_turn x.session d input n u
        t = in_good (callable x.session d) (lent_for d input n o u) _ _ _ a b ∙ ap (λ (h : Failure). unless h (begun_turn x.session d input n u) (λ w. refused_of x.session w u.count)) bar

        boxed : call_in x.session d input n o u ≡ begun_inbox x.session d input n u
        boxed = in_good (callable x.session d) (lent_for d input n o u) _ _ _ a b ∙ ap (λ (h : Failure). unless h (begun_inbox x.session d input n u) (λ w. n)) bar

        taken : (begun_turn x.session d input n u).refusal ≡ f.Nothing
        taken = begun_taken x.session d input n u

        not_refused : (call_of x.session d input n o u).refusal ≡ f.Nothing
        not_refused = ap (λ (h : Turn). h.refusal) t ∙ taken

        session : y.session ≡ first
        session = st.session ∙ ap (λ (h : Turn). h.session) t

        calls : y.calls ≡ d ∷ x.calls
        calls = st.calls ∙ ap (λ (h : Failure). calls_by h (call_make d input) x.calls) not_refused

        world : y.world ≡ st.between
        world =
            st.world
            ∙ ap (λ (h : Option Buffer). lends_to h st.between)
            (ap (λ (h : Failure). lent_now h y.calls y.session) not_refused ∙ ap (λ (l : List Call). lent_by l y.session) calls ∙ ap (lent_by (d ∷ x.calls)) session ∙ begun_lends d x.calls x.session input n u)

        rests₁ : Rests x.world y.world
        rests₁ = subst (Rests x.world) (sym world) (subst (λ (h : Failure). Happens h (call_make d input) x.session n x.world st.between) not_refused st.happens)

        began : y.began ≡ pick (is_close d) (some x.world.host) none
        began = st.began ∙ ap (λ (h : Failure). began_now h (call_make d input) x.calls (asked (asks_of x.session) n) x.world.host x.began) not_refused

        both : Both (OfClient d) (IsOpening d) (Tears d) (Opens y.began y.world.host) (AsBegan y.world.host y.began) first
        both =
            begun-both (OfClient d) (IsOpening d) (Tears d) (Opens y.began y.world.host) (opens_again y.began y.world.host) (AsBegan y.world.host y.began) d x.session input n u
            (needs d x.world.host y.world.host y.began began) (begun_at_lem d x.world.host y.world.host y.began began rests₁.1)

        -- it is a client's call where a client's stage begins
        of-client : IsClient first.stage → OfClient d
        of-client q = client_fits (OfClient d) (IsOpening d) (Tears d) (Opens y.began y.world.host) first.stage first.closing first.work.task q both.0

  -- AN ACCEPTED ANSWER
  module _ (x y : Stand) (n o : List ℕ) (u : Top) (i : Inv base k x) (a : Answer) (res : List ℕ) where
    abbrev pub h₁ : Here
    h₁ = here n i.there.outbox i.there.undo

    abbrev pub m : Lent
    m = record { outbox = o; undo = u }

    abbrev pub next : Session
    next = (step_of x.session a res n o u).session

    abbrev pub there₁ : Here
    there₁ = here_after x.session a res h₁ m

    -- what is left of the course is safe
    by-course : (z : Course Rest) → Follows x.session h₁ z → SafeCourse x.world z (Post base k x.calls) → Lendable m → (v : World) (p : Ask) (r : Reply p) → asked (asks_of x.session) n ≡ some p
        → reply_of p a res ≡ some r → WorldStep x.world p r v → SafeCourse v (course_of next there₁) (Post base k x.calls)
    by-course (ret l r₁) fol s ok v p r e₁ e₂ st = absurd (nothing_asked (asks_of x.session) n p fol.0 e₁)
    by-course (ask q l d) fol s ok v p r e₁ e₂ st =
        let al : Allowed n x.world q = subst (λ (z : Left). Allowed z.inbox x.world q) fol.1 s.0 in
        let same : q ≡ p = some-injective q p (sym (ap (λ z. asked z n) fol.0 ∙ asked_shown q n x.world al) ∙ e₁) in
        subst (λ (z : Ask). (r : Reply z) → reply_of z a res ≡ some r → WorldStep x.world z r v → SafeCourse v (course_of next there₁) (Post base k x.calls)) same
        (λ r e st.
        subst (λ (z : Course Rest). SafeCourse v z (Post base k x.calls))
        (sym (subst (λ (z : Option (Reply q)). Right z (λ r. course_of next there₁ ≡ d r m) (Unit {0})) e (fol.2 a res m)))
        (s.1 r m v ok st)) r e₂ st

    -- a client's question changes nothing of the map, and neither do those behind it
    by-calm : (z : Course Rest) → Follows x.session h₁ z → SafeCourse x.world z (Post base k x.calls) → CalmCourse z → (p : Ask) (r : Reply p) → asked (asks_of x.session) n ≡ some p → reply_of p a res ≡ some r
        → CalmAsk p × CalmCourse (course_of next there₁)
    by-calm (ret l r₁) fol s calm p r e₁ e₂ = absurd (nothing_asked (asks_of x.session) n p fol.0 e₁)
    by-calm (ask q l d) fol s calm p r e₁ e₂ =
        let al : Allowed n x.world q = subst (λ (z : Left). Allowed z.inbox x.world q) fol.1 s.0 in
        let same : q ≡ p = some-injective q p (sym (ap (λ z. asked z n) fol.0 ∙ asked_shown q n x.world al) ∙ e₁) in
        subst (λ (z : Ask). (r : Reply z) → reply_of z a res ≡ some r → CalmAsk z × CalmCourse (course_of next there₁)) same
        (λ r e. (
          calm.0,
          subst CalmCourse (sym (subst (λ (z : Option (Reply q)). Right z (λ r. course_of next there₁ ≡ d r m) (Unit {0})) e (fol.2 a res m))) (calm.1 r m),
        )) r e₂

    -- what is so after the answer: in an opening its closing has not begun, and its task goes on; in a closing the host is as it was when that began
    abbrev NextOpens : Type 0
    NextOpens = Opens y.began y.world.host (work_step_of x.session.work a res).work.task

    abbrev Begins : Ask → Type 0
    Begins p = y.began ≡ began_once (tears x.calls (some p) x.world.host) x.world.host x.began

    still-began : (p : Ask) → Begins p → asks_back x.world.host p ≡ false → y.began ≡ x.began
    still-began p b e = b ∙ ap (λ (t : Bool). began_once t x.world.host x.began) (never_tears x.calls p x.world.host e) ∙ once_more x.world.host x.began

    opens-on : (p : Ask) (r : Reply p) (v : World) → asked (asks_of x.session) n ≡ some p → reply_of p a res ≡ some r → WorldStep x.world p r v → Begins p
        → y.world.host ≡ v.host → Opens x.began x.world.host x.session.work.task → NextOpens
    opens-on p r v e d st b w o =
        let z = unasked x.session.work a res n p r x.world.host v.host o.1 e d st.1 in
        (still-began p b z.0 ∙ o.0, subst (Makes (work_step_of x.session.work a res).work.task) (sym w) z.1)

    known : (p : Ask) (r : Reply p) (v : World) → asked (asks_of x.session) n ≡ some p → reply_of p a res ≡ some r → WorldStep x.world p r v → Begins p
        → y.world.host ≡ v.host → (st : Stage) → x.session.stage ≡ st → Known st x.session.closing NextOpens (AsBegan y.world.host y.began)
    known p r v e d st b w g.Fresh s = idle x i n p e (fit x i g.Fresh s)
    known p r v e d st b w (g.Open z) s = idle x i n p e (fit x i (g.Open z) s)
    known p r v e d st b w g.Ended s = idle x i n p e (fit x i g.Ended s)
    known p r v e d st b w (g.Prepare z) s = opens-on p r v e d st b w (fit x i (g.Prepare z) s).2
    known p r v e d st b w (g.Boot z) s = opens-on p r v e d st b w (fit x i (g.Boot z) s).2
    known p r v e d st b w (g.Client z) s = tt
    known p r v e d st b w (g.Close z) s =
        plan-held z x.session.closing x.session.work.task (AsBegan x.world.host x.began) (AsBegan y.world.host y.began)
        (λ no q l f.
        let leaves = task_leaves x.session.work.reset x.session.work.find x.session.work.task n p x.world.host v.host no e in
        w ∙ leaves.1 r st.1 ∙ q l (sym (still-began p b leaves.0) ∙ f))
        (fit x i (g.Close z) s).1 (subst (λ (h : Stage). HeldAt h x.session.closing (AsBegan x.world.host x.began)) s i.held)

    pub answered-by : answerable x.session a ≡ true → is_lent n o u ≡ true → Step x (event (call_answer a res) n o u) y → (j : Inv base k y) × (j.there ≡ there₁) × GivesBack x.world y.world
    answered-by d b st = (
      record {
        there = there₁;
        box = sym (st.left ∙ ap (λ (h : Failure). box_left h (answer_in x.session a res n o u) x.inbox) not_refused ∙ boxed);
        safe =
            subst (λ (h : Session). SafeCourse y.world (course_of h there₁) (Post base k y.calls)) (sym session)
            (subst (λ (l : List Call). SafeCourse y.world (course_of next there₁) (Post base k l)) (sym calls) lent₁.0);
        tied = subst Tied (sym host) (step_tied world.0 world.1 n x.world st.between al world.4 i.tied);
        inside = lent₁.1;
        suited =
            subst (λ (l : List Call). Suited (Last OfClient l) (Last IsOpening l) (Last Tears l) (Opens y.began y.world.host) y.session) (sym calls)
            (subst (Suited (Last OfClient x.calls) (Last IsOpening x.calls) (Last Tears x.calls) (Opens y.began y.world.host)) (sym session) both.0);
        held = subst (λ (h : Session). HeldAt h.stage h.closing (AsBegan y.world.host y.began)) (sym session) both.1;
        alive = subst Alive (sym session) (step_alive n (lent_length n o u b) x.session a res o u running i.alive.0 (busy x i n world.0 world.2 (is_resting x.session.work.task) refl));
        loud = λ q.
            ap (λ (h : Session). h.books.wire.silent) session
            ∙ (step_fact (NoQuiesce x.calls) x.session (counted x.session i.alive.0, i.loud) a res n o u).1 (subst NoQuiesce calls q);
        long = λ q. ap length (st.left ∙ ap (λ (h : Failure). box_left h (answer_in x.session a res n o u) x.inbox) not_refused ∙ boxed) ∙ step_length x.session a res n o u (lent_length n o u b);
        calm = subst (λ (h : Session). IsClient h.stage → CalmCourse (course_of h there₁)) (sym session) (λ q. (calmed (was q)).1);
        live = subst (λ (h : Session). IsClient h.stage → NoQuiesce y.calls → Live h.info h.books y.world) (sym session)
            (λ q s.
            let z = was q in
            let e = step_same x.session z.0 z.1 a res n o u q in
            live_same x.session next y.world e
            (subst (Live x.session.info x.session.books) (sym (unlent q))
            (live_step x.session.info x.session.books x.world st.between world.0 world.1 n al (calmed z).0 world.4 (i.live (subst IsClient (sym z.1) tt) (subst NoQuiesce calls s)))));
      },
      refl,
      step_gives world.0 world.1 n x.world y.world al (subst (λ (h : Host). HostStep x.world.host world.0 world.1 h) (sym host) world.4.1),
    )
      where
        turned : answer_of x.session a res n o u ≡ step_of x.session a res n o u
        turned = in_good (answerable x.session a) (is_lent n o u) _ _ _ d b

        not_refused : (answer_of x.session a res n o u).refusal ≡ f.Nothing
        not_refused = ap (λ (h : Turn). h.refusal) turned ∙ step_taken x.session a res n o u

        boxed : answer_in x.session a res n o u ≡ step_in x.session a res n o u
        boxed = in_good (answerable x.session a) (is_lent n o u) _ _ _ d b

        session : y.session ≡ next
        session = st.session ∙ ap (λ (h : Turn). h.session) turned

        calls : y.calls ≡ x.calls
        calls = st.calls ∙ ap (λ (h : Failure). calls_by h (call_answer a res) x.calls) not_refused

        world : Answers x.session n a res x.world st.between
        world = subst (λ (h : Failure). Happens h (call_answer a res) x.session n x.world st.between) not_refused st.happens

        lent : n ≡ x.inbox
        lent = subst (λ (h : Failure). SameBox h n x.inbox) not_refused st.lent

        running : is_running x.session.stage ≡ true
        running = runs x i n world.0 world.2 x.session.stage refl

        fol : Follows x.session h₁ (course_of x.session h₁)
        fol = follows x i n world.0 world.2 (lent_length n o u b)

        -- the question was allowed
        al : Allowed n x.world world.0
        al = asked_by x i n h₁ (course_of x.session h₁) refl fol (safe-here x i n lent) world.0 world.2

        done : SafeCourse st.between (course_of next there₁) (Post base k x.calls)
        done = by-course (course_of x.session h₁) fol (safe-here x i n lent) st.lendable st.between world.0 world.1 world.2 world.3 world.4

        -- what was lent just now
        lends : y.world ≡ lends_to (lent_by x.calls next) st.between
        lends =
            st.world
            ∙ ap (λ (h : Option Buffer). lends_to h st.between)
            (ap (λ (h : Failure). lent_now h y.calls y.session) not_refused ∙ ap (λ (l : List Call). lent_by l y.session) calls ∙ ap (lent_by x.calls) session)

        host : y.world.host ≡ st.between.host
        host = ap (λ (h : World). h.host) lends ∙ lent_host (lent_by x.calls next) st.between

        lent₁ : SafeCourse y.world (course_of next there₁) (Post base k x.calls) × Inside y.world
        lent₁ = subst (λ (h : World). SafeCourse h (course_of next there₁) (Post base k x.calls) × Inside h) (sym lends) (by (lent_by x.calls next) refl)
          where
            in₁ : Inside st.between
            in₁ = step_inside world.0 world.1 n x.world st.between al world.4 i.inside

            by : (z : Option Buffer) → lent_by x.calls next ≡ z → SafeCourse (lends_to z st.between) (course_of next there₁) (Post base k x.calls) × Inside (lends_to z st.between)
            by none e = (done, in₁)
            by (some c₁) e =
                let g₁ = lent_given x.calls next c₁ e in
                let z = lent_post base k x.calls next there₁ st.between g₁.0 g₁.1 done in
                subst (λ (v : Buffer). SafeCourse (lends_to (some v) st.between) (course_of next there₁) (Post base k x.calls) × Inside (lends_to (some v) st.between)) g₁.2
                (z.0, lent_inside st.between (buffer_at next.books g₁.0) z.1 in₁)

        began : Begins world.0
        began =
            st.began
            ∙ ap (λ (h : Failure). began_now h (call_answer a res) x.calls (asked (asks_of x.session) n) x.world.host x.began) not_refused
            ∙ ap (λ (p : Option Ask). began_once (tears x.calls p x.world.host) x.world.host x.began) world.2

        both : Both (Last OfClient x.calls) (Last IsOpening x.calls) (Last Tears x.calls) (Opens y.began y.world.host) (AsBegan y.world.host y.began) next
        both =
            step_both (Last OfClient x.calls) (Last IsOpening x.calls) (Last Tears x.calls) (Opens y.began y.world.host) (opens_again y.began y.world.host)
            NextOpens (AsBegan y.world.host y.began) (λ z. none_began y.world.host y.began z.0) (λ z t h. (z.0, starts_makes t y.world.host h)) x.session a res n o u (λ z. z)
            (Opens x.began x.world.host) i.suited (known world.0 world.1 st.between world.2 world.3 world.4 began host x.session.stage refl)

        -- a client's stage follows a client's alone
        was : IsClient next.stage → (z : Client) × (x.session.stage ≡ g.Client z)
        was q = by x.session.stage refl
          where
            c₁ : Last OfClient x.calls
            c₁ = client_fits (Last OfClient x.calls) (Last IsOpening x.calls) (Last Tears x.calls) (Opens y.began y.world.host) next.stage next.closing next.work.task q both.0

            by : (st : Stage) → x.session.stage ≡ st → (z : Client) × (x.session.stage ≡ g.Client z)
            by g.Fresh s = absurd (idle x i n world.0 world.2 (fit x i g.Fresh s))
            by (g.Open z) s = absurd (idle x i n world.0 world.2 (fit x i (g.Open z) s))
            by g.Ended s = absurd (idle x i n world.0 world.2 (fit x i g.Ended s))
            by (g.Prepare z) s = absurd (last_not OfClient IsOpening client_opening x.calls c₁ (fit x i (g.Prepare z) s).0)
            by (g.Boot z) s = absurd (last_not OfClient IsOpening client_opening x.calls c₁ (fit x i (g.Boot z) s).0)
            by (g.Client z) s = (z, s)
            by (g.Close z) s = absurd (last_not OfClient Tears client_tears x.calls c₁ (fit x i (g.Close z) s).0)

        calmed : (z : Client) × (x.session.stage ≡ g.Client z) → CalmAsk world.0 × CalmCourse (course_of next there₁)
        calmed z =
            by-calm (course_of x.session h₁) fol (safe-here x i n lent)
            (subst (λ (h : List ℕ). CalmCourse (course_of x.session (here h i.there.outbox i.there.undo))) (i.box ∙ sym lent) (i.calm (subst IsClient (sym z.1) tt)))
            world.0 world.1 world.2 world.3

        -- while a client's call goes on nothing is lent
        unlent : IsClient next.stage → y.world ≡ st.between
        unlent q = lends ∙ ap (λ (h : Option Buffer). lends_to h st.between) (client_lends x.calls next q (lent_by x.calls next) refl)

  -- ANY EVENT
  pub step : (x : Stand) (a : Input) (n o : List ℕ) (u : Top) (y : Stand) → Inv base k x → Step x (event a n o u) y → Onto x y
  step x (call_make d input) n o u y i st = by-time (callable x.session d) refl (lent_for d input n o u) refl (barred x.session d) refl
    where
      by-time : (t : Bool) → callable x.session d ≡ t → (r : Bool) → lent_for d input n o u ≡ r → (z : Failure) → barred x.session d ≡ z → Onto x y
      by-time true p true q f.Nothing e = let z = made_by x y d input n o u i p q e st in (z.0, z.2)
      by-time true p true q (f.By w) e =
          let z : call_of x.session d input n o u ≡ refused_of x.session w u.count =
          in_good (callable x.session d) (lent_for d input n o u) _ _ _ p q ∙ ap (λ (h : Failure). unless h (begun_turn x.session d input n u) (λ w. refused_of x.session w u.count)) e in
          refused x (event (call_make d input) n o u) y w (ap (λ (h : Turn). h.session) z) (ap (λ (h : Turn). h.refusal) z) i st
      by-time true p false q b e =
          let z = in_short (callable x.session d) (lent_for d input n o u) (admitted x.session d input n u) (refused_of x.session r.Short u.count) (refused_of x.session r.Wrong u.count) p q in
          refused x (event (call_make d input) n o u) y r.Short (ap (λ (h : Turn). h.session) z) (ap (λ (h : Turn). h.refusal) z) i st
      by-time false p b q f₁ e =
          let z = in_wrong (callable x.session d) (lent_for d input n o u) (admitted x.session d input n u) (refused_of x.session r.Short u.count) (refused_of x.session r.Wrong u.count) p in
          refused x (event (call_make d input) n o u) y r.Wrong (ap (λ (h : Turn). h.session) z) (ap (λ (h : Turn). h.refusal) z) i st
  step x (call_answer a res) n o u y i st = by-time (answerable x.session a) refl (is_lent n o u) refl
    where
      by-time : (t : Bool) → answerable x.session a ≡ t → (r : Bool) → is_lent n o u ≡ r → Onto x y
      by-time true p true q = let z = answered-by x y n o u i a res p q st in (z.0, z.2)
      by-time true p false q =
          let z = in_short (answerable x.session a) (is_lent n o u) (step_of x.session a res n o u) (refused_of x.session r.Short u.count) (refused_of x.session r.Wrong u.count) p q in
          refused x (event (call_answer a res) n o u) y r.Short (ap (λ (h : Turn). h.session) z) (ap (λ (h : Turn). h.refusal) z) i st
      by-time false p b q =
          let z = in_wrong (answerable x.session a) (is_lent n o u) (step_of x.session a res n o u) (refused_of x.session r.Short u.count) (refused_of x.session r.Wrong u.count) p in
          refused x (event (call_answer a res) n o u) y r.Wrong (ap (λ (h : Turn). h.session) z) (ap (λ (h : Turn). h.refusal) z) i st

  always : (es : List Event) (x : Stand) → Inv base k x → Always base es x
  always [] x i = good x i
  always (z ∷ es) x i = (
    good x i,
    λ y st. let s = step x z.call z.inbox z.outbox z.undo y i st in (s.1, always es y s.0),
  )

-- A FRESH SESSION
no_top_lem : Top
no_top_lem = record { count = 0; op = 0; op_mod = 0; in_mod = 0; in_param = 0 }

pub starts : (x : Stand) → Start x → Inv x.world.host.hand x.world.host x
starts x s = record {
  there = here x.inbox [] no_top_lem;
  box = refl;
  safe = subst (λ (h : Session). SafeCourse x.world (course_of h (here x.inbox [] no_top_lem)) (Post x.world.host.hand x.world.host x.calls)) (sym s.session)
      (record { host = refl; untaken = subst Untaken (sym s.calls) tt });
  tied = record { order = subst InOrder (sym s.log) tt; held = λ h n e. absurd (none-ne-some n (ap (standing h) (sym s.log) ∙ e)) };
  inside = inl s.log;
  suited = subst (Suited (Last OfClient x.calls) (Last IsOpening x.calls) (Last Tears x.calls) (Opens x.began x.world.host)) (sym s.session) tt;
  held = subst (λ (h : Session). HeldAt h.stage h.closing (AsBegan x.world.host x.began)) (sym s.session) tt;
  alive = subst Alive (sym s.session) (refl, tt);
  loud = λ q. ap (λ (h : Session). h.books.wire.silent) s.session;
  long = λ q. absurd (false≢true (ap (λ (h : Session). is_running h.stage) (sym s.session) ∙ q));
  calm = λ q. absurd (subst (λ (h : Session). IsClient h.stage) s.session q);
  live = λ q b. absurd (subst (λ (h : Session). IsClient h.stage) s.session q);
}

pub demand : Demand
demand x s es = always x.world.host s.log s.inbox s.outbox es x (starts x s)
