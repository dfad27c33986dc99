-- THE BOOKS NAME EXACTLY what was handed over and not given back, at every stand of every list of events. The slot fits the question (Fits.antt), so what an answer does to it is what it does to the host.
use Prim.Native.Nat.{ℕ, ◌<◌}
use mathlib.Core.Bool.{Bool, true, false}
use mathlib.Core.List.{List, [], ◌∷◌}
use mathlib.Core.Option.{Option, some}
use mathlib.Core.Path.{◌≡◌, refl, sym, ◌∙◌, ap, subst}
use Rattle.pci.specs.Script.{Ask, Reply, shown, reply_of}
use Rattle.pci.specs.Machine.{Right}
use Rattle.pci.specs.Suits.{suits_of}
use Rattle.pci.specs.declared.Answer.{Answer}
use Rattle.pci.specs.declared.Question.{Question}
use Rattle.pci.specs.declared.Refusal.{Refusal}
use Rattle.pci.specs.declared.Refusal.TheVariants as r
use Rattle.session.specs.Session.{named, named_from, INBOX, OUTBOX}
use Rattle.session.specs.Course.{Place, neither, inbox, outbox, slot, booked}
use Rattle.session.specs.declared.Slot.{Slot}
use Rattle.session.specs.declared.Top.{Top}
use Rattle.session.specs.declared.Books.{Books}
use Rattle.session.specs.declared.Stage.{Stage}
use Rattle.session.specs.declared.Failure.{Failure}
use Rattle.session.specs.declared.Failure.TheVariants as f
use Rattle.session.specs.declared.Session.{Session}
use Rattle.fw_plan.specs.Calls.{asks_of, wants, booked_by, answers_by, step_of, is_session, answerable, is_lent, in_time, refused_of}
use Rattle.fw_plan.specs.declared.Turn.{Turn}
use Rattle.fw_plan.proofs.Session.{booked_right}
use Rattle.calls_plan.specs.Calls.{is_time, callable, lent_for, barred, begun_turn, unless, admitted}
use Rattle.calls_plan.specs.declared.Call.{Call}
use Rattle.calls_plan.specs.declared.Call.TheVariants as kn
use Rattle.calls_plan.proofs.Slots.{step_slots, begun_slots}
use Rattle.card.specs.Card.{Hold, Host, HostStep, World, standing}
use Rattle.card.proofs.Bools.{and_right}
use Rattle.card_calls.specs.Has.{pieces, Has}
use Rattle.card_calls.proofs.Named.{Fitting, step_named}
use Rattle.demand.specs.Events.{Input, call_make, call_answer, Event, asked, Stand, Answers, Happens, lent_now, turn_by, turn, Step}
use Rattle.demand.specs.Books.{AlwaysExactly, BooksExact}
use Rattle.demand.proofs.Questions.{task_leaves}
use Rattle.demand.proofs.Demand.{fresh_stage, step_taken, begun_taken, lent_host}
use Rattle.demand.proofs.Fits.{Fits, FitsAt, Small, in_hand, step_fits, begun_fits, fresh_fits}

module _ (base : ℕ → Option Hold) where
  abbrev Names : List Slot → Host → Type 0
  Names ls k = Has base (pieces (named_from 82 0 ls)) k

  record Kept (s : Session) (k : Host) : Type 0 where
    pub fits : Fits s
    pub names : Names s.books.lists.slots k

  -- AN ANSWER, by the slot of the task
  module _ (s : Session) (fits : Fits s) (z : Answer) (res n : List ℕ) (q : Ask) (y : Reply q) (is : asked (asks_of s) n ≡ some q) (says : reply_of q z res ≡ some y) (k l : Host) (st : HostStep k q y l) (has : Names s.books.lists.slots k) where
    on-slot : (i v : ℕ) → i < 82 → (asks_of s ≡ shown q) × Fitting i q s.books.lists.slots → Names (answers_by i v (asks_of s) z s.books).lists.slots l
    on-slot i v a h =
        subst (λ (d : Books). Has base (pieces (named d)) l)
        (sym (ap (λ (x : Question). answers_by i v x z s.books) h.0 ∙ subst (λ (x : Option (Reply q)). Right x (λ y. booked_by (slot i v) (shown q) z s.books ≡ booked (slot i v) q y s.books) (Unit {0})) says (booked_right (slot i v) q z res s.books)))
        (step_named base i v s.books a fits.room q y k l h.1 st has)

    by_place : (d : ℕ) (p : Place) → FitsAt p d s.work.task s.books.lists.slots → Names (booked_by p (asks_of s) z s.books).lists.slots l
    by_place d neither h = subst (Names s.books.lists.slots) (sym ((task_leaves s.work.reset s.work.find s.work.task n q k l h is).1 y st)) has
    by_place d inbox h = on-slot INBOX 0 h.0 (in_hand INBOX s.work.task s.books.lists.slots h.2 s.work.reset s.work.find n q is)
    by_place d outbox h = on-slot OUTBOX 0 h.0 (in_hand OUTBOX s.work.task s.books.lists.slots h.2 s.work.reset s.work.find n q is)
    by_place d (slot i v) h = on-slot i v h.0 (in_hand i s.work.task s.books.lists.slots h.2 s.work.reset s.work.find n q is)

    answered : suits_of (asks_of s) z ≡ true → (i o : List ℕ) (u : Top) → Kept (step_of s z res i o u).session l
    answered e i o u = record {
      fits = step_fits s fits z e res i o u;
      names = subst (λ (ls : List Slot). Names ls l) (sym (step_slots s z res i o u)) (by_place _ (wants s) fits.task);
    }

  -- A CALL that begins leaves them; an opening has a fresh session, with nothing
  begun_same : (s : Session) (k : Host) → Kept s k → (c : Call) → is_time s.stage c ≡ true → (input i : List ℕ) (u : Top) → (begun_turn s c input i u).session.books.lists.slots ≡ s.books.lists.slots
  unfolding begun_turn
  begun_same s k h kn.Open t input i u = sym (subst (λ (z : Stage). Small z s.books.lists) (fresh_stage s.stage t) h.fits.small)
  begun_same s k h (kn.Command y) t input i u = begun_slots s (kn.Command y) input i u tt
  begun_same s k h (kn.Lend bytes) t input i u = begun_slots s (kn.Lend bytes) input i u tt
  begun_same s k h (kn.UndoTo mark y) t input i u = begun_slots s (kn.UndoTo mark y) input i u tt
  begun_same s k h kn.Quiesce t input i u = begun_slots s kn.Quiesce input i u tt
  begun_same s k h kn.Close t input i u = begun_slots s kn.Close input i u tt

  begun : (s : Session) (k : Host) → Kept s k → (c : Call) → is_time s.stage c ≡ true → barred s c ≡ f.Nothing → (input i : List ℕ) (u : Top) → Kept (begun_turn s c input i u).session k
  begun s k h c t e input i u = record { fits = begun_fits c s h.fits t e input i u; names = subst (λ (ls : List Slot). Names ls k) (sym (begun_same s k h c t input i u)) h.names }

  -- ANY EVENT
  module _ (s : Session) (w : World) (has : Kept s w.host) (n o : List ℕ) (u : Top) where
    -- what it leaves, if it is taken or refused so
    abbrev Leads : Input → Turn → Type 1
    Leads a t = (v : World) → Happens t.refusal a s n w v → Kept t.session v.host

    refused : (a : Input) (y : Refusal) → Leads a (refused_of s y u.count)
    refused a y v h = subst (Kept s) (sym h.1) has

    in_time_lem : (a : Input) (t p : Bool) (x : Turn) → (t ≡ true → p ≡ true → Leads a x) → Leads a (in_time t p x (refused_of s r.Short u.count) (refused_of s r.Wrong u.count))
    in_time_lem a true true x h = h refl refl
    in_time_lem a true false x h = refused a r.Short
    in_time_lem a false p x h = refused a r.Wrong

    leads : (a : Input) → Leads a (turn_by a s n o u)
    leads (call_make c input) =
        in_time_lem (call_make c input) (callable s c) (lent_for c input n o u) (admitted s c input n u) (λ t p. by (barred s c) refl (and_right (is_session s) (is_time s.stage c) t))
      where
        by : (z : Failure) → barred s c ≡ z → is_time s.stage c ≡ true → Leads (call_make c input) (unless z (begun_turn s c input n u) (λ y. refused_of s y u.count))
        by f.Nothing e t v h =
            subst (Kept (begun_turn s c input n u).session) (sym (subst (λ (z : Failure). Happens z (call_make c input) s n w v) (begun_taken s c input n u) h).1) (begun s w.host has c t e input n u)
        by (f.By y) e t v h = refused (call_make c input) y v h
    leads (call_answer a res) =
        in_time_lem (call_answer a res) (answerable s a) (is_lent n o u) (step_of s a res n o u) (λ t p v h.
        let x : Answers s n a res w v = subst (λ (z : Failure). Happens z (call_answer a res) s n w v) (step_taken s a res n o u) h in
        answered s has.fits a res n x.0 x.1 x.2 x.3 w.host v.host x.4.1 has.names (and_right (is_session s) (suits_of (asks_of s) a) t) n o u)

  step : (x : Stand) (e : Event) (y : Stand) → Kept x.session x.world.host → Step x e y → Kept y.session y.world.host
  step x e y h st =
      subst (λ (s : Session). Kept s y.world.host) (sym st.session)
      (subst (Kept (turn_by e.call x.session e.inbox e.outbox e.undo).session) (sym (ap (λ (v : World). v.host) st.world ∙ lent_host (lent_now (turn x.session e).refusal y.calls y.session) st.between))
      (leads x.session x.world h e.inbox e.outbox e.undo e.call st.between st.happens))

  always : (es : List Event) (x : Stand) → Kept x.session x.world.host → AlwaysExactly base es x
  always [] x h = record { named = h.names }
  always (e ∷ es) x h = (record { named = h.names }, λ y st. always es y (step x e y h st))

-- A FRESH SESSION has nothing
pub books : BooksExact
unfolding named_from
books x s es =
    always x.world.host.hand es x
    (subst (λ (z : Session). Kept x.world.host.hand z x.world.host) (sym s.session)
    (record { fits = fresh_fits; names = record { own = tt; new = tt; differ = tt; others = λ h a. (refl, ap (standing h) s.log) } }))
