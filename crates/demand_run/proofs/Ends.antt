-- Along the course of a call: where it can come to an end, some events lead there. And no call is ever stuck: whatever is asked, a bus call may fail, and a stall, a fence, an unmap and a free
-- may be told; so each course can come to an end.
use Prim.Native.Nat.{ℕ}
use mathlib.Core.Bool.{Bool, true, false, false≢true}
use mathlib.Core.List.{List, [], ◌∷◌}
use mathlib.Core.Logic.{inl}
use mathlib.Core.Option.{Option, some, none}
use mathlib.Core.Path.{◌≡◌, refl, sym, ◌∙◌, ap, subst}
use lib.Dec.{eqb}
use borrow.Author.Tests.{eq-eqb}
use lib.ListN.{length}
use Rattle.dma.specs.declared.Buffer.{Buffer}
use Rattle.pci.specs.Script.{Ask, Reply, failed, shown, reply_of, config_read16, config_read32, config_write16, config_write32, read, write, attributes, resource, stall, allocate, mapped, unmap, free, fence}
use Rattle.pci.specs.Suits.{suits_of}
use Rattle.pci.specs.Machine.{Right}
use Rattle.pci.proofs.Replies.{is_reply, suits_reply}
use Rattle.pci.specs.declared.Answer.{Answer}
use Rattle.pci.specs.declared.Answer.TheVariants as an
use Rattle.session.specs.Course.{Course, ret, ask, Here, here, Lent, Left, Rest, rest_of}
use Rattle.session.specs.declared.Stage.{Stage}
use Rattle.session.specs.declared.Stage.TheVariants as g
use Rattle.session.specs.declared.Failure.{Failure}
use Rattle.session.specs.declared.Failure.TheVariants as f
use Rattle.session.specs.declared.Session.{Session}
use Rattle.fw_plan.specs.Calls.{asks_of, is_session, is_lent, answerable, answer_of, answer_in, step_of, step_in}
use Rattle.fw_plan.specs.Follows.{course_of, course_at, is_running, here_after, Follows}
use Rattle.fw_plan.specs.declared.Turn.{Turn}
use Rattle.fw_plan.proofs.Session.{session_follows}
use Rattle.calls_plan.specs.declared.Call.{Call}
use Rattle.card.specs.Card.{same, Hold, Host, World, WorldStep, fenced, mail_at, unmap_in, hand_back, Allowed}
use Rattle.card_calls.specs.SafeCourse.{SafeCourse}
use Rattle.card_run.specs.Can.{Slice, SizedAnswer, Answered, Whole, CanCourse}
use Rattle.card_run.proofs.Steps.{no_bytes}
use Rattle.card_run.proofs.Courses.{lends, empty, whole}
use Rattle.demand.specs.Events.{Input, call_answer, Event, asked, Stand, Happens, SameBox, box_left, calls_by, began_by, began_now, lent_by, lent_now, lends_to, Step}
use Rattle.demand.specs.Demand.{GivesBack, has_returned}
use Rattle.demand.proofs.Questions.{asked_shown}
use Rattle.demand.proofs.Inbox.{step_length}
use Rattle.demand.proofs.Demand.{Inv, Post, lent_given, in_good, step_taken, busy_of, answered-by, quiet, step, starts}
use Rattle.demand_run.specs.Run.{Run, Accepts, Returns, Finishes}
use Rattle.card.proofs.Bools.{and_true}

-- A REPLY that is always possible
abbrev Possible : Ask → World → Type 1
Possible q w = (r : Reply q) × (v : World) × Answered q r × WorldStep w q r v

possible : (q : Ask) (w : World) → Possible q w
possible (config_read16 o) w = (failed, w, (an.Failed, [], refl, tt, no_bytes), (same, refl))
possible (config_read32 o) w = (failed, w, (an.Failed, [], refl, tt, no_bytes), (same, refl))
possible (config_write16 o v) w = (failed, w, (an.Failed, [], refl, tt, no_bytes), (same, refl))
possible (config_write32 o v) w = (failed, w, (an.Failed, [], refl, tt, no_bytes), (same, refl))
possible (read b o) w = (failed, w, (an.Failed, [], refl, tt, no_bytes), (same, refl))
possible (write b o v) w = (failed, w, (an.Failed, [], refl, tt, no_bytes), (inl same, refl))
possible (attributes o v) w = (failed, w, (an.Failed, [], refl, tt, no_bytes), (same, refl))
possible (resource b) w = (failed, w, (an.Failed, [], refl, tt, no_bytes), (same, refl))
possible (stall t) w = (tt, w, (an.Done, [], refl, tt, no_bytes), (same, refl))
possible (allocate n) w = (failed, w, (an.Failed, [], refl, tt, no_bytes), (same, refl))
possible (mapped h n) w = (failed, w, (an.Failed, [], refl, tt, no_bytes), (same, refl))
possible (unmap h) w = (failed, record { card = w.card; host = unmap_in w.host h }, (an.Failed, [], refl, tt, no_bytes), (same, refl))
possible (free h n) w = (failed, record { card = w.card; host = hand_back w.host h n }, (an.Failed, [], refl, tt, no_bytes), (same, refl))
possible (fence i) w = (tt, record { card = fenced w.card (mail_at w.host i); host = w.host }, (an.Done, [], refl, tt, no_bytes), ((w.card, same, refl), refl))

abbrev pub event : Input → List ℕ → Lent → Event
event c i m = record { call = c; inbox = i; outbox = m.outbox; undo = m.undo }

pub lent_good : (i : List ℕ) (m : Lent) → length i ≡ 4096 → Whole m → is_lent i m.outbox m.undo ≡ true
lent_good i m l x =
    and_true (eqb (length i) 4096) _ (eq-eqb (length i) 4096 l) (and_true (eqb (length m.outbox) 4096) _ (eq-eqb (length m.outbox) 4096 x.outbox) x.undo)

-- AN ANSWER TO THE OPEN QUESTION, and the stand behind it
module _ (x : Stand) (q : Ask) (r : Reply q) (m : Lent) (v : World) (a : Answer) (res : List ℕ) where
  abbrev pub after : Session
  after = (step_of x.session a res x.inbox m.outbox m.undo).session

  abbrev pub behind : Stand
  behind = record {
    session = after;
    inbox = step_in x.session a res x.inbox m.outbox m.undo;
    world = lends_to (lent_by x.calls after) v;
    calls = x.calls;
    began = began_by (call_answer a res) x.calls (asked (asks_of x.session) x.inbox) x.world.host x.began;
  }

  module _ (l : length x.inbox ≡ 4096) (ok : is_session x.session ≡ true) (e : asks_of x.session ≡ shown q) (d : reply_of q a res ≡ some r) where
    pub time : answerable x.session a ≡ true
    time = and_true (is_session x.session) (suits_of (asks_of x.session) a) ok (ap (λ z. suits_of z a) e ∙ suits_reply q a res ∙ ap is_reply d)

    pub room : Whole m → is_lent x.inbox m.outbox m.undo ≡ true
    room w = lent_good x.inbox m l w

    pub answers : Allowed x.inbox x.world q → Whole m → WorldStep x.world q r v → SizedAnswer a × Slice res → Accepts x (event (call_answer a res) x.inbox m) behind
    answers al w st fit = record { step = step-on; taken = taken; typed = fit; lent = w }
      where
        turned : answer_of x.session a res x.inbox m.outbox m.undo ≡ step_of x.session a res x.inbox m.outbox m.undo
        turned = in_good (answerable x.session a) (is_lent x.inbox m.outbox m.undo) _ _ _ time (room w)

        boxed : answer_in x.session a res x.inbox m.outbox m.undo ≡ step_in x.session a res x.inbox m.outbox m.undo
        boxed = in_good (answerable x.session a) (is_lent x.inbox m.outbox m.undo) _ _ _ time (room w)

        taken : (answer_of x.session a res x.inbox m.outbox m.undo).refusal ≡ f.Nothing
        taken = ap (λ (t : Turn). t.refusal) turned ∙ step_taken x.session a res x.inbox m.outbox m.undo

        step-on : Step x (event (call_answer a res) x.inbox m) behind
        step-on = record {
          session = sym (ap (λ (t : Turn). t.session) turned);
          lendable = w.lendable;
          sized = tt;
          lent = subst (λ (t : Failure). SameBox t x.inbox x.inbox) (sym taken) refl;
          left = sym (ap (λ (t : Failure). box_left t (answer_in x.session a res x.inbox m.outbox m.undo) x.inbox) taken ∙ boxed);
          between = v;
          happens = subst (λ (t : Failure). Happens t (call_answer a res) x.session x.inbox x.world v) (sym taken) (q, r, ap (λ z. asked z x.inbox) e ∙ asked_shown q x.inbox x.world al, d, st);
          world = sym (ap (λ (t : Failure). lends_to (lent_now t x.calls after) v) taken);
          calls = sym (ap (λ (t : Failure). calls_by t (call_answer a res) x.calls) taken);
          began = sym (ap (λ (t : Failure). began_now t (call_answer a res) x.calls (asked (asks_of x.session) x.inbox) x.world.host x.began) taken);
        }

-- AT THE END OF A COURSE
abbrev is_ret : Course Rest → Bool
is_ret (ret l r) = true
is_ret (ask q l k) = false

abbrev rest_in : Rest → Course Rest → Rest
rest_in z (ret l r) = r
rest_in z (ask q l k) = z

ended : (st : Stage) (s : Session) (h : Here) → is_running st ≡ false → (is_ret (course_at st s h) ≡ true) × (rest_in (rest_of s) (course_at st s h) ≡ rest_of s)
ended g.Fresh s h q = (refl, refl)
ended (g.Open y) s h q = (refl, refl)
ended g.Ended s h q = (refl, refl)
ended (g.Prepare y) s h q = absurd (false≢true (sym q))
ended (g.Boot y) s h q = absurd (false≢true (sym q))
ended (g.Client y) s h q = absurd (false≢true (sym q))
ended (g.Close y) s h q = absurd (false≢true (sym q))

-- while a call runs nothing is lent
running_lends : (l : List Call) (s : Session) → is_running s.stage ≡ true → (z : Option Buffer) → lent_by l s ≡ z → lent_by l s ≡ none
running_lends l s p none e = e
running_lends l s p (some y) e = absurd (false≢true (ap is_running (sym (lent_given l s y e).1) ∙ p))

-- A CALL HAS RETURNED at a stand where Q holds of the session and of the world before what the call lends is lent. Where the mailbox was whole it stays so
pub record Ended (k : Host) (Q : World → Rest → Type 1) (x : Stand) : Type 1 where
  pub returns : Returns x x.calls
  pub inv : Inv k.hand k returns.end
  pub long : length x.inbox ≡ 4096 → length returns.end.inbox ≡ 4096
  pub world : World
  pub lent : returns.end.world ≡ lends_to (lent_by returns.end.calls returns.end.session) world
  pub rest : Q world (rest_of returns.end.session)

module _ (k : Host) (log : k.log ≡ []) (in-none : k.inbox ≡ none) (out_none : k.outbox ≡ none) where
  abbrev base : ℕ → Option Hold
  base = k.hand

  here_is : (h : Here) (i : List ℕ) → h.inbox ≡ i → h ≡ here i h.outbox h.undo
  here_is h i e = λ t. record { inbox = e t; outbox = h.outbox; undo = h.undo }

  abbrev pub Lends : Stand → World → Type 1
  Lends x w = x.world ≡ lends_to (lent_by x.calls x.session) w

  module _ (x : Stand) (i : Inv base k x) (p : is_running x.session.stage ≡ true) where
    follows : Follows x.session i.there (course_of x.session i.there)
    follows = session_follows x.session i.there (ap length i.box ∙ i.long p) p (busy_of x.session.stage x.session.work.task p i.alive.1)

    unlent : (w : World) → lends_to (lent_by x.calls x.session) w ≡ w
    unlent w = ap (λ (z : Option Buffer). lends_to z w) (running_lends x.calls x.session p (lent_by x.calls x.session) refl)

    -- one answer more
    module _ (y : Ask) (l : Left) (d : Reply y → Lent → Course Rest) (e : course_of x.session i.there ≡ ask y l d) (Q : World → Rest → Type 1) where
      fol₁ : Follows x.session (here x.inbox i.there.outbox i.there.undo) (ask y l d)
      fol₁ = subst (λ (h : Here). Follows x.session h (ask y l d)) (here_is i.there x.inbox i.box) (subst (Follows x.session i.there) e follows)

      al : Allowed x.inbox x.world y
      al = subst (λ (z : Left). Allowed z.inbox x.world y) fol₁.1 (subst (λ (z : Course Rest). SafeCourse x.world z (Post base k x.calls)) e i.safe).0

      goes : CanCourse x.world (ask y l d) Q → ((r : Reply y) (m : Lent) (z : Stand) (j : Inv base k z) (v : World) → course_of z.session j.there ≡ d r m → Lends z v → CanCourse v (d r m) Q → Ended k Q z)
          → Ended k Q x
      goes (r, m, v, ok, (a, res, q, small, few), st₁, can) more = record {
        returns = record {
          events = event (call_answer a res) x.inbox m ∷ rest.returns.events;
          end = rest.returns.end;
          run = (next, st, tt, rest.returns.run);
          returned = rest.returns.returned;
          calls = rest.returns.calls;
        };
        inv = rest.inv;
        long = λ l. rest.long (step_length x.session a res x.inbox m.outbox m.undo l);
        world = rest.world;
        lent = rest.lent;
        rest = rest.rest;
      }
        where
          next : Stand
          next = behind x y r m v a res

          st : Accepts x (event (call_answer a res) x.inbox m) next
          st = answers x y r m v a res (i.long p) i.alive.0 fol₁.0 q al ok st₁ (small, few)

          onto : (j : Inv base k next) × (j.there ≡ here_after x.session a res (here x.inbox i.there.outbox i.there.undo) m) × GivesBack x.world next.world
          onto =
              answered-by k log in-none out_none x next x.inbox m.outbox m.undo i a res
              (time x y r m v a res (i.long p) i.alive.0 fol₁.0 q) (room x y r m v a res (i.long p) i.alive.0 fol₁.0 q ok) st.step

          rest : Ended k Q next
          rest =
              more r m next onto.0 v
              (ap (course_of next.session) onto.1
              ∙ subst (λ (z : Option (Reply y)). Right z (λ r. course_of next.session (here_after x.session a res (here x.inbox i.there.outbox i.there.undo) m) ≡ d r m) (Unit {0})) q (fol₁.2 a res m))
              refl can

  -- nothing is asked
  done : (Q : World → Rest → Type 1) (x : Stand) → Inv base k x → (w : World) → Lends x w → has_returned (asks_of x.session) ≡ true → Q w (rest_of x.session) → Ended k Q x
  done Q x i w o q r = record { returns = record { events = []; end = x; run = refl; returned = q; calls = refl }; inv = i; long = λ l. l; world = w; lent = o; rest = r }

  -- ALONG THE COURSE that is left of the call
  pub along : (Q : World → Rest → Type 1) (c : Course Rest) (x : Stand) (i : Inv base k x) (w : World) → course_of x.session i.there ≡ c → Lends x w → CanCourse w c Q → Ended k Q x
  along Q (ret l r) x i w e o can = by (is_running x.session.stage) refl
    where
      by : (t : Bool) → is_running x.session.stage ≡ t → Ended k Q x
      by true p = let fol = subst (Follows x.session i.there) e (follows x i p) in done Q x i w o (ap has_returned fol.0) (subst (Q w) fol.2 can)
      by false p =
          done Q x i w o (ap has_returned (quiet k log in-none out_none x i p))
          (subst (Q w) (ap (rest_in (rest_of x.session)) (sym e) ∙ (ended x.session.stage x.session i.there p).1) can)
  along Q (ask y l d) x i w e o can = by (is_running x.session.stage) refl (λ r m z j v a b c. along Q (d r m) z j v a b c)
    where
      by : (t : Bool) → is_running x.session.stage ≡ t
          → ((r : Reply y) (m : Lent) (z : Stand) (j : Inv base k z) (v : World) → course_of z.session j.there ≡ d r m → Lends z v → CanCourse v (d r m) Q → Ended k Q z) → Ended k Q x
      by true p more = goes x i p y l d e Q (subst (λ (v : World). CanCourse v (ask y l d) Q) (sym (o ∙ unlent x i p w)) can) more
      by false p more = absurd (false≢true (sym (ap is_ret e) ∙ (ended x.session.stage x.session i.there p).0))

  -- the invariant along a run
  reach : (es : List Event) (x y : Stand) → Inv base k x → Run es x y → Inv base k y
  reach [] x y i p = subst (Inv base k) p i
  reach (e ∷ es) x y i (m, st, p) = reach es m y (step k log in-none out_none x e.call e.inbox e.outbox e.undo m i st).0 p

  -- ANY COURSE can come to an end
  record Any (w : World) (x : Rest) : Type 1 where

  any : (c : Course Rest) (w : World) → CanCourse w c Any
  any (ret l r) w = record {}
  any (ask q l d) w = by (possible q w) (λ r v. any (d r (lends empty)) v)
    where
      by : Possible q w → ((r : Reply q) (v : World) → CanCourse v (d r (lends empty)) Any) → CanCourse w (ask q l d) Any
      by (r, v, a, st) more = (r, lends empty, v, whole, a, st, more r v)

  finishes : (x : Stand) → Inv base k x → Returns x x.calls
  finishes x i = by (is_running x.session.stage) refl
    where
      by : (t : Bool) → is_running x.session.stage ≡ t → Returns x x.calls
      by true p = (along Any (course_of x.session i.there) x i x.world refl (sym (unlent x i p x.world)) (any (course_of x.session i.there) x.world)).returns
      by false p = record { events = []; end = x; run = refl; returned = ap has_returned (quiet k log in-none out_none x i p); calls = refl }

pub no_call_stuck : Finishes
no_call_stuck x s es y p =
    finishes x.world.host s.log s.inbox s.outbox y (reach x.world.host s.log s.inbox s.outbox es x y (starts x s) p)
