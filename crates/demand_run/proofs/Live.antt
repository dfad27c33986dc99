-- Demand 3 is not empty: the stories, on a card that holds nothing and a host that has handed out nothing.
use Prim.Native.Nat.{ℕ}
use native.Mathlib.Omega.{arith}
use mathlib.Core.Bool.{true}
use mathlib.Core.List.{List, [], ◌∷◌}
use mathlib.Core.Option.{Option, some, none}
use mathlib.Core.Path.{◌≡◌, refl, sym, ◌∙◌, ap, subst}
use lib.ListN.{length}
use Rattle.dma.specs.declared.Buffer.{Buffer}
use Rattle.hcr.specs.Words.{is_in}
use Rattle.session.specs.Session.{fresh}
use Rattle.session.specs.Course.{here, Lent, Rest, rest_of}
use Rattle.session.specs.declared.Books.{Books}
use Rattle.session.specs.declared.Gave.{Gave}
use Rattle.session.specs.declared.Gave.TheVariants as v
use Rattle.session.specs.declared.Stage.TheVariants as g
use Rattle.session.specs.declared.Failure.{Failure}
use Rattle.session.specs.declared.Failure.TheVariants as f
use Rattle.session.specs.declared.Closing.{Closing}
use Rattle.session.specs.declared.Closing.TheVariants as z
use Rattle.session.specs.declared.Session.{Session}
use Rattle.fw_plan.specs.Calls.{asks_of, outcome_at, outcome_of, ended_as, is_session, is_lent, refused_of}
use Rattle.fw_plan.specs.Follows.{course_of}
use Rattle.fw_plan.specs.declared.Outcome.{Outcome}
use Rattle.fw_plan.specs.declared.Outcome.TheVariants as u
use Rattle.fw_plan.specs.declared.Turn.{Turn}
use Rattle.calls_plan.specs.Calls.{is_open, is_time, callable, has_room, lent_for, by_list, barred, unless, begun_turn, begun_inbox, call_of, call_in, course_for}
use Rattle.calls_plan.specs.declared.Call.{Call}
use Rattle.calls_plan.specs.declared.Call.TheVariants as k
use Rattle.calls_plan.proofs.Begins.{begins}
use Rattle.card.specs.Card.{same, World}
use Rattle.card.proofs.Bools.{and_true}
use Rattle.card_calls.specs.Holding.{Entries}
use Rattle.card_run.specs.Can.{Slice, no_undo, Whole, CanCourse}
use Rattle.card_run.proofs.Steps.{no_bytes}
use Rattle.card_run.proofs.Courses.{lendable, empty, nil, empty_length, whole, IsOpen, IsEnded}
use Rattle.card_run.proofs.Opening.{IsNothing, Ready, world₀, host₀, opening_good}
use Rattle.card_run.proofs.Client as cl
use Rattle.card_run.proofs.Closing.{IsQuiet, closes_clean, closes-broken, closes-failed, can_resetting, can_keeping, opening_refused, opening_reset, opening_kept}
use Rattle.card_run.proofs.Closing as co
use Rattle.demand.specs.Events.{call_make, asked, Stand, Happens, SameBox, box_left, calls_by, began_by, began_now, lent_by, lent_now, lends_to, SizedCall, Step}
use Rattle.demand.specs.Demand.{Start}
use Rattle.demand.proofs.Inbox.{call_length}
use Rattle.demand.proofs.Demand.{Inv, in_good, begun_lends, begun_taken, at_stage, made_by, starts}
use Rattle.demand_run.specs.Run.{Accepts, Chapter, Does, opens, fails, lends, nop, commands, one_undo, undoes, quiesces, closes, NotEmpty}
use Rattle.demand_run.proofs.Ends.{event, lent_good, along}

-- A CALL THAT IS TAKEN, and the stand behind it
module _ (x : Stand) (d : Call) (input : List ℕ) (m : Lent) where
  abbrev begun : Stand
  begun = record {
    session = (begun_turn x.session d input x.inbox m.undo).session;
    inbox = begun_inbox x.session d input x.inbox m.undo;
    world = x.world;
    calls = d ∷ x.calls;
    began = began_by (call_make d input) x.calls (asked (asks_of x.session) x.inbox) x.world.host x.began;
  }

  module _ (time : callable x.session d ≡ true) (room : has_room d input ≡ true) (free : barred x.session d ≡ f.Nothing) (sized : SizedCall d) (ok : Whole m) (l : length x.inbox ≡ 4096) where
    lent₁ : lent_for d input x.inbox m.outbox m.undo ≡ true
    lent₁ = and_true (is_lent x.inbox m.outbox m.undo) (has_room d input) (lent_good x.inbox m l ok) room

    takes : Slice input → Accepts x (event (call_make d input) x.inbox m) begun
    takes fit = record { step = step-on; taken = taken; typed = fit; lent = ok }
      where
        turned : call_of x.session d input x.inbox m.outbox m.undo ≡ begun_turn x.session d input x.inbox m.undo
        turned =
            in_good (callable x.session d) (lent_for d input x.inbox m.outbox m.undo) _ _ _ time lent₁
            ∙ ap (λ (h : Failure). unless h (begun_turn x.session d input x.inbox m.undo) (λ w. refused_of x.session w m.undo.count)) free

        boxed : call_in x.session d input x.inbox m.outbox m.undo ≡ begun_inbox x.session d input x.inbox m.undo
        boxed =
            in_good (callable x.session d) (lent_for d input x.inbox m.outbox m.undo) _ _ _ time lent₁
            ∙ ap (λ (h : Failure). unless h (begun_inbox x.session d input x.inbox m.undo) (λ w. x.inbox)) free

        taken : (call_of x.session d input x.inbox m.outbox m.undo).refusal ≡ f.Nothing
        taken = ap (λ (t : Turn). t.refusal) turned ∙ begun_taken x.session d input x.inbox m.undo

        step-on : Step x (event (call_make d input) x.inbox m) begun
        step-on = record {
          session = sym (ap (λ (t : Turn). t.session) turned);
          lendable = ok.lendable;
          sized = sized;
          lent = subst (λ (t : Failure). SameBox t x.inbox x.inbox) (sym taken) refl;
          left = sym (ap (λ (t : Failure). box_left t (call_in x.session d input x.inbox m.outbox m.undo) x.inbox) taken ∙ boxed);
          between = x.world;
          happens = subst (λ (t : Failure). Happens t (call_make d input) x.session x.inbox x.world x.world) (sym taken) (same, refl);
          world = sym (ap (λ (t : Failure). lends_to (lent_now t (d ∷ x.calls) begun.session) x.world) taken ∙ ap (λ (z : Option Buffer). lends_to z x.world) (begun_lends d x.calls x.session input x.inbox m.undo));
          calls = sym (ap (λ (t : Failure). calls_by t (call_make d input) x.calls) taken);
          began = sym (ap (λ (t : Failure). began_now t (call_make d input) x.calls (asked (asks_of x.session) x.inbox) x.world.host x.began) taken);
        }

-- BETWEEN TWO CHAPTERS
abbrev inv : (x : Stand) → Type 1
inv x = Inv host₀.hand host₀ x

record Sits (E : World → Rest → Type 1) (x : Stand) : Type 1 where
  held : inv x
  long : length x.inbox ≡ 4096
  is : E x.world (rest_of x.session)

-- A CHAPTER: the call is taken, and its course followed to an end that Q tells of
abbrev lent_in : Chapter → Lent
lent_in c = record { outbox = empty; undo = c.undo }

chapter : (c : Chapter) (l : List Chapter) (x : Stand) → inv x → length x.inbox ≡ 4096 → is_time x.session.stage c.call ≡ true → has_room c.call [] ≡ true → barred x.session c.call ≡ f.Nothing
    → SizedCall c.call → Whole (lent_in c) → (Q : World → Rest → Type 1) → CanCourse x.world (course_for c.call x.session [] (here x.inbox empty c.undo)) Q
    → ((y : Stand) (w : World) → inv y → length y.inbox ≡ 4096 → y.world ≡ lends_to (lent_by y.calls y.session) w → Q w (rest_of y.session) → c.result y.session.books (outcome_of y.session) × Does l y)
    → Does (c ∷ l) x
chapter c l x i n t room free sized ok Q can more =
    let time = and_true (is_session x.session) (is_time x.session.stage c.call) i.alive.0 t in
    let y = begun x c.call [] (lent_in c) in
    let st = takes x c.call [] (lent_in c) time room free sized ok n no_bytes in
    let j = made_by host₀ refl refl refl x y c.call [] x.inbox empty c.undo i time (lent₁ x c.call [] (lent_in c) time room free sized ok n) free st.step in
    let e = along host₀ refl refl refl Q (course_for c.call x.session [] (here x.inbox empty c.undo)) y j.0 x.world
    (ap (course_of y.session) j.1 ∙ begins c.call x.session [] (here x.inbox empty c.undo) n)
    (sym (ap (λ (z : Option Buffer). lends_to z x.world) (begun_lends c.call x.calls x.session [] x.inbox c.undo))) can in
    let s = more e.returns.end e.world e.inv (e.long (call_length x.session c.call [] x.inbox c.undo n)) e.lent e.rest in (
      event (call_make c.call []) x.inbox (lent_in c),
      y,
      ([], refl, refl),
      st,
      e.returns,
      s.0,
      s.1,
    )

-- what hca_result tells
told : (s : Session) (y : Gave) → s.stage ≡ g.Open y → outcome_of s ≡ u.Opened y
told s y e = ap (outcome_at s.failure s.closing) e

told_end_lem : (s : Session) (y : Failure) (c : Closing) (w : World) → IsEnded y c w (rest_of s) → outcome_of s ≡ ended_as y c
told_end_lem s y c w e = ap (outcome_at s.failure s.closing) e.stage ∙ ap (λ (h : Failure). ended_as h s.closing) e.failure ∙ ap (ended_as y) e.closing

-- what is lent at its end leaves a session open
open_lent : (P : Books → Gave → Type 0) (l : ℕ) (b : Option Buffer) (w : World) (r : Rest) → IsOpen P l w r → IsOpen P l (lends_to b w) r
open_lent P l none w r x = x
open_lent P l (some b) w r x = record {
  gave = x.gave;
  so = x.so;
  stage = x.stage;
  up = record {
    idle = record { pending = x.up.idle.pending; status = x.up.idle.status; last = x.up.idle.last };
    running = x.up.running;
    broken = x.up.broken;
    silent = x.up.silent;
    lends = x.up.lends;
    started = x.up.started;
  };
}

ready_lent : (b : Option Buffer) (w : World) (r : Rest) → Ready w r → Ready (lends_to b w) r
ready_lent none w r x = x
ready_lent (some b) w r x = record { is_open = open_lent IsNothing 0 (some b) w r x.is_open; spare = x.spare }

-- THE START: a fresh session
abbrev start : Stand
start = record { session = fresh; inbox = empty; world = world₀; calls = []; began = none }

start_is : Start start
start_is = record { session = refl; calls = refl; began = refl; log = refl; inbox = refl; outbox = refl }

started : inv start
started = starts start start_is

-- AN OPENING
does_open : (l : List Chapter) → ((x : Stand) → Sits Ready x → Does l x) → Does (opens ∷ l) start
does_open l more =
    chapter opens l start started empty_length refl refl refl tt whole Ready (opening_good (here empty empty no_undo))
    (λ y w i n e q. (
      told y.session v.Nothing (q.is_open.stage ∙ ap g.Open q.is_open.so),
      more y (record { held = i; long = n; is = subst (λ (h : World). Ready h (rest_of y.session)) (sym e) (ready_lent (lent_by y.calls y.session) w (rest_of y.session) q) }),
    ))

does_fail : (y : _) (c : Closing) → CanCourse world₀ (course_for k.Open fresh [] (here empty empty no_undo)) (IsEnded (f.By y) c) → Does (fails c ∷ []) start
does_fail y c can = chapter (fails c) [] start started empty_length refl refl refl tt whole (IsEnded (f.By y) c) can (λ x w i n e q. ((y, told_end_lem x.session (f.By y) c w q), tt))

-- A CLIENT'S CALL on an open session
module _ (P : Books → Gave → Type 0) (a : ℕ) (x : Stand) (s : Sits (IsOpen P a) x) where
  open_now : is_open x.session.stage ≡ true
  open_now = ap is_open s.is.stage

  -- it leaves the session open
  does_client : (c : Chapter) (l : List Chapter) → is_time x.session.stage c.call ≡ true → has_room c.call [] ≡ true → barred x.session c.call ≡ f.Nothing → SizedCall c.call → Whole (lent_in c)
      → (R : Books → Gave → Type 0) (b : ℕ) → CanCourse x.world (course_for c.call x.session [] (here x.inbox empty c.undo)) (IsOpen R b)
      → ((d : Books) (y : Gave) (o : Outcome) → R d y → o ≡ u.Opened y → c.result d o) → ((y : Stand) → Sits (IsOpen R b) y → Does l y) → Does (c ∷ l) x
  does_client c l t room free sized ok R b can result more =
      chapter c l x s.held s.long t room free sized ok (IsOpen R b) can
      (λ y w i n e q. (
        result y.session.books q.gave (outcome_of y.session) q.so (told y.session q.gave q.stage),
        more y (record { held = i; long = n; is = subst (λ (h : World). IsOpen R b h (rest_of y.session)) (sym e) (open_lent R b (lent_by y.calls y.session) w (rest_of y.session) q) }),
      ))

  does_command : (l : List Chapter) → ((y : Stand) → Sits (IsOpen cl.IsCommand a) y → Does l y) → Does (commands ∷ l) x
  unfolding is_in
  does_command l more =
      does_client commands l open_now refl refl (record { op_mod = omega arith; in_mod = omega arith; in_param = omega arith }) whole cl.IsCommand a
      (cl.commands x.session.info x.session.failure x.session.closing a nop [] x.session.books (here x.inbox empty no_undo) x.world (omega arith) (omega arith) s.is.up)
      (λ d y o r e. (r.0, r.1, e ∙ ap u.Opened r.2)) more

  does_undo : (l : List Chapter) → ((y : Stand) → Sits (IsOpen IsNothing a) y → Does l y) → Does (undoes ∷ l) x
  unfolding is_in
  does_undo l more =
      does_client undoes l open_now refl refl tt (lendable empty nil empty_length one_undo (record { op_mod = omega arith; in_mod = omega arith; in_param = omega arith }) refl (omega arith) (λ e. let z : ⊥ = omega (arith, e) in absurd z)) IsNothing a
      (cl.undoes x.session.info x.session.failure x.session.closing a x.session.books x.inbox empty one_undo x.world refl refl (omega arith) (omega arith) s.is.up)
      (λ d y o r e. e ∙ ap u.Opened r) more

-- a lend needs room on the host, which an opening leaves
ready_open : (x : Stand) → Sits Ready x → Sits (IsOpen IsNothing 0) x
ready_open x s = record { held = s.held; long = s.long; is = s.is.is_open }

does_lend : (x : Stand) → Sits Ready x → (l : List Chapter) → ((y : Stand) → Sits (IsOpen (cl.IsLent 2) 1) y → Does l y) → Does (lends ∷ l) x
does_lend x s l more =
    does_client IsNothing 0 x (ready_open x s) lends l (ap is_open s.is.is_open.stage) refl (ap (λ (n : ℕ). by_list n 5000) s.is.is_open.up.lends) tt whole (cl.IsLent 2) 1
    (cl.lends x.session.info x.session.failure x.session.closing 5000 2 x.session.books (here x.inbox empty no_undo) x.world refl (omega arith) s.is.spare entries s.is.is_open.up)
    (λ d y o r e. (r.0, r.1, e ∙ ap u.Opened r.2, r.3, r.4)) more
  where
    entries : Entries x.session.books
    entries = (at_stage host₀ refl refl refl x (g.Open s.is.is_open.gave) s.is.is_open.stage refl s.held).0.entries

-- A QUIESCE
does_quiesce : (x : Stand) → Sits Ready x → (l : List Chapter) → ((y : Stand) → Sits IsQuiet y → Does l y) → Does (quiesces ∷ l) x
does_quiesce x s l more =
    chapter quiesces l x s.held s.long (ap is_open s.is.is_open.stage) refl refl tt whole IsQuiet
    (co.quiesces x.session.info x.session.failure 0 x.session.books x.inbox empty x.world s.is.is_open.up)
    (λ y w i n e q. (told y.session v.Nothing q.stage, more y (record { held = i; long = n; is = record { stage = q.stage; broken = q.broken } })))

-- A CLOSE
does_close : (c : Closing) (x : Stand) → inv x → length x.inbox ≡ 4096 → is_open x.session.stage ≡ true
    → CanCourse x.world (course_for k.Close x.session [] (here x.inbox empty no_undo)) (IsEnded f.Nothing c) → Does (closes c ∷ []) x
does_close c x i n t can = chapter (closes c) [] x i n t refl refl tt whole (IsEnded f.Nothing c) can (λ y w j m e q. (told_end_lem y.session f.Nothing c w q, tt))

close_clean : (P : Books → Gave → Type 0) (a : ℕ) (x : Stand) → Sits (IsOpen P a) x → Does (closes z.Clean ∷ []) x
close_clean P a x s =
    does_close z.Clean x s.held s.long (ap is_open s.is.stage) (closes_clean x.session.info f.Nothing a x.session.books x.inbox empty x.world s.is.up)

close_reset : (x : Stand) → Sits Ready x → Does (closes z.Reset ∷ []) x
close_reset x s =
    does_close z.Reset x s.held s.long (ap is_open s.is.is_open.stage)
    (closes-failed x.session.info f.Nothing (IsEnded f.Nothing z.Reset) (can_resetting x.session.info f.Nothing) 0 x.session.books x.inbox empty x.world s.is.is_open.up)

close_kept : (x : Stand) → Sits Ready x → Does (closes z.Kept ∷ []) x
close_kept x s =
    does_close z.Kept x s.held s.long (ap is_open s.is.is_open.stage)
    (closes-failed x.session.info f.Nothing (IsEnded f.Nothing z.Kept) (can_keeping x.session.info f.Nothing) 0 x.session.books x.inbox empty x.world s.is.is_open.up)

close_quiet : (x : Stand) → Sits IsQuiet x → Does (closes z.Reset ∷ []) x
close_quiet x s =
    does_close z.Reset x s.held s.long (ap is_open s.is.stage)
    (closes-broken x.session.info f.Nothing (IsEnded f.Nothing z.Reset) (can_resetting x.session.info f.Nothing) x.session.books (here x.inbox empty no_undo) x.world s.is.broken)

-- THE STORIES
undo_close : (x : Stand) → Sits (IsOpen cl.IsCommand 1) x → Does (undoes ∷ closes z.Clean ∷ []) x
undo_close x s = does_undo cl.IsCommand 1 x s (closes z.Clean ∷ []) (close_clean IsNothing 1)

command_on : (x : Stand) → Sits (IsOpen (cl.IsLent 2) 1) x → Does (commands ∷ undoes ∷ closes z.Clean ∷ []) x
command_on x s = does_command (cl.IsLent 2) 1 x s (undoes ∷ closes z.Clean ∷ []) undo_close

lend_on : (x : Stand) → Sits Ready x → Does (lends ∷ commands ∷ undoes ∷ closes z.Clean ∷ []) x
lend_on x s = does_lend x s (commands ∷ undoes ∷ closes z.Clean ∷ []) command_on

quiesce_close : (x : Stand) → Sits Ready x → Does (quiesces ∷ closes z.Reset ∷ []) x
quiesce_close x s = does_quiesce x s (closes z.Reset ∷ []) close_quiet

pub not_empty : NotEmpty
not_empty = record {
  start = start;
  fresh = start_is;
  inbox = record { bytes = nil; long = (let l = empty_length in omega (arith, l)) };
  good = does_open (lends ∷ commands ∷ undoes ∷ closes z.Clean ∷ []) lend_on;
  reset = does_open (closes z.Reset ∷ []) close_reset;
  kept = does_open (closes z.Kept ∷ []) close_kept;
  quiesced = does_open (quiesces ∷ closes z.Reset ∷ []) quiesce_close;
  refused = does_fail _ z.Clean (opening_refused (here empty empty no_undo));
  undone = does_fail _ z.Reset (opening_reset (here empty empty no_undo));
  abandoned = does_fail _ z.Kept (opening_kept (here empty empty no_undo));
}
