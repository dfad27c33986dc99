-- A RUN BY VALUE GOES ON BYTES: an event that is taken by value is taken on bytes that hold the
-- session, and leaves bytes that hold the session behind it.
use Rattle.std.specs.Prelude as std
use Prim.Native.Nat.{ℕ, zero, suc, ◌+◌, ◌*◌, ◌≤◌, ◌<◌, ◌^◌}
use native.Mathlib.Omega.{arith}
use mathlib.Core.Bool.{Bool, true, false, ◌&&◌, false≢true}
use mathlib.Core.List.{List, [], ◌∷◌}
use mathlib.Core.Option.{Option, none}
use mathlib.Core.Path.{◌≡◌, refl, sym, ◌∙◌, ap, subst}
use lib.Dec.{ltb, leb, eqb}
use lib.ListN.{length, take, drop, get_or, replicate, length-replicate, get_or-replicate}
use borrow.Author.Tests.{lt-ltb, eq-eqb, eqb-true, leb-true}
use Rattle.fields.specs.Outcome.{Outcome, value, refused, pick}
use Rattle.fields.proofs.Laws.{Bytes}
use Rattle.words.specs.Places.{SLOT, cap_at, port1_at, port2_at, reset_at, find_at, slots_at, state_bytes}
use Rattle.words.specs.Words.{put_words}
use Rattle.words.proofs.Laws.{length_words}
use Rattle.words_task.specs.Coding.{task_words}
use Rattle.words_books.specs.Coding.{slot_words}
use Rattle.words_info.specs.Coding.{cap_words, port_words}
use Rattle.words_beside.specs.Coding.{reset_words, find_words}
use Rattle.words_calls.specs.Calls.{heard_of, turn_in}
use Rattle.words_session.specs.Image.{core_of, head_words, session_words, decode_of, encoded_in}
use Rattle.behind.specs.Behind.{put_part, slot_put, noted_in, begun_in}
use Rattle.intask.specs.InTask.{beside_in}
use Rattle.booking.specs.Booking.{is_deal, left_at, slot_left}
use Rattle.opening.specs.Notes.{note_in}
use Rattle.bytes_plan.specs.Left.{headed_in, left_in, answer_left, cleared_in, call_left}
use Rattle.reset.specs.Steps as rs
use Rattle.uar.specs.Steps as us
use Rattle.work.specs.Work.{work_step_of}
use Rattle.work.specs.declared.Ending.{Ending}
use Rattle.work.specs.declared.Ending.TheVariants as e
use Rattle.work.specs.declared.Task.{Task}
use Rattle.work.specs.declared.Task.TheVariants as t
use Rattle.work.specs.declared.WorkStep.{WorkStep}
use Rattle.pci.specs.Script.{Ask}
use Rattle.pci.specs.declared.Answer.{Answer}
use Rattle.pci.specs.declared.Answer.TheVariants as a
use Rattle.session.specs.Session.{fresh, slot_at, INBOX, OUTBOX}
use Rattle.session.specs.Course.{Place, neither, inbox, outbox, slot}
use Rattle.session.specs.Core.{is_reset, is_find, cap_in, port_in}
use Rattle.session.specs.declared.Books.{Books}
use Rattle.session.specs.declared.Note.{Note}
use Rattle.session.specs.declared.Note.TheVariants as n
use Rattle.session.specs.declared.Slot.{Slot}
use Rattle.session.specs.declared.Stage.{Stage}
use Rattle.session.specs.declared.Top.{Top}
use Rattle.session.specs.declared.Failure.{Failure}
use Rattle.session.specs.declared.Failure.TheVariants as f
use Rattle.session.specs.declared.Session.{Session}
use Rattle.undo.specs.List.{undo_of, none as noRecord, top_of, top_at, any_reserved}
use Rattle.undo.proofs.Laws.{top_suc}
use Rattle.undo.specs.declared.Undo.{Undo}
use Rattle.fw_plan.specs.Calls.{asks_of, wants, booked_by, in_time, is_lent, answerable, answer_of, answer_in, answer_out, step_of, step_in, refused_of}
use Rattle.fw_plan.specs.declared.Turn.{Turn}
use Rattle.calls_plan.specs.Calls.{callable, has_room, lent_for, barred, unless, begun_turn, begun_inbox, call_of, call_in, call_out}
use Rattle.calls_plan.specs.declared.Call.{Call}
use Rattle.calls_plan.specs.declared.Call.TheVariants as k
use Rattle.abi.specs.Turns.{After, after, code_by, state_by, out_by, turned, on_session, call_known, answer_known, called, answered}
use Rattle.abi.specs.Calls.{call_from, wanted_by, made, heard_by, answer, told}
use Rattle.abi.specs.Kept.{given_by, next_by, call_next, answer_next, known_next, wanted_next, heard_next, Keeps, Holds}
use Rattle.abi.proofs.Turns.{head_known}
use Rattle.abi.proofs.Poll.{poll_is_whole}
use Rattle.card.specs.Card.{World}
use Rattle.card_run.specs.Can.{Slice, SizedAnswer, no_undo, Whole}
use Rattle.card_run.proofs.Courses.{zeros}
use Rattle.demand.specs.Events.{Input, call_make, call_answer, Event, turn_by, inbox_by, asked, Stand, Happens, SameBox, box_left, calls_by, began_now, lent_by, lent_now, lends_to, Step}
use Rattle.demand_abi.specs.Linked.{AbiCall, hca_call, hca_answer, AbiEvent, leaves, next, call_with, answer_with, input_of, AbiHappens, abi_calls, abi_began, AbiSized, AbiStand, is_taken, AbiStep}
use Rattle.demand_run.specs.Run.{Accepts, IsAnswer, AnswersRun}
use Rattle.demand_run.specs.Bytes.{TypedCall, TypedUndo, TypedList, TypedEvent, Promise, AbiAccepts, IsHcaAnswer, AbiAnswersRun}
use Rattle.demand_run.proofs.Octets.{words_bytes, step_bytes, call_bytes}

-- AN ANSWER AS NUMBERS
abbrev kind_of : Answer → ℕ
kind_of (a.Word v) = 1
kind_of (a.Dword v) = 2
kind_of (a.Qword v) = 3
kind_of a.Done = 4
kind_of a.Failed = 5
kind_of (a.Handle v) = 6
kind_of (a.Mapped v n) = 7
kind_of a.List = 8

abbrev first_of : Answer → ℕ
first_of (a.Word v) = v
first_of (a.Dword v) = v
first_of (a.Qword v) = v
first_of a.Done = 0
first_of a.Failed = 0
first_of (a.Handle v) = v
first_of (a.Mapped v n) = v
first_of a.List = 0

abbrev second_of : Answer → ℕ
second_of (a.Word v) = 0
second_of (a.Dword v) = 0
second_of (a.Qword v) = 0
second_of a.Done = 0
second_of a.Failed = 0
second_of (a.Handle v) = 0
second_of (a.Mapped v n) = n
second_of a.List = 0

heard : (v : Answer) → SizedAnswer v → heard_of (kind_of v) (first_of v) (second_of v) ≡ value v
heard (a.Word v) h = ap (λ (b : Bool). pick b (value (a.Word v)) (refused 20 [])) (lt-ltb v 65536 h)
heard (a.Dword v) h = ap (λ (b : Bool). pick b (value (a.Dword v)) (refused 20 [])) (lt-ltb v 4294967296 h)
heard (a.Qword v) h = refl
heard a.Done h = refl
heard a.Failed h = refl
heard (a.Handle v) h = refl
heard (a.Mapped v n) h = refl
heard a.List h = refl

numbers : (v : Answer) → SizedAnswer v → (kind_of v < 2 ^ 32) × (first_of v < 2 ^ 64) × (second_of v < 2 ^ 64)
numbers (a.Word v) h = (omega arith, omega (arith, h), omega arith)
numbers (a.Dword v) h = (omega arith, omega (arith, h), omega arith)
numbers (a.Qword v) h = (omega arith, h, omega arith)
numbers a.Done h = (omega arith, omega arith, omega arith)
numbers a.Failed h = (omega arith, omega arith, omega arith)
numbers (a.Handle v) h = (omega arith, h, omega arith)
numbers (a.Mapped v n) h = (omega arith, h.0, h.1)
numbers a.List h = (omega arith, omega arith, omega arith)

-- AN UNDO LIST with this top: so many records alike
abbrev record_of : Top → Undo
record_of u = undo_of u.op u.op_mod u.in_mod u.in_param

abbrev list_of : Top → List Undo
list_of u = replicate u.count (record_of u)

top_is : (u : Top) → u.count ≤ 256 → (u.count ≡ 0 → u ≡ no_undo) → top_of (list_of u) u.count ≡ u
unfolding top_of
top_is u few h = by u.count refl
  where
    by : (n : ℕ) → u.count ≡ n → top_of (replicate n (record_of u)) n ≡ u
    by zero e = sym (h e)
    by (suc n) e =
        top_suc (replicate (suc n) (record_of u)) n (let l = length-replicate (suc n) (record_of u) in omega (arith, l)) (omega (arith, few, e))
        ∙ ap (top_at (suc n)) (get_or-replicate (suc n) n (record_of u) noRecord (omega arith)) ∙ ap (λ (k : ℕ). top_at k (record_of u)) (sym e)

pub no_record : TypedUndo noRecord
no_record = record { op = omega arith; sized = record { op_mod = omega arith; in_mod = omega arith; in_param = omega arith } }

alike : (u : Undo) → TypedUndo u → (n i : ℕ) → TypedUndo (get_or (replicate n u) i noRecord)
alike u h zero i = no_record
alike u h (suc n) zero = h
alike u h (suc n) (suc i) = alike u h n i

list_typed : (o : List ℕ) (u : Top) → Whole (record { outbox = o; undo = u }) → TypedList (list_of u) u.count
list_typed o u w =
    let few = leb-true u.count 256 w.undo in
    let l = length-replicate u.count (record_of u) in
    let t = w.lendable.undo in
    record {
      records = alike (record_of u) (record { op = w.op; sized = record { op_mod = t.op_mod; in_mod = t.in_mod; in_param = t.in_param } }) u.count;
      long = omega (arith, few, l);
      count = omega (arith, few);
    }

-- WHAT IS TAKEN WAS IN TIME, and lent its mailboxes
abbrev is_by : Failure → Bool
is_by f.Nothing = false
is_by (f.By y) = true

in_time_lem : (b r : Bool) (x y z : Turn) → is_by y.refusal ≡ true → is_by z.refusal ≡ true → (in_time b r x y z).refusal ≡ f.Nothing → (b ≡ true) × (r ≡ true)
in_time_lem true true x y z p q e = (refl, refl)
in_time_lem true false x y z p q e = absurd (false≢true (sym (ap is_by e) ∙ p))
in_time_lem false r x y z p q e = absurd (false≢true (sym (ap is_by e) ∙ q))

left_true : (b d : Bool) → b && d ≡ true → b ≡ true
left_true true d e = refl
left_true false d e = absurd (false≢true e)

short : (i : List ℕ) (d : Bool) → eqb (length i) 4096 && d ≡ true → length i < 2 ^ 32
short i d e = let l = eqb-true (length i) 4096 (left_true (eqb (length i) 4096) d e) in omega (arith, l)

time_bytes : (b r : Bool) (x y z : List ℕ) → Bytes x → Bytes y → Bytes z → Bytes (in_time b r x y z)
time_bytes true true x y z p q s = p
time_bytes true false x y z p q s = q
time_bytes false r x y z p q s = s

-- `out`
abbrev blank_out : List ℕ
blank_out = replicate 40 0

out_slice : Slice blank_out
out_slice = record { bytes = zeros 40; long = (let l = length-replicate {A = ℕ} 40 0 in omega (arith, l)) }

-- A TURN THAT IS TAKEN, on bytes
taken_is : (b : Bool) (t : Turn) (s' i' o' st i o : List ℕ) → b ≡ true → t.refusal ≡ f.Nothing → turned b t s' i' o' st i o blank_out ≡ after 0 s' i' o' (turn_in blank_out t.question t.undo)
taken_is b t s' i' o' st i o p q =
    ap (λ (d : Bool). turned d t s' i' o' st i o blank_out) p
    ∙ ap (λ (z : Failure). after (code_by z) (state_by z s' st) i' o' (out_by z t.question t.undo blank_out)) q

next_is : (b : Bool) (t : Turn) (s : Session) → b ≡ true → t.refusal ≡ f.Nothing → next_by b (ltb (length blank_out) 40) t s ≡ t.session
next_is b t s p q = ap (λ (d : Bool). next_by d (ltb (length blank_out) 40) t s) p ∙ ap (λ (z : Failure). given_by z t.session s) q

-- BYTES THAT HOLD the session of a stand
abbrev pub on_bytes : List ℕ → Stand → AbiStand
on_bytes st x = record { state = st; inbox = x.inbox; world = x.world; calls = x.calls; began = x.began }

pub record Held (st : List ℕ) (x : Stand) : Type 1 where
  pub held : decode_of st ≡ value x.session
  pub slice : Slice st
  pub box : Bytes x.inbox

-- what is written of them are bytes, and not more
picked : (b : Bool) (x y : List ℕ) → Slice x → Slice y → Slice (pick b x y)
picked true x y h g = h
picked false x y h g = g

part_slice : (k : ℕ) (ws st : List ℕ) → Slice st → Slice (put_part k ws st)
part_slice k ws st h =
    picked (ltb (length st) state_bytes) st (put_words st k ws) h
    (record { bytes = words_bytes st k ws h.bytes; long = (let l = length_words st k ws in let n = h.long in omega (arith, l, n)) })

pub encoded_slice : (st : List ℕ) (s : Session) → Slice st → Slice (encoded_in st s)
encoded_slice st s h = part_slice 0 (session_words s) st h

slot_slice : (i : ℕ) (v : Slot) (st : List ℕ) → Slice st → Slice (slot_put i v st)
slot_slice i v st h = picked (ltb i 82) _ st (part_slice (slots_at + i * SLOT) (slot_words v) st h) h

place_slice : (p : Place) (b : Books) (st : List ℕ) → Slice st → Slice (left_at p b st)
place_slice neither b st h = h
place_slice inbox b st h = slot_slice INBOX (slot_at b.lists.slots INBOX) st h
place_slice outbox b st h = slot_slice OUTBOX (slot_at b.lists.slots OUTBOX) st h
place_slice (slot i w) b st h = slot_slice i (slot_at b.lists.slots i) st h

book_slice : (x : Session) (v : Answer) (st : List ℕ) → Slice st → Slice (slot_left x v st)
book_slice x v st h = picked (is_deal (asks_of x)) _ st (place_slice (wants x) (booked_by (wants x) (asks_of x) v x.books) st h) h

beside_slice : (k : Task) (s : WorkStep) (st : List ℕ) → Slice st → Slice (beside_in k s st)
beside_slice t.Rest s st h = h
beside_slice (t.Attr y) s st h = h
beside_slice (t.Claim y) s st h = h
beside_slice t.Reset s st h = part_slice reset_at (reset_words s.work.reset) st h
beside_slice t.Bar s st h = part_slice find_at (find_words s.work.find) st h
beside_slice (t.Make y) s st h = h
beside_slice (t.Free y) s st h = h
beside_slice t.Look s st h = h
beside_slice (t.Cmd y) s st h = h
beside_slice (t.Part y) s st h = h

begun_slice : (g : Stage) (k : Task) (st : List ℕ) → Slice st → Slice (begun_in g k st)
begun_slice g t.Rest st h = h
begun_slice g (t.Attr y) st h = h
begun_slice g (t.Claim y) st h = h
begun_slice g t.Reset st h = picked (is_reset g) _ st (part_slice reset_at (reset_words rs.started) st h) h
begun_slice g t.Bar st h = picked (is_find g) _ st (part_slice find_at (find_words us.started) st h) h
begun_slice g (t.Make y) st h = h
begun_slice g (t.Free y) st h = h
begun_slice g t.Look st h = h
begun_slice g (t.Cmd y) st h = h
begun_slice g (t.Part y) st h = h

noted_slice : (y : Note) (z : std.Option ℕ) (o st : List ℕ) → Slice st → Slice (noted_in y z o st)
noted_slice n.Nothing z o st h = h
noted_slice n.Cap z o st h = part_slice cap_at (cap_words (cap_in o z)) st h
noted_slice (n.Port i) z o st h = part_slice (pick (eqb i 1) port1_at port2_at) (port_words (port_in o i)) st h

headed_slice : (z : Session) (st : List ℕ) → Slice st → Slice (headed_in z st)
headed_slice z st h = part_slice 0 (head_words (core_of z)) (begun_in z.stage z.work.task st) (begun_slice z.stage z.work.task st h)

left_slice : (x z : Session) (o : List ℕ) (e : Ending) (st : List ℕ) → Slice st → Slice (left_in x z o e st)
left_slice x z o e.Going st h = part_slice 0 (task_words z.work.task) st h
left_slice x z o (e.Ended y) st h = headed_slice z _ (noted_slice (note_in x y o) x.info.uar.size o st h)

answer_slice : (x : Session) (v : Answer) (r o : List ℕ) (z : Session) (st : List ℕ) → Slice st → Slice (answer_left x v r o z st)
answer_slice x v r o z st h =
    left_slice x z o (work_step_of x.work v r).ending _ (beside_slice x.work.task (work_step_of x.work v r) (slot_left x v st) (book_slice x v st h))

cleared_slice : (c : Call) (st : List ℕ) → Slice st → Slice (cleared_in c st)
cleared_slice k.Open st h = encoded_slice st fresh h
cleared_slice (k.Command y) st h = h
cleared_slice (k.Lend bytes) st h = h
cleared_slice (k.UndoTo mark r) st h = h
cleared_slice k.Quiesce st h = h
cleared_slice k.Close st h = h

call_slice : (c : Call) (z : Session) (st : List ℕ) → Slice st → Slice (call_left c z st)
call_slice c z st h = headed_slice z (cleared_in c st) (cleared_slice c st h)

-- ONE EVENT, where its numbers stand for the one by value
module _ (st : List ℕ) (x m : Stand) (h : Held st x) (ev : Event) (t : Accepts x ev m) (call : AbiCall) (list : List Undo) (count : ℕ) where
  abbrev here : AbiEvent
  here = record { call = call; inbox = ev.inbox; outbox = ev.outbox; list = list; count = count; out = blank_out }

  abbrev turn_of_lem : Turn
  turn_of_lem = turn_by ev.call x.session ev.inbox ev.outbox ev.undo

  record Same : Type 1 where
    input : input_of here ≡ value ev.call
    out : List ℕ
    told : List ℕ
    state : List ℕ
    leaves : leaves st here ≡ after 0 state (inbox_by ev.call x.session ev.inbox ev.outbox ev.undo) out told
    next : next here x.session ≡ turn_of_lem.session
    room : length ev.inbox < 2 ^ 32
    outs : length ev.outbox ≡ 4096
    box : Bytes ev.inbox → Bytes (inbox_by ev.call x.session ev.inbox ev.outbox ev.undo)
    typed : TypedCall call
    sized : AbiSized call
    listed : TypedList list count
    slice : Slice st → Slice state

  abbrev left : List ℕ
  left = (leaves st here).state

  goes_on_lem : Promise → Same → AbiAccepts (on_bytes st x) here (on_bytes left m) × Held left m
  unfolding Holds Keeps
  goes_on_lem promise z = (
    record {
      session = x.session;
      held = h.held;
      step = record {
        state = refl;
        holds = holds;
        bytes = h.slice.bytes;
        outbox = t.lent.lendable.outbox;
        records = λ i. (z.listed.records i).sized;
        sized = z.sized;
        lent = λ e. same-box;
        left = λ e. box-left ∙ sym (ap (λ (y : After). y.inbox) z.leaves);
        kept = λ n. absurd (n code);
        between = t.step.between;
        happens = λ e.
            subst (λ (y : Outcome Input). AbiHappens y x.session ev.inbox x.world t.step.between) (sym z.input)
            (subst (λ (y : Failure). Happens y ev.call x.session ev.inbox x.world t.step.between) t.taken t.step.happens);
        rests = λ n. absurd (n code);
        world =
            t.step.world ∙ ap (λ (y : Failure). lends_to (lent_now y m.calls m.session) t.step.between) t.taken
            ∙ ap (λ (s : Session). lends_to (lent_by m.calls s) t.step.between) (t.step.session ∙ sym z.next)
            ∙ sym (ap (λ (b : Bool). lends_to (pick b (lent_by m.calls (next here x.session)) none) t.step.between) is-taken);
        calls =
            t.step.calls ∙ ap (λ (y : Failure). calls_by y ev.call x.calls) t.taken ∙ sym (ap (λ (y : Outcome Input). abi_calls y x.calls) z.input)
            ∙ sym (ap (λ (b : Bool). pick b (abi_calls (input_of here) x.calls) x.calls) is-taken);
        began =
            t.step.began ∙ ap (λ (y : Failure). began_now y ev.call x.calls asks x.world.host x.began) t.taken
            ∙ sym (ap (λ (y : Outcome Input). abi_began y x.calls asks x.world.host x.began) z.input)
            ∙ sym (ap (λ (b : Bool). pick b (abi_began (input_of here) x.calls asks x.world.host x.began) x.began) is-taken);
      };
      code = code;
    },
    record {
      held = holds x.session h.held ∙ ap value (z.next ∙ sym t.step.session);
      slice = subst Slice (sym (ap (λ (y : After). y.state) z.leaves)) (z.slice h.slice);
      box = subst Bytes (sym box-left) (z.box (subst Bytes (sym same-box) h.box));
    },
  )
    where
      asks : Option Ask
      asks = asked (asks_of x.session) ev.inbox

      code : (leaves st here).code ≡ 0
      code = ap (λ (y : After). y.code) z.leaves

      is-taken : is_taken st here ≡ true
      is-taken = eq-eqb (leaves st here).code 0 code

      same-box : ev.inbox ≡ x.inbox
      same-box = subst (λ (y : Failure). SameBox y ev.inbox x.inbox) t.taken t.step.lent

      box-left : m.inbox ≡ inbox_by ev.call x.session ev.inbox ev.outbox ev.undo
      box-left = t.step.left ∙ ap (λ (y : Failure). box_left y (inbox_by ev.call x.session ev.inbox ev.outbox ev.undo) x.inbox) t.taken

      typed : TypedEvent here
      typed = record {
        call = z.typed;
        inbox = record { bytes = subst Bytes (sym same-box) h.box; long = z.room };
        outbox = record { bytes = t.lent.lendable.outbox; long = (let l = z.outs in omega (arith, l)) };
        list = z.listed;
        out = out_slice;
      }

      holds : Holds st (leaves st here).state (next here)
      holds = promise st here h.slice typed

-- AN ANSWER
module _ (st : List ℕ) (x m : Stand) (h : Held st x) (v : Answer) (r i o : List ℕ) (u : Top) (t : Accepts x (record { call = call_answer v r; inbox = i; outbox = o; undo = u }) m) where
  abbrev answer_call : AbiCall
  answer_call = hca_answer (kind_of v) (first_of v) (second_of v) r

  in_answer : (answerable x.session v ≡ true) × (is_lent i o u ≡ true)
  in_answer = in_time_lem (answerable x.session v) (is_lent i o u) (step_of x.session v r i o u) _ _ refl refl t.taken

  answer_same : Same st x m h (record { call = call_answer v r; inbox = i; outbox = o; undo = u }) t answer_call (list_of u) u.count
  unfolding told answered answer_known answer_next known_next
  answer_same = record {
    input = ap (λ (z : Outcome Answer). answer_with z r) (heard v t.typed.0);
    out = answer_out x.session v r i o u;
    state = answer_left x.session v r o (answer_of x.session v r i o u).session st;
    slice = answer_slice x.session v r o (answer_of x.session v r i o u).session st;
    told = turn_in blank_out (answer_of x.session v r i o u).question (answer_of x.session v r i o u).undo;
    leaves =
        ap (λ (z : Outcome Answer). heard_by z r (top_of (list_of u) u.count) st i o blank_out) (heard v t.typed.0)
        ∙ ap (λ (z : Top). answer v r z st i o blank_out) (top_is u (leb-true u.count 256 t.lent.undo) t.lent.listed) ∙ poll_is_whole v r u st i o blank_out x.session h.slice.bytes h.held
        ∙ ap (λ (z : Outcome Session). on_session z (λ y. answer_known y v r u st i o blank_out) st i o blank_out) (head_known st x.session h.held)
        ∙ taken_is (answerable x.session v) (answer_of x.session v r i o u) (answer_left x.session v r o (answer_of x.session v r i o u).session st) (answer_in x.session v r i o u) (answer_out x.session v r i o u) st i o in_answer.0 t.taken;
    next =
        ap (λ (z : Outcome Answer). heard_next z r (top_of (list_of u) u.count) i o blank_out x.session) (heard v t.typed.0)
        ∙ ap (λ (z : Top). answer_next v r z i o blank_out x.session) (top_is u (leb-true u.count 256 t.lent.undo) t.lent.listed)
        ∙ next_is (answerable x.session v) (answer_of x.session v r i o u) x.session in_answer.0 t.taken;
    room = short i _ in_answer.1;
    outs = t.lent.outbox;
    box = λ b. time_bytes (answerable x.session v) (is_lent i o u) (step_in x.session v r i o u) i i (step_bytes x.session v r i o u b) b b;
    typed = (let n = numbers v t.typed.0 in (n.0, n.1, n.2, t.typed.1));
    sized = tt;
    listed = list_typed o u t.lent;
  }

-- ANSWERS, one after the other
pub record Going (st : List ℕ) (x y : Stand) : Type 1 where
  pub events : List AbiEvent
  pub state : List ℕ
  pub run : AbiAnswersRun events (on_bytes st x) (on_bytes state y)
  pub held : Held state y

pub goes : Promise → (es : List Event) (st : List ℕ) (x y : Stand) → Held st x → AnswersRun es x y → Going st x y
goes promise [] st x y h e = record { events = []; state = st; run = ap (on_bytes st) e; held = subst (Held st) e h }
goes promise (e ∷ es) st x y h (m, t, is, more) = by e.call e.inbox e.outbox e.undo t is (λ s k. goes promise es s m y k more)
  where
    by : (c : Input) (i o : List ℕ) (u : Top) → Accepts x (record { call = c; inbox = i; outbox = o; undo = u }) m → IsAnswer c → ((s : List ℕ) → Held s m → Going s m y) → Going st x y
    by (call_make c z) i o u t is on = absurd is
    by (call_answer v r) i o u t is on =
        let ev : Event = record { call = call_answer v r; inbox = i; outbox = o; undo = u } in
        let one = goes_on_lem st x m h ev t (answer_call st x m h v r i o u t) (list_of u) u.count promise (answer_same st x m h v r i o u t) in
        let rest = on _ one.1 in
        record { events = here st x m h ev t (answer_call st x m h v r i o u t) (list_of u) u.count ∷ rest.events; state = rest.state; run = (_, one.0, tt, rest.run); held = rest.held }

-- A CALL, by numbers that stand for it
module _ (st : List ℕ) (x m : Stand) (h : Held st x) (c : Call) (y i o : List ℕ) (u : Top) (t : Accepts x (record { call = call_make c y; inbox = i; outbox = o; undo = u }) m)
    (j op mo n val : ℕ) (l : List Undo) (count : ℕ) (named : call_from j op mo n val (any_reserved (drop val (take count l))) ≡ value c) (tops : top_of l count ≡ u)
    (typed : (j < 2 ^ 32) × (op < 2 ^ 16) × (mo < 2 ^ 8) × (n < 2 ^ 32) × (val < 2 ^ 64)) (listed : TypedList l count) where
  in_call : (callable x.session c ≡ true) × (lent_for c y i o u ≡ true)
  in_call = in_time_lem (callable x.session c) (lent_for c y i o u) _ _ _ refl refl t.taken

  unless_bytes : (z : Failure) → Bytes i → Bytes (unless z (begun_inbox x.session c y i u) (λ w. i))
  unless_bytes f.Nothing b = call_bytes x.session c y i u t.typed.bytes b
  unless_bytes (f.By w) b = b

  call_same : Same st x m h (record { call = call_make c y; inbox = i; outbox = o; undo = u }) t (hca_call j op mo n val y) l count
  unfolding made called call_known call_next known_next
  call_same = record {
    input = ap (λ (z : Outcome Call). call_with z y) named;
    out = call_out x.session c y i o u;
    state = call_left c (call_of x.session c y i o u).session st;
    slice = call_slice c (call_of x.session c y i o u).session st;
    told = turn_in blank_out (call_of x.session c y i o u).question (call_of x.session c y i o u).undo;
    leaves =
        ap (λ (z : Outcome Call). wanted_by z y (top_of l count) st i o blank_out) named ∙ ap (λ (z : Top). called c y z st i o blank_out) tops
        ∙ ap (λ (z : Outcome Session). on_session z (λ s. call_known s c y u st i o blank_out) st i o blank_out) h.held
        ∙ taken_is (callable x.session c) (call_of x.session c y i o u) (call_left c (call_of x.session c y i o u).session st) (call_in x.session c y i o u) (call_out x.session c y i o u) st i o in_call.0 t.taken;
    next =
        ap (λ (z : Outcome Call). wanted_next z y (top_of l count) i o blank_out x.session) named ∙ ap (λ (z : Top). call_next c y z i o blank_out x.session) tops
        ∙ next_is (callable x.session c) (call_of x.session c y i o u) x.session in_call.0 t.taken;
    room = short i _ (left_true (is_lent i o u) (has_room c y) in_call.1);
    outs = t.lent.outbox;
    box = λ b. time_bytes (callable x.session c) (lent_for c y i o u) _ i i (unless_bytes (barred x.session c) b) b b;
    typed = (typed.0, typed.1, typed.2, typed.3, typed.4, t.typed);
    sized = (typed.2, typed.3, typed.4);
    listed = listed;
  }

  pub call_goes : Promise → (e : AbiEvent) × (s : List ℕ) × (e.call ≡ hca_call j op mo n val y) × (e.list ≡ l) × (e.count ≡ count) × AbiAccepts (on_bytes st x) e (on_bytes s m) × Held s m
  call_goes promise =
      let ev : Event = record { call = call_make c y; inbox = i; outbox = o; undo = u } in
      let one = goes_on_lem st x m h ev t (hca_call j op mo n val y) l count promise call_same in
      (here st x m h ev t (hca_call j op mo n val y) l count, _, refl, refl, refl, one.0, one.1)
