-- Demand 3 over C linkage is not empty: the stories by value, lifted to bytes chapter by chapter.
use Prim.Native.Nat.{ℕ, zero, suc, ◌≤◌, ◌<◌, ◌^◌}
use native.Mathlib.Omega.{arith}
use mathlib.Core.Bool.{Bool, true, false, false≢true}
use mathlib.Core.List.{List, [], ◌∷◌}
use mathlib.Core.Option.{none}
use mathlib.Core.Path.{◌≡◌, refl, sym, ◌∙◌, ap, subst}
use lib.Dec.{ltb}
use lib.ListN.{length, take, drop, get_or, replicate, length-replicate}
use borrow.Author.Tests.{le-ltb}
use Rattle.fields.specs.Outcome as fo
use Rattle.fields.specs.Outcome.{value, pick}
use Rattle.words.specs.Places.{state_bytes}
use Rattle.words_session.specs.Image.{decode_of, put_session}
use Rattle.words_calls.specs.Calls.{question_words}
use Rattle.words_laws.proofs.Fresh.{fresh_trip}
use Rattle.results.specs.Results.{outcome_words, end_word}
use Rattle.dma.specs.declared.Buffer.{Buffer}
use Rattle.hcr.specs.Words.{is_in}
use Rattle.pci.specs.declared.Question.{Question}
use Rattle.pci.specs.declared.Question.TheVariants as q
use Rattle.session.specs.Session.{slot_at, buffer_of, is_held, in_slot, fresh}
use Rattle.session.specs.declared.Slot.{Slot}
use Rattle.session.specs.declared.Top.{Top}
use Rattle.session.specs.declared.Books.{Books}
use Rattle.session.specs.declared.Closing.{Closing}
use Rattle.session.specs.declared.Closing.TheVariants as z
use Rattle.session.specs.declared.Session.{Session}
use Rattle.fw_plan.specs.Calls.{asks_of, outcome_of}
use Rattle.fw_plan.specs.declared.Outcome.{Outcome}
use Rattle.fw_plan.specs.declared.Outcome.TheVariants as u
use Rattle.calls_plan.specs.declared.Call.{Call}
use Rattle.undo.specs.List.{none as noRecord, top_of, any_reserved}
use Rattle.undo.specs.declared.Undo.{Undo}
use Rattle.abi.specs.Turns.{fresh_in}
use Rattle.abi.specs.Calls.{call_from}
use Rattle.abi.specs.Readers.{of_session, given, question, question_known, result, result_known}
use Rattle.card_run.specs.Can.{Slice}
use Rattle.card_run.proofs.Courses.{zeros}
use Rattle.demand.specs.Events.{Input, call_make, call_answer, Event, Stand}
use Rattle.demand.specs.Demand.{has_returned}
use Rattle.demand_run.specs.Run.{Accepts, Chapter, Does, opens, fails, lends, commands, undoes, quiesces, closes, NotEmpty}
use Rattle.demand_run.specs.Bytes.{TypedUndo, TypedList, Promise, AbiChapter, AbiDoes, simple, hca_opens, hca_fails, hca_lends, hca_commands, hca_undoes, hca_quiesces, hca_closes, NotEmptyBytes}
use Rattle.demand_run.proofs.Lift.{no_record, on_bytes, Held, encoded_slice, goes, call_goes}
use Rattle.demand_run.proofs.Live.{not_empty}

-- WHAT THE LOADER READS of bytes that hold a session
read_result : (st : List ℕ) (s : Session) → decode_of st ≡ value s → (w : List ℕ) → result st w ≡ given 5 w (outcome_words s.books.lists.slots (outcome_of s))
unfolding result result_known
read_result st s d w = ap (λ (y : fo.Outcome Session). of_session y (λ x. result_known x w) w) d

finished : (y : Question) → has_returned y ≡ true → question_words y ≡ 0 ∷ 0 ∷ 0 ∷ 0 ∷ []
finished (q.ConfigRead16 o) e = absurd (false≢true e)
finished (q.ConfigRead32 o) e = absurd (false≢true e)
finished (q.ConfigWrite16 o v) e = absurd (false≢true e)
finished (q.ConfigWrite32 o v) e = absurd (false≢true e)
finished (q.RegRead b o) e = absurd (false≢true e)
finished (q.RegWrite b o v) e = absurd (false≢true e)
finished (q.Attributes o v) e = absurd (false≢true e)
finished (q.Resource b) e = absurd (false≢true e)
finished (q.Stall t) e = absurd (false≢true e)
finished (q.Allocate n) e = absurd (false≢true e)
finished (q.Map k n) e = absurd (false≢true e)
finished (q.Unmap k) e = absurd (false≢true e)
finished (q.Free k n) e = absurd (false≢true e)
finished q.Fence e = absurd (false≢true e)
finished q.Finished e = refl

read_question : (st : List ℕ) (s : Session) → decode_of st ≡ value s → has_returned (asks_of s) ≡ true → (w : List ℕ) → question st w ≡ given 4 w (0 ∷ 0 ∷ 0 ∷ 0 ∷ [])
unfolding question question_known
read_question st s d e w = ap (λ (y : fo.Outcome Session). of_session y (λ x. question_known x w) w) d ∙ ap (given 4 w) (finished (asks_of s) e)

-- A CHAPTER BY VALUE AND ONE ON BYTES that tell the same
record Same (c : Chapter) (b : AbiChapter) : Type 0 where
  call : call_from b.kind b.op b.op_mod b.in_mod b.value (any_reserved (drop b.value (take b.count b.list))) ≡ value c.call
  undo : top_of b.list b.count ≡ c.undo
  typed : (b.kind < 2 ^ 32) × (b.op < 2 ^ 16) × (b.op_mod < 2 ^ 8) × (b.in_mod < 2 ^ 32) × (b.value < 2 ^ 64)
  listed : TypedList b.list b.count
  result : (d : Books) (o : Outcome) → c.result d o → b.result (outcome_words d.lists.slots o)

abbrev Alike : List Chapter → List AbiChapter → Type 0
Alike [] [] = Unit {0}
Alike [] (b ∷ bs) = ⊥
Alike (c ∷ cs) [] = ⊥
Alike (c ∷ cs) (b ∷ bs) = Same c b × Alike cs bs

event_is : (e : Event) (c : Input) (t : Top) → e.call ≡ c → e.undo ≡ t → e ≡ record { call = c; inbox = e.inbox; outbox = e.outbox; undo = t }
event_is e c t p q = λ k. record { call = p k; inbox = e.inbox; outbox = e.outbox; undo = q k }

lifted : Promise → (cs : List Chapter) (bs : List AbiChapter) → Alike cs bs → (st : List ℕ) (x : Stand) → Held st x → Does cs x → AbiDoes bs (on_bytes st x)
lifted promise [] [] a st x h d = tt
lifted promise [] (b ∷ bs) a st x h d = absurd a
lifted promise (c ∷ cs) [] a st x h d = absurd a
lifted promise (c ∷ cs) (b ∷ bs) a st x h (e, m, (input, is, top), t, r, told, more) =
    let one = call_goes st x m h c.call input e.inbox e.outbox c.undo (subst (λ (y : Event). Accepts x y m) (event_is e (call_make c.call input) c.undo is top) t)
    b.kind b.op b.op_mod b.in_mod b.value b.list b.count a.0.call a.0.undo a.0.typed a.0.listed promise in
    let rest = goes promise r.events one.1 m r.end one.6 r.run in (
      one.0,
      on_bytes one.1 m,
      (input, one.2, one.3, one.4),
      one.5,
      record { events = rest.events; end = on_bytes rest.state r.end; run = rest.run; returned = read_question rest.state r.end.session rest.held.held r.returned },
      (outcome_words r.end.session.books.lists.slots (outcome_of r.end.session), a.0.result r.end.session.books (outcome_of r.end.session) told, read_result rest.state r.end.session rest.held.held),
      lifted promise cs bs a.1 rest.state r.end rest.held more,
    )

-- THE CHAPTERS
no_list : TypedList [] 0
no_list = record { records = λ i. no_record; long = omega arith; count = omega arith }

is_open_lem : Same opens hca_opens
unfolding top_of any_reserved
is_open_lem = record { call = refl; undo = refl; typed = (omega arith, omega arith, omega arith, omega arith, omega arith); listed = no_list; result = λ d o e. ap (outcome_words d.lists.slots) e }

is_fail : (c : Closing) → Same (fails c) (hca_fails (end_word c))
unfolding top_of any_reserved
is_fail c = record { call = refl; undo = refl; typed = (omega arith, omega arith, omega arith, omega arith, omega arith); listed = no_list; result = λ d o e. (e.0, ap (outcome_words d.lists.slots) e.1) }

-- a slot that has this buffer
first_of : Buffer → List Buffer → Buffer
first_of y [] = y
first_of y (x ∷ l) = x

has : (x : Slot) (y : Buffer) → in_slot x ≡ y ∷ [] → buffer_of x ≡ y
unfolding first_of
has x y e = by (is_held x) e
  where
    by : (t : Bool) → pick t (buffer_of x ∷ []) [] ≡ y ∷ [] → buffer_of x ≡ y
    by true q = ap (first_of (buffer_of x)) q
    by false q = ap (first_of (buffer_of x)) q

is_lend : Same lends hca_lends
unfolding top_of any_reserved
is_lend = record {
  call = refl;
  undo = refl;
  typed = (omega arith, omega arith, omega arith, omega arith, omega arith);
  listed = no_list;
  result = λ d o e. (
    e.1.handle,
    e.1.dev,
    ap (outcome_words d.lists.slots) e.2 ∙ ap (λ (y : Buffer). 6 ∷ y.handle ∷ y.dev ∷ y.pages ∷ 0 ∷ []) (has (slot_at d.lists.slots e.0) e.1 e.3)
        ∙ ap (λ (n : ℕ). 6 ∷ e.1.handle ∷ e.1.dev ∷ n ∷ 0 ∷ []) e.4,
  );
}

is_command : Same commands hca_commands
unfolding top_of any_reserved
is_command = record { call = refl; undo = refl; typed = (omega arith, omega arith, omega arith, omega arith, omega arith); listed = no_list; result = λ d o e. (e.0, e.1, ap (outcome_words d.lists.slots) e.2) }

is_undo : Same undoes hca_undoes
unfolding top_of any_reserved is_in
is_undo = record {
  call = refl;
  undo = refl;
  typed = (omega arith, omega arith, omega arith, omega arith, omega arith);
  listed = record { records = one; long = omega arith; count = omega arith };
  result = λ d o e. ap (outcome_words d.lists.slots) e;
}
  where
    one : (i : ℕ) → TypedUndo (get_or hca_undoes.list i noRecord)
    one zero = record { op = omega arith; sized = record { op_mod = omega arith; in_mod = omega arith; in_param = omega arith } }
    one (suc i) = no_record

is_quiesce : Same quiesces hca_quiesces
unfolding top_of any_reserved
is_quiesce = record { call = refl; undo = refl; typed = (omega arith, omega arith, omega arith, omega arith, omega arith); listed = no_list; result = λ d o e. ap (outcome_words d.lists.slots) e }

is_close_lem : (c : Closing) → Same (closes c) (hca_closes (end_word c))
unfolding top_of any_reserved
is_close_lem c = record { call = refl; undo = refl; typed = (omega arith, omega arith, omega arith, omega arith, omega arith); listed = no_list; result = λ d o e. ap (outcome_words d.lists.slots) e }

-- THE BYTES of a fresh session
abbrev room : List ℕ
room = replicate state_bytes 0

enough : state_bytes ≤ length room
enough = let l = length-replicate {A = ℕ} state_bytes 0 in omega (arith, l)

fresh_held : decode_of (fresh_in room) ≡ value fresh
fresh_held = ap (λ (b : Bool). decode_of (pick b room (put_session room fresh))) (le-ltb (length room) state_bytes enough) ∙ fresh_trip room enough

module _ (n : NotEmpty) where
  held_start : Held (fresh_in room) n.start
  held_start = record {
    held = fresh_held ∙ ap value (sym n.fresh.session);
    slice = encoded_slice room fresh (record { bytes = zeros state_bytes; long = (let l = length-replicate {A = ℕ} state_bytes 0 in omega (arith, l)) });
    box = n.inbox.bytes;
  }

  -- THE STORIES
  stories : NotEmptyBytes
  stories promise = record {
    start = on_bytes (fresh_in room) n.start;
    bytes = refl;
    fresh = record { session = fresh_held; calls = n.fresh.calls; began = n.fresh.began; log = n.fresh.log; inbox = n.fresh.inbox; outbox = n.fresh.outbox };
    good = on (opens ∷ lends ∷ commands ∷ undoes ∷ closes z.Clean ∷ []) (hca_opens ∷ hca_lends ∷ hca_commands ∷ hca_undoes ∷ hca_closes 0 ∷ []) (is_open_lem, (is_lend, (is_command, (is_undo, (is_close_lem z.Clean, tt))))) n.good;
    reset = on (opens ∷ closes z.Reset ∷ []) (hca_opens ∷ hca_closes 1 ∷ []) (is_open_lem, (is_close_lem z.Reset, tt)) n.reset;
    kept = on (opens ∷ closes z.Kept ∷ []) (hca_opens ∷ hca_closes 2 ∷ []) (is_open_lem, (is_close_lem z.Kept, tt)) n.kept;
    quiesced = on (opens ∷ quiesces ∷ closes z.Reset ∷ []) (hca_opens ∷ hca_quiesces ∷ hca_closes 1 ∷ []) (is_open_lem, (is_quiesce, (is_close_lem z.Reset, tt))) n.quiesced;
    refused = on (fails z.Clean ∷ []) (hca_fails 0 ∷ []) (is_fail z.Clean, tt) n.refused;
    undone = on (fails z.Reset ∷ []) (hca_fails 1 ∷ []) (is_fail z.Reset, tt) n.undone;
    abandoned = on (fails z.Kept ∷ []) (hca_fails 2 ∷ []) (is_fail z.Kept, tt) n.abandoned;
  }
    where
      on : (cs : List Chapter) (bs : List AbiChapter) → Alike cs bs → Does cs n.start → AbiDoes bs (on_bytes (fresh_in room) n.start)
      on cs bs a d = lifted promise cs bs a (fresh_in room) n.start held_start d

pub bytes_not_empty : NotEmptyBytes
bytes_not_empty = stories not_empty
