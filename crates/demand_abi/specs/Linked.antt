-- DEMAND 3 OVER C LINKAGE: what demand/specs/Demand.antt says of every list of calls, said of the
-- functions that a loader calls. Between two calls the session is bytes that the loader keeps. For
-- every list of calls of `hca_call` and `hca_answer` (refused ones and unknown kinds included) on
-- bytes that `hca_fresh` has written, every card, every host, and any outbox, undo list and `out`
-- at every call: after each call the bytes hold a session, that session is `Good` beside the card
-- and the host, what was given back the card could not use, and `out` of a call that was taken
-- tells the question of that session. `hca_result` tells the result by which (b) and (c) fall due,
-- and `hca_books` the books that name what is kept: "the session says" is what a loader reads. The
-- theorem is `linked` of proofs/Linked.antt. What a call leaves, and what its bytes then hold, are
-- the two halves of the contracts of `hca_call` and `hca_answer`.
use Rattle.std.specs.Prelude.{ℕ, ◌<◌, ◌^◌, Bool, List, [], ◌∷◌, ◌≡◌, eqb, get_or, take, drop}
use Rattle.std.proofs.Math.Option.{Option, none}
use Rattle.fields.specs.Outcome.{Outcome, value, refused, pick}
use Rattle.words_calls.specs.Calls.{heard_of, turn_in}
use Rattle.words_session.specs.Image.{decode_of}
use Rattle.results.specs.Results.{outcome_words}
use Rattle.results.specs.Books.{BOOKS, books_words}
use Rattle.pci.specs.Script.{Ask}
use Rattle.pci.specs.declared.Answer.{Answer}
use Rattle.session.specs.Session.{fresh}
use Rattle.session.specs.declared.Failure.TheVariants as f
use Rattle.session.specs.declared.Session.{Session}
use Rattle.undo.specs.List.{none as noRecord, top_of, any_reserved}
use Rattle.undo.specs.declared.Undo.{Undo}
use Rattle.fw_plan.specs.Calls.{asks_of, outcome_of}
use Rattle.calls_plan.specs.declared.Call.{Call}
use Rattle.abi.specs.Turns.{After}
use Rattle.abi.specs.Calls.{call, told, call_from}
use Rattle.abi.specs.Kept.{call_now, answer_now, Holds}
use Rattle.abi.specs.Readers.{given, result, books}
use Rattle.card.specs.Card.{Hold, Host, World}
use Rattle.demand.specs.Events.{Input, call_make, call_answer, Stand, asked, Rests, HappensBy, calls_by, began_by, lent_by, lends_to}
use Rattle.demand.specs.Demand.{GivesBack, Good}

-- THE CALLS, with their numbers
pub data AbiCall : Type 0 where
  hca_call : (kind op op_mod in_mod value : ℕ) → (input : List ℕ) → AbiCall
  hca_answer : (kind a b : ℕ) → (resource : List ℕ) → AbiCall

-- a call with what is lent to it
pub record AbiEvent : Type 0 where
  pub call : AbiCall
  pub inbox : List ℕ
  pub outbox : List ℕ
  pub list : List Undo
  pub count : ℕ
  pub out : List ℕ

-- what it leaves of the bytes: the first half of its contract
abbrev pub leaves_by : AbiCall → (state : List ℕ) → AbiEvent → After
leaves_by (hca_call j op m n x y) s e = call j op m n x y e.list e.count s e.inbox e.outbox e.out
leaves_by (hca_answer j a b r) s e = told j a b r (top_of e.list e.count) s e.inbox e.outbox e.out

abbrev pub leaves : (state : List ℕ) → AbiEvent → After
leaves s e = leaves_by e.call s e

-- the session that it makes of the one that they held: the second half
abbrev pub next_by : AbiCall → AbiEvent → Session → Session
next_by (hca_call j op m n x y) e s = call_now j op m n x y e.list e.count e.inbox e.outbox e.out s
next_by (hca_answer j a b r) e s = answer_now j a b r e.list e.count e.inbox e.outbox e.out s

abbrev pub next : AbiEvent → Session → Session
next e s = next_by e.call e s

-- THE SAME BY VALUE: the call or the answer that the numbers stand for, if there is such a kind
abbrev pub call_with : Outcome Call → (input : List ℕ) → Outcome Input
call_with (value c) y = value (call_make c y)
call_with (refused n vs) y = refused n vs

abbrev pub answer_with : Outcome Answer → (resource : List ℕ) → Outcome Input
answer_with (value a) r = value (call_answer a r)
answer_with (refused n vs) r = refused n vs

abbrev pub input_by : AbiCall → AbiEvent → Outcome Input
input_by (hca_call j op m n x y) e = call_with (call_from j op m n x (any_reserved (drop x (take e.count e.list)))) y
input_by (hca_answer j a b r) e = answer_with (heard_of j a b) r

abbrev pub input_of : AbiEvent → Outcome Input
input_of e = input_by e.call e

-- WHAT HAPPENS BESIDE it, the calls that were taken and when a closing began, as Events.antt has
-- them; a kind that there is not is never taken
abbrev pub AbiHappens : Outcome Input → Session → (inbox : List ℕ) → World → World → Type 1
AbiHappens (value c) s i w z = HappensBy c s i w z
AbiHappens (refused n vs) s i w z = Rests w z

abbrev pub abi_calls : Outcome Input → List Call → List Call
abi_calls (value c) l = calls_by f.Nothing c l
abi_calls (refused n vs) l = l

abbrev pub abi_began : Outcome Input → List Call → Option Ask → Host → Option Host → Option Host
abi_began (value c) l q k z = began_by c l q k z
abi_began (refused n vs) l q k z = z

-- the numbers are those of their types
abbrev pub AbiSized : AbiCall → Type 0
AbiSized (hca_call j op m n x y) = (m < 2 ^ 8) × (n < 2 ^ 32) × (x < 2 ^ 64)
AbiSized (hca_answer j a b r) = Unit {0}

pub record UndoSized (u : Undo) : Type 0 where
  pub op_mod : u.op_mod < 2 ^ 8
  pub in_mod : u.in_mod < 2 ^ 32
  pub in_param : u.in_param < 2 ^ 64

-- The bytes, the inbox as the last call left it, the card and the host; beside them the calls that
-- were taken, newest first, and, once a closing has begun, the host as it was then.
pub record AbiStand : Type 1 where
  pub state : List ℕ
  pub inbox : List ℕ
  pub world : World
  pub calls : List Call
  pub began : Option Host

-- the same with the session that the bytes hold
abbrev pub stand_of : AbiStand → Session → Stand
stand_of x s = record { session = s; inbox = x.inbox; world = x.world; calls = x.calls; began = x.began }

abbrev pub is_taken : (state : List ℕ) → AbiEvent → Bool
is_taken s e = eqb (leaves s e).code 0

-- ONE EVENT, where the bytes held the session s
pub record AbiStep (x : AbiStand) (s : Session) (e : AbiEvent) (y : AbiStand) : Type 1 where
  -- what the call's contract promises
  pub state : y.state ≡ (leaves x.state e).state
  pub holds : Holds x.state y.state (next e)
  -- bytes are bytes
  pub bytes : (k : ℕ) → get_or x.state k 0 < 256
  pub outbox : (k : ℕ) → get_or e.outbox k 0 < 256
  pub records : (i : ℕ) → UndoSized (get_or e.list i noRecord)
  pub sized : AbiSized e.call
  -- a call that is not refused is lent the inbox that the last one left, and leaves its own
  pub lent : (leaves x.state e).code ≡ 0 → e.inbox ≡ x.inbox
  pub left : (leaves x.state e).code ≡ 0 → y.inbox ≡ (leaves x.state e).inbox
  pub kept : ((leaves x.state e).code ≡ 0 → ⊥) → y.inbox ≡ x.inbox
  -- "an answer refused with 20 or 21 neither reports nor hands over anything"
  pub between : World
  pub happens : (leaves x.state e).code ≡ 0 → AbiHappens (input_of e) s e.inbox x.world between
  pub rests : ((leaves x.state e).code ≡ 0 → ⊥) → Rests x.world between
  pub world : y.world ≡ lends_to (pick (is_taken x.state e) (lent_by y.calls (next e s)) none) between
  pub calls : y.calls ≡ pick (is_taken x.state e) (abi_calls (input_of e) x.calls) x.calls
  pub began :
      y.began ≡ pick (is_taken x.state e)
      (abi_began (input_of e) x.calls (asked (asks_of s) e.inbox) x.world.host x.began) x.began

-- WHAT THE LOADER IS TOLD: `out` holds the question that is judged, of the session that the bytes
-- now hold, with a count of undo records beside it
abbrev pub Told : AbiStand → Session → AbiEvent → Type 0
Told x s e =
    (leaves x.state e).code ≡ 0 → (n : ℕ) × ((leaves x.state e).out ≡ turn_in e.out (asks_of (next e s)) n)

-- WHAT THE LOADER READS of bytes that hold s: `hca_result` the result, `hca_books` what the session
-- has of the host
pub record Says (state : List ℕ) (s : Session) : Type 0 where
  pub result : (w : List ℕ) → result state w ≡ given 5 w (outcome_words s.books.lists.slots (outcome_of s))
  pub books : (w : List ℕ) → books state w ≡ given BOOKS w (books_words s)

-- the bytes hold a session, it is good, and the loader reads it
pub record GoodIn (base : ℕ → Option Hold) (x : AbiStand) (s : Session) : Type 1 where
  pub holds : decode_of x.state ≡ value s
  pub good : Good base (stand_of x s)
  pub says : Says x.state s

-- after each of the events, whatever the world does at each
abbrev pub AbiAlways : (ℕ → Option Hold) → List AbiEvent → AbiStand → Type 1
AbiAlways base [] x = (s : Session) × GoodIn base x s
AbiAlways base (e ∷ es) x =
    (s : Session) × GoodIn base x s
    × ((y : AbiStand) → AbiStep x s e y → Told x s e × GivesBack x.world y.world × AbiAlways base es y)

-- BYTES OF A FRESH SESSION, on any card; the host may have handed out anything before, and none of
-- it to this session
pub record AbiStart (x : AbiStand) : Type 1 where
  pub session : decode_of x.state ≡ value fresh
  pub calls : x.calls ≡ []
  pub began : x.began ≡ none
  pub log : x.world.host.log ≡ []
  pub inbox : x.world.host.inbox ≡ none
  pub outbox : x.world.host.outbox ≡ none

-- THE STATEMENT
abbrev pub Linked : Type 1
Linked = (x : AbiStand) → AbiStart x → (es : List AbiEvent) → AbiAlways x.world.host.hand es x
