-- What the bytes of a session hold after a call: the session that the call gave. A session that is written is one of its type, and so is read back.
use Rattle.std.specs.Prelude.{ℕ, Bool, List, ◌≡◌, ltb, length, take, drop}
use Rattle.fields.specs.Outcome.{Outcome, value, refused, pick}
use Rattle.words_calls.specs.Calls.{heard_of}
use Rattle.words_session.specs.Image.{decode_of}
use Rattle.pci.specs.declared.Answer.{Answer}
use Rattle.session.specs.Session.{fresh}
use Rattle.session.specs.Core.{full}
use Rattle.session.specs.declared.Core.{Core}
use Rattle.behind.specs.Behind.{behind_in}
use Rattle.session.specs.declared.Top.{Top}
use Rattle.session.specs.declared.Failure.{Failure}
use Rattle.session.specs.declared.Failure.TheVariants as f
use Rattle.session.specs.declared.Session.{Session}
use Rattle.fw_plan.specs.Calls.{answerable, answer_of}
use Rattle.fw_plan.specs.declared.Turn.{Turn}
use Rattle.calls_plan.specs.Calls.{callable, call_of}
use Rattle.calls_plan.specs.Counts.{Counted}
use Rattle.calls_plan.specs.declared.Call.{Call}
use Rattle.undo.specs.List.{top_of, any_reserved}
use Rattle.undo.specs.declared.Undo.{Undo}
use Rattle.abi.specs.Calls.{call_from}

-- THE SESSION AFTER A CALL: that of its turn; and the one before where the call was refused, where it was not the time for it, or where `out` is too short
abbrev pub given_by : Failure → Session → Session → Session
given_by f.Nothing y x = y
given_by (f.By why) y x = x

abbrev pub next_by : Bool → Bool → Turn → Session → Session
next_by time short t x = pick time (pick short x (given_by t.refusal t.session x)) x

unfoldable pub call_next : Call → (input : List ℕ) → Top → (inbox outbox out : List ℕ) → Session → Session
call_next c y u i o w x = next_by (callable x c) (ltb (length w) 40) (call_of x c y i o u) x

unfoldable pub answer_next : Answer → (resource : List ℕ) → Top → (inbox outbox out : List ℕ) → Session → Session
answer_next a r u i o w x = next_by (answerable x a) (ltb (length w) 40) (answer_of x a r i o u) x

-- of a kind that has no such number nothing is taken
unfoldable pub known_next : {A : Type 0} → Outcome A → (A → Session → Session) → Session → Session
known_next (value a) next x = next a x
known_next (refused n vs) next x = x

abbrev pub wanted_next : Outcome Call → (input : List ℕ) → Top → (inbox outbox out : List ℕ) → Session → Session
wanted_next z y u i o w = known_next z (λ c. call_next c y u i o w)

abbrev pub heard_next : Outcome Answer → (resource : List ℕ) → Top → (inbox outbox out : List ℕ) → Session → Session
heard_next z r u i o w = known_next z (λ a. answer_next a r u i o w)

-- the same from numbers, with the caller's list: `hca_call`, `hca_answer`
abbrev pub call_now : (kind op op_mod in_mod v : ℕ) → (input : List ℕ) → (list : List Undo) → (count : ℕ) → (inbox outbox out : List ℕ) → Session → Session
call_now j op m n v y l c i o w x = wanted_next (call_from j op m n v (any_reserved (drop v (take c l)))) y (top_of l c) i o w x

abbrev pub answer_now : (kind a b : ℕ) → (resource : List ℕ) → (list : List Undo) → (count : ℕ) → (inbox outbox out : List ℕ) → Session → Session
answer_now k a b r l c i o w x = heard_next (heard_of k a b) r (top_of l c) i o w x

-- the bytes held x; now they hold y
unfoldable pub Keeps : (before after : List ℕ) → (x y : Session) → Type 0
Keeps s z x y = decode_of s ≡ value x → decode_of z ≡ value y

-- whatever they held, they hold what a call has made of it
unfoldable pub Holds : (before after : List ℕ) → (Session → Session) → Type 0
Holds s z next = (x : Session) → Keeps s z x (next x)

-- a plan was begun: where the bytes held a session, they hold z now, if its counts are within their slots
unfoldable pub Writes : (before after : List ℕ) → Session → Type 0
Writes s t z = (c : Core) → Counted z.books.lists → decode_of s ≡ value (full c (behind_in s)) → decode_of t ≡ value z

-- the same of a step of the session x
unfoldable pub Steps : (before after : List ℕ) → (x z : Session) → Type 0
Steps s t x z = Counted z.books.lists → Keeps s t x z

-- a fresh session was written: the bytes hold it
unfoldable pub Fresh : (code : ℕ) → (after : List ℕ) → Type 0
Fresh n z = n ≡ 0 → decode_of z ≡ value fresh
