-- One call on the session that bytes hold: what it gives, and what it leaves of the bytes, the mailboxes and `out`. "slice too short" is 21, bytes that are no session
-- are 20; a call that is refused changes nothing.
use Rattle.std.specs.Prelude.{ℕ, Bool, List, ltb, length}
use Rattle.fields.specs.Outcome.{Outcome, value, refused, number_of, pick}
use Rattle.words_calls.specs.Calls.{turn_in}
use Rattle.words_session.specs.Image.{head_of, decode_of, encoded_in, wrote_of}
use Rattle.pci.specs.Refusals.{refusal}
use Rattle.pci.specs.declared.Question.{Question}
use Rattle.pci.specs.declared.Answer.{Answer}
use Rattle.session.specs.Session.{fresh}
use Rattle.session.specs.declared.Top.{Top}
use Rattle.session.specs.declared.Failure.{Failure}
use Rattle.session.specs.declared.Failure.TheVariants as f
use Rattle.session.specs.declared.Session.{Session}
use Rattle.fw_plan.specs.Calls.{answerable, answer_of, answer_in, answer_out}
use Rattle.fw_plan.specs.declared.Turn.{Turn}
use Rattle.calls_plan.specs.Calls.{callable, call_of, call_in, call_out}
use Rattle.calls_plan.specs.declared.Call.{Call}
use Rattle.bytes_plan.specs.Left.{call_left, answer_left}

-- what a call leaves
pub record After : Type 0 where
  pub code : ℕ
  pub state : List ℕ
  pub inbox : List ℕ
  pub outbox : List ℕ
  pub out : List ℕ

abbrev pub after : ℕ → (state inbox outbox out : List ℕ) → After
after n s i o w = record { code = n; state = s; inbox = i; outbox = o; out = w }

-- A TURN of a session: the bytes are these now, and what it asks; or nothing is written, where the turn was refused
abbrev pub code_by : Failure → ℕ
code_by f.Nothing = 0
code_by (f.By why) = number_of {A = Unit {0}} (refusal why)

abbrev pub state_by : Failure → (state' state : List ℕ) → List ℕ
state_by f.Nothing s' s = s'
state_by (f.By why) s' s = s

abbrev pub out_by : Failure → Question → ℕ → List ℕ → List ℕ
out_by f.Nothing q n w = turn_in w q n
out_by (f.By why) q n w = w

abbrev pub taken : Turn → (state' state inbox outbox out : List ℕ) → After
taken t s' s i o w = after (code_by t.refusal) (state_by t.refusal s' s) i o (out_by t.refusal t.question t.undo w)

-- a call of a session: 20 where it is not the time for it, then 21 where `out` is too short
abbrev pub turned : Bool → Turn → (state' inbox' outbox' : List ℕ) → (state inbox outbox out : List ℕ) → After
turned b t s' i' o' s i o w = pick b (pick (ltb (length w) 40) (after 21 s i o w) (taken t s' s i' o' w)) (after 20 s i o w)

-- a call of the bytes: that of the session that they hold. A call looks at all of them; an answer that ends a task at the head, whose session is the one of that head and of
-- what stands behind it, whatever that is
abbrev pub on_session : Outcome Session → (Session → After) → (state inbox outbox out : List ℕ) → After
on_session (value x) k s i o w = k x
on_session (refused n vs) k s i o w = after n s i o w

-- A CALL, AN ANSWER: of a session, and of the bytes that hold it
unfoldable pub call_known : Session → Call → (input : List ℕ) → Top → (state inbox outbox out : List ℕ) → After
call_known x c y u s i o w =
    turned (callable x c) (call_of x c y i o u) (call_left c (call_of x c y i o u).session s) (call_in x c y i o u) (call_out x c y i o u) s i o w

unfoldable pub answer_known : Session → Answer → (resource : List ℕ) → Top → (state inbox outbox out : List ℕ) → After
answer_known x a r u s i o w =
    turned (answerable x a) (answer_of x a r i o u) (answer_left x a r o (answer_of x a r i o u).session s) (answer_in x a r i o u) (answer_out x a r i o u) s i o w

unfoldable pub called : Call → (input : List ℕ) → Top → (state inbox outbox out : List ℕ) → After
called c y u s i o w = on_session (decode_of s) (λ x. call_known x c y u s i o w) s i o w

unfoldable pub answered : Answer → (resource : List ℕ) → Top → (state inbox outbox out : List ℕ) → After
answered a r u s i o w = on_session (head_of s) (λ x. answer_known x a r u s i o w) s i o w

-- A SESSION THAT WAS NEVER OPENED
abbrev pub fresh_code : List ℕ → ℕ
fresh_code s = number_of (wrote_of s)

abbrev pub fresh_in : List ℕ → List ℕ
fresh_in s = encoded_in s fresh
