-- A CALL THAT IS REFUSED LEAVES EVERYTHING: where a function over C linkage gives another number than 0, the session's bytes, both mailboxes and `out` are as they were.
-- Document 01: "19 to 22 everything", "20 and 21 leave a running session and its open question too".
use Prim.Native.Nat.{ℕ}
use mathlib.Core.Bool.{Bool, true, false}
use mathlib.Core.List.{List}
use mathlib.Core.Path.{◌≡◌, refl}
use lib.Dec.{ltb}
use lib.ListN.{length}
use Rattle.fields.specs.Outcome.{Outcome, value, refused, pick}
use Rattle.words_calls.specs.Calls.{heard_of}
use Rattle.words_session.specs.Image.{head_of, decode_of}
use Rattle.bytes_plan.specs.Left.{call_left, answer_left}
use Rattle.in_place.specs.InPlace.{onward_of, goes_on, state_after, out_after}
use Rattle.pci.specs.declared.Refusal.{Refusal}
use Rattle.pci.specs.declared.Question.{Question}
use Rattle.pci.specs.declared.Answer.{Answer}
use Rattle.session.specs.declared.Top.{Top}
use Rattle.session.specs.declared.Failure.{Failure}
use Rattle.session.specs.declared.Failure.TheVariants as f
use Rattle.session.specs.declared.Session.{Session}
use Rattle.fw_plan.specs.Calls.{answerable, answer_of, answer_in, answer_out}
use Rattle.fw_plan.specs.declared.Turn.{Turn}
use Rattle.fw_plan.proofs.Refusals.{answer_left_lem}
use Rattle.calls_plan.specs.Calls.{callable, call_of, call_in, call_out}
use Rattle.calls_plan.specs.declared.Call.{Call}
use Rattle.calls_plan.proofs.Refusals.{call_left_lem}
use Rattle.abi.specs.Turns.{After, after, code_by, state_by, out_by, taken, on_session, call_known, answer_known, called, answered}
use Rattle.abi.specs.Calls.{wanted_by, call_from, made, answer, heard_by, told}

-- refused, and all four slices as they were
abbrev pub Left : After → (state inbox outbox out : List ℕ) → Type 0
Left y s i o w = (y.code ≡ 0 → ⊥) → y ≡ after y.code s i o w

module _ (s i o w : List ℕ) where
  taken_left : (z : Failure) (q : Question) (n : ℕ) (s' i' o' : List ℕ) → ((why : Refusal) → z ≡ f.By why → (i' ≡ i) × (o' ≡ o))
      → Left (after (code_by z) (state_by z s' s) i' o' (out_by z q n w)) s i o w
  taken_left f.Nothing q n s' i' o' h bad = absurd (bad refl)
  taken_left (f.By why) q n s' i' o' h bad = let e = h why refl in rw (e.0, e.1) refl

  turned_left : (b r : Bool) (t : Turn) (s' i' o' : List ℕ) → ((why : Refusal) → t.refusal ≡ f.By why → (i' ≡ i) × (o' ≡ o))
      → Left (pick b (pick r (after 21 s i o w) (taken t s' s i' o' w)) (after 20 s i o w)) s i o w
  turned_left true true t s' i' o' h bad = refl
  turned_left true false t s' i' o' h bad = taken_left t.refusal t.question t.undo s' i' o' h bad
  turned_left false r t s' i' o' h bad = refl

  on_left : (z : Outcome Session) (k : Session → After) → ((x : Session) → Left (k x) s i o w) → Left (on_session z k s i o w) s i o w
  on_left (value x) k h bad = h x bad
  on_left (refused n vs) k h bad = refl

  -- a call and an answer on the bytes of a session
  pub called_left : (c : Call) (y : List ℕ) (u : Top) → Left (called c y u s i o w) s i o w
  unfolding called call_known
  called_left c y u =
      on_left (decode_of s) (λ x. call_known x c y u s i o w) (λ x. turned_left (callable x c) (ltb (length w) 40) (call_of x c y i o u) (call_left c (call_of x c y i o u).session s) (call_in x c y i o u) (call_out x c y i o u) (call_left_lem x c y i o u))

  pub answered_left : (a : Answer) (r : List ℕ) (u : Top) → Left (answered a r u s i o w) s i o w
  unfolding answered answer_known
  answered_left a r u =
      on_left (head_of s) (λ x. answer_known x a r u s i o w)
      (λ x. turned_left (answerable x a) (ltb (length w) 40) (answer_of x a r i o u) (answer_left x a r o (answer_of x a r i o u).session s) (answer_in x a r i o u) (answer_out x a r i o u) (answer_left_lem x a r i o u))

  -- the same from numbers: `hca_call`, `hca_answer`
  wanted_left : (z : Outcome Call) (y : List ℕ) (u : Top) → Left (wanted_by z y u s i o w) s i o w
  wanted_left (value c) y u = called_left c y u
  wanted_left (refused n vs) y u = λ bad. refl

  pub made_left : (kind op op_mod in_mod x : ℕ) (reserved : Bool) (y : List ℕ) (u : Top) → Left (made kind op op_mod in_mod x reserved y u s i o w) s i o w
  unfolding made
  made_left kind op op_mod in_mod x reserved y u = wanted_left (call_from kind op op_mod in_mod x reserved) y u

  onward_left : (y : Bool) (z : After) (a : Answer) (r : List ℕ) (u : Top) → z.code ≡ 0 → Left (pick y z (answered a r u s i o w)) s i o w
  onward_left true z a r u e = λ bad. absurd (bad e)
  onward_left false z a r u e = answered_left a r u

  heard_left : (z : Outcome Answer) (r : List ℕ) (u : Top) → Left (heard_by z r u s i o w) s i o w
  unfolding answer
  heard_left (value a) r u =
      let z = onward_of s a i o u.count w in onward_left (goes_on z) (after 0 (state_after z s) i o (out_after z s w u.count)) a r u refl
  heard_left (refused n vs) r u = λ bad. refl

  pub told_left : (kind x y : ℕ) (r : List ℕ) (u : Top) → Left (told kind x y r u s i o w) s i o w
  unfolding told
  told_left kind x y r u = heard_left (heard_of kind x y) r u
