-- WHAT IS WRITTEN IS READ BACK: a session that the code writes is one of its type, and its counts stay within their arrays; so the bytes hold it, and the next call begins
-- from it.
use Prim.Native.Nat.{ℕ}
use native.Mathlib.Omega.{arith}
use mathlib.Core.Bool.{Bool, true, false}
use mathlib.Core.List.{List, []}
use mathlib.Core.Path.{◌≡◌, refl, ap, sym, subst, ◌∙◌}
use borrow.Author.Tests.{ltb-false}
use lib.Dec.{ltb}
use lib.ListN.{length}
use Rattle.fields.specs.Outcome.{Outcome, value, refused, number_of, pick}
use Rattle.fields.proofs.Outcomes.{same_value, never_refused}
use Rattle.words.specs.Places.{state_bytes}
use Rattle.words_session.specs.Image.{core_in, head_of, decode_of, encoded_in, put_session}
use Rattle.words_laws.proofs.Fresh.{fresh_trip}
use Rattle.words_laws.proofs.Parts.{decode_parts}
use Rattle.behind.specs.Behind.{behind_in}
use Rattle.pci.specs.declared.Refusal.{Refusal}
use Rattle.session.specs.Session.{fresh}
use Rattle.session.specs.declared.Top.{Top}
use Rattle.session.specs.declared.Failure.{Failure}
use Rattle.session.specs.declared.Failure.TheVariants as f
use Rattle.session.specs.declared.Session.{Session}
use Rattle.session.specs.Core.{full}
use Rattle.pci.specs.declared.Answer.{Answer}
use Rattle.fw_plan.specs.Calls.{answerable, answer_of}
use Rattle.fw_plan.specs.declared.Turn.{Turn}
use Rattle.calls_plan.specs.Calls.{callable, call_of}
use Rattle.calls_plan.specs.Counts.{Counted}
use Rattle.calls_plan.specs.declared.Call.{Call}
use Rattle.abi.specs.Turns.{fresh_code}
use Rattle.abi.specs.Kept.{given_by, next_by, call_next, answer_next, known_next, Keeps, Holds, Writes, Fresh}
use Rattle.abi.proofs.Turns.{held_full, head_known}

-- a fresh one was written
pub fresh_held : (s t : List ℕ) (n : ℕ) → n ≡ fresh_code s → t ≡ encoded_in s fresh → Fresh n t
unfolding Fresh
fresh_held s t n a b good = by (ltb (length s) state_bytes) refl
  where
    by : (g : Bool) → ltb (length s) state_bytes ≡ g → decode_of t ≡ value fresh
    by true d = absurd (let z : ◌≡◌ {A = ℕ} 0 21 = sym good ∙ a ∙ ap (λ g. number_of {A = Unit {0}} (pick g (refused 21 []) (value tt))) d in omega arith)
    by false d = ap decode_of (b ∙ ap (λ g. pick g s (put_session s fresh)) d) ∙ fresh_trip s (ltb-false (length s) state_bytes d)

-- a session that was read has its counts within its arrays
pub counted : (s : List ℕ) (x : Session) → decode_of s ≡ value x → Counted x.books.lists
counted s x d = let p = decode_parts s x d in (p.ranges, p.lends)

-- A TURN WAS TAKEN: the bytes hold what it gave
taken_keeps : (z : Failure) (y x : Session) (s t : List ℕ) → ((why : Refusal) → z ≡ f.By why → t ≡ s) → (z ≡ f.Nothing → Keeps s t x y) → Keeps s t x (given_by z y x)
unfolding Keeps
taken_keeps f.Nothing y x s t e h d = h refl d
taken_keeps (f.By why) y x s t e h d = ap decode_of (e why refl) ∙ d

next_keeps : (time short : Bool) (u : Turn) (x : Session) (s t : List ℕ) → time ≡ true → short ≡ false → Keeps s t x (given_by u.refusal u.session x) → Keeps s t x (next_by time short u x)
unfolding Keeps
next_keeps time short u x s t a b h d = h d ∙ ap value (sym (ap (λ g. next_by g short u x) a ∙ ap (λ g. next_by true g u x) b))

pub call_keeps : (x : Session) (c : Call) (y : List ℕ) (u : Top) (i o w s t : List ℕ) → callable x c ≡ true → ltb (length w) 40 ≡ false
    → ((why : Refusal) → (call_of x c y i o u).refusal ≡ f.By why → t ≡ s) → ((call_of x c y i o u).refusal ≡ f.Nothing → Keeps s t x (call_of x c y i o u).session)
    → Keeps s t x (call_next c y u i o w x)
unfolding call_next
call_keeps x c y u i o w s t a b e h =
    next_keeps (callable x c) (ltb (length w) 40) (call_of x c y i o u) x s t a b (taken_keeps (call_of x c y i o u).refusal (call_of x c y i o u).session x s t e h)

pub answer_keeps : (x : Session) (a : Answer) (r : List ℕ) (u : Top) (i o w s t : List ℕ) → answerable x a ≡ true → ltb (length w) 40 ≡ false
    → ((why : Refusal) → (answer_of x a r i o u).refusal ≡ f.By why → t ≡ s) → ((answer_of x a r i o u).refusal ≡ f.Nothing → Keeps s t x (answer_of x a r i o u).session)
    → Keeps s t x (answer_next a r u i o w x)
unfolding answer_next
answer_keeps x a r u i o w s t b d e h =
    next_keeps (answerable x a) (ltb (length w) 40) (answer_of x a r i o u) x s t b d (taken_keeps (answer_of x a r i o u).refusal (answer_of x a r i o u).session x s t e h)

-- A PLAN WAS BEGUN on bytes that held a session: its session is held then
pub begun_keeps : (x z : Session) (s t : List ℕ) → (Counted x.books.lists → Counted z.books.lists) → Writes s t z → Keeps s t x z
unfolding Writes Keeps
begun_keeps x z s t n h d = h (core_in s) (n (counted s x d)) (d ∙ ap value (held_full s x d))

-- IT WAS NOT THE TIME, or `out` is too short: the bytes are left, and so is the session
late : (x : Session) (short : Bool) (u : Turn) (time : Bool) (s : List ℕ) → time ≡ false → Keeps s s x (next_by time short u x)
unfolding Keeps
late x short u time s e d = d ∙ ap value (sym (ap (λ g. next_by g short u x) e))

too_short : (x : Session) (u : Turn) (time short : Bool) (s : List ℕ) → time ≡ true → short ≡ true → Keeps s s x (next_by time short u x)
unfolding Keeps
too_short x u time short s a b d = d ∙ ap value (sym (ap (λ g. next_by g short u x) a ∙ ap (λ g. next_by true g u x) b))

module _ (x : Session) (c : Call) (y : List ℕ) (u : Top) (i o w s : List ℕ) where
  pub call_late : callable x c ≡ false → Keeps s s x (call_next c y u i o w x)
  unfolding call_next
  call_late e = late x (ltb (length w) 40) (call_of x c y i o u) (callable x c) s e

  pub call_short : callable x c ≡ true → ltb (length w) 40 ≡ true → Keeps s s x (call_next c y u i o w x)
  unfolding call_next
  call_short e d = too_short x (call_of x c y i o u) (callable x c) (ltb (length w) 40) s e d

module _ (x : Session) (a : Answer) (r : List ℕ) (u : Top) (i o w s : List ℕ) where
  pub answer_late : answerable x a ≡ false → Keeps s s x (answer_next a r u i o w x)
  unfolding answer_next
  answer_late e = late x (ltb (length w) 40) (answer_of x a r i o u) (answerable x a) s e

  pub answer_short : answerable x a ≡ true → ltb (length w) 40 ≡ true → Keeps s s x (answer_next a r u i o w x)
  unfolding answer_next
  answer_short e d = too_short x (answer_of x a r i o u) (answerable x a) (ltb (length w) 40) s e d

-- THE BYTES were read, and a call made of the session; or they hold none
pub read_holds : (x : Session) (s t : List ℕ) (next : Session → Session) → decode_of s ≡ value x → Keeps s t x (next x) → Holds s t next
unfolding Keeps Holds
read_holds x s t next z h y r =
    let same : x ≡ y = same_value (sym z ∙ r) in
    h z ∙ ap (λ v. value (next v)) same

-- of the session of a head: where the bytes hold one, it is that
pub head_holds : (s t : List ℕ) (next : Session → Session) → Keeps s t (full (core_in s) (behind_in s)) (next (full (core_in s) (behind_in s))) → Holds s t next
unfolding Keeps Holds
head_holds s t next h x d = let e = held_full s x d in h (d ∙ ap value e) ∙ ap (λ v. value (next v)) (sym e)

pub none_holds : (s t : List ℕ) (next : Session → Session) (n : ℕ) (vs : List ℕ) → refused n vs ≡ decode_of s → Holds s t next
unfolding Keeps Holds
none_holds s t next n vs e x r = absurd (never_refused (e ∙ r))

-- a head that is none is that of no session
pub no_head_holds : (s t : List ℕ) (next : Session → Session) (n : ℕ) (vs : List ℕ) → head_of s ≡ refused n vs → Holds s t next
unfolding Keeps Holds
no_head_holds s t next n vs e x r = absurd (never_refused (sym e ∙ head_known s x r))

-- A CALL OR AN ANSWER by its kind; where there is no such kind, the bytes are left
pub known_holds : {A : Type 0} (a : A) (z : Outcome A) (next : A → Session → Session) (s t : List ℕ) → value a ≡ z → Holds s t (next a) → Holds s t (known_next z next)
unfolding Holds known_next
known_holds {A} a z next s t e h x = subst (λ (v : Outcome A). Keeps s t x (known_next v next x)) e (h x)

pub unknown_holds : {A : Type 0} (z : Outcome A) (n : ℕ) (vs : List ℕ) (next : A → Session → Session) (s : List ℕ) → refused n vs ≡ z → Holds s s (known_next z next)
unfolding Holds Keeps known_next
unknown_holds {A} z n vs next s e x = subst (λ (v : Outcome A). decode_of s ≡ value x → decode_of s ≡ value (known_next v next x)) e (λ d. d)
