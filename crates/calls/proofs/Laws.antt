-- WHAT A CALL LEAVES of the bytes that held a session: what is cleared for an opening is read back, and a call is refused, barred or begun.
use Prim.Native.Nat.{ℕ, ◌≤◌}
use mathlib.Core.Bool.{Bool, true, false}
use mathlib.Core.List.{List}
use mathlib.Core.Path.{◌≡◌, refl, ap, sym, subst, ◌∙◌}
use borrow.Author.Tests.{le-ltb, ltb-true, ltb-false}
use lib.Dec.{ltb}
use lib.ListN.{length}
use Rattle.fields.specs.Outcome.{value, number_of, pick}
use Rattle.words.specs.Places.{task_at, state_bytes}
use Rattle.words_calls.specs.Calls.{turn_in}
use Rattle.words_session.specs.Image.{core_of, behind_of, session_words, core_in, head_in, decode_of, encoded_in}
use Rattle.words_laws.proofs.Fresh.{fresh_trip}
use Rattle.words_laws.proofs.Parts.{given}
use Rattle.behind.specs.Behind.{behind_in}
use Rattle.behind.proofs.Laws.{short, put_short, put_long}
use Rattle.pci.specs.Refusals.{refusal}
use Rattle.pci.specs.declared.Refusal.{Refusal}
use Rattle.pci.specs.declared.Refusal.TheVariants as v
use Rattle.session.specs.Core.{Behind, none_behind, full}
use Rattle.session.specs.Session.{fresh}
use Rattle.session.specs.declared.Core.{Core}
use Rattle.session.specs.declared.Failure.{Failure}
use Rattle.session.specs.declared.Failure.TheVariants as f
use Rattle.session.specs.declared.Planned.{Planned}
use Rattle.session.specs.declared.Session.{Session}
use Rattle.session.specs.declared.Top.{Top}
use Rattle.fw_plan.specs.Calls.{refused_of, begun_of, begun_in, begun_out, in_time}
use Rattle.fw_plan.specs.declared.Turn.{Turn}
use Rattle.calls_plan.specs.Calls.{callable, lent_for, barred, ready_in, plan_for, begun_turn, begun_inbox, begun_outbox, unless}
use Rattle.calls_plan.specs.Calls.{admitted, admitted_in, admitted_out, call_of, call_in, call_out}
use Rattle.calls_plan.specs.declared.Call.{Call}
use Rattle.calls_plan.specs.declared.Call.TheVariants as k
use Rattle.calls_plan.proofs.Counts.{begun_counted}
use Rattle.calls_plan.proofs.Refusals.{too_short}
use Rattle.bytes_plan.specs.Left.{cleared_in, headed_in, call_left}
use Rattle.abi.specs.Turns.{After, after, taken, turned, call_known}
use Rattle.abi.specs.Kept.{Keeps, Writes, given_by, next_by, call_next}
use Rattle.abi.proofs.Turns.{held_full, in_time_lem}
use Rattle.abi.proofs.Kept.{counted}
use Rattle.calls.specs.Begins.{behind_for, admitted_as, admitted_next}

-- AN OPENING BEGINS ON A FRESH SESSION: it is read back, and nothing stands behind its head
cleared_fresh : (s : List ℕ) → state_bytes ≤ length s → decode_of (encoded_in s fresh) ≡ value fresh
cleared_fresh s r = ap decode_of (sym (put_long task_at (session_words fresh) s r)) ∙ fresh_trip s r

behind_of_lem : (c : Core) (b : Behind) → behind_of (full c b) ≡ b
behind_of_lem c b = refl

none_behind_lem : behind_of fresh ≡ none_behind
none_behind_lem = refl

fresh_behind : (s : List ℕ) → behind_in (encoded_in s fresh) ≡ none_behind
fresh_behind s = by (ltb (length s) state_bytes) refl
  where
    by : (b : Bool) → ltb (length s) state_bytes ≡ b → behind_in (encoded_in s fresh) ≡ none_behind
    by true e = let h = ltb-true (length s) state_bytes e in ap behind_in (sym (put_short task_at (session_words fresh) s h)) ∙ short s h
    by false e =
        let t = encoded_in s fresh in
        let d = cleared_fresh s (ltb-false (length s) state_bytes e) in
        sym (behind_of_lem (core_in t) (behind_in t)) ∙ ap behind_of (sym (held_full t fresh d)) ∙ none_behind_lem

-- what stands behind the head when the plan is made
pub cleared_behind : (c : Call) (s : List ℕ) → behind_in (cleared_in c s) ≡ behind_for c (behind_in s)
cleared_behind k.Open s = fresh_behind s
cleared_behind (k.Command y) s = refl
cleared_behind (k.Lend bytes) s = refl
cleared_behind (k.UndoTo mark r) s = refl
cleared_behind k.Quiesce s = refl
cleared_behind k.Close s = refl

-- bytes that held a session hold one then
cleared_holds : (c : Call) (s : List ℕ) (x : Session) → decode_of s ≡ value x → (y : Session) × (decode_of (cleared_in c s) ≡ value y)
cleared_holds k.Open s x d = (fresh, cleared_fresh s (given s x d).enough)
cleared_holds (k.Command y) s x d = (x, d)
cleared_holds (k.Lend bytes) s x d = (x, d)
cleared_holds (k.UndoTo mark r) s x d = (x, d)
cleared_holds k.Quiesce s x d = (x, d)
cleared_holds k.Close s x d = (x, d)

-- THE CALL BEGINS
module _ (x : Session) (c : Call) (y i : List ℕ) (u : Top) where
  pub begins_as : {p : Planned} {j : List ℕ} → p ≡ plan_for x c u → j ≡ ready_in c y i → begun_of p j ≡ begun_turn x c y i u
  unfolding begun_turn
  begins_as {p} {j} e d = ap (λ (q : Planned). begun_of q j) e ∙ ap (λ (l : List ℕ). begun_of (plan_for x c u) l) d

  pub begins_in : {p : Planned} {j : List ℕ} → p ≡ plan_for x c u → j ≡ ready_in c y i → begun_in p j ≡ begun_inbox x c y i u
  unfolding begun_inbox
  begins_in {p} {j} e d = ap (λ (q : Planned). begun_in q j) e ∙ ap (λ (l : List ℕ). begun_in (plan_for x c u) l) d

  pub begins_out : {p : Planned} (o : List ℕ) → p ≡ plan_for x c u → begun_out p o ≡ begun_outbox x c o u
  unfolding begun_outbox
  begins_out o e = ap (λ (q : Planned). begun_out q o) e

  pub begun_left : {m t : List ℕ} {z : Turn} (s : List ℕ) → t ≡ headed_in z.session m → m ≡ cleared_in c s → z ≡ begun_turn x c y i u
      → t ≡ call_left c (begun_turn x c y i u).session s
  begun_left {m} s h e d = h ∙ ap (λ (a : Turn). headed_in a.session m) d ∙ ap (headed_in (begun_turn x c y i u).session) e

  -- where the bytes held a session, they hold the one that the call has begun
  held : (s t : List ℕ) → Writes (cleared_in c s) t (begun_turn x c y i u).session → Keeps s t x (begun_turn x c y i u).session
  unfolding Writes Keeps
  held s t h d =
      let z = cleared_in c s in
      let g = cleared_holds c s x d in
      h (core_in z) (begun_counted x (counted s x d) c y i u) (g.1 ∙ ap value (held_full z g.0 g.1))

  pub begun_held : {m : List ℕ} {z : Turn} (s t : List ℕ) → m ≡ cleared_in c s → z ≡ begun_turn x c y i u → Writes m t z.session
      → Keeps s t x (begun_turn x c y i u).session
  begun_held {m} {z} s t e d h =
      held s t (subst (λ (l : List ℕ). Writes l t (begun_turn x c y i u).session) e (subst (λ (v : Turn). Writes m t v.session) d h))

-- A CALL IN ITS TIME, with all that it must be lent: by what bars it
module _ (x : Session) (c : Call) (y : List ℕ) (u : Top) (s i o w : List ℕ) where
  abbrev turn_by : Failure → Turn
  turn_by z = unless z (begun_turn x c y i u) (λ v. refused_of x v u.count)

  abbrev leaves_by : Failure → After
  leaves_by z = taken (turn_by z) (call_left c (turn_by z).session s) s (unless z (begun_inbox x c y i u) (λ v. i)) (unless z (begun_outbox x c o u) (λ v. o)) w

  pub good_admitted : barred x c ≡ f.Nothing
      → after 0 (call_left c (begun_turn x c y i u).session s) (begun_inbox x c y i u) (begun_outbox x c o u) (turn_in w (begun_turn x c y i u).question (begun_turn x c y i u).undo)
      ≡ admitted_as x c y u s i o w
  unfolding begun_turn
  good_admitted e = sym (ap leaves_by e)

  pub barred_admitted : (v : Refusal) → barred x c ≡ f.By v → after (number_of {A = Unit {0}} (refusal v)) s i o w ≡ admitted_as x c y u s i o w
  barred_admitted v e = sym (ap leaves_by e)

  abbrev next_of : Failure → Session
  next_of z = given_by (turn_by z).refusal (turn_by z).session x

  pub good_keeps : (t : List ℕ) → barred x c ≡ f.Nothing → Keeps s t x (begun_turn x c y i u).session → Keeps s t x (admitted_next x c y i u)
  unfolding Keeps begun_turn
  good_keeps t e h d = h d ∙ ap (λ (z : Failure). value (next_of z)) (sym e)

  pub barred_keeps : (v : Refusal) → barred x c ≡ f.By v → Keeps s s x (admitted_next x c y i u)
  unfolding Keeps
  barred_keeps v e d = d ∙ ap (λ (z : Failure). value (next_of z)) (sym e)

as_was : (s : List ℕ) (x : Session) → Keeps s s x x
unfolding Keeps
as_was s x d = d

-- THE CALL, by whether it is the time for it, whether there is room for what it says, and whether enough is lent
admits : {A : Type 0} (time room : Bool) (good short wrong : A) → time ≡ true → room ≡ true → in_time time room good short wrong ≡ good
admits time room good short wrong e d = ap (λ t. in_time t room good short wrong) e ∙ ap (λ r. in_time true r good short wrong) d

module _ (x : Session) (c : Call) (y : List ℕ) (u : Top) (s i o w : List ℕ) where
  abbrev turn : Turn
  turn = call_of x c y i o u

  abbrev takes : Turn → (i' o' : List ℕ) → After
  takes t i' o' = taken t (call_left c t.session s) s i' o' w

  abbrev all : Bool → After
  all b = turned b turn (call_left c turn.session s) (call_in x c y i o u) (call_out x c y i o u) s i o w

  pub late_known : callable x c ≡ false → after 20 s i o w ≡ call_known x c y u s i o w
  unfolding call_known
  late_known e = sym (ap all e)

  pub short_known : callable x c ≡ true → ltb (length w) 40 ≡ true → after 21 s i o w ≡ call_known x c y u s i o w
  unfolding call_known
  short_known e d = sym (ap all e ∙ ap (λ (b : Bool). pick b (after 21 s i o w) (takes turn (call_in x c y i o u) (call_out x c y i o u))) d)

  -- the turn is this one
  module _ (t : Turn) (i' o' : List ℕ) (e : callable x c ≡ true) (d : ltb (length w) 40 ≡ false) where
    known : turn ≡ t → call_in x c y i o u ≡ i' → call_out x c y i o u ≡ o' → takes t i' o' ≡ call_known x c y u s i o w
    unfolding call_known
    known a b g =
        sym (ap (λ (v : Turn). takes v (call_in x c y i o u) (call_out x c y i o u)) a ∙ ap (λ (l : List ℕ). takes t l (call_out x c y i o u)) b ∙ ap (λ (l : List ℕ). takes t i' l) g)
        ∙ in_time_lem turn (call_left c turn.session s) (call_in x c y i o u) (call_out x c y i o u) s i o w e d

    keeps-as : (z : List ℕ) → turn ≡ t → Keeps s z x (given_by t.refusal t.session x) → Keeps s z x (call_next c y u i o w x)
    unfolding Keeps call_next
    keeps-as z a h g =
        h g
        ∙ ap value (sym (ap (λ (b : Bool). next_by b (ltb (length w) 40) turn x) e ∙ ap (λ (b : Bool). next_by true b turn x) d ∙ ap (λ (v : Turn). given_by v.refusal v.session x) a))

  -- not enough is lent
  module _ (e : callable x c ≡ true) (d : ltb (length w) 40 ≡ false) (h : lent_for c y i o u ≡ false) where
    pub unlent-known : after 21 s i o w ≡ call_known x c y u s i o w
    unlent-known = let l = too_short x y i o u c e h in known (refused_of x v.Short u.count) i o e d l.turn l.inbox l.outbox

    pub unlent-keeps : Keeps s s x (call_next c y u i o w x)
    unlent-keeps = keeps-as (refused_of x v.Short u.count) i o e d s (too_short x y i o u c e h).turn (as_was s x)

  -- all is
  module _ (e : callable x c ≡ true) (d : ltb (length w) 40 ≡ false) (h : lent_for c y i o u ≡ true) where
    is-admitted : turn ≡ admitted x c y i u
    is-admitted = admits (callable x c) (lent_for c y i o u) (admitted x c y i u) (refused_of x v.Short u.count) (refused_of x v.Wrong u.count) e h

    pub admitted-known : admitted_as x c y u s i o w ≡ call_known x c y u s i o w
    admitted-known =
        known (admitted x c y i u) (admitted_in x c y i u) (admitted_out x c o u) e d is-admitted
        (admits (callable x c) (lent_for c y i o u) (admitted_in x c y i u) i i e h)
        (admits (callable x c) (lent_for c y i o u) (admitted_out x c o u) o o e h)

    pub admitted-keeps : (z : List ℕ) → Keeps s z x (admitted_next x c y i u) → Keeps s z x (call_next c y u i o w x)
    admitted-keeps z g = keeps-as (admitted x c y i u) (admitted_in x c y i u) (admitted_out x c o u) e d z is-admitted g

-- THE HEAD that is read of bytes that hold a session: they hold the one of that head, and of what stands behind it
pub head_held : (s : List ℕ) (x : Session) (h : Core) → decode_of s ≡ value x → h ≡ head_in s → decode_of s ≡ value (full h (behind_in s))
head_held s x h d e =
    let core : head_in s ≡ core_in s = ap (λ (b : Bool). pick b (core_of fresh) (core_in s)) (le-ltb (length s) state_bytes (given s x d).enough) in
    d ∙ ap value (held_full s x d) ∙ ap (λ (v : Core). value (full v (behind_in s))) (sym (e ∙ core))
