-- What a call comes to, by its kind; and an answer, by whether the command goes on, and by its kind.
use Prim.Native.Nat.{ℕ}
use mathlib.Core.Bool.{Bool, true, false}
use mathlib.Core.Path.{◌≡◌, refl, ap, sym, ◌∙◌}
use mathlib.Core.List.{List}
use native.Mathlib.Omega.{arith}
use lib.Dec.{eqb}
use Rattle.fields.specs.Outcome.{Outcome, value, refused, pick}
use Rattle.words.specs.Words.{at}
use Rattle.pci.specs.declared.Answer.{Answer}
use Rattle.in_place.specs.InPlace.{next_heard, first_words, ready_for, goes_on, state_after, out_after}
use Rattle.in_place.specs.declared.Next.{Next}
use Rattle.in_place.specs.declared.Next.TheVariants as n
use Rattle.session.specs.declared.Top.{Top}
use Rattle.calls_plan.specs.declared.Call.{Call}
use Rattle.abi.specs.Turns.{After, after, answered}
use Rattle.abi.specs.Calls.{wanted_by, onward_by, answer, heard_by, whole_by}

-- a call of a known kind
pub by_wanted : {z : Outcome Call} (x : Outcome Call) (y : List ℕ) (u : Top) (s i b w : List ℕ) → x ≡ z → wanted_by x y u s i b w ≡ wanted_by z y u s i b w
by_wanted x y u s i b w e = ap (λ (a : Outcome Call). wanted_by a y u s i b w) e

-- an answer of a known kind, by the whole session
pub by_whole : {z : Outcome Answer} (y : Outcome Answer) (r : List ℕ) (u : Top) (s i b w : List ℕ) → y ≡ z → whole_by y r u s i b w ≡ whole_by z r u s i b w
by_whole y r u s i b w e = ap (λ (x : Outcome Answer). whole_by x r u s i b w) e

pub not_so : {A : Type 0} → false ≡ true → A
not_so e = absurd (let z : ◌≡◌ {A = ℕ} 0 1 = ap (λ (b : Bool). pick b 1 0) e in omega arith)

-- an answer of no kind leads nowhere
pub none : (s : List ℕ) (m : ℕ) (vs : List ℕ) (y : Bool) → goes_on (pick y (next_heard (first_words s) (refused m vs)) n.Other) ≡ false
none s m vs true = by (eqb (at (first_words s) 0) 8)
  where
    by : (y : Bool) → goes_on (pick y n.Other n.Other) ≡ false
    by true = refl
    by false = refl
none s m vs false = refl

-- AN ANSWER AS NUMBERS: what comes next is that of the answer that they stand for
module _ (r : List ℕ) (u : Top) (s i b w : List ℕ) where
  abbrev pub Onward : Outcome Answer → Next → Type 0
  Onward h z = z ≡ pick (ready_for s i b u.count w) (next_heard (first_words s) h) n.Other

  -- the command goes on
  pub goes : (h : Outcome Answer) (z : Next) → Onward h z → goes_on z ≡ true → after 0 (state_after z s) i b (out_after z s w u.count) ≡ heard_by h r u s i b w
  unfolding answer
  goes (value a) z e g = sym (ap (λ (y : Bool). pick y (after 0 (state_after z s) i b (out_after z s w u.count)) (answered a r u s i b w)) g) ∙ ap (λ (y : Next). onward_by y a r u s i b w) e
  goes (refused m vs) z e g = not_so (sym (none s m vs (ready_for s i b u.count w)) ∙ ap goes_on (sym e) ∙ g)

  -- it does not
  pub stays : (h : Outcome Answer) (z : Next) → Onward h z → goes_on z ≡ false → whole_by h r u s i b w ≡ heard_by h r u s i b w
  unfolding answer
  stays (value a) z e g = sym (ap (λ (y : Bool). pick y (after 0 (state_after z s) i b (out_after z s w u.count)) (answered a r u s i b w)) g) ∙ ap (λ (y : Next). onward_by y a r u s i b w) e
  stays (refused m vs) z e g = refl
