-- WHAT AN ANSWER THAT IS REFUSED LEAVES. Document 01: "20 answer of the wrong kind, or call at the wrong time", "21 slice too short, or mailbox not 4,096 bytes", "20 and
-- 21 leave a running session and its open question too", "Several at one call: 20, 21".
use Prim.Native.Nat.{ℕ}
use mathlib.Core.Bool.{Bool, true, false, ◌&&◌}
use mathlib.Core.List.{List}
use mathlib.Core.Path.{◌≡◌, refl, ap, sym, ◌∙◌}
use native.Mathlib.Omega.{arith}
use Rattle.pci.specs.Suits.{suits_of}
use Rattle.pci.specs.declared.Answer.{Answer}
use Rattle.pci.specs.declared.Refusal.{Refusal}
use Rattle.pci.specs.declared.Refusal.TheVariants as x
use Rattle.work.specs.Work.{work_step_of}
use Rattle.work.specs.declared.Work.{Work}
use Rattle.work.specs.declared.Ending.{Ending}
use Rattle.work.specs.declared.Ending.TheVariants as e
use Rattle.session.specs.declared.Top.{Top}
use Rattle.session.specs.declared.Failure.{Failure}
use Rattle.session.specs.declared.Failure.TheVariants as f
use Rattle.session.specs.declared.Session.{Session}
use Rattle.fw_plan.specs.Calls.{booked_of, asks_of, is_session, is_lent, answerable, in_time, step_turn, step_of, step_in, step_out, refused_of, answer_of, answer_in, answer_out}
use Rattle.fw_plan.specs.declared.Turn.{Turn}

and_false : (b : Bool) → b && false ≡ false
and_false true = refl
and_false false = refl

-- 20 where the time is not there, whatever was lent; 21 where it is, and too little was lent
pub no_time : {A : Type 0} (time room : Bool) (good short wrong : A) → time ≡ false → in_time time room good short wrong ≡ wrong
no_time time room good short wrong e = ap (λ t. in_time t room good short wrong) e

pub no_room : {A : Type 0} (time room : Bool) (good short wrong : A) → time ≡ true → room ≡ false → in_time time room good short wrong ≡ short
no_room time room good short wrong e d = ap (λ t. in_time t room good short wrong) e ∙ ap (λ r. in_time true r good short wrong) d

module _ (s : Session) (a : Answer) (resource i o : List ℕ) (top : Top) where
  -- the answer was refused, and everything is as it was
  pub record Left (w : Refusal) : Type 0 where
    pub turn : answer_of s a resource i o top ≡ refused_of s w top.count
    pub inbox : answer_in s a resource i o top ≡ i
    pub outbox : answer_out s a resource i o top ≡ o

  -- an answer of the wrong kind is 20, also where a mailbox is too short
  pub wrong_kind : suits_of (asks_of s) a ≡ false → Left x.Wrong
  wrong_kind e =
      let late = ap (λ b. is_session s && b) e ∙ and_false (is_session s) in
      record {
        turn = no_time (answerable s a) (is_lent i o top) (step_of s a resource i o top) (refused_of s x.Short top.count) (refused_of s x.Wrong top.count) late;
        inbox = no_time (answerable s a) (is_lent i o top) (step_in s a resource i o top) i i late;
        outbox = no_time (answerable s a) (is_lent i o top) (step_out s a resource o top) o o late;
      }

  -- a right one with a mailbox that has not 4,096 bytes, or with more than 256 undo records, is 21
  pub too_short : answerable s a ≡ true → is_lent i o top ≡ false → Left x.Short
  too_short e d =
      record {
        turn = no_room (answerable s a) (is_lent i o top) (step_of s a resource i o top) (refused_of s x.Short top.count) (refused_of s x.Wrong top.count) e d;
        inbox = no_room (answerable s a) (is_lent i o top) (step_in s a resource i o top) i i e d;
        outbox = no_room (answerable s a) (is_lent i o top) (step_out s a resource o top) o o e d;
      }

-- A turn that was not refused says so; so one that was refused is none of them
abbrev is_by : Failure → ℕ
is_by f.Nothing = 0
is_by (f.By w) = 1

pub not_refused : (w : Refusal) → f.Nothing ≡ f.By w → ⊥
not_refused w h = let z : ◌≡◌ {A = ℕ} 0 1 = ap is_by h in omega arith

-- what a refused call leaves of a slice, where the good one writes it
pub left_of : (time room : Bool) (good short wrong : Turn) (s' s : List ℕ) (w : Refusal) → good.refusal ≡ f.Nothing → (in_time time room good short wrong).refusal ≡ f.By w → in_time time room s' s s ≡ s
left_of true true good short wrong s' s w g h = absurd (not_refused w (sym g ∙ h))
left_of true false good short wrong s' s w g h = refl
left_of false true good short wrong s' s w g h = refl
left_of false false good short wrong s' s w g h = refl

stepped : (s : Session) (a : Answer) (y : Work) (i o : List ℕ) (top : Top) (n : Ending) → (step_turn s a y i o top n).refusal ≡ f.Nothing
stepped s a y i o top e.Going = refl
stepped s a y i o top (e.Ended z) = refl

step_good : (s : Session) (a : Answer) (r i o : List ℕ) (top : Top) → (step_of s a r i o top).refusal ≡ f.Nothing
unfolding step_of
step_good s a r i o top = stepped (booked_of s a) a (work_step_of s.work a r).work i o top (work_step_of s.work a r).ending

-- AN ANSWER THAT IS REFUSED leaves both mailboxes
pub answer_left_lem : (s : Session) (a : Answer) (r i o : List ℕ) (top : Top) (w : Refusal) → (answer_of s a r i o top).refusal ≡ f.By w → (answer_in s a r i o top ≡ i) × (answer_out s a r i o top ≡ o)
answer_left_lem s a r i o top w h = (
  left_of (answerable s a) (is_lent i o top) (step_of s a r i o top) (refused_of s x.Short top.count) (refused_of s x.Wrong top.count) (step_in s a r i o top) i w (step_good s a r i o top) h,
  left_of (answerable s a) (is_lent i o top) (step_of s a r i o top) (refused_of s x.Short top.count) (refused_of s x.Wrong top.count) (step_out s a r o top) o w (step_good s a r i o top) h,
)
