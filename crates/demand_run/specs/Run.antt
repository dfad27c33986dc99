-- Demand 3 is not empty. No call is ever stuck: from every stand that a fresh session can come to,
-- some events lead to where the call that runs has returned. And from one fresh session, on a card
-- and a host that keep the rules, every call can be taken and return with a good result, and both
-- an opening and a close with each bad one: so (b) and (c) are due, in all forms.
use Rattle.std.specs.Prelude.{ℕ, true, false, List, [], ◌∷◌, ◌≡◌}
use Rattle.dma.specs.declared.Buffer.{Buffer}
use Rattle.pci.specs.declared.Refusal.{Refusal}
use Rattle.session.specs.Session.{slot_at, in_slot}
use Rattle.session.specs.declared.Top.{Top}
use Rattle.session.specs.declared.Books.{Books}
use Rattle.session.specs.declared.Form.TheVariants as fm
use Rattle.session.specs.declared.Gave.TheVariants as v
use Rattle.session.specs.declared.Failure.TheVariants as f
use Rattle.session.specs.declared.Closing.{Closing}
use Rattle.session.specs.declared.Closing.TheVariants as z
use Rattle.fw_plan.specs.Calls.{asks_of, outcome_of}
use Rattle.fw_plan.specs.declared.Outcome.{Outcome}
use Rattle.fw_plan.specs.declared.Outcome.TheVariants as u
use Rattle.calls_plan.specs.declared.Call.{Call}
use Rattle.calls_plan.specs.declared.Call.TheVariants as k
use Rattle.client_plan.specs.declared.Request.{Request}
use Rattle.card_run.specs.Can.{Slice, SizedAnswer, no_undo, Whole}
use Rattle.demand.specs.Events.{Input, call_make, call_answer, Event, turn, Stand, lent_with, Step}
use Rattle.demand.specs.Demand.{Start, has_returned}

-- the events, one after the other
abbrev pub Run : List Event → Stand → Stand → Type 1
Run [] x y = x ≡ y
Run (e ∷ es) x y = (m : Stand) × Step x e m × Run es m y

-- AN EVENT THAT IS TAKEN: bytes and numbers of their types, whole mailboxes and an undo list
abbrev pub OfTypes : Input → Type 0
OfTypes (call_make c y) = Slice y
OfTypes (call_answer a r) = SizedAnswer a × Slice r

pub record Accepts (x : Stand) (e : Event) (y : Stand) : Type 1 where
  pub step : Step x e y
  pub taken : (turn x.session e).refusal ≡ f.Nothing
  pub typed : OfTypes e.call
  pub lent : Whole (lent_with e)

-- answers, one after the other
abbrev pub IsAnswer : Input → Type 0
IsAnswer (call_make c y) = ⊥
IsAnswer (call_answer a r) = Unit {0}

abbrev pub AnswersRun : List Event → Stand → Stand → Type 1
AnswersRun [] x y = x ≡ y
AnswersRun (e ∷ es) x y = (m : Stand) × Accepts x e m × IsAnswer e.call × AnswersRun es m y

-- they lead to a stand where nothing is asked, and these calls were taken
pub record Returns (x : Stand) (l : List Call) : Type 1 where
  pub events : List Event
  pub end : Stand
  pub run : AnswersRun events x end
  pub returned : has_returned (asks_of end.session) ≡ true
  pub calls : end.calls ≡ l

-- NO CALL IS EVER STUCK
abbrev pub Finishes : Type 1
Finishes = (x : Stand) → Start x → (es : List Event) (y : Stand) → Run es x y → Returns y y.calls

-- A STORY, chapter by chapter: a call, the undo list that is lent with it, and what hca_result
-- tells when the call has returned, by the books as they are then
pub record Chapter : Type 1 where
  pub call : Call
  pub undo : Top
  pub result : Books → Outcome → Type 0

-- the event is the call
abbrev pub Begins : Chapter → Event → Type 0
Begins c e = (input : List ℕ) × (e.call ≡ call_make c.call input) × (e.undo ≡ c.undo)

-- each call is taken, and returns so
abbrev pub Does : List Chapter → Stand → Type 1
Does [] x = Unit {1}
Does (c ∷ l) x =
    (e : Event) × (m : Stand) × Begins c e × Accepts x e m
    × (r : Returns m (c.call ∷ x.calls)) × c.result r.end.session.books (outcome_of r.end.session) × Does l r.end

-- THE CHAPTERS. An opening is good, or fails with this result of its closing
abbrev pub opens : Chapter
opens = record { call = k.Open; undo = no_undo; result = λ b o. o ≡ u.Opened v.Nothing }

abbrev pub fails : Closing → Chapter
fails c = record { call = k.Open; undo = no_undo; result = λ b o. (y : Refusal) × (o ≡ u.Failed y c) }

-- a buffer of two pages is lent: the result tells its slot, which has it
abbrev pub lends : Chapter
lends =
    record {
      call = k.Lend 5000;
      undo = no_undo;
      result = λ b o. (i : ℕ) × (y : Buffer) × (o ≡ u.Opened (v.Lent i)) × (in_slot (slot_at b.lists.slots i) ≡ y ∷ []) × (y.pages ≡ 2);
    }

-- a command is good: NOP
abbrev pub nop : Request
nop = record { form = fm.Imm; op = 0x031; op_mod = 0; in_mod = 0; in_param = 0 }

abbrev pub commands : Chapter
commands = record { call = k.Command nop; undo = no_undo; result = λ b o. (value us : ℕ) × (o ≡ u.Opened (v.Command value us)) }

-- all is undone, and one record is on the list: its command was good
abbrev pub one_undo : Top
one_undo = record { count = 1; op = 0x031; op_mod = 0; in_mod = 0; in_param = 0 }

abbrev pub undoes : Chapter
undoes = record { call = k.UndoTo 0 false; undo = one_undo; result = λ b o. o ≡ u.Opened v.Nothing }

abbrev pub quiesces : Chapter
quiesces = record { call = k.Quiesce; undo = no_undo; result = λ b o. o ≡ u.Opened v.Nothing }

abbrev pub closes : Closing → Chapter
closes c = record { call = k.Close; undo = no_undo; result = λ b o. o ≡ u.Closed c }

-- THE STATEMENT
pub record NotEmpty : Type 1 where
  pub start : Stand
  pub fresh : Start start
  pub inbox : Slice start.inbox
  -- every call is good
  pub good : Does (opens ∷ lends ∷ commands ∷ undoes ∷ closes z.Clean ∷ []) start
  -- a command of the closing fails and the reset is good, or fails too
  pub reset : Does (opens ∷ closes z.Reset ∷ []) start
  pub kept : Does (opens ∷ closes z.Kept ∷ []) start
  -- a quiesced session closes by the reset
  pub quiesced : Does (opens ∷ quiesces ∷ closes z.Reset ∷ []) start
  -- an opening fails before it took a page; or with the firmware area mapped, and the reset is
  -- good, or fails too
  pub refused : Does (fails z.Clean ∷ []) start
  pub undone : Does (fails z.Reset ∷ []) start
  pub abandoned : Does (fails z.Kept ∷ []) start
