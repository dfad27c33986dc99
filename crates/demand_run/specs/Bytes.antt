-- Demand 3 over C linkage (demand_abi/specs/Linked.antt) is not empty either: the stories of
-- Run.antt go on bytes that `hca_fresh` has written, through `hca_call` and `hca_answer`, each of
-- which gives 0. `hca_question` tells when a call has returned, and `hca_result` then tells the
-- words that stand here. There is one premise, `Promise`: what `Linked` takes at each event
-- (`holds`), the second half of the contracts of `hca_call` and `hca_answer`, which linkage proves
-- of arguments of their types. The theorem is `bytes_not_empty` of proofs/Bytes.antt.
use Rattle.std.specs.Prelude.{ℕ, ◌<◌, ◌^◌, List, [], ◌∷◌, ◌≡◌, length, get_or, replicate}
use Rattle.fields.specs.Outcome.{value}
use Rattle.words.specs.Places.{state_bytes}
use Rattle.words_session.specs.Image.{decode_of}
use Rattle.results.specs.Results.{refused_words}
use Rattle.pci.specs.declared.Refusal.{Refusal}
use Rattle.session.specs.declared.Session.{Session}
use Rattle.undo.specs.List.{undo_of, none as noRecord}
use Rattle.undo.specs.declared.Undo.{Undo}
use Rattle.abi.specs.Turns.{fresh_in}
use Rattle.abi.specs.Kept.{Holds}
use Rattle.abi.specs.Readers.{given, question, result}
use Rattle.card_run.specs.Can.{Slice}
use Rattle.demand_abi.specs.Linked.{AbiCall, hca_call, hca_answer, AbiEvent, leaves, next, UndoSized, AbiStand, AbiStep, AbiStart}

-- ARGUMENTS OF THEIR TYPES, those of linkage/src/lib.rt; and no slice is so long that all of them
-- have no room in one memory
abbrev pub TypedCall : AbiCall → Type 0
TypedCall (hca_call j op m n x y) = (j < 2 ^ 32) × (op < 2 ^ 16) × (m < 2 ^ 8) × (n < 2 ^ 32) × (x < 2 ^ 64) × Slice y
TypedCall (hca_answer j a b r) = (j < 2 ^ 32) × (a < 2 ^ 64) × (b < 2 ^ 64) × Slice r

pub record TypedUndo (u : Undo) : Type 0 where
  pub op : u.op < 2 ^ 16
  pub sized : UndoSized u

pub record TypedList (l : List Undo) (n : ℕ) : Type 0 where
  pub records : (i : ℕ) → TypedUndo (get_or l i noRecord)
  pub long : length l < 2 ^ 32
  pub count : n < 2 ^ 64

pub record TypedEvent (e : AbiEvent) : Type 0 where
  pub call : TypedCall e.call
  pub inbox : Slice e.inbox
  pub outbox : Slice e.outbox
  pub list : TypedList e.list e.count
  pub out : Slice e.out

-- THE PREMISE: for such arguments, bytes that held a session hold what the call has made of it
abbrev pub Promise : Type 0
Promise = (state : List ℕ) (e : AbiEvent) → Slice state → TypedEvent e → Holds state (leaves state e).state (next e)

-- AN EVENT THAT IS TAKEN: the bytes hold a session, and the call gives 0
pub record AbiAccepts (x : AbiStand) (e : AbiEvent) (y : AbiStand) : Type 1 where
  pub session : Session
  pub held : decode_of x.state ≡ value session
  pub step : AbiStep x session e y
  pub code : (leaves x.state e).code ≡ 0

-- answers, one after the other
abbrev pub IsHcaAnswer : AbiCall → Type 0
IsHcaAnswer (hca_call j op m n x y) = ⊥
IsHcaAnswer (hca_answer j a b r) = Unit {0}

abbrev pub AbiAnswersRun : List AbiEvent → AbiStand → AbiStand → Type 1
AbiAnswersRun [] x y = x ≡ y
AbiAnswersRun (e ∷ es) x y = (m : AbiStand) × AbiAccepts x e m × IsHcaAnswer e.call × AbiAnswersRun es m y

-- they lead to bytes of which hca_question tells that nothing is asked
pub record AbiReturns (x : AbiStand) : Type 1 where
  pub events : List AbiEvent
  pub end : AbiStand
  pub run : AbiAnswersRun events x end
  pub returned : (w : List ℕ) → question end.state w ≡ given 4 w (0 ∷ 0 ∷ 0 ∷ 0 ∷ [])

-- A STORY, chapter by chapter: the numbers of an hca_call, the undo records that are lent with it,
-- and what the five words of hca_result are when the call has returned
pub record AbiChapter : Type 1 where
  pub kind : ℕ
  pub op : ℕ
  pub op_mod : ℕ
  pub in_mod : ℕ
  pub value : ℕ
  pub list : List Undo
  pub count : ℕ
  pub result : List ℕ → Type 0

abbrev pub AbiBegins : AbiChapter → AbiEvent → Type 0
AbiBegins c e =
    (input : List ℕ) × (e.call ≡ hca_call c.kind c.op c.op_mod c.in_mod c.value input)
    × (e.list ≡ c.list) × (e.count ≡ c.count)

abbrev pub Reads : AbiChapter → (state : List ℕ) → Type 0
Reads c s = (ws : List ℕ) × c.result ws × ((w : List ℕ) → result s w ≡ given 5 w ws)

-- each call is taken, and returns so
abbrev pub AbiDoes : List AbiChapter → AbiStand → Type 1
AbiDoes [] x = Unit {1}
AbiDoes (c ∷ l) x =
    (e : AbiEvent) × (m : AbiStand) × AbiBegins c e × AbiAccepts x e m
    × (r : AbiReturns m) × Reads c r.end.state × AbiDoes l r.end

-- THE CHAPTERS. A call with no undo records, by its kind and value
abbrev pub simple : (kind value : ℕ) → (List ℕ → Type 0) → AbiChapter
simple k v r = record { kind = k; op = 0; op_mod = 0; in_mod = 0; value = v; list = []; count = 0; result = r }

-- an opening is good, or fails, with this number for its closing: 0 clean, 1 by the reset, 2 all is
-- kept
abbrev pub hca_opens : AbiChapter
hca_opens = simple 0 0 (λ w. w ≡ 2 ∷ 0 ∷ 0 ∷ 0 ∷ 0 ∷ [])

abbrev pub hca_fails : ℕ → AbiChapter
hca_fails n = simple 0 0 (λ w. (y : Refusal) × (w ≡ refused_words 3 y n))

-- a buffer of two pages is lent, NOP is good, one record is undone
abbrev pub hca_lends : AbiChapter
hca_lends = simple 6 5000 (λ w. (handle dev : ℕ) × (w ≡ 6 ∷ handle ∷ dev ∷ 2 ∷ 0 ∷ []))

abbrev pub hca_commands : AbiChapter
hca_commands = record {
  kind = 1;
  op = 0x031;
  op_mod = 0;
  in_mod = 0;
  value = 0;
  list = [];
  count = 0;
  result = λ w. (imm us : ℕ) × (w ≡ 5 ∷ imm ∷ us ∷ 0 ∷ 0 ∷ []);
}

abbrev pub hca_undoes : AbiChapter
hca_undoes = record {
  kind = 7;
  op = 0;
  op_mod = 0;
  in_mod = 0;
  value = 0;
  list = undo_of 0x031 0 0 0 ∷ [];
  count = 1;
  result = λ w. w ≡ 2 ∷ 0 ∷ 0 ∷ 0 ∷ 0 ∷ [];
}

abbrev pub hca_quiesces : AbiChapter
hca_quiesces = simple 8 0 (λ w. w ≡ 2 ∷ 0 ∷ 0 ∷ 0 ∷ 0 ∷ [])

abbrev pub hca_closes : ℕ → AbiChapter
hca_closes n = simple 9 0 (λ w. w ≡ 4 ∷ 0 ∷ 0 ∷ 0 ∷ n ∷ [])

-- THE STATEMENT: the seven stories of `NotEmpty`
pub record BytesStories : Type 1 where
  pub start : AbiStand
  pub bytes : start.state ≡ fresh_in (replicate state_bytes 0)
  pub fresh : AbiStart start
  pub good : AbiDoes (hca_opens ∷ hca_lends ∷ hca_commands ∷ hca_undoes ∷ hca_closes 0 ∷ []) start
  pub reset : AbiDoes (hca_opens ∷ hca_closes 1 ∷ []) start
  pub kept : AbiDoes (hca_opens ∷ hca_closes 2 ∷ []) start
  pub quiesced : AbiDoes (hca_opens ∷ hca_quiesces ∷ hca_closes 1 ∷ []) start
  pub refused : AbiDoes (hca_fails 0 ∷ []) start
  pub undone : AbiDoes (hca_fails 1 ∷ []) start
  pub abandoned : AbiDoes (hca_fails 2 ∷ []) start

abbrev pub NotEmptyBytes : Type 1
NotEmptyBytes = Promise → BytesStories
