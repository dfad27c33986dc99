-- The calls of a session, one after the other, beside the card and the host. Document 01: "Each
-- call gets the session the last one left and, unless refused with 21, its mailboxes; meanwhile
-- only the shell (outbox) and the caller (undo list) write."
use Rattle.std.specs.Prelude.{ℕ, ◌*◌, Bool, true, false, ◌&&◌, List, [], ◌∷◌, ◌++◌, ◌≡◌, eqb}
use Rattle.std.proofs.Math.Option.{Option, some, none}
use Rattle.fields.specs.Outcome.{pick}
use Rattle.hcr.specs.Words.{swap_of}
use Rattle.pci.specs.Script.{Ask, Reply, Spot, reply_of, config_read16, config_read32, config_write16, config_write32, read, write, attributes, resource, stall, allocate, mapped, unmap, free, fence}
use Rattle.pci.specs.declared.Question.{Question}
use Rattle.pci.specs.declared.Question.TheVariants as q
use Rattle.pci.specs.declared.Answer.{Answer}
use Rattle.session.specs.Course.{Lent}
use Rattle.session.specs.declared.Top.{Top}
use Rattle.dma.specs.Buffers.{is_page, ends_within}
use Rattle.dma.specs.declared.Buffer.{Buffer}
use Rattle.session.specs.Session.{slot_at, buffer_of}
use Rattle.session.specs.declared.Books.{Books}
use Rattle.session.specs.declared.Gave.{Gave}
use Rattle.session.specs.declared.Gave.TheVariants as v
use Rattle.session.specs.declared.Failure.{Failure}
use Rattle.session.specs.declared.Failure.TheVariants as f
use Rattle.session.specs.declared.Session.{Session}
use Rattle.fw_plan.specs.Calls.{asks_of, answer_of, answer_in, outcome_of}
use Rattle.fw_plan.specs.declared.Outcome.{Outcome}
use Rattle.fw_plan.specs.declared.Outcome.TheVariants as u
use Rattle.calls_plan.specs.Calls.{call_of, call_in}
use Rattle.calls_plan.specs.declared.Call.{Call}
use Rattle.calls_plan.specs.declared.Call.TheVariants as c
use Rattle.fw_plan.specs.declared.Turn.{Turn}
use Rattle.card.specs.Card.{Settles, Hold, Host, World, WorldStep, Meets, lend_to}
use Rattle.card.specs.Owns.{spot_of}
use Rattle.card_calls.specs.SafeCourse.{Lendable, Sized}

-- THE CALLS
pub data Input : Type 0 where
  call_make : Call → (input : List ℕ) → Input
  call_answer : Answer → (resource : List ℕ) → Input

-- a call with what is lent to it
pub record Event : Type 0 where
  pub call : Input
  pub inbox : List ℕ
  pub outbox : List ℕ
  pub undo : Top

-- what a call gives, and the inbox that it leaves
abbrev pub turn_by : Input → Session → (inbox outbox : List ℕ) → Top → Turn
turn_by (call_make c y) s i o u = call_of s c y i o u
turn_by (call_answer a r) s i o u = answer_of s a r i o u

abbrev pub turn : Session → Event → Turn
turn s e = turn_by e.call s e.inbox e.outbox e.undo

abbrev pub inbox_by : Input → Session → (inbox outbox : List ℕ) → Top → List ℕ
inbox_by (call_make c y) s i o u = call_in s c y i o u
inbox_by (call_answer a r) s i o u = answer_in s a r i o u

abbrev pub inbox_after : Session → Event → List ℕ
inbox_after s e = inbox_by e.call s e.inbox e.outbox e.undo

-- WHAT THE WORLD IS ASKED: a register's own number, and at a fence the bytes of the inbox
abbrev pub asked : Question → (inbox : List ℕ) → Option Ask
asked (q.ConfigRead16 o) i = some (config_read16 o)
asked (q.ConfigRead32 o) i = some (config_read32 o)
asked (q.ConfigWrite16 o v) i = some (config_write16 o v)
asked (q.ConfigWrite32 o v) i = some (config_write32 o v)
asked (q.RegRead b o) i = some (read b o)
asked (q.RegWrite b o v) i = some (write b o (swap_of v))
asked (q.Attributes o v) i = some (attributes o v)
asked (q.Resource b) i = some (resource b)
asked (q.Stall u) i = some (stall u)
asked (q.Allocate n) i = some (allocate n)
asked (q.Map k n) i = some (mapped k n)
asked (q.Unmap k) i = some (unmap k)
asked (q.Free k n) i = some (free k n)
asked q.Fence i = some (fence i)
asked q.Finished i = none

-- A session, the inbox as the last call left it, the card and the host. Beside them, kept by `Step`
-- alone and never seen by the session: the calls that were taken so far, newest first, and, once a
-- closing has begun, the host as it was then.
pub record Stand : Type 1 where
  pub session : Session
  pub inbox : List ℕ
  pub world : World
  pub calls : List Call
  pub began : Option Host

-- nothing is asked: a pending command may end
abbrev pub Rests : World → World → Type 1
Rests w v = Settles w.card v.card × (v.host ≡ w.host)

-- the open question was asked, and this answer says what came of it
abbrev pub Answers : Session → (inbox : List ℕ) → Answer → (resource : List ℕ) → World → World → Type 1
Answers s i a r w v =
    (y : Ask) × (z : Reply y) × (asked (asks_of s) i ≡ some y) × (reply_of y a r ≡ some z) × WorldStep w y z v

abbrev pub HappensBy : Input → Session → (inbox : List ℕ) → World → World → Type 1
HappensBy (call_make c y) s i w v = Rests w v
HappensBy (call_answer a r) s i w v = Answers s i a r w v

-- "an answer refused with 20 or 21 neither reports nor hands over anything"
abbrev pub Happens : Failure → Input → Session → (inbox : List ℕ) → World → World → Type 1
Happens f.Nothing c s i w v = HappensBy c s i w v
Happens (f.By y) c s i w v = Rests w v

-- the inbox that a call must be lent: the one that was left, unless the call is refused
abbrev pub SameBox : Failure → (lent left : List ℕ) → Type 0
SameBox f.Nothing i l = i ≡ l
SameBox (f.By y) i l = Unit {0}

abbrev pub box_left : Failure → (after left : List ℕ) → List ℕ
box_left f.Nothing i l = i
box_left (f.By y) i l = l

-- THE CALLS THAT WERE TAKEN, newest first: a refused one is none of them
abbrev pub calls_by : Failure → Input → List Call → List Call
calls_by f.Nothing (call_make c y) l = c ∷ l
calls_by f.Nothing (call_answer a r) l = l
calls_by (f.By y) c l = l

-- WHEN A CLOSING BEGAN, told by what was called, asked and answered. A close begins with its call.
-- What an opening could not use it gives back at once: a buffer whose map failed, or that was mapped
-- at an address refused with 18 or with other bytes than were wanted. The first other buffer that it
-- asks back begins its own closing.
abbrev pub is_usable : (pages : ℕ) → List Spot → Bool
is_usable n [] = false
is_usable n (s ∷ l) =
    pick ((is_page s.address && ends_within s.address (n * 4096)) && eqb s.bytes (n * 4096)) true
    (is_usable n l)

abbrev pub was_usable : Option Hold → Bool
was_usable none = false
was_usable (some x) = is_usable x.pages (x.mapped ++ x.unmapped)

abbrev pub asks_back : Host → Ask → Bool
asks_back k (config_read16 o) = false
asks_back k (config_read32 o) = false
asks_back k (config_write16 o v) = false
asks_back k (config_write32 o v) = false
asks_back k (read b o) = false
asks_back k (write b o v) = false
asks_back k (attributes o v) = false
asks_back k (resource b) = false
asks_back k (stall u) = false
asks_back k (allocate n) = false
asks_back k (mapped h n) = false
asks_back k (unmap h) = was_usable (k.hand h)
asks_back k (free h n) = was_usable (k.hand h)
asks_back k (fence i) = false

abbrev pub is_close : Call → Bool
is_close c.Open = false
is_close (c.Command y) = false
is_close (c.Lend bytes) = false
is_close (c.UndoTo mark r) = false
is_close c.Quiesce = false
is_close c.Close = true

-- an opening is the last call that was taken
abbrev pub is_opening : List Call → Bool
is_opening [] = false
is_opening (c.Open ∷ l) = true
is_opening (c.Command y ∷ l) = false
is_opening (c.Lend bytes ∷ l) = false
is_opening (c.UndoTo mark r ∷ l) = false
is_opening (c.Quiesce ∷ l) = false
is_opening (c.Close ∷ l) = false

-- the question that was open begins an opening's own closing
abbrev pub tears : List Call → Option Ask → Host → Bool
tears l none k = false
tears l (some q) k = is_opening l && asks_back k q

-- the host as it was when the closing of the last call began, if it has begun; that stays, whatever
-- is asked then
abbrev pub began_once : (tears : Bool) → Host → Option Host → Option Host
began_once b k (some l) = some l
began_once true k none = some k
began_once false k none = none

abbrev pub began_by : Input → List Call → Option Ask → Host → Option Host → Option Host
began_by (call_make c y) l q k z = pick (is_close c) (some k) none
began_by (call_answer a r) l q k z = began_once (tears l q k) k z

abbrev pub began_now : Failure → Input → List Call → Option Ask → Host → Option Host → Option Host
began_now f.Nothing c l q k z = began_by c l q k z
began_now (f.By y) c l q k z = z

-- WHAT IS LENT TO THE CARD: "lent pages until CLOSE_HCA succeeds". A buffer is lent when the result
-- of a lend that was taken gives it to the client, which is the one in the slot that the result tells
abbrev pub buffer_at : Books → ℕ → Buffer
buffer_at b i = buffer_of (slot_at b.lists.slots i)

abbrev pub gave_buffer : Books → Gave → Option Buffer
gave_buffer b v.Nothing = none
gave_buffer b (v.Command y us) = none
gave_buffer b (v.Lent i) = some (buffer_at b i)
gave_buffer b (v.Failed y) = none

abbrev pub given_by : Books → Outcome → Option Buffer
given_by b u.Fresh = none
given_by b u.Running = none
given_by b (u.Opened y) = gave_buffer b y
given_by b (u.Failed y k) = none
given_by b (u.Closed k) = none

abbrev pub lent_by : List Call → Session → Option Buffer
lent_by [] s = none
lent_by (c.Open ∷ l) s = none
lent_by (c.Command y ∷ l) s = none
lent_by (c.Lend bytes ∷ l) s = given_by s.books (outcome_of s)
lent_by (c.UndoTo mark r ∷ l) s = none
lent_by (c.Quiesce ∷ l) s = none
lent_by (c.Close ∷ l) s = none

-- by an event that was not refused, after which these calls were taken
abbrev pub lent_now : Failure → List Call → Session → Option Buffer
lent_now f.Nothing l s = lent_by l s
lent_now (f.By y) l s = none

abbrev pub lends_to : Option Buffer → World → World
lends_to none w = w
lends_to (some b) w = record { card = lend_to (Meets (spot_of b)) w.card; host = w.host }

-- the numbers of a call are those of its type
abbrev pub SizedCall : Call → Type 0
SizedCall c.Open = Unit {0}
SizedCall (c.Command y) = Sized y
SizedCall (c.Lend bytes) = Unit {0}
SizedCall (c.UndoTo mark r) = Unit {0}
SizedCall c.Quiesce = Unit {0}
SizedCall c.Close = Unit {0}

abbrev pub SizedInput : Input → Type 0
SizedInput (call_make c y) = SizedCall c
SizedInput (call_answer a r) = Unit {0}

abbrev pub lent_with : Event → Lent
lent_with e = record { outbox = e.outbox; undo = e.undo }

-- ONE EVENT: any call, refused ones included, with any outbox and any undo list
pub record Step (x : Stand) (e : Event) (y : Stand) : Type 1 where
  pub session : y.session ≡ (turn x.session e).session
  pub lendable : Lendable (lent_with e)
  pub sized : SizedInput e.call
  pub lent : SameBox (turn x.session e).refusal e.inbox x.inbox
  pub left : y.inbox ≡ box_left (turn x.session e).refusal (inbox_after x.session e) x.inbox
  -- the card and the host once the question is answered; then what the call has lent is lent
  pub between : World
  pub happens : Happens (turn x.session e).refusal e.call x.session e.inbox x.world between
  pub world : y.world ≡ lends_to (lent_now (turn x.session e).refusal y.calls y.session) between
  pub calls : y.calls ≡ calls_by (turn x.session e).refusal e.call x.calls
  pub began :
      y.began ≡ began_now (turn x.session e).refusal e.call x.calls (asked (asks_of x.session) e.inbox)
      x.world.host x.began
