-- DEMAND 3. "For every list of a session's calls (open, client command, lend, undo, quiesce, close,
-- .. and each answer to a question, refused ones included) from a fresh session, for every card
-- that keeps document 01's card rules, whatever state it starts in and whatever it replies,
-- whichever bus calls fail, and for every host that never hands out a page, a handle or a device
-- address still in use, this holds after each call:
-- (a) no page was given back while the card may use it;
-- (b) from a good opening until a close or quiesce runs, the card's ICM map is exactly the mapped
--     ranges of the layout, each card page on its own host page; and
-- (c) when an opening has failed or a close has returned its result, every page handed over has
--     been given back exactly once for each handing over and the card may use none of them, or the
--     session says that all not given back before are kept, and closing gave none back."
-- What is due is told by the calls that were taken, by what was asked and answered, and by whether
-- the last call has returned, never by what the session says of itself. By its result alone it says
-- whether an opening was good, what a lend gave, and whether pages are kept.
-- The theorem is `demand` of proofs/Demand.antt. The definitions, in the order of reading:
--   card/specs/Card.antt              the card rules and the host rules; `MayUse`, `Ours`, `Clear`,
--                                     `Allowed`
--   card/specs/Owns.antt              `Apart`, `Owns`, `InOrder`
--   card_calls/specs/SafeCourse.antt  `Typed`, `Sized`, `Lendable`: what is lent and called has its
--                                     types' widths
--   card_calls/specs/Ranges.antt      `OnRange`, `InRanges`, `Capped`, `Accepted`, `AsLaid`
--   card_calls/specs/Holding.antt     `InSlot`, `Boxes` alone
--   demand/specs/Events.antt          `Input`, `Event`, `Stand`, `Step`
--   this file
-- and of the code's definitions: session's `fresh`, `slot_at`, `icm_at`, `buffer_of`, `is_held`, `inbox_of`,
-- `outbox_of`, `named`; calls' `call_of`, `call_in`, which say when a call is taken; fw's `answer_of`,
-- `answer_in`, `asks_of`, `outcome_of` (what hca_result tells); pci's `reply_of`; reply's `capability_of`;
-- layout's `profile_of` with its ranges; opening's `layout_in`, `range_at`; dma's `pages_for`, `is_page`,
-- `ends_within`.
-- That it is not empty: demand_run/specs/Run.antt. The same on the bytes of C linkage:
-- demand_abi/specs/Linked.antt.
use Rattle.std.specs.Prelude.{ℕ, ◌<◌, Bool, true, false, List, [], ◌∷◌, ◌⊎◌, ◌↔◌, ◌≡◌}
use Rattle.std.proofs.Math.Option.{Option, some, none}
use Rattle.dma.specs.declared.Buffer.{Buffer}
use Rattle.pci.specs.Script.{Ask}
use Rattle.pci.specs.declared.Question.{Question}
use Rattle.pci.specs.declared.Question.TheVariants as q
use Rattle.session.specs.Session.{fresh, icm_at, buffer_of, named}
use Rattle.session.specs.declared.Books.{Books}
use Rattle.session.specs.declared.Info.{Info}
use Rattle.session.specs.declared.Closing.{Closing}
use Rattle.session.specs.declared.Closing.TheVariants as c
use Rattle.fw_plan.specs.Calls.{asks_of, outcome_of}
use Rattle.fw_plan.specs.declared.Outcome.{Outcome}
use Rattle.fw_plan.specs.declared.Outcome.TheVariants as u
use Rattle.calls_plan.specs.declared.Call.{Call}
use Rattle.calls_plan.specs.declared.Call.TheVariants as kn
use Rattle.card.specs.Card.{Hold, back, standing, Host, Ours, World, MayUse, Clear, Allowed}
use Rattle.card.specs.Owns.{hold_of, Apart, Owns, InOrder}
use Rattle.card_calls.specs.Ranges.{InRanges, AsLaid}
use Rattle.card_calls.specs.Holding.{Boxes}
use Rattle.demand.specs.Events.{Event, asked, Stand, Step}

-- (a) "no page was given back while the card may use it". What an event gave back was handed over
--     to this session, with so many pages, and the card could use none of it when the question was put,
--     which is when it was given back. Every giving back is one event's, so this is said of all of
--     them.
abbrev pub GivesBack : (before after : World) → Type 0
GivesBack w v = (h n : ℕ) → v.host.log ≡ back h n ∷ w.host.log → (x : Clear w h) × (x.hold.pages ≡ n)

-- And the question that is open is one that a session may ask, see `Allowed`: "A page is given back
-- by the question that frees it", so this is said before any answer.
abbrev pub QuestionKept : Stand → Type 0
QuestionKept x = (y : Ask) → asked (asks_of x.session) x.inbox ≡ some y → Allowed x.inbox x.world y

-- From the first page on, all that the card may use is this session's own: handed over to it, not
-- given back, and mapped there.
abbrev pub Inside : World → Type 0
Inside w = (w.host.log ≡ []) ⊎ ((d : ℕ) → MayUse w.card d → Ours w.host d)

-- (b) range k's buffer
abbrev pub range_of : Books → ℕ → Buffer
range_of b k = buffer_of (icm_at b.lists.slots k)

pub record Exact (n : Info) (b : Books) (w : World) : Type 1 where
  -- "the mapped ranges of the layout": all fourteen, of the layout of an accepted reply
  pub fourteen : b.lists.ranges ≡ 14
  pub laid : AsLaid n b 14
  -- "the card's ICM map is exactly" these, "page k of each on page k of its buffer"
  pub icm : (x d : ℕ) → w.card.held.icm x d ↔ InRanges b x d
  -- "each card page on its own host page": on one device page, where no other lies
  pub single : (x d e : ℕ) → w.card.held.icm x d → w.card.held.icm x e → d ≡ e
  pub one : (x y d : ℕ) → w.card.held.icm x d → w.card.held.icm y d → x ≡ y
  -- and that is a page of a buffer which stands handed over to this session, is mapped there and
  -- nowhere else, and shares neither handle nor page with another range's
  pub handed : (k : ℕ) → k < 14 → w.host.hand (range_of b k).handle ≡ some (hold_of (range_of b k))
  pub stands : (k : ℕ) → k < 14 → standing (range_of b k).handle w.host.log ≡ some (range_of b k).pages
  pub apart : (j k : ℕ) → j < k → k < 14 → Apart (range_of b j) (range_of b k)
  -- what the rules take for the session's mailboxes are those of its books
  pub boxes : Boxes b w.host

-- (c) "every page handed over has been given back exactly once for each handing over and the card
--     may use none of them"; where nothing was handed over there is none
pub record AllBack (w : World) : Type 1 where
  pub once : InOrder w.host.log
  pub all : (h : ℕ) → standing h w.host.log ≡ none
  pub unused : (w.host.log ≡ []) ⊎ ((d : ℕ) → MayUse w.card d → ⊥)

-- "or the session says that all not given back before are kept, and closing gave none back": the
-- books name all that the session has of the host, which is as it was when the closing began
pub record AllKept (base : ℕ → Option Hold) (b : Books) (w : World) (began : Option Host) : Type 1 where
  pub named : Owns base (named b) w.host
  pub none : (k : Host) → began ≡ some k → w.host ≡ k

abbrev pub EndedBy : (ℕ → Option Hold) → Stand → Closing → Type 1
EndedBy base x c.Clean = AllBack x.world
EndedBy base x c.Reset = AllBack x.world
EndedBy base x c.Kept = AllKept base x.session.books x.world x.began

pub record Nothing : Type 1 where

pub record Never : Type 1 where
  pub never : ⊥

-- a close has returned: its result says how it went
abbrev pub Closed : (ℕ → Option Hold) → Stand → Outcome → Type 1
Closed base x u.Fresh = Never
Closed base x u.Running = Never
Closed base x (u.Opened y) = Never
Closed base x (u.Failed y k) = EndedBy base x k
Closed base x (u.Closed k) = EndedBy base x k

-- an opening has returned: it was good, or it has failed
abbrev pub Opened : (ℕ → Option Hold) → Stand → Outcome → Type 1
Opened base x u.Fresh = Never
Opened base x u.Running = Never
Opened base x (u.Opened y) = Exact x.session.info x.session.books x.world
Opened base x (u.Failed y k) = EndedBy base x k
Opened base x (u.Closed k) = EndedBy base x k

-- no quiesce since the opening
abbrev pub NoQuiesce : List Call → Type 0
NoQuiesce [] = Unit {0}
NoQuiesce (kn.Open ∷ l) = Unit {0}
NoQuiesce (kn.Command y ∷ l) = NoQuiesce l
NoQuiesce (kn.Lend bytes ∷ l) = NoQuiesce l
NoQuiesce (kn.UndoTo mark r ∷ l) = NoQuiesce l
NoQuiesce (kn.Quiesce ∷ l) = ⊥
NoQuiesce (kn.Close ∷ l) = NoQuiesce l

-- nothing is asked any more
abbrev pub has_returned : Question → Bool
has_returned (q.ConfigRead16 o) = false
has_returned (q.ConfigRead32 o) = false
has_returned (q.ConfigWrite16 o v) = false
has_returned (q.ConfigWrite32 o v) = false
has_returned (q.RegRead b o) = false
has_returned (q.RegWrite b o v) = false
has_returned (q.Attributes o v) = false
has_returned (q.Resource b) = false
has_returned (q.Stall t) = false
has_returned (q.Allocate n) = false
has_returned (q.Map k n) = false
has_returned (q.Unmap k) = false
has_returned (q.Free k n) = false
has_returned q.Fence = false
has_returned q.Finished = true

-- WHAT IS DUE, by the calls that were taken, newest first, and by whether the last one has
-- returned. While an opening, a quiesce or a close runs, and after a quiesce, it is (a) alone.
abbrev pub Due : (ℕ → Option Hold) → List Call → (returned : Bool) → Stand → Type 1
Due base [] r x = Nothing
Due base (kn.Open ∷ l) false x = Nothing
Due base (kn.Open ∷ l) true x = Opened base x (outcome_of x.session)
Due base (kn.Command y ∷ l) r x = NoQuiesce l → Exact x.session.info x.session.books x.world
Due base (kn.Lend bytes ∷ l) r x = NoQuiesce l → Exact x.session.info x.session.books x.world
Due base (kn.UndoTo mark u ∷ l) r x = NoQuiesce l → Exact x.session.info x.session.books x.world
Due base (kn.Quiesce ∷ l) r x = Nothing
Due base (kn.Close ∷ l) false x = Nothing
Due base (kn.Close ∷ l) true x = Closed base x (outcome_of x.session)

pub record Good (base : ℕ → Option Hold) (x : Stand) : Type 1 where
  pub question : QuestionKept x
  pub inside : Inside x.world
  -- "exactly once for each handing over": so far no more than once, and all its pages
  pub order : InOrder x.world.host.log
  pub due : Due base x.calls (has_returned (asks_of x.session)) x

-- A FRESH SESSION, on any card; the host may have handed out anything before, and none of it to
-- this session
pub record Start (x : Stand) : Type 1 where
  pub session : x.session ≡ fresh
  pub calls : x.calls ≡ []
  pub began : x.began ≡ none
  pub log : x.world.host.log ≡ []
  pub inbox : x.world.host.inbox ≡ none
  pub outbox : x.world.host.outbox ≡ none

-- after each of the events, whatever the world does at each
abbrev pub Always : (ℕ → Option Hold) → List Event → Stand → Type 1
Always base [] x = Good base x
Always base (e ∷ es) x =
    Good base x × ((y : Stand) → Step x e y → GivesBack x.world y.world × Always base es y)

-- THE STATEMENT
abbrev pub Demand : Type 1
Demand = (x : Stand) → Start x → (es : List Event) → Always x.world.host.hand es x
