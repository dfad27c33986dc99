-- What the books say of the card while an opening runs, and of an open session between two calls.
use Rattle.std.specs.Prelude.{ℕ, ◌^◌, ◌≤◌, ◌<◌, List, true, false, ◌⊎◌, ◌↔◌, ◌≡◌, length}
use Rattle.std.proofs.Math.Option.{Option, some, none}
use Rattle.dma.specs.Pages.{blocks_in}
use Rattle.dma.specs.declared.Buffer.{Buffer}
use Rattle.dma.specs.declared.Cutter.{Cutter}
use Rattle.session.specs.Session.{icm_at, slot_at, no_slot, buffer_of, is_held, fa_of, aux_of, inbox_of, outbox_of, named, named_from}
use Rattle.session.specs.declared.Slot.{Slot}
use Rattle.session.specs.declared.Lists.{Lists}
use Rattle.session.specs.declared.Books.{Books}
use Rattle.session.specs.declared.Info.{Info}
use Rattle.session.specs.declared.Area.{Area}
use Rattle.session.specs.declared.Area.TheVariants as a
use Rattle.card.specs.Card.{Held, Command, Other, kind, Meets, Hold, Host, World, IsHeld, Carries}
use Rattle.card.specs.Known.{Quiet, Within}
use Rattle.card.specs.Owns.{Owns, InBooks, spot_of}
use Rattle.card_calls.specs.Ranges.{InRanges, AsLaid, AnyIn}

-- WHAT THE CARD HOLDS: exactly the ranges; no more than the areas; nothing lent
abbrev pub OnSlot : Slot → ℕ → Type 0
OnSlot x d = (is_held x ≡ true) × Meets (spot_of (buffer_of x)) d

-- the slot has this buffer
abbrev pub InSlot : Slot → Buffer → Type 0
InSlot x z = (is_held x ≡ true) × (buffer_of x ≡ z)

pub record Knows (b : Books) (g : Held) : Type 1 where
  pub icm : (x d : ℕ) → g.icm x d ↔ InRanges b x d
  pub firmware : (d : ℕ) → g.firmware d → OnSlot (fa_of b) d
  pub auxiliary : (d : ℕ) → g.auxiliary d → OnSlot (aux_of b) d
  pub lent : (d : ℕ) → g.lent d → ⊥

-- the slots: 82; those of the ranges have their buffers, each of fewer than 2^32 pages at an address of 64 bits; those of ranges to come and of buffers to be lent are empty
pub record Slotted (l : Lists) : Type 0 where
  pub room : length l.slots ≡ 82
  pub few : l.ranges ≤ 14
  pub small : (k : ℕ) → k < l.ranges → (icm_at l.slots k).pages < 2 ^ 32
  pub addressed : (k : ℕ) → k < l.ranges → (icm_at l.slots k).virt < 2 ^ 64
  pub held : (k : ℕ) → k < l.ranges → is_held (icm_at l.slots k) ≡ true
  pub free : (k : ℕ) → l.ranges ≤ k → k < 14 → icm_at l.slots k ≡ no_slot
  pub unlent : (k : ℕ) → l.lends ≤ k → k < 64 → slot_at l.slots k ≡ no_slot

abbrev pub Entries : Books → Type 0
Entries b = Slotted b.lists

-- WHILE AN AREA IS MAPPED: what is left to cut is not yet held, and lies where it belongs
abbrev pub Ahead : Area → Books → ℕ → ℕ → Type 0
Ahead a.Fa b x d = OnSlot (fa_of b) d
Ahead a.Aux b x d = OnSlot (aux_of b) d
Ahead (a.Range i) b x d = InRanges b x d

abbrev pub Missing : Area → Cutter → ℕ → ℕ → Type 0
Missing a.Fa k x d = ⊥
Missing a.Aux k x d = ⊥
Missing (a.Range i) k x d = AnyIn (blocks_in 63 k) x d

-- all its mailboxes are posted
abbrev pub Posted : Cutter → Type 0
Posted k = k.left ≡ 0

pub record Partly (e : Area) (b : Books) (k : Cutter) (g : Held) : Type 1 where
  pub lower : (x d : ℕ) → g.icm x d → InRanges b x d
  pub total : (x d : ℕ) → InRanges b x d → g.icm x d ⊎ Missing e k x d
  pub firmware : (d : ℕ) → g.firmware d → OnSlot (fa_of b) d
  pub auxiliary : (d : ℕ) → g.auxiliary d → OnSlot (aux_of b) d
  pub lent : (d : ℕ) → g.lent d → ⊥
  pub ahead : (x d : ℕ) → AnyIn (blocks_in 63 k) x d → Ahead e b x d

-- the mailboxes are held, and the fences go to them
pub record Boxes (b : Books) (k : Host) : Type 0 where
  pub inbox : Buffer
  pub outbox : Buffer
  pub in_held : InSlot (inbox_of b) inbox
  pub out_held : InSlot (outbox_of b) outbox
  pub in_at : k.inbox ≡ some (spot_of inbox)
  pub out_at : k.outbox ≡ some (spot_of outbox)
  pub in_less : inbox.dev < 2 ^ 64
  pub out_less : outbox.dev < 2 ^ 64

-- a command that carries pages of the books alone; and one of no effect beside
abbrev pub Mine : Books → Command → Type 0
Mine b p = (d : ℕ) → Carries p d → InBooks (named b) d

abbrev pub Calm : Books → Command → Type 0
Calm b p = (kind p.opcode ≡ Other) × Mine b p

-- between two commands of an opening
pub record Ready (base : ℕ → Option Hold) (b : Books) (w : World) : Type 1 where
  pub owns : Owns base (named b) w.host
  pub card : Quiet (Knows b) w.card
  pub boxes : Boxes b w.host
  pub entries : Entries b
  pub loud : b.wire.silent ≡ false

-- OPEN: what the card holds is exactly the ranges, no more than the areas, and of lent pages no
-- more than what is lent
abbrev pub lents : Books → List Buffer
lents b = named_from 64 0 b.lists.slots

pub record Uses (b : Books) (g : Held) : Type 1 where
  pub icm : (x d : ℕ) → g.icm x d ↔ InRanges b x d
  pub firmware : (d : ℕ) → g.firmware d → OnSlot (fa_of b) d
  pub auxiliary : (d : ℕ) → g.auxiliary d → OnSlot (aux_of b) d
  pub lent : (d : ℕ) → g.lent d → InBooks (lents b) d

-- the books have the fourteen ranges of the layout, and the card's map is exactly these; a command
-- that may be pending is of no effect
pub record Opened (n : Info) (b : Books) (w : World) : Type 1 where
  pub fourteen : b.lists.ranges ≡ 14
  pub laid : AsLaid n b 14
  pub started : b.started ≡ true
  pub card : Within (Uses b) (Calm b) w.card
  pub quiet : b.wire.running ≡ false → w.card.pending ≡ none

-- what is held lies in the buffers of the books
pub record Lies (b : Books) (g : Held) : Type 1 where
  pub within : (d : ℕ) → IsHeld g d → InBooks (named b) d

-- BETWEEN TWO CALLS on an open session: it is open as above until a quiesce has begun, and broken
-- from its end on
pub record Idle (base : ℕ → Option Hold) (n : Info) (b : Books) (w : World) : Type 1 where
  pub owns : Owns base (named b) w.host
  pub boxes : Boxes b w.host
  pub entries : Entries b
  pub bound : Within (Lies b) (Mine b) w.card
  pub exact : b.wire.silent ≡ false → Opened n b w
  pub broken : b.wire.silent ≡ true → b.wire.broken ≡ true
