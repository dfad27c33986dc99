-- WHAT AN ANSWER LEAVES OF THE SLOTS, in place: at most the one slot that the task under way is for is written.
use Rattle.std.specs.Prelude.{ℕ, ◌+◌, Bool, true, false, List, ◌≡◌, ltb, set, Result, Ok, Err}
use Rattle.fields.specs.Outcome.{pick}
use Rattle.pci.specs.Views.{granted_of, mapped_of}
use Rattle.pci.specs.declared.Answer.{Answer}
use Rattle.pci.specs.declared.NoReply.{NoReply}
use Rattle.pci.specs.declared.Question.{Question}
use Rattle.pci.specs.declared.Question.TheVariants as q
use Rattle.session.specs.declared.Area.{Area}
use Rattle.session.specs.declared.Boot.{Boot}
use Rattle.session.specs.declared.Stage.{Stage}
use Rattle.session.specs.declared.Core.{Core}
use Rattle.session.specs.declared.Slot.{Slot}
use Rattle.session.specs.declared.Books.{Books}
use Rattle.session.specs.declared.Session.{Session}
use Rattle.session.specs.Session.{no_slot, bare, mapped_at, unmapped_from, slot_at, INBOX, OUTBOX}
use Rattle.session.specs.Course as c
use Rattle.session.specs.Core.{Behind, behind, full}
use Rattle.behind.specs.Behind.{behind_in, slot_put}
use Rattle.opening_plan.specs.Values.{range_at, place_for}
use Rattle.opening_plan.specs.Plan.{place_boot}
use Rattle.fw_plan.specs.Calls.{wants, booked_by, asks_of, place_at}
use Rattle.booking.specs.declared.Place.{Place}
use Rattle.booking.specs.declared.Place.TheVariants as p

-- a run of pages is handed over, mapped, unmapped or freed
abbrev pub is_deal : Question → Bool
is_deal (q.Allocate n) = true
is_deal (q.Map k n) = true
is_deal (q.Unmap k) = true
is_deal (q.Free k n) = true
is_deal _ = false

-- the slot of a place, as the books have it
abbrev pub left_at : c.Place → Books → List ℕ → List ℕ
left_at c.neither b xs = xs
left_at c.inbox b xs = slot_put INBOX (slot_at b.lists.slots INBOX) xs
left_at c.outbox b xs = slot_put OUTBOX (slot_at b.lists.slots OUTBOX) xs
left_at (c.slot i w) b xs = slot_put i (slot_at b.lists.slots i) xs

-- THE BYTES with the slot that this session's task is for, as the answer to this question leaves it
abbrev pub slot_by : Session → Question → Answer → List ℕ → List ℕ
slot_by x y a xs = pick (is_deal y) (left_at (wants x) (booked_by (wants x) y a x.books) xs) xs

-- where it is the question that is open, that is the slot of `booked_of`
abbrev pub slot_left : Session → Answer → List ℕ → List ℕ
slot_left x a xs = slot_by x (asks_of x) a xs

-- WHAT STANDS BEHIND THE HEAD then: the slots are those of the books
abbrev pub with_slots : List Slot → Behind → Behind
with_slots l b = behind b.reset b.find b.cap b.port1 b.port2 l

abbrev pub booked_in : Session → Question → Answer → Behind → Behind
booked_in x y a b = with_slots (booked_by (wants x) y a x.books).lists.slots b

-- of a head and these bytes
abbrev pub booked_behind : Core → Question → Answer → List ℕ → Behind
booked_behind s y a xs = booked_in (full s (behind_in xs)) y a (behind_in xs)

-- THE CODE'S PLACE of a task beside the definition's; a slot past the last is none
abbrev pub place_of : Place → c.Place
place_of p.Neither = c.neither
place_of p.Inbox = c.inbox
place_of p.Outbox = c.outbox
place_of (p.Slot i v) = c.slot i v

abbrev pub within : c.Place → c.Place
within c.neither = c.neither
within c.inbox = c.inbox
within c.outbox = c.outbox
within (c.slot i v) = pick (ltb i 82) (c.slot i v) c.neither

-- of a range, an area, a stage: what it takes from behind the head is the same with any head
abbrev pub RangePlace : Place → ℕ → Behind → Type 0
RangePlace r i b = (s : Core) → place_of r ≡ within (c.slot (64 + i) (range_at (full s b).info i).virt)

abbrev pub AreaPlace : Place → Area → Behind → Type 0
AreaPlace r a b = (s : Core) → place_of r ≡ within (place_for (full s b).info a)

abbrev pub BootPlace : Place → Boot → Behind → Type 0
BootPlace r k b = (s : Core) → place_of r ≡ within (place_boot k (full s b).info)

abbrev pub StagePlace : Place → Stage → Behind → Type 0
StagePlace r g b = (s : Core) → place_of r ≡ within (place_at g (full s b).info)

-- ONE SLOT after an answer
abbrev pub granted : (virt pages : ℕ) → Result ℕ NoReply → Slot → Slot
granted v n (Ok k) x = bare v k n
granted v n (Err _) x = x

abbrev pub mapped : Result (ℕ × ℕ) NoReply → Slot → Slot
mapped (Ok (address, bytes)) x = mapped_at x address
mapped (Err _) x = x

abbrev pub turned : (virt : ℕ) → Question → Answer → Slot → Slot
turned w (q.Allocate n) a x = granted w n (granted_of a) x
turned w (q.Map k n) a x = mapped (mapped_of a) x
turned w (q.Unmap k) a x = unmapped_from x
turned w (q.Free k n) a x = no_slot
turned w _ a x = x

-- THE BYTES with one slot as an answer leaves it, out of these slots
abbrev pub turned_at : c.Place → Question → Answer → List Slot → List ℕ → List ℕ
turned_at c.neither y a l xs = xs
turned_at c.inbox y a l xs = slot_put INBOX (turned 0 y a (slot_at l INBOX)) xs
turned_at c.outbox y a l xs = slot_put OUTBOX (turned 0 y a (slot_at l OUTBOX)) xs
turned_at (c.slot i w) y a l xs = slot_put i (turned w y a (slot_at l i)) xs

abbrev pub put_at : c.Place → Question → Answer → List ℕ → List ℕ
put_at p y a xs = turned_at p y a (behind_in xs).slots xs

-- and the slots then
abbrev pub turned_slots : c.Place → Question → Answer → List Slot → List Slot
turned_slots c.neither y a l = l
turned_slots c.inbox y a l = set l INBOX (turned 0 y a (slot_at l INBOX))
turned_slots c.outbox y a l = set l OUTBOX (turned 0 y a (slot_at l OUTBOX))
turned_slots (c.slot i w) y a l = set l i (turned w y a (slot_at l i))

abbrev pub turned_behind : c.Place → Question → Answer → List ℕ → Behind
turned_behind p y a xs = with_slots (turned_slots p y a (behind_in xs).slots) (behind_in xs)
