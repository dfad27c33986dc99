-- WHAT THE BYTES HOLD THEN: a session with the slots of the books, and all else as it was.
use Prim.Native.Nat.{ℕ, ◌+◌, ◌*◌, ◌≤◌}
use mathlib.Core.Bool.{Bool, true, false}
use mathlib.Core.List.{List}
use mathlib.Core.Path.{◌≡◌, refl, ap, sym, subst, ◌∙◌}
use native.Mathlib.Omega.{arith}
use lib.Dec.{ltb}
use lib.ListN.{length, set}
use lib.Seq.{set_out, set-get_or}
use borrow.Author.Tests.{ltb-true, ltb-false}
use Rattle.std.specs.Prelude.{Result, Ok, Err}
use Rattle.fields.specs.Outcome.{pick}
use Rattle.pci.specs.Views.{granted_of, mapped_of}
use Rattle.pci.specs.declared.Question.{Question}
use Rattle.pci.specs.declared.Question.TheVariants as q
use Rattle.pci.specs.declared.Answer.{Answer}
use Rattle.pci.specs.declared.NoReply.{NoReply}
use Rattle.words.specs.Places.{SLOT, slots_at}
use Rattle.words_books.specs.Coding.{slot_words}
use Rattle.words_books.specs.Fits.{SlotFits}
use Rattle.words_laws.specs.Kept.{Rewrites}
use Rattle.words_laws.proofs.Rewrites.{rewrites_none, rewrites_slot}
use Rattle.session.specs.Session.{no_slot, slot_at, INBOX, OUTBOX}
use Rattle.session.specs.Core.{Behind, full}
use Rattle.session.specs.Course.{Place, neither, inbox, outbox, slot}
use Rattle.session.specs.declared.Core.{Core}
use Rattle.session.specs.declared.Slot.{Slot}
use Rattle.session.specs.declared.Books.{Books}
use Rattle.behind.specs.Behind.{behind_in, put_part, slot_put}
use Rattle.fw_plan.specs.Calls.{wants, granted_books, mapped_books, answers_by, booked_by}
use Rattle.booking.specs.Booking.{is_deal, within, with_slots, booked_behind, granted, mapped, turned, turned_slots, turned_behind}
use Rattle.booking.proofs.Laws.{slots_length}

-- ONE SLOT IS WRITTEN, of any number
by_number : (t : Bool) (s : List ℕ) (i : ℕ) (v : Slot) → SlotFits v → ltb i 82 ≡ t → Rewrites s (slot_put i v s) (with_slots (set (behind_in s).slots i v) (behind_in s))
by_number true s i v fit e = rewrites_slot s i v fit (ltb-true i 82 e)
by_number false s i v fit e =
    let b = behind_in s in
    let n = slots_length s in
    let z = ltb-false i 82 e in
    let many : length (behind_in s).slots ≤ i = omega (arith, n, z) in
    let same : s ≡ slot_put i v s = sym (ap (λ (t : Bool). pick t (put_part (slots_at + i * SLOT) (slot_words v) s) s) e) in
    subst (λ (y : List ℕ). Rewrites s y (with_slots (set b.slots i v) b)) same
    (rewrites_none s (with_slots (set b.slots i v) b) (ap (λ (l : List Slot). with_slots l b) (sym (set_out b.slots i v many))))

pub turn_rewrites : (s z : List ℕ) (i w : ℕ) (y : Question) (a : Answer) (v : Slot) → SlotFits v → v ≡ turned w y a (slot_at (behind_in s).slots i) → z ≡ slot_put i v s
    → Rewrites s z (turned_behind (slot i w) y a s)
turn_rewrites s z i w y a v fit d e =
    let b = behind_in s in
    subst (λ (u : List ℕ). Rewrites s u (with_slots (set b.slots i (turned w y a (slot_at b.slots i))) b)) (sym e)
    (subst (λ (x : Slot). Rewrites s (slot_put i v s) (with_slots (set b.slots i x) b)) d (by_number (ltb i 82) s i v fit refl))

-- THE SLOTS OF THE BOOKS then
set_grant : (i w n : ℕ) (y : Result ℕ NoReply) (b : Books) → set b.lists.slots i (granted w n y (slot_at b.lists.slots i)) ≡ (granted_books i w n y b).lists.slots
set_grant i w n (Ok k) b = refl
set_grant i w n (Err _) b = set-get_or b.lists.slots i no_slot

set_map : (i : ℕ) (y : Result (ℕ × ℕ) NoReply) (b : Books) → set b.lists.slots i (mapped y (slot_at b.lists.slots i)) ≡ (mapped_books i y b).lists.slots
set_map i (Ok (k, n)) b = refl
set_map i (Err _) b = set-get_or b.lists.slots i no_slot

set_turned : (i w : ℕ) (y : Question) (a : Answer) (b : Books) → set b.lists.slots i (turned w y a (slot_at b.lists.slots i)) ≡ (answers_by i w y a b).lists.slots
set_turned i w (q.ConfigRead16 o) a b = set-get_or b.lists.slots i no_slot
set_turned i w (q.ConfigRead32 o) a b = set-get_or b.lists.slots i no_slot
set_turned i w (q.ConfigWrite16 o y) a b = set-get_or b.lists.slots i no_slot
set_turned i w (q.ConfigWrite32 o y) a b = set-get_or b.lists.slots i no_slot
set_turned i w (q.RegRead k o) a b = set-get_or b.lists.slots i no_slot
set_turned i w (q.RegWrite k o y) a b = set-get_or b.lists.slots i no_slot
set_turned i w (q.Attributes o y) a b = set-get_or b.lists.slots i no_slot
set_turned i w (q.Resource k) a b = set-get_or b.lists.slots i no_slot
set_turned i w (q.Stall u) a b = set-get_or b.lists.slots i no_slot
set_turned i w (q.Allocate n) a b = set_grant i w n (granted_of a) b
set_turned i w (q.Map k n) a b = set_map i (mapped_of a) b
set_turned i w (q.Unmap k) a b = refl
set_turned i w (q.Free k n) a b = refl
set_turned i w q.Fence a b = set-get_or b.lists.slots i no_slot
set_turned i w q.Finished a b = set-get_or b.lists.slots i no_slot

by_slot : (t : Bool) (i w : ℕ) (y : Question) (a : Answer) (b : Books) → length b.lists.slots ≡ 82 → ltb i 82 ≡ t
    → turned_slots (pick t (slot i w) neither) y a b.lists.slots ≡ (answers_by i w y a b).lists.slots
by_slot true i w y a b n e = set_turned i w y a b
by_slot false i w y a b n e =
    let z = ltb-false i 82 e in
    sym (set_out b.lists.slots i (turned w y a (slot_at b.lists.slots i)) (omega (arith, n, z))) ∙ set_turned i w y a b

turned_slots_lem : (p : Place) (y : Question) (a : Answer) (b : Books) → length b.lists.slots ≡ 82
    → turned_slots (within p) y a b.lists.slots ≡ (booked_by p y a b).lists.slots
turned_slots_lem neither y a b n = refl
turned_slots_lem inbox y a b n = set_turned INBOX 0 y a b
turned_slots_lem outbox y a b n = set_turned OUTBOX 0 y a b
turned_slots_lem (slot i w) y a b n = by_slot (ltb i 82) i w y a b n refl

-- THE BYTES of the task under way
pub place_rewrites : (s z : List ℕ) (y : Question) (a : Answer) (p r : Place) → p ≡ r → Rewrites s z (turned_behind p y a s) → Rewrites s z (turned_behind r y a s)
place_rewrites s z y a p r e f = subst (λ (x : Place). Rewrites s z (turned_behind x y a s)) e f

pub book_rewrites : (s z : List ℕ) (k : Core) (y : Question) (a : Answer) (p : Place) → p ≡ within (wants (full k (behind_in s))) → Rewrites s z (turned_behind p y a s)
    → Rewrites s z (booked_behind k y a s)
book_rewrites s z k y a p e f =
    let x = full k (behind_in s) in
    subst (λ (l : List Slot). Rewrites s z (with_slots l (behind_in s))) (turned_slots_lem (wants x) y a x.books (slots_length s))
    (place_rewrites s z y a p (within (wants x)) e f)

-- no run of pages: the books stay
not_so : {A : Type 0} → true ≡ false → A
not_so e = absurd (let z : ◌≡◌ {A = ℕ} 1 0 = ap (λ (t : Bool). pick t 1 0) e in omega arith)

quiet_slot : (i w : ℕ) (y : Question) (a : Answer) (b : Books) → is_deal y ≡ false → answers_by i w y a b ≡ b
quiet_slot i w (q.ConfigRead16 o) a b e = refl
quiet_slot i w (q.ConfigRead32 o) a b e = refl
quiet_slot i w (q.ConfigWrite16 o y) a b e = refl
quiet_slot i w (q.ConfigWrite32 o y) a b e = refl
quiet_slot i w (q.RegRead k o) a b e = refl
quiet_slot i w (q.RegWrite k o y) a b e = refl
quiet_slot i w (q.Attributes o y) a b e = refl
quiet_slot i w (q.Resource k) a b e = refl
quiet_slot i w (q.Stall u) a b e = refl
quiet_slot i w (q.Allocate n) a b e = not_so e
quiet_slot i w (q.Map k n) a b e = not_so e
quiet_slot i w (q.Unmap k) a b e = not_so e
quiet_slot i w (q.Free k n) a b e = not_so e
quiet_slot i w q.Fence a b e = refl
quiet_slot i w q.Finished a b e = refl

pub quiet : (p : Place) (y : Question) (a : Answer) (b : Books) → is_deal y ≡ false → booked_by p y a b ≡ b
quiet neither y a b e = refl
quiet inbox y a b e = quiet_slot INBOX 0 y a b e
quiet outbox y a b e = quiet_slot OUTBOX 0 y a b e
quiet (slot i w) y a b e = quiet_slot i w y a b e

still : (k : Core) (y : Question) (a : Answer) (b : Behind) → is_deal y ≡ false → b ≡ with_slots (booked_by (wants (full k b)) y a (full k b).books).lists.slots b
still k y a b e = ap (λ (x : Books). with_slots x.lists.slots b) (sym (quiet (wants (full k b)) y a (full k b).books e))

pub quiet_rewrites : (s : List ℕ) (k : Core) (y : Question) (a : Answer) → is_deal y ≡ false → Rewrites s s (booked_behind k y a s)
quiet_rewrites s k y a e = rewrites_none s (booked_behind k y a s) (still k y a (behind_in s) e)
