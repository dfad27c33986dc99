-- THE SLOT THAT IS WRITTEN is the one that the books have then; past the last there is none.
use Prim.Native.Nat.{ℕ, ◌+◌, ◌*◌, ◌<◌}
use mathlib.Core.Bool.{Bool, true, false}
use mathlib.Core.List.{List}
use mathlib.Core.Path.{◌≡◌, refl, ap, sym, ◌∙◌}
use native.Mathlib.Omega.{arith}
use lib.Dec.{ltb}
use lib.ListN.{length}
use lib.Seq.{get_or-set_same}
use borrow.Author.Tests.{ltb-true}
use Rattle.std.specs.Prelude.{Result, Ok, Err}
use Rattle.fields.specs.Outcome.{pick}
use Rattle.pci.specs.Views.{granted_of, mapped_of}
use Rattle.pci.specs.declared.Question.{Question}
use Rattle.pci.specs.declared.Question.TheVariants as q
use Rattle.pci.specs.declared.Answer.{Answer}
use Rattle.pci.specs.declared.NoReply.{NoReply}
use Rattle.words.specs.Places.{SLOT, SLOTS, slots_at, state_bytes}
use Rattle.words.proofs.Laws.{rows_count}
use Rattle.words_books.specs.Coding.{slot_words, slot_of}
use Rattle.session.specs.Session.{no_slot, slot_at, puts, INBOX, OUTBOX}
use Rattle.session.specs.Core.{none_behind}
use Rattle.session.specs.Course.{Place, neither, inbox, outbox, slot}
use Rattle.session.specs.declared.Slot.{Slot}
use Rattle.session.specs.declared.Books.{Books}
use Rattle.behind.specs.Behind.{behind_from, behind_in, put_part, slot_put}
use Rattle.fw_plan.specs.Calls.{granted_books, mapped_books, answers_by, booked_by}
use Rattle.booking.specs.Booking.{left_at, within, granted, mapped, turned, turned_at}

-- there are 82 slots in any bytes
pub slots_length : (xs : List ℕ) → length (behind_in xs).slots ≡ 82
slots_length xs = by (ltb (length xs) state_bytes)
  where
    by : (t : Bool) → length (pick t none_behind (behind_from xs)).slots ≡ 82
    by true = refl
    by false = rows_count slot_of slot_words SLOT (λ x. refl) xs slots_at SLOTS

-- one slot, out of the books
put_in : (i : ℕ) (x : Slot) (b : Books) → i < length b.lists.slots → slot_at (puts i x b).lists.slots i ≡ x
put_in i x b e = get_or-set_same b.lists.slots i x no_slot e

grant_in : (i w n : ℕ) (y : Result ℕ NoReply) (b : Books) → i < length b.lists.slots
    → slot_at (granted_books i w n y b).lists.slots i ≡ granted w n y (slot_at b.lists.slots i)
grant_in i w n (Ok k) b e = put_in i _ b e
grant_in i w n (Err _) b e = refl

map_in_lem : (i : ℕ) (y : Result (ℕ × ℕ) NoReply) (b : Books) → i < length b.lists.slots
    → slot_at (mapped_books i y b).lists.slots i ≡ mapped y (slot_at b.lists.slots i)
map_in_lem i (Ok (k, n)) b e = put_in i _ b e
map_in_lem i (Err _) b e = refl

turned_in : (i w : ℕ) (y : Question) (a : Answer) (b : Books) → i < length b.lists.slots
    → slot_at (answers_by i w y a b).lists.slots i ≡ turned w y a (slot_at b.lists.slots i)
turned_in i w (q.ConfigRead16 o) a b e = refl
turned_in i w (q.ConfigRead32 o) a b e = refl
turned_in i w (q.ConfigWrite16 o y) a b e = refl
turned_in i w (q.ConfigWrite32 o y) a b e = refl
turned_in i w (q.RegRead k o) a b e = refl
turned_in i w (q.RegWrite k o y) a b e = refl
turned_in i w (q.Attributes o y) a b e = refl
turned_in i w (q.Resource k) a b e = refl
turned_in i w (q.Stall u) a b e = refl
turned_in i w (q.Allocate n) a b e = grant_in i w n (granted_of a) b e
turned_in i w (q.Map k n) a b e = map_in_lem i (mapped_of a) b e
turned_in i w (q.Unmap k) a b e = put_in i _ b e
turned_in i w (q.Free k n) a b e = put_in i _ b e
turned_in i w q.Fence a b e = refl
turned_in i w q.Finished a b e = refl

-- and in the bytes
put_turned : (i w : ℕ) (y : Question) (a : Answer) (b : Books) (xs : List ℕ) → i < length b.lists.slots
    → slot_put i (turned w y a (slot_at b.lists.slots i)) xs ≡ slot_put i (slot_at (answers_by i w y a b).lists.slots i) xs
put_turned i w y a b xs e = ap (λ (v : Slot). slot_put i v xs) (sym (turned_in i w y a b e))

by_slot : (t : Bool) (i w : ℕ) (y : Question) (a : Answer) (b : Books) (xs : List ℕ) → length b.lists.slots ≡ 82 → ltb i 82 ≡ t
    → turned_at (pick t (slot i w) neither) y a b.lists.slots xs ≡ slot_put i (slot_at (answers_by i w y a b).lists.slots i) xs
by_slot true i w y a b xs n e = let z = ltb-true i 82 e in put_turned i w y a b xs (omega (arith, n, z))
by_slot false i w y a b xs n e =
    let v = slot_at (answers_by i w y a b).lists.slots i in
    sym (ap (λ (t : Bool). pick t (put_part (slots_at + i * SLOT) (slot_words v) xs) xs) e)

pub left_in_lem : (p : Place) (y : Question) (a : Answer) (b : Books) (xs : List ℕ) → length b.lists.slots ≡ 82
    → turned_at (within p) y a b.lists.slots xs ≡ left_at p (booked_by p y a b) xs
left_in_lem neither y a b xs n = refl
left_in_lem inbox y a b xs n = put_turned INBOX 0 y a b xs (omega (arith, n))
left_in_lem outbox y a b xs n = put_turned OUTBOX 0 y a b xs (omega (arith, n))
left_in_lem (slot i w) y a b xs n = by_slot (ltb i 82) i w y a b xs n refl
