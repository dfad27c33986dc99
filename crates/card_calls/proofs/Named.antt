-- NAMED: where the slot of the task under way is as its question has it, what an answer does to the slots keeps the books exactly what the host has handed over.
use Prim.Native.Nat.{ℕ, zero, suc, ◌+◌, ◌≤◌, ◌<◌}
use native.Mathlib.Omega.{arith}
use mathlib.Core.Bool.{Bool, true, false}
use mathlib.Core.List.{List, [], ◌∷◌, ◌++◌}
use mathlib.Core.Logic.{◌⊎◌, inl, inr}
use mathlib.Core.Option.{Option, none}
use mathlib.Core.Path.{◌≡◌, refl, sym, ◌∙◌, ap, ap₂, subst}
use lib.Dec.{eqb}
use borrow.Author.Tests.{eqb-true, eqb-false, eq-eqb}
use lib.ListN.{length, set, length-set}
use Rattle.fields.specs.Outcome.{pick}
use Rattle.dma.specs.declared.Buffer.{Buffer}
use Rattle.pci.specs.Script.{Ask, Reply, good, failed, config_read16, config_read32, config_write16, config_write32, read, write, attributes, resource, stall, allocate, mapped, unmap, free, fence}
use Rattle.session.specs.Session.{no_slot, slot_at, buffer_of, is_held, in_slot, named, named_from, puts, taken_off, bare, mapped_at, unmapped_from}
use Rattle.session.specs.Course.{books_by}
use Rattle.session.specs.declared.Slot.{Slot}
use Rattle.session.specs.declared.Books.{Books}
use Rattle.card.specs.Card.{Hold, Host, HostStep}
use Rattle.card.specs.Owns.{Each, Pairwise}
use Rattle.card.proofs.Owns.{Perm, stop, keep, swap, join, perm_self, perm_sym, In}
use Rattle.card_calls.specs.Has.{Piece, piece_of, pieces, Handed, Away, Differ, Has}
use Rattle.card_calls.proofs.Has.{Named, without, pieces_by, step_has}
use Rattle.card_calls.proofs.Slots.{set_again, set_own, put_here, put_there, named_put, in_named}

perm_pieces : (xs ys : List Buffer) → Perm xs ys → Perm (pieces xs) (pieces ys)
perm_pieces _ _ stop = stop
perm_pieces _ _ (keep x xs ys p) = keep (piece_of x) (pieces xs) (pieces ys) (perm_pieces xs ys p)
perm_pieces _ _ (swap x y xs) = swap (piece_of x) (piece_of y) (pieces xs)
perm_pieces _ _ (join xs ys zs p q) = join (pieces xs) (pieces ys) (pieces zs) (perm_pieces xs ys p) (perm_pieces ys zs q)

pieces_append : (xs ys : List Buffer) → pieces (xs ++ ys) ≡ pieces xs ++ pieces ys
pieces_append [] ys = refl
pieces_append (x ∷ xs) ys = ap (λ (zs : List Piece). piece_of x ∷ zs) (pieces_append xs ys)

-- WHAT HAS does not hang on the order
each_order : {A : Type 0} (P : A → Type 0) (xs ys : List A) → Perm xs ys → Each P xs → Each P ys
each_order P _ _ stop h = h
each_order P _ _ (keep x xs ys p) h = (h.0, each_order P xs ys p h.1)
each_order P _ _ (swap x y xs) h = (h.1.0, (h.0, h.1.1))
each_order P _ _ (join xs ys zs p q) h = each_order P ys zs q (each_order P xs ys p h)

pair_order : (xs ys : List Piece) → Perm xs ys → Pairwise Differ xs → Pairwise Differ ys
pair_order _ _ stop h = h
pair_order _ _ (keep x xs ys p) h = (each_order (Differ x) xs ys p h.0, pair_order xs ys p h.1)
pair_order _ _ (swap x y xs) h = ((λ e. h.0.0 (sym e), h.1.0), (h.0.1, h.1.1))
pair_order _ _ (join xs ys zs p q) h = pair_order ys zs q (pair_order xs ys p h)

pub has_order : (base : ℕ → Option Hold) (xs ys : List Piece) (k : Host) → Perm xs ys → Has base xs k → Has base ys k
has_order base xs ys k p h = record {
  own = each_order (Handed k) xs ys p h.own;
  new = each_order (λ q. base q.handle ≡ none) xs ys p h.new;
  differ = pair_order xs ys p h.differ;
  others = λ a away. h.others a (each_order (λ q. a ≡ q.handle → ⊥) ys xs (perm_sym xs ys p) away);
}

-- A SLOT of the same handle and pages
same_piece : (t : Bool) (x y : Buffer) → piece_of x ≡ piece_of y → pieces (pick t (x ∷ []) []) ≡ pieces (pick t (y ∷ []) [])
same_piece true x y e = ap (λ (p : Piece). p ∷ []) e
same_piece false x y e = refl

named_same : (m i : ℕ) (l : List Slot) (k : ℕ) (x : Slot) → k < length l → pieces (in_slot x) ≡ pieces (in_slot (slot_at l k)) → pieces (named_from m i (set l k x)) ≡ pieces (named_from m i l)
unfolding named_from
named_same zero i l k x r e = refl
named_same (suc m) i l k x r e =
    pieces_append (in_slot (slot_at (set l k x) i)) (named_from m (suc i) (set l k x))
    ∙ ap₂ (λ (ps qs : List Piece). ps ++ qs) (by_place (eqb i k) refl) (named_same m (suc i) l k x r e)
    ∙ sym (pieces_append (in_slot (slot_at l i)) (named_from m (suc i) l))
  where
    by_place : (t : Bool) → eqb i k ≡ t → pieces (in_slot (slot_at (set l k x) i)) ≡ pieces (in_slot (slot_at l i))
    by_place true t =
        let q : i ≡ k = eqb-true i k t in
        ap (λ (j : ℕ). pieces (in_slot (slot_at (set l k x) j))) q ∙ ap (λ (y : Slot). pieces (in_slot y)) (put_here l k x r) ∙ e ∙ sym (ap (λ (j : ℕ). pieces (in_slot (slot_at l j))) q)
    by_place false t = ap (λ (y : Slot). pieces (in_slot y)) (put_there l k i x (eqb-false i k t))

-- one that is taken off
named_off : (l : List Slot) (k : ℕ) → k < 82 → length l ≡ 82 → is_held (slot_at l k) ≡ true → Perm (buffer_of (slot_at l k) ∷ named_from 82 0 (set l k no_slot)) (named_from 82 0 l)
named_off l k a room h =
    subst (λ (z : List Slot). Perm (buffer_of (slot_at l k) ∷ named_from 82 0 (set l k no_slot)) (named_from 82 0 z)) (set_again l k no_slot (slot_at l k) ∙ set_own l k no_slot)
    (named_put 82 0 (set l k no_slot) k (slot_at l k) h (put_here l k no_slot there)
    (subst (λ (n : ℕ). k < n) (sym (length-set l k no_slot)) there) (omega arith) (omega (arith, a)))
  where
    there : k < length l
    there = omega (arith, a, room)

in_pieces : (x : Buffer) (xs : List Buffer) → In x xs → Named x.handle (pieces xs)
in_pieces x (y ∷ ys) (inl e) = inl (ap (λ (z : Buffer). z.handle) e)
in_pieces x (y ∷ ys) (inr e) = inr (in_pieces x ys e)
in_pieces x [] x'' = elim x'' [ ]

-- THE SLOT IS AS THE QUESTION HAS IT: empty before pages are asked for, and with the handle that is named
abbrev pub Has-handle : ℕ → Slot → Type 0
Has-handle h x = (is_held x ≡ true) × (x.handle ≡ h)

abbrev pub Fitting : (i : ℕ) → Ask → List Slot → Type 0
Fitting i (config_read16 o) l = Unit {0}
Fitting i (config_read32 o) l = Unit {0}
Fitting i (config_write16 o v) l = Unit {0}
Fitting i (config_write32 o v) l = Unit {0}
Fitting i (read b o) l = Unit {0}
Fitting i (write b o v) l = Unit {0}
Fitting i (attributes o v) l = Unit {0}
Fitting i (resource b) l = Unit {0}
Fitting i (stall t) l = Unit {0}
Fitting i (allocate n) l = slot_at l i ≡ no_slot
Fitting i (mapped h n) l = Has-handle h (slot_at l i)
Fitting i (unmap h) l = Has-handle h (slot_at l i)
Fitting i (free h n) l = Has-handle h (slot_at l i)
Fitting i (fence j) l = Unit {0}

module _ (base : ℕ → Option Hold) (i w : ℕ) (b : Books) (a : i < 82) (room : length b.lists.slots ≡ 82) where
  abbrev l : List Slot
  l = b.lists.slots

  there : i < length b.lists.slots
  there = omega (arith, a, room)

  mentioned : (h : ℕ) → Has-handle h (slot_at l i) → Named h (pieces (named b))
  mentioned h (e, q) = subst (λ (n : ℕ). Named n (pieces (named b))) q (in_pieces (buffer_of (slot_at l i)) (named b) (in_named 82 0 l i (omega arith) (omega (arith, a)) e))

  -- WHAT THE BOOKS NAME stays exactly what was handed over and not given back
  pub step_named : (q : Ask) (r : Reply q) (k j : Host) → Fitting i q b.lists.slots → HostStep k q r j → Has base (pieces (named b)) k → Has base (pieces (named (books_by i w q r b))) j
  step_named (config_read16 o) r k j f st x = step_has base (config_read16 o) r k j (pieces (named b)) tt st x
  step_named (config_read32 o) r k j f st x = step_has base (config_read32 o) r k j (pieces (named b)) tt st x
  step_named (config_write16 o v) r k j f st x = step_has base (config_write16 o v) r k j (pieces (named b)) tt st x
  step_named (config_write32 o v) r k j f st x = step_has base (config_write32 o v) r k j (pieces (named b)) tt st x
  step_named (read d o) r k j f st x = step_has base (read d o) r k j (pieces (named b)) tt st x
  step_named (write d o v) r k j f st x = step_has base (write d o v) r k j (pieces (named b)) tt st x
  step_named (attributes o v) r k j f st x = step_has base (attributes o v) r k j (pieces (named b)) tt st x
  step_named (resource d) r k j f st x = step_has base (resource d) r k j (pieces (named b)) tt st x
  step_named (stall t) r k j f st x = step_has base (stall t) r k j (pieces (named b)) tt st x
  step_named (allocate n) (good h) k j f st x =
      has_order base (record { handle = h; pages = n } ∷ pieces (named b)) (pieces (named (puts i (bare w h n) b))) j
      (perm_pieces (buffer_of (bare w h n) ∷ named b) (named (puts i (bare w h n) b)) (named_put 82 0 l i (bare w h n) refl f there (omega arith) (omega (arith, a))))
      (step_has base (allocate n) (good h) k j (pieces (named b)) tt st x)
  step_named (allocate n) failed k j f st x = step_has base (allocate n) failed k j (pieces (named b)) tt st x
  step_named (mapped h n) (good s) k j f st x =
      subst (λ (ps : List Piece). Has base ps j)
      (sym (named_same 82 0 l i (mapped_at (slot_at l i) s.address) there (same_piece (is_held (slot_at l i)) (buffer_of (mapped_at (slot_at l i) s.address)) (buffer_of (slot_at l i)) refl)))
      (step_has base (mapped h n) (good s) k j (pieces (named b)) (mentioned h f) st x)
  step_named (mapped h n) failed k j f st x = step_has base (mapped h n) failed k j (pieces (named b)) (mentioned h f) st x
  step_named (unmap h) r k j f st x =
      subst (λ (ps : List Piece). Has base ps j)
      (sym (named_same 82 0 l i (unmapped_from (slot_at l i)) there (same_piece (is_held (slot_at l i)) (buffer_of (unmapped_from (slot_at l i))) (buffer_of (slot_at l i)) refl)))
      (step_has base (unmap h) r k j (pieces (named b)) (mentioned h f) st x)
  step_named (free h n) r k j f st x =
      subst (λ (t : Bool). Has base (pick t (pieces (named (taken_off i b))) (piece_of (buffer_of (slot_at l i)) ∷ without h (pieces (named (taken_off i b))))) j) (eq-eqb h (slot_at l i).handle (sym f.1))
      (step_has base (free h n) r k j (piece_of (buffer_of (slot_at l i)) ∷ pieces (named (taken_off i b))) (inl (sym f.1)) st
      (has_order base (pieces (named b)) (piece_of (buffer_of (slot_at l i)) ∷ pieces (named (taken_off i b))) k
      (perm_sym (piece_of (buffer_of (slot_at l i)) ∷ pieces (named (taken_off i b))) (pieces (named b)) (perm_pieces (buffer_of (slot_at l i) ∷ named (taken_off i b)) (named b) (named_off l i a room f.0))) x))
  step_named (fence t) r k j f st x = step_has base (fence t) r k j (pieces (named b)) tt st x
