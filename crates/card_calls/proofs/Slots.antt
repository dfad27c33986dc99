-- The slots: what is named when one is put down or taken off, and what the making and the freeing of a buffer leave of the books.
use Prim.Native.Nat.{ℕ, zero, suc, ◌+◌, ◌*◌, ◌≤◌, ◌<◌}
use native.Mathlib.Omega.{arith}
use mathlib.Core.Bool.{Bool, true, false, ◌&&◌}
use mathlib.Core.List.{List, [], ◌∷◌, ◌++◌}
use mathlib.Core.Logic.{◌⊎◌, inl, inr}
use mathlib.Core.Path.{◌≡◌, refl, sym, ◌∙◌, ap, ap₂, subst}
use lib.Dec.{eqb}
use borrow.Author.Tests.{eqb-true, eqb-false}
use lib.ListN.{length, get_or, set, length-set}
use lib.Seq.{get_or-set_same, get_or-set_other}
use Rattle.fields.specs.Outcome.{Outcome, value, refused, pick}
use Rattle.dma.specs.Buffers.{pages_for, accept_at}
use Rattle.dma.specs.declared.Buffer.{Buffer}
use Rattle.pci.specs.Script.{Script, Ask, Reply, Bus, good, failed, Spot}
use Rattle.pci.specs.Script as s
use Rattle.buffer.specs.Buffer.{making, allocating, on_allocate, on_map, release, freeing, by_outcome}
use Rattle.buffer.specs.declared.Fault.{Fault}
use Rattle.buffer.specs.declared.Fault.TheVariants as f
use Rattle.buffer.specs.declared.Made.{Made}
use Rattle.buffer.specs.declared.Made.TheVariants as m
use Rattle.session.specs.Session.{listing, no_slot, slot_at, buffer_of, is_held, in_slot, named_from, puts, taken_off, bare, mapped_at, unmapped_from, INBOX, OUTBOX}
use Rattle.session.specs.Course.{Place, inbox, outbox, slot, booked}
use Rattle.session.specs.declared.Slot.{Slot}
use Rattle.session.specs.declared.Books.{Books}
use Rattle.card.specs.Owns.{InBooks}
use Rattle.card.proofs.Owns.{Perm, keep, swap, join, perm_self, In, in_left, in_right}

-- A SLOT IS SET
pub set_again : {A : Type 0} (l : List A) (k : ℕ) (x y : A) → set (set l k x) k y ≡ set l k y
set_again [] k x y = refl
set_again (z ∷ l) zero x y = refl
set_again (z ∷ l) (suc k) x y = ap (λ (xs : List _). z ∷ xs) (set_again l k x y)

pub set_own : {A : Type 0} (l : List A) (k : ℕ) (d : A) → set l k (get_or l k d) ≡ l
set_own [] k d = refl
set_own (z ∷ l) zero d = refl
set_own (z ∷ l) (suc k) d = ap (λ (xs : List _). z ∷ xs) (set_own l k d)

abbrev slotted : Books → List Slot → Books
slotted b l = listing b (record { slots = l; ranges = b.lists.ranges; lends = b.lists.lends })

pub puts_again : (i : ℕ) (x y : Slot) (b : Books) → puts i y (puts i x b) ≡ puts i y b
puts_again i x y b = ap (slotted b) (set_again b.lists.slots i x y)

-- an empty slot that is emptied
pub taken_none : (i : ℕ) (b : Books) → slot_at b.lists.slots i ≡ no_slot → taken_off i b ≡ b
taken_none i b e = ap (slotted b) (ap (λ (x : Slot). set b.lists.slots i x) (sym e) ∙ set_own b.lists.slots i no_slot)

pub put_here : (l : List Slot) (k : ℕ) (x : Slot) → k < length l → slot_at (set l k x) k ≡ x
put_here l k x h = get_or-set_same l k x no_slot h

pub put_there : (l : List Slot) (k j : ℕ) (x : Slot) → (j ≡ k → ⊥) → slot_at (set l k x) j ≡ slot_at l j
put_there l k j x h = get_or-set_other l k j x no_slot h

-- WHAT IS NAMED
pub named_other : (m i : ℕ) (l : List Slot) (k : ℕ) (x : Slot) → ((j : ℕ) → i ≤ j → j < i + m → j ≡ k → ⊥) → named_from m i (set l k x) ≡ named_from m i l
unfolding named_from
named_other zero i l k x h = refl
named_other (suc m) i l k x h =
    ap₂ (λ (y : Slot) (ys : List Buffer). in_slot y ++ ys) (put_there l k i x (h i (let g : i ≤ i = omega arith in g) (let g : i < i + suc m = omega arith in g)))
    (named_other m (suc i) l k x (λ j a b. h j (omega (arith, a)) (omega (arith, b))))

pub perm_into : {A : Type 0} (x : A) (ls ys zs : List A) → Perm (x ∷ ys) zs → Perm (x ∷ (ls ++ ys)) (ls ++ zs)
perm_into x [] ys zs p = p
perm_into x (l ∷ ls) ys zs p = join (x ∷ l ∷ (ls ++ ys)) (l ∷ x ∷ (ls ++ ys)) (l ∷ (ls ++ zs)) (swap x l (ls ++ ys)) (keep l (x ∷ (ls ++ ys)) (ls ++ zs) (perm_into x ls ys zs p))

-- a buffer is put down in an empty slot: it is named, in its place
pub named_put : (m i : ℕ) (l : List Slot) (k : ℕ) (x : Slot) → is_held x ≡ true → slot_at l k ≡ no_slot → k < length l → i ≤ k → k < i + m → Perm (buffer_of x ∷ named_from m i l) (named_from m i (set l k x))
unfolding named_from
named_put zero i l k x h e r a b = absurd (let z : ⊥ = omega (arith, a, b) in z)
named_put (suc m) i l k x h e r a b = by_place (eqb i k) refl (λ c d. named_put m (suc i) l k x h e r c d)
  where
    by_place : (t : Bool) → eqb i k ≡ t → (suc i ≤ k → k < suc i + m → Perm (buffer_of x ∷ named_from m (suc i) l) (named_from m (suc i) (set l k x)))
        → Perm (buffer_of x ∷ (in_slot (slot_at l i) ++ named_from m (suc i) l)) (in_slot (slot_at (set l k x) i) ++ named_from m (suc i) (set l k x))
    by_place true t again =
        let q : i ≡ k = eqb-true i k t in
        let now : slot_at (set l k x) i ≡ x = ap (slot_at (set l k x)) q ∙ put_here l k x r in
        let then : slot_at l i ≡ no_slot = ap (slot_at l) q ∙ e in
        let rest : named_from m (suc i) (set l k x) ≡ named_from m (suc i) l = named_other m (suc i) l k x (λ j c d z. let y : ⊥ = omega (arith, c, z, q) in y) in
        subst (Perm (buffer_of x ∷ (in_slot (slot_at l i) ++ named_from m (suc i) l)))
        (ap (λ (y : Slot). buffer_of x ∷ (in_slot y ++ named_from m (suc i) l)) then
        ∙ sym (ap₂ (λ (y : Slot) (ys : List Buffer). in_slot y ++ ys) now rest ∙ ap (λ (z : Bool). pick z (buffer_of x ∷ []) [] ++ named_from m (suc i) l) h))
        (perm_self (buffer_of x ∷ (in_slot (slot_at l i) ++ named_from m (suc i) l)))
    by_place false t again =
        let q = eqb-false i k t in
        subst (λ (y : Slot). Perm (buffer_of x ∷ (in_slot (slot_at l i) ++ named_from m (suc i) l)) (in_slot y ++ named_from m (suc i) (set l k x))) (sym (put_there l k i x q))
        (perm_into (buffer_of x) (in_slot (slot_at l i)) (named_from m (suc i) l) (named_from m (suc i) (set l k x)) (again (omega (arith, a, q)) (omega (arith, b))))

-- the buffer of a slot is named
pub in_named : (m i : ℕ) (l : List Slot) (k : ℕ) → i ≤ k → k < i + m → is_held (slot_at l k) ≡ true → In (buffer_of (slot_at l k)) (named_from m i l)
unfolding named_from
in_named zero i l k a b h = absurd (let z : ⊥ = omega (arith, a, b) in z)
in_named (suc m) i l k a b h = by_place (eqb i k) refl (λ c d. in_named m (suc i) l k c d h)
  where
    by_place : (t : Bool) → eqb i k ≡ t → (suc i ≤ k → k < suc i + m → In (buffer_of (slot_at l k)) (named_from m (suc i) l)) → In (buffer_of (slot_at l k)) (in_slot (slot_at l i) ++ named_from m (suc i) l)
    by_place true t again =
        subst (λ (j : ℕ). In (buffer_of (slot_at l k)) (in_slot (slot_at l j) ++ named_from m (suc i) l)) (sym (eqb-true i k t))
        (subst (λ (z : Bool). In (buffer_of (slot_at l k)) (pick z (buffer_of (slot_at l k) ∷ []) [] ++ named_from m (suc i) l)) (sym h) (inl refl))
    by_place false t again =
        let q = eqb-false i k t in
        in_right (buffer_of (slot_at l k)) (in_slot (slot_at l i)) (named_from m (suc i) l) (again (omega (arith, a, q)) (omega (arith, b)))

-- a page of the first slots is one of more slots
pub in_more : (m n i : ℕ) (l : List Slot) (d : ℕ) → m ≤ n → InBooks (named_from m i l) d → InBooks (named_from n i l) d
unfolding named_from
in_more zero n i l d h z = absurd z
in_more (suc m) zero i l d h z = absurd (let y : ⊥ = omega (arith, h) in y)
in_more (suc m) (suc n) i l d h z = by-list (in_more m n (suc i) l d (omega (arith, h))) (in_slot (slot_at l i)) z
  where
    by-list : (InBooks (named_from m (suc i) l) d → InBooks (named_from n (suc i) l) d) → (xs : List Buffer) → InBooks (xs ++ named_from m (suc i) l) d → InBooks (xs ++ named_from n (suc i) l) d
    by-list g [] z = g z
    by-list g (x ∷ xs) (inl z) = inl z
    by-list g (x ∷ xs) (inr z) = inr (by-list g xs z)

-- WHAT A TASK LEAVES OF THE BOOKS, whatever the replies
abbrev pub Ends : {A : Type 0} → Place → Script A → Books → (A → Books → Type 0) → Type 0
Ends p (s.ret a) b R = R a b
Ends p (s.ask q g) b R = (r : Reply q) → Ends p (g r) (booked p q r b) R

-- a mailbox is a slot like the others
pub ends_inbox : {A : Type 0} (t : Script A) (b : Books) (R : A → Books → Type 0) → Ends (slot INBOX 0) t b R → Ends inbox t b R
ends_inbox (s.ret a) b R h = h
ends_inbox (s.ask q g) b R h = λ r. ends_inbox (g r) _ R (h r)

pub ends_outbox : {A : Type 0} (t : Script A) (b : Books) (R : A → Books → Type 0) → Ends (slot OUTBOX 0) t b R → Ends outbox t b R
ends_outbox (s.ret a) b R h = h
ends_outbox (s.ask q g) b R h = λ r. ends_outbox (g r) _ R (h r)

-- FREEING: the slot is empty
pub freeing_ends : (i v h n : ℕ) (b : Books) → Ends (slot i v) (freeing h n) b (λ u d. d ≡ taken_off i b)
freeing_ends i v h n b r r' = puts_again i (unmapped_from (slot_at b.lists.slots i)) no_slot b

-- MAKING: the buffer is in its slot, mapped; or the books are as they were
abbrev pub full : (virt : ℕ) → Buffer → Slot
full v z = record { runs = 1; virt = v; handle = z.handle; dev = z.dev; pages = z.pages; mapped = true }

abbrev pub MadeIn : (i virt : ℕ) → Books → Made → Books → Type 0
MadeIn i v b (m.Ready z) d = d ≡ puts i (full v z) b
MadeIn i v b (m.Refused e) d = d ≡ b

module _ (i v : ℕ) (b : Books) (room : i < length b.lists.slots) (free : slot_at b.lists.slots i ≡ no_slot) where
  release_ends : (h n : ℕ) (x : Slot) (e : Fault) → Ends (slot i v) (release h n (m.Refused e)) (puts i x b) (MadeIn i v b)
  release_ends h n x e r r' =
      puts_again i (unmapped_from (slot_at (set b.lists.slots i x) i)) no_slot (puts i x b) ∙ (puts_again i x no_slot b ∙ taken_none i b free)

  map_ends : (h n : ℕ) (r : Bus Spot) → Ends (slot i v) (on_map h n r) (booked (slot i v) (s.mapped h (n * 4096)) r (puts i (bare v h n) b)) (MadeIn i v b)
  map_ends h n failed = λ r. puts_again i (bare v h n) no_slot b ∙ taken_none i b free
  map_ends h n (good x) =
      subst (λ (d : Books). Ends (slot i v) (on_map h n (good x)) d (MadeIn i v b)) (sym marked) (by_address (accept_at x.address n))
    where
      marked : puts i (mapped_at (slot_at (set b.lists.slots i (bare v h n)) i) x.address) (puts i (bare v h n) b) ≡ puts i (full v (record { handle = h; dev = x.address; pages = n })) b
      marked =
          puts_again i (bare v h n) (mapped_at (slot_at (set b.lists.slots i (bare v h n)) i) x.address) b
          ∙ ap (λ (y : Slot). puts i (mapped_at y x.address) b) (put_here b.lists.slots i (bare v h n) room)

      by_size : (t : Bool) → Ends (slot i v) (pick t (s.ret (m.Ready (record { handle = h; dev = x.address; pages = n }))) (release h n (m.Refused f.Memory))) (puts i (full v (record { handle = h; dev = x.address; pages = n })) b) (MadeIn i v b)
      by_size true = refl
      by_size false = release_ends h n (full v (record { handle = h; dev = x.address; pages = n })) f.Memory

      by_address : (o : Outcome (Unit {0})) → Ends (slot i v)
          (by_outcome o (λ u. pick (eqb x.bytes (n * 4096)) (s.ret (m.Ready (record { handle = h; dev = x.address; pages = n }))) (release h n (m.Refused f.Memory))) (release h n (m.Refused f.Address)))
          (puts i (full v (record { handle = h; dev = x.address; pages = n })) b) (MadeIn i v b)
      by_address (value u) = by_size (eqb x.bytes (n * 4096))
      by_address (refused k vs) = release_ends h n (full v (record { handle = h; dev = x.address; pages = n })) f.Address

  pub making_ends : (bytes : ℕ) → Ends (slot i v) (making bytes) b (MadeIn i v b)
  making_ends bytes = by_pages (pages_for bytes)
    where
      granted : (n : ℕ) (r : Bus ℕ) → Ends (slot i v) (on_allocate n r) (booked (slot i v) (s.allocate n) r b) (MadeIn i v b)
      granted n failed = refl
      granted n (good h) = λ r. map_ends h n r

      by_pages : (o : Outcome ℕ) → Ends (slot i v) (by_outcome o allocating (s.ret (m.Refused f.Address))) b (MadeIn i v b)
      by_pages (value n) = λ r. granted n r
      by_pages (refused k vs) = refl
