-- What the books say while an opening runs: the buffers, in the order in which a closing frees them, and what the card holds of them.
use Prim.Native.Nat.{ℕ, zero, suc, ◌+◌, ◌-◌, ◌%◌, ◌^◌, ◌≤◌, ◌<◌}
use native.Mathlib.Omega.{arith}
use native.Mathlib.Nat.{mod-eq_of_lt}
use mathlib.Core.Bool.{Bool, true, false}
use mathlib.Core.List.{List, [], ◌∷◌, ◌++◌, append_assoc}
use mathlib.Core.Logic.{◌⊎◌, inl, inr, ⊎_elim, ◌↔◌}
use mathlib.Core.Path.{◌≡◌, refl, sym, ◌∙◌, ap, ap₂, subst}
use lib.Dec.{eqb}
use borrow.Author.Tests.{lt-ltb, eqb-true, eqb-false}
use lib.ListN.{length, set, length-set}
use Rattle.fields.specs.Outcome.{pick}
use Rattle.dma.specs.Pages.{blocks_in}
use Rattle.dma.specs.declared.Buffer.{Buffer}
use Rattle.dma.specs.declared.Cutter.{Cutter}
use Rattle.dma.specs.PageList.{mailbox_of, first_blocks, behind}
use Rattle.session.specs.Session.{listing, icm_at, slot_at, no_slot, buffer_of, is_held, named, fa_of, aux_of, puts, lent_to, FA, AUX}
use Rattle.session.specs.declared.Slot.{Slot}
use Rattle.session.specs.declared.Books.{Books}
use Rattle.session.specs.declared.Info.{Info}
use Rattle.session.specs.declared.Area.{Area}
use Rattle.session.specs.declared.Area.TheVariants as a
use Rattle.opening_plan.specs.Values.{op_for, enters}
use Rattle.card.specs.Card.{Held, Command, Blocks, Named, holds, No, kind, does, effect, IsHeld, Meets}
use Rattle.card.specs.Owns.{InBooks, spot_of}
use Rattle.card.proofs.Owns.{Perm, stop, keep, swap, join, in_books}
use Rattle.card_calls.proofs.Slots.{put_here, put_there, named_put, in_named, in_more}
use Rattle.card_calls.specs.Ranges.{OnRange, InRanges}
use Rattle.card_calls.proofs.Blocks.{Cutting, carries, first_few, first_carried, any_split, none_left}
use Rattle.card.specs.Known.{After}
use Rattle.card_calls.specs.Owed.{Dropped, OwedBy}
use Rattle.card_calls.specs.Ranges.{AnyIn}
use Rattle.card_calls.specs.Holding.{Ahead, Entries, Knows, Missing, OnSlot, Partly, Posted, Uses, lents}

range_dropped : (b : Books) (i : Entries b) (x d : ℕ) → InRanges b x d → (k : ℕ) × (k < b.lists.ranges) × Dropped (icm_at b.lists.slots k) x
range_dropped b i x d (k, l, (j, m, e, f)) =
    let p : (icm_at b.lists.slots k).pages % 2 ^ 32 ≡ (icm_at b.lists.slots k).pages = mod-eq_of_lt (i.small k l) in
    (k, l, (omega (arith, e), omega (arith, e, m, p)))

pub partly_owed : (e : Area) (b : Books) (k : Cutter) (g : Held) → Entries b → Partly e b k g → OwedBy b g
partly_owed e b k g i x = record {
  icm = λ y d z. let q = range_dropped b i y d (x.lower y d z) in (q.0, omega (arith, q.1), q.2);
  firmware = λ d z. (x.firmware d z).0;
  auxiliary = λ d z. (x.auxiliary d z).0;
  lent = λ d z. absurd (x.lent d z);
}

pub knows_owed : (b : Books) (g : Held) → Entries b → Knows b g → OwedBy b g
knows_owed b g i x = record {
  icm = λ y d z. let q = range_dropped b i y d ((x.icm y d).0 z) in (q.0, omega (arith, q.1), q.2);
  firmware = λ d z. (x.firmware d z).0;
  auxiliary = λ d z. (x.auxiliary d z).0;
  lent = λ d z. absurd (x.lent d z);
}

pub uses_owed : (b : Books) (g : Held) → Entries b → b.started ≡ true → Uses b g → OwedBy b g
uses_owed b g i s x = record {
  icm = λ y d z. let q = range_dropped b i y d ((x.icm y d).0 z) in (q.0, omega (arith, q.1), q.2);
  firmware = λ d z. (x.firmware d z).0;
  auxiliary = λ d z. (x.auxiliary d z).0;
  lent = λ d z. s;
}

pub knows_uses : (b : Books) (g : Held) → Knows b g → Uses b g
knows_uses b g x = record { icm = x.icm; firmware = x.firmware; auxiliary = x.auxiliary; lent = λ d z. absurd (x.lent d z) }

-- nothing is left to cut
pub partly_done : (e : Area) (b : Books) (k : Cutter) (g : Held) → Cutting k → Posted k → Partly e b k g → Knows b g
partly_done e b k g c z x = record {
  icm = λ y d. (x.lower y d, λ q. ⊎_elim (λ r. r) (λ r. absurd (gone e y d r)) (x.total y d q));
  firmware = x.firmware;
  auxiliary = x.auxiliary;
  lent = x.lent;
}
  where
    gone : (e : Area) (y d : ℕ) → Missing e k y d → ⊥
    gone a.Fa y d r = r
    gone a.Aux y d r = r
    gone (a.Range i) y d r = none_left k c z y d r

-- one mailbox more
module _ (b : Books) (k : Cutter) (c : Cutting k) (p : Command) (count : p.in_mod ≡ length (first_blocks 63 256 k) % 2 ^ 32) (bytes : p.mail.bytes ≡ mailbox_of (first_blocks 63 256 k)) where
  blocks : (x d : ℕ) → Blocks p x d ↔ AnyIn (first_blocks 63 256 k) x d
  blocks = carries p (first_blocks 63 256 k) (first_few k c) (first_carried k c) count bytes

  listed : (x d : ℕ) → Blocks p x d → AnyIn (blocks_in 63 k) x d
  listed x d z = (any_split k c x d).1 (inl ((blocks x d).0 z))

  behind_ahead : (e : Area) → ((x d : ℕ) → AnyIn (blocks_in 63 k) x d → Ahead e b x d) → (x d : ℕ) → AnyIn (blocks_in 63 (behind 63 256 k)) x d → Ahead e b x d
  behind_ahead e f x d z = f x d ((any_split k c x d).1 (inr z))

  stepped : (e : Area) (h : Held) → p.opcode ≡ op_for e → Partly e b k h → Partly e b (behind 63 256 k) (effect p h)
  unfolding effect
  stepped a.Fa h q x =
      subst (λ (y : ℕ). Partly a.Fa b (behind 63 256 k) (does (kind y) p h)) (sym q) (record {
        lower = x.lower;
        total = x.total;
        firmware = λ d z. ⊎_elim (λ y. x.firmware d y) (λ y. x.ahead y.0 d (listed y.0 d y.1)) z;
        auxiliary = x.auxiliary;
        lent = x.lent;
        ahead = behind_ahead a.Fa x.ahead;
      })
  stepped a.Aux h q x =
      subst (λ (y : ℕ). Partly a.Aux b (behind 63 256 k) (does (kind y) p h)) (sym q) (record {
        lower = x.lower;
        total = x.total;
        firmware = x.firmware;
        auxiliary = λ d z. ⊎_elim (λ y. x.auxiliary d y) (λ y. x.ahead y.0 d (listed y.0 d y.1)) z;
        lent = x.lent;
        ahead = behind_ahead a.Aux x.ahead;
      })
  stepped (a.Range i) h q x =
      subst (λ (y : ℕ). Partly (a.Range i) b (behind 63 256 k) (does (kind y) p h)) (sym q) (record {
        lower = λ y d z. ⊎_elim (λ u. x.lower y d u) (λ u. x.ahead y d (listed y d u)) z;
        total = λ y d z. ⊎_elim (λ u. inl (inl u)) (λ u. ⊎_elim (λ s. inl (inr ((blocks y d).1 s))) (λ s. inr s) ((any_split k c y d).0 u)) (x.total y d z);
        firmware = x.firmware;
        auxiliary = x.auxiliary;
        lent = x.lent;
        ahead = behind_ahead (a.Range i) x.ahead;
      })

  pub partly_step : (e : Area) → p.opcode ≡ op_for e → (g : Held) → After p (Partly e b k) g → Partly e b (behind 63 256 k) g
  partly_step e q g (h, x, y) = subst (Partly e b (behind 63 256 k)) (sym y) (stepped e h q x)

-- WHAT IS HELD LIES IN THE BUFFERS
pub range_meets : (e : Slot) (x d : ℕ) → OnRange e x d → Meets (spot_of (buffer_of e)) d
range_meets e x d (j, l, q, r) = (omega (arith, r), omega (arith, r, l))

-- a page of a slot is one of the buffers'
pub slot_bound : (b : Books) (k d : ℕ) → k < 82 → OnSlot (slot_at b.lists.slots k) d → InBooks (named b) d
slot_bound b k d l z = in_books (buffer_of (slot_at b.lists.slots k)) (named b) d (in_named 82 0 b.lists.slots k (omega arith) (omega (arith, l)) z.0) z.1

pub uses_bound : (b : Books) → Entries b → (g : Held) → Uses b g → (d : ℕ) → IsHeld g d → InBooks (named b) d
uses_bound b i g x d z =
    ⊎_elim (λ u. ranged ((x.icm u.0 d).0 u.1))
    (λ u. ⊎_elim (λ f. slot_bound b FA d (omega arith) (x.firmware d f))
    (λ y. ⊎_elim (λ v. slot_bound b AUX d (omega arith) (x.auxiliary d v)) (λ l. in_more 64 82 0 b.lists.slots d (omega arith) (x.lent d l)) y) u) z
  where
    ranged : {y : ℕ} → InRanges b y d → InBooks (named b) d
    ranged {y = y} (k, l, r) = slot_bound b (64 + k) d (let f = i.few in omega (arith, l, f)) (i.held k l, range_meets (icm_at b.lists.slots k) y d r)

pub knows_bound : (b : Books) → Entries b → (g : Held) → Knows b g → (d : ℕ) → IsHeld g d → InBooks (named b) d
knows_bound b i g x d z = uses_bound b i g (knows_uses b g x) d z

-- what is ahead lies in the buffers
ahead_bound : (e : Area) (b : Books) → Entries b → (x d : ℕ) → Ahead e b x d → InBooks (named b) d
ahead_bound a.Fa b n x d z = uses_bound b n (holds (λ v y. InRanges b v y) (OnSlot (fa_of b)) No No) (record { icm = λ v y. (λ i. i, λ i. i); firmware = λ y i. i; auxiliary = λ y i. absurd i; lent = λ y i. absurd i }) d (inr (inl z))
ahead_bound a.Aux b n x d z = uses_bound b n (holds (λ v y. InRanges b v y) No (OnSlot (aux_of b)) No) (record { icm = λ v y. (λ i. i, λ i. i); firmware = λ y i. absurd i; auxiliary = λ y i. i; lent = λ y i. absurd i }) d (inr (inr (inl z)))
ahead_bound (a.Range k) b n x d z = uses_bound b n (holds (λ v y. InRanges b v y) No No No) (record { icm = λ v y. (λ i. i, λ i. i); firmware = λ y i. absurd i; auxiliary = λ y i. absurd i; lent = λ y i. absurd i }) d (inl (x, z))

-- what a MAP names lies in the buffers
pub named_in : (b : Books) → Entries b → (k : Cutter) (c : Cutting k) (p : Command) → p.in_mod ≡ length (first_blocks 63 256 k) % 2 ^ 32 → p.mail.bytes ≡ mailbox_of (first_blocks 63 256 k)
    → (e : Area) → ((x d : ℕ) → AnyIn (blocks_in 63 k) x d → Ahead e b x d) → (d : ℕ) → Named p d → InBooks (named b) d
named_in b n k c p count bytes e f d (x, z) = ahead_bound e b n x d (f x d (listed b k c p count bytes x d z))

-- the same pages, in whatever order
pub books_perm : (xs ys : List Buffer) → Perm xs ys → (d : ℕ) → InBooks xs d → InBooks ys d
books_perm _ _ stop d z = z
books_perm _ _ (keep x xs ys p) d (inl z) = inl z
books_perm _ _ (keep x xs ys p) d (inr z) = inr (books_perm xs ys p d z)
books_perm _ _ (swap x y xs) d (inl z) = inr (inl z)
books_perm _ _ (swap x y xs) d (inr (inl z)) = inl z
books_perm _ _ (swap x y xs) d (inr (inr z)) = inr (inr z)
books_perm _ _ (join xs ys zs p q) d z = books_perm ys zs q d (books_perm xs ys p d z)

-- A BUFFER IS PUT DOWN in an empty slot: it is named, and freed in its place
pub put_perm : (b : Books) (j : ℕ) (x : Slot) → length b.lists.slots ≡ 82 → j < 82 → is_held x ≡ true → slot_at b.lists.slots j ≡ no_slot → Perm (buffer_of x ∷ named b) (named (puts j x b))
put_perm b j x room l h e = named_put 82 0 b.lists.slots j x h e (let g : j < length b.lists.slots = omega (arith, l, room) in g) (omega arith) (omega (arith, l))

-- of an area or a mailbox: all else is as it was
module _ (b : Books) (i : Entries b) (j : ℕ) (above : 78 ≤ j) (x : Slot) where
  abbrev l : List Slot
  l = b.lists.slots

  range_kept : (k : ℕ) → k < 14 → icm_at (set l j x) k ≡ icm_at l k
  range_kept k h = put_there l j (64 + k) x (λ q. let z : ⊥ = omega (arith, h, q, above) in z)

  pub area_entries : Entries (puts j x b)
  area_entries = record {
    room = length-set l j x ∙ i.room;
    few = i.few;
    small = λ k h. subst (λ (y : Slot). y.pages < 2 ^ 32) (sym (range_kept k (within k h))) (i.small k h);
    addressed = λ k h. subst (λ (y : Slot). y.virt < 2 ^ 64) (sym (range_kept k (within k h))) (i.addressed k h);
    held = λ k h. ap is_held (range_kept k (within k h)) ∙ i.held k h;
    free = λ k h m. range_kept k m ∙ i.free k h m;
    unlent = λ k h m. put_there l j k x (λ q. let z : ⊥ = omega (arith, m, q, above) in z) ∙ i.unlent k h m;
  }
    where
      within : (k : ℕ) → k < b.lists.ranges → k < 14
      within k h = let f = i.few in omega (arith, h, f)

  pub in_kept : (y d : ℕ) → InRanges (puts j x b) y d ↔ InRanges b y d
  in_kept y d = (
    λ z. (z.0, z.1, subst (λ (s : Slot). OnRange s y d) (range_kept z.0 (within z.0 z.1)) z.2),
    λ z. (z.0, z.1, subst (λ (s : Slot). OnRange s y d) (sym (range_kept z.0 (within z.0 z.1))) z.2),
  )
    where
      within : (k : ℕ) → k < b.lists.ranges → k < 14
      within k h = let f = i.few in omega (arith, h, f)

-- the books with one range more
abbrev pub ranged : Books → Slot → Books
ranged b e = listing b (record { slots = set b.lists.slots (64 + b.lists.ranges) e; ranges = b.lists.ranges + 1; lends = b.lists.lends })

pub range_enters : (i : ℕ) (e : Slot) (b : Books) → b.lists.ranges ≡ i → i < 14 → enters (a.Range i) (puts (64 + i) e b) ≡ ranged b e
range_enters i e b q l =
    ap (λ (t : Bool). listing b (pick t (record { slots = set b.lists.slots (64 + i) e; ranges = b.lists.ranges + 1; lends = b.lists.lends }) (record { slots = set b.lists.slots (64 + i) e; ranges = b.lists.ranges; lends = b.lists.lends })))
    (lt-ltb b.lists.ranges 14 (subst (λ (m : ℕ). m < 14) (sym q) l))
    ∙ ap (λ (m : ℕ). listing b (record { slots = set b.lists.slots (64 + m) e; ranges = b.lists.ranges + 1; lends = b.lists.lends })) (sym q)

module _ (b : Books) (i : Entries b) (l : b.lists.ranges < 14) (e : Slot) where
  abbrev r : ℕ
  r = b.lists.ranges

  abbrev icms : List Slot
  icms = b.lists.slots

  pub new_entry : icm_at (set b.lists.slots (64 + b.lists.ranges) e) b.lists.ranges ≡ e
  new_entry = put_here icms (64 + r) e (let h : 64 + r < length icms = omega (arith, l, i.room) in h)

  pub old_entry : (k : ℕ) → (k ≡ b.lists.ranges → ⊥) → icm_at (set b.lists.slots (64 + b.lists.ranges) e) k ≡ icm_at b.lists.slots k
  old_entry k h = put_there icms (64 + r) (64 + k) e (λ q. h (let z : k ≡ r = omega (arith, q) in z))

  older : (k : ℕ) → k < b.lists.ranges → k ≡ b.lists.ranges → ⊥
  older k h q = let z : ⊥ = omega (arith, h, q) in z

  -- each range of the longer list is one of the shorter, or the new one
  pub each_range : (Q : ℕ → Slot → Type 0) → ((k : ℕ) → k < b.lists.ranges → Q k (icm_at b.lists.slots k)) → Q b.lists.ranges e
      → (k : ℕ) → k < b.lists.ranges + 1 → Q k (icm_at (set b.lists.slots (64 + b.lists.ranges) e) k)
  each_range Q f z k h = by-new (eqb k r) refl
    where
      by-new : (t : Bool) → eqb k r ≡ t → Q k (icm_at (set icms (64 + r) e) k)
      by-new true q =
          let s = eqb-true k r q in
          subst (λ (m : ℕ). Q m (icm_at (set icms (64 + r) e) m)) (sym s) (subst (Q r) (sym new_entry) z)
      by-new false q =
          let s = eqb-false k r q in
          let g : k < r = omega (arith, h, s) in
          subst (Q k) (sym (old_entry k s)) (f k g)

  pub ranged_entries : is_held e ≡ true → e.pages < 2 ^ 32 → e.virt < 2 ^ 64 → Entries (ranged b e)
  ranged_entries h s v = record {
    room = length-set icms (64 + r) e ∙ i.room;
    few = let z : r + 1 ≤ 14 = omega (arith, l) in z;
    small = each_range (λ k y. y.pages < 2 ^ 32) i.small s;
    addressed = each_range (λ k y. y.virt < 2 ^ 64) i.addressed v;
    held = each_range (λ k y. is_held y ≡ true) i.held h;
    free = λ k g m. old_entry k (λ q. let z : ⊥ = omega (arith, g, q) in z) ∙ i.free k (omega (arith, g)) m;
    unlent = λ k g m. put_there icms (64 + r) k e (λ q. let z : ⊥ = omega (arith, m, q) in z) ∙ i.unlent k g m;
  }

  -- a page of the longer list's ranges
  pub in_old : (x d : ℕ) → InRanges b x d → InRanges (ranged b e) x d
  in_old x d (k, h, z) = (k, omega (arith, h), subst (λ (y : Slot). OnRange y x d) (sym (old_entry k (older k h))) z)

  pub in_new : (x d : ℕ) → OnRange e x d → InRanges (ranged b e) x d
  in_new x d z = (r, omega arith, subst (λ (y : Slot). OnRange y x d) (sym new_entry) z)

  pub in_either : (x d : ℕ) → InRanges (ranged b e) x d → InRanges b x d ⊎ OnRange e x d
  in_either x d (k, h, z) = each_range (λ k y. OnRange y x d → InRanges b x d ⊎ OnRange e x d) (λ k g y. inl (k, g, y)) (λ y. inr y) k h z

  pub range_perm : is_held e ≡ true → Perm (buffer_of e ∷ named b) (named (ranged b e))
  range_perm h = put_perm b (64 + r) e i.room (omega (arith, l)) h (i.free r (let z : r ≤ r = omega arith in z) l)

-- the books with one lent buffer more
abbrev pub lent_in : Books → Slot → Books
lent_in b x = listing b (record { slots = set b.lists.slots b.lists.lends x; ranges = b.lists.ranges; lends = b.lists.lends + 1 })

pub lends_enters : (b : Books) (x : Slot) → b.lists.lends < 64 → lent_to (puts b.lists.lends x b) ≡ lent_in b x
lends_enters b x l = ap (λ (t : Bool). pick t (lent_in b x) (puts b.lists.lends x b)) (lt-ltb b.lists.lends 64 l)

module _ (b : Books) (i : Entries b) (l : b.lists.lends < 64) (x : Slot) where
  abbrev slots : List Slot
  slots = b.lists.slots

  abbrev n : ℕ
  n = b.lists.lends

  range_stays : (k : ℕ) → icm_at (set slots n x) k ≡ icm_at slots k
  range_stays k = put_there slots n (64 + k) x (λ q. let z : ⊥ = omega (arith, l, q) in z)

  pub lent_perm : is_held x ≡ true → Perm (buffer_of x ∷ named b) (named (lent_in b x))
  lent_perm h = put_perm b n x i.room (omega (arith, l)) h (i.unlent n (let z : n ≤ n = omega arith in z) l)

  pub lent_entries : Entries (lent_in b x)
  lent_entries = record {
    room = length-set slots n x ∙ i.room;
    few = i.few;
    small = λ k h. subst (λ (y : Slot). y.pages < 2 ^ 32) (sym (range_stays k)) (i.small k h);
    addressed = λ k h. subst (λ (y : Slot). y.virt < 2 ^ 64) (sym (range_stays k)) (i.addressed k h);
    held = λ k h. ap is_held (range_stays k) ∙ i.held k h;
    free = λ k h m. range_stays k ∙ i.free k h m;
    unlent = λ k h m. put_there slots n k x (λ q. let z : ⊥ = omega (arith, h, q) in z) ∙ i.unlent k (omega (arith, h)) m;
  }

  pub lent_same : (k : ℕ) → 64 ≤ k → slot_at (lent_in b x).lists.slots k ≡ slot_at b.lists.slots k
  lent_same k h = put_there slots n k x (λ q. let z : ⊥ = omega (arith, h, l, q) in z)

  pub lent_ranges : (y d : ℕ) → InRanges (lent_in b x) y d ↔ InRanges b y d
  lent_ranges y d = (
    λ z. (z.0, z.1, subst (λ (s : Slot). OnRange s y d) (range_stays z.0) z.2),
    λ z. (z.0, z.1, subst (λ (s : Slot). OnRange s y d) (sym (range_stays z.0)) z.2),
  )

  lents_perm : is_held x ≡ true → Perm (buffer_of x ∷ lents b) (lents (lent_in b x))
  lents_perm h = named_put 64 0 slots n x h (i.unlent n (let z : n ≤ n = omega arith in z) l) (let z : n < length slots = omega (arith, l, i.room) in z) (omega arith) (omega (arith, l))

  pub lent_old : is_held x ≡ true → (d : ℕ) → InBooks (lents b) d → InBooks (lents (lent_in b x)) d
  lent_old h d z = books_perm (buffer_of x ∷ lents b) (lents (lent_in b x)) (lents_perm h) d (inr z)

  pub lent_new : is_held x ≡ true → (d : ℕ) → Meets (spot_of (buffer_of x)) d → InBooks (lents (lent_in b x)) d
  lent_new h d z = books_perm (buffer_of x ∷ lents b) (lents (lent_in b x)) (lents_perm h) d (inl z)

  pub all_old : is_held x ≡ true → (d : ℕ) → InBooks (named b) d → InBooks (named (lent_in b x)) d
  all_old h d z = books_perm (buffer_of x ∷ named b) (named (lent_in b x)) (lent_perm h) d (inr z)
