-- An area of an opening: its buffer is made, enters the books, and is mapped mailbox after mailbox.
use Rattle.std.specs.Prelude.{Option, Some, None}
use Prim.Native.Nat.{ℕ, zero, suc, ◌+◌, ◌-◌, ◌*◌, ◌/◌, ◌%◌, ◌^◌, ◌≤◌, ◌<◌, max}
use native.Mathlib.Omega.{arith}
use native.Mathlib.Nat.{mod-eq_of_lt, max-le}
use mathlib.Core.Bool.{Bool, true, false, false≢true}
use mathlib.Core.List.{List, [], ◌∷◌}
use mathlib.Core.Logic.{◌⊎◌, inl, inr, ⊎_elim}
use mathlib.Core.Option as opt
use mathlib.Core.Path.{◌≡◌, refl, sym, ◌∙◌, ap, subst}
use lib.Dec.{eqb, leb, lit≤}
use borrow.Author.Tests.{eq-eqb, eqb-true, eqb-false, leb-true}
use lib.ListN.{length, set}
use Rattle.fields.specs.Outcome.{Outcome, value, refused, value_or, pick}
use Rattle.dma.specs.Buffers.{pages_for}
use Rattle.dma.specs.Pages.{blocks_in}
use Rattle.dma.specs.PageList.{mailbox_of, first_blocks, behind, filled_at}
use Rattle.dma.specs.declared.Buffer.{Buffer}
use Rattle.dma.specs.declared.Cutter.{Cutter}
use Rattle.pci.specs.Script.{Spot}
use Rattle.command.specs.declared.CmdResult.{CmdResult}
use Rattle.command.specs.declared.CmdResult.TheVariants as r
use Rattle.buffer.specs.Buffer.{making}
use Rattle.buffer.specs.declared.Made.{Made}
use Rattle.buffer.specs.declared.Made.TheVariants as m
use Rattle.session.specs.Failures.{failure_of, fault_of}
use Rattle.session.specs.Session.{wired, after, with_in_of, bytes_in, buffer_of, slot_at, no_slot, is_held, named, puts, fa_of, aux_of, inbox_of, outbox_of, FA, AUX, INBOX, OUTBOX}
use Rattle.session.specs.Course.{Course, Here, Rest, at_rest}
use Rattle.session.specs.declared.Slot.{Slot}
use Rattle.session.specs.declared.Wire.{Wire}
use Rattle.session.specs.declared.Books.{Books}
use Rattle.session.specs.declared.Info.{Info}
use Rattle.session.specs.declared.Area.{Area}
use Rattle.session.specs.declared.Area.TheVariants as a
use Rattle.session.specs.declared.Stage.TheVariants as g
use Rattle.session.specs.declared.Failure.{Failure}
use Rattle.session.specs.declared.Closing.{Closing}
use Rattle.session.specs.declared.Closing.TheVariants as c
use Rattle.opening_plan.specs.Values.{op_for, enters, cut_in, cutter_for, range_at, slot_for, card_for, place_for}
use Rattle.opening_plan.specs.Opening.{fails, on_good, holds, on_made, mapping, area_for}
use Rattle.opening_plan.proofs.Cutting.{behind_less}
use Rattle.card.specs.Card.{Held, Command, Card, Hold, Host, Meets, MayUse, World, mail_at}
use Rattle.card.specs.Owns.{Owns, InBooks, spot_of}
use Rattle.card.proofs.Command.{quiet_stable, quiet_within}
use Rattle.card.proofs.View.{quiet_uses}
use Rattle.card.proofs.Fixed.{safe_fixed}
use Rattle.card.proofs.Owns.{owns_perm, owns_ours}
use Rattle.card.proofs.Making.{Sound, MadePost, safe_making}
use Rattle.card_calls.specs.SafeCourse.{SafeCourse}
use Rattle.card_calls.specs.Ranges.{OnRange}
use Rattle.card_calls.proofs.Slots.{full, MadeIn, making_ends, put_here, put_there}
use Rattle.card_calls.proofs.Courses.{safe_run, Fair, safe_sends, course_pick}
use Rattle.card_calls.proofs.Blocks.{Cutting, OnRun, cutting, behind_cutting, range_blocks, length_mailbox}
use Rattle.card_calls.proofs.Books.{knows_owed, named_in, partly_owed, partly_done, partly_step, knows_bound, put_perm, area_entries, in_kept, ranged, range_enters, ranged_entries, in_old, in_new, in_either, range_perm}
use Rattle.card_calls.proofs.Commands.{boxes_mailed, fits_in, safe_fails, safe_failed}
use Rattle.card.specs.Known.{Carried, Empty, Fits, Mailed, Out, Quiet, posted_as}
use Rattle.card_calls.specs.Ranges.{AnyIn}
use Rattle.card_calls.specs.Owed.{OwedBy}
use Rattle.card_calls.specs.Holding.{InSlot, Boxes, Calm, Entries, Knows, OnSlot, Partly, Ready}

-- PAGES: fewer than 2^52, and not one more than the bytes want
pub pages_few : (bytes n : ℕ) → pages_for bytes ≡ value n → (n < 2 ^ 52) × (n ≤ bytes / 4096 + 1)
pages_few bytes n e = by-bound (leb bytes (2 ^ 64 - 4096)) refl
  where
    by-bound : (t : Bool) → leb bytes (2 ^ 64 - 4096) ≡ t → (n < 2 ^ 52) × (n ≤ bytes / 4096 + 1)
    by-bound true q =
        let b : bytes ≤ 2 ^ 64 - 4096 = leb-true bytes (2 ^ 64 - 4096) q in
        let s : max 1 ((bytes + 4095) / 4096) ≡ n = ap (λ (x : Bool). value_or 0 (pick x (value (max 1 ((bytes + 4095) / 4096))) (refused 18 []))) (sym q) ∙ ap (value_or 0) e in
        let u : max 1 ((bytes + 4095) / 4096) ≤ 2 ^ 52 - 1 = max-le {a = 1} {b = (bytes + 4095) / 4096} {k = 2 ^ 52 - 1} (lit≤ tt) (omega (arith, b)) in
        let t : max 1 ((bytes + 4095) / 4096) ≤ bytes / 4096 + 1 = max-le {a = 1} {b = (bytes + 4095) / 4096} {k = bytes / 4096 + 1} (omega arith) (omega arith) in
        (omega (arith, s, u), omega (arith, s, t))
    by-bound false q =
        absurd (subst IsValue (sym e ∙ ap (λ (x : Bool). pick x (value (max 1 ((bytes + 4095) / 4096))) (refused 18 [])) q) tt)
      where
        IsValue : Outcome ℕ → Type 0
        IsValue (value x) = Unit {0}
        IsValue (refused i vs) = ⊥

pub filled_is : (k : Cutter) (s : List ℕ) → length s ≡ 4096 → filled_at 63 256 k s ≡ mailbox_of (first_blocks 63 256 k)
filled_is k s l = ap (λ (t : Bool). pick t (mailbox_of (first_blocks 63 256 k)) s) (eq-eqb (length s) 4096 l)

filled_fair : (k : Cutter) (h : Here) → Fair h → Fair (holds (filled_at 63 256 k h.inbox) h)
filled_fair k h q = record { inbox = ap length (filled_is k h.inbox q.inbox) ∙ length_mailbox (first_blocks 63 256 k); outbox = q.outbox; undo = q.undo }

op_small : (e : Area) → op_for e < 0x1000
op_small a.Fa = let h : 0xfff < 0x1000 = omega arith in h
op_small a.Aux = let h : 0xffc < 0x1000 = omega arith in h
op_small (a.Range i) = let h : 0xffa < 0x1000 = omega arith in h

-- a range of the layout: at a page of the card, few pages, and below 2^64
pub record Placed (virt bytes : ℕ) : Type 0 where
  pub page : virt % 4096 ≡ 0
  pub few : bytes ≤ 2 ^ 36
  pub below : virt + bytes ≤ 2 ^ 42

module _ (base : ℕ → opt.Option Hold) (P : World → Rest → Type 1)
    (back : (n : Info) (y : Failure) (x : Closing) (b : Books) (v : World) → (x ≡ c.Kept → ⊥) → Owns base [] v.host → Quiet Empty v.card → P v (at_rest g.Ended b n y x))
    (kept : (n : Info) (y : Failure) (b : Books) (v : World) → Owns base (named b) v.host → P v (at_rest g.Ended b n y c.Kept)) where
  -- MAILBOX AFTER MAILBOX
  module _ (e : Area) (n : Info) (l : Host) (b : Books) (i : Entries b) (x : Boxes b l) (next : Books → Here → Course Rest)
      (follows : (y : Wire) (j : Here) (v : World) → Fair j → Ready base (wired b y) v → SafeCourse v (next (wired b y) j) P) where
    done : (y : Wire) (j : Here) (v : World) → y.silent ≡ false → Fair j → v.host ≡ l → Owns base (named b) v.host → Quiet (Knows b) v.card → SafeCourse v (next (wired b y) j) P
    done y j v z q d s k = follows y j v q (record {
      loud = z;
      owns = s;
      card = (k.0, record { icm = k.1.icm; firmware = k.1.firmware; auxiliary = k.1.auxiliary; lent = k.1.lent });
      boxes = record {
        inbox = x.inbox;
        outbox = x.outbox;
        in_held = x.in_held;
        out_held = x.out_held;
        in_at = ap (λ (z : Host). z.inbox) d ∙ x.in_at;
        out_at = ap (λ (z : Host). z.outbox) d ∙ x.out_at;
        in_less = x.in_less;
        out_less = x.out_less;
      };
      entries = i;
    })

    safe-mapping : (m : ℕ) (k : Cutter) (y : Wire) (h : Here) (w : World) → y.silent ≡ false → k.left ≤ m → Cutting k → Fair h → w.host ≡ l → Owns base (named b) w.host → Quiet (Partly e b k) w.card
        → SafeCourse w (mapping e next m k n (wired b y) h) P
    unfolding mapping
    safe-mapping zero k y h w p g t q d s u =
        let z : k.left ≡ 0 = omega (arith, g) in done y h w p q d s (u.0, partly_done e b k w.card.held t z u.1)
    safe-mapping (suc m) k y h w p g t q d s u =
        course_pick (eqb k.left 0) _ _ w P
        (λ z. done y h w p q d s (u.0, partly_done e b k w.card.held t (eqb-true k.left 0 z) u.1))
        (λ z. safe_sends (wired b y) (with_in_of b (op_for e) (length (first_blocks 63 256 k) % 2 ^ 32))
        (λ a c j. on_good a (λ f i. mapping e next m (behind 63 256 k) n f i) n c j) (Partly e b k) (Calm b) P (holds (filled_at 63 256 k h.inbox) h) w
        (filled_fair k h q) (fits (filled_at 63 256 k h.inbox)) carried (quiet_within (Partly e b k) (Calm b) w.card u)
        (λ v c j o f u₁. by_result (eqb-false k.left 0 z) (λ y j v a q d s u. safe-mapping m (behind 63 256 k) y j v a (less (eqb-false k.left 0 z)) (behind_cutting k t) q d s u)
        c.result (after y c) v j p o f u₁))
      where
        mailed : Mailed w.host
        mailed = subst Mailed (sym d) (boxes_mailed base b l x (subst (Owns base (named b)) d s))

        less : (k.left ≡ 0 → ⊥) → (behind 63 256 k).left ≤ m
        less z = let f = behind_less 255 k z in omega (arith, f, g, z)

        fits : (z : List ℕ) → Fits (with_in_of b (op_for e) (length (first_blocks 63 256 k) % 2 ^ 32)) (mail_at w.host z)
        fits z =
            subst (λ (f : Host). Fits (with_in_of b (op_for e) (length (first_blocks 63 256 k) % 2 ^ 32)) (mail_at f z)) (sym d)
            (fits_in b l x (op_for e) (length (first_blocks 63 256 k) % 2 ^ 32) z (op_small e) (let f : length (first_blocks 63 256 k) % 2 ^ 32 < 2 ^ 32 = omega arith in f))

        posted : Command
        posted = posted_as true (with_in_of b (op_for e) (length (first_blocks 63 256 k) % 2 ^ 32)) (mail_at w.host (filled_at 63 256 k h.inbox))

        -- the blocks lie in the books, as what is held after the command does
        carried : Carried (with_in_of b (op_for e) (length (first_blocks 63 256 k) % 2 ^ 32)) w.host (filled_at 63 256 k h.inbox)
        carried f z = ⊎_elim (λ y. mailed.inbox f y) (λ r. ⊎_elim (λ y. mailed.outbox f y) (λ y. owns_ours (named b) w.host s.own s.dealt f (named_in b i k t posted refl (filled_is k h.inbox q.inbox) e u.1.ahead f y.1)) r) z

        owed : (f : Held) → Partly e b k f → OwedBy b f
        owed f = partly_owed e b k f i

        by_result : (k.left ≡ 0 → ⊥)
            → ((y : Wire) (j : Here) (v : World) → y.silent ≡ false → Fair j → v.host ≡ l → Owns base (named b) v.host → Quiet (Partly e b (behind 63 256 k)) v.card → SafeCourse v (mapping e next m (behind 63 256 k) n (wired b y) j) P)
            → (a : CmdResult) (y₁ : Wire) (v : World) (j : Here) → y₁.silent ≡ false → Fair j → v.host ≡ w.host
            → Out (posted_as y.toggle (with_in_of b (op_for e) (length (first_blocks 63 256 k) % 2 ^ 32)) (mail_at w.host (filled_at 63 256 k h.inbox))) (Partly e b k) (Calm b) a v.card
            → SafeCourse v (on_good a (λ f i. mapping e next m (behind 63 256 k) n f i) n (wired b y₁) j) P
        by_result z again (r.Done imm us) y₁ v j l₁ o f u =
            again y₁ j v l₁ o (f ∙ d) (subst (Owns base (named b)) (sym f) s) (
              u.0,
              partly_step b k t (posted_as y.toggle (with_in_of b (op_for e) (length (first_blocks 63 256 k) % 2 ^ 32)) (mail_at w.host (filled_at 63 256 k h.inbox))) refl
                  (filled_is k h.inbox q.inbox) e refl v.card.held u.1,
            )
        by_result z again (r.Status n₁ us) y₁ v j l₁ o f u =
            safe_failed base P back kept (r.Status n₁ us) (failure_of (r.Status n₁ us)) n b y₁ j v
            (posted_as y.toggle (with_in_of b (op_for e) (length (first_blocks 63 256 k) % 2 ^ 32)) (mail_at w.host (filled_at 63 256 k h.inbox))) (Partly e b k) (Calm b) refl o (subst Mailed (sym f) mailed) (subst (Owns base (named b)) (sym f) s) i l₁ owed u
        by_result z again (r.Timeout us) y₁ v j l₁ o f u =
            safe_failed base P back kept (r.Timeout us) (failure_of (r.Timeout us)) n b y₁ j v
            (posted_as y.toggle (with_in_of b (op_for e) (length (first_blocks 63 256 k) % 2 ^ 32)) (mail_at w.host (filled_at 63 256 k h.inbox))) (Partly e b k) (Calm b) refl o (subst Mailed (sym f) mailed) (subst (Owns base (named b)) (sym f) s) i l₁ owed u
        by_result z again r.Busy y₁ v j l₁ o f u =
            safe_failed base P back kept r.Busy (failure_of r.Busy) n b y₁ j v
            (posted_as y.toggle (with_in_of b (op_for e) (length (first_blocks 63 256 k) % 2 ^ 32)) (mail_at w.host (filled_at 63 256 k h.inbox))) (Partly e b k) (Calm b) refl o (subst Mailed (sym f) mailed) (subst (Owns base (named b)) (sym f) s) i l₁ owed u
        by_result z again (r.Bus us) y₁ v j l₁ o f u =
            safe_failed base P back kept (r.Bus us) (failure_of (r.Bus us)) n b y₁ j v
            (posted_as y.toggle (with_in_of b (op_for e) (length (first_blocks 63 256 k) % 2 ^ 32)) (mail_at w.host (filled_at 63 256 k h.inbox))) (Partly e b k) (Calm b) refl o (subst Mailed (sym f) mailed) (subst (Owns base (named b)) (sym f) s) i l₁ owed u

  -- A BUFFER IN THE BOOKS d, before anything of it is mapped
  pub record Entered (e : Area) (n : Info) (z : Buffer) (b d : Books) (w : World) : Type 1 where
    pub same : enters e (puts (slot_for e) (full (card_for n e) z) b) ≡ d
    pub owns : Owns base (named d) w.host
    pub boxes : Boxes d w.host
    pub entries : Entries d
    pub cut : Cutting (cutter_for n e z)
    pub loud : d.wire.silent ≡ b.wire.silent
    pub card : Quiet (Partly e d (cutter_for n e z)) w.card

  -- what a good making leaves
  pub record Grown (bytes : ℕ) (z : Buffer) (b : Books) (w : World) : Type 1 where
    pub owns : Owns base (z ∷ named b) w.host
    pub card : Quiet (Knows b) w.card
    pub pages : pages_for bytes ≡ value z.pages
    pub sound : Sound z.pages z
    pub boxes : Boxes b w.host

  pub safe_area : (e : Area) (bytes : ℕ) (D : Buffer → Books) (next : Books → Here → Course Rest) (n : Info) (b : Books) (h : Here) (w : World) → Fair h → Ready base b w
      → slot_for e < 82 → slot_at b.lists.slots (slot_for e) ≡ no_slot
      → ((z : Buffer) (v : World) → Grown bytes z b v → Entered e n z b (D z) v)
      → ((z : Buffer) (y : Wire) (j : Here) (v : World) → pages_for bytes ≡ value z.pages → Fair j → Ready base (wired (D z) y) v → SafeCourse v (next (wired (D z) y) j) P)
      → SafeCourse w (area_for e bytes next n b h) P
  unfolding area_for
  safe_area e bytes D next n b h w q x there empty enter follows =
      safe_run (λ y d j. on_made y (λ z. mapping e next (cut_in n e d).left (cut_in n e d) n (enters e d) j) (λ f. fails (fault_of f) n d j))
      After P (place_for n e) (making bytes) b (MadeIn (slot_for e) (card_for n e) b) h w q
      (λ i. safe_fixed i (making bytes) w Had (spot_of x.boxes.inbox) (spot_of x.boxes.outbox) x.boxes.in_at x.boxes.out_at
      (safe_making i base (named b) (Quiet (Knows b)) (quiet_stable (Knows b)) bound w.host bytes w refl x.owns x.card))
      (making_ends (slot_for e) (card_for n e) b (let g : slot_for e < length b.lists.slots = omega (arith, there, x.entries.room) in g) empty bytes) at
    where
      bound : (k : Card) → Quiet (Knows b) k → (d : ℕ) → MayUse k d → InBooks (named b) d
      bound k s d u = let t = quiet_uses (Knows b) k s d u in knows_bound b x.entries t.0 t.1 d t.2

      Had : World → Made → Type 1
      Had = MadePost [] base (named b) (Quiet (Knows b)) (quiet_stable (Knows b)) bound w.host bytes

      After : World → Made → Type 1
      After v y = Had v y × ((v.host.inbox ≡ opt.some (spot_of x.boxes.inbox)) × (v.host.outbox ≡ opt.some (spot_of x.boxes.outbox)))

      -- the mailboxes are where they were
      placed : (k : Host) → (k.inbox ≡ opt.some (spot_of x.boxes.inbox)) × (k.outbox ≡ opt.some (spot_of x.boxes.outbox)) → Boxes b k
      placed k s = record {
        inbox = x.boxes.inbox;
        outbox = x.boxes.outbox;
        in_held = x.boxes.in_held;
        out_held = x.boxes.out_held;
        in_at = s.0;
        out_at = s.1;
        in_less = x.boxes.in_less;
        out_less = x.boxes.out_less;
      }

      at : (v : World) (y : Made) (d : Books) (j : Here) → Fair j → After v y → MadeIn (slot_for e) (card_for n e) b y d
          → SafeCourse v (on_made y (λ z. mapping e next (cut_in n e d).left (cut_in n e d) n (enters e d) j) (λ f. fails (fault_of f) n d j)) P
      at v (m.Refused f) d j k (s, fixed) same =
          subst (λ (y : Books). SafeCourse v (fails (fault_of f) n y j) P) (sym same)
          (safe_fails base P back kept (fault_of f) n b j v k (boxes_mailed base b v.host (placed v.host fixed) s.0) s.0 x.entries x.loud (λ t. (s.1.0, knows_owed b v.card.held x.entries s.1.1)))
      at v (m.Ready z) d j k (s, fixed) same =
          subst (λ (y : Books). SafeCourse v (mapping e next (cut_in n e y).left (cut_in n e y) n (enters e y) j) P) (sym same)
          (subst (λ (y : Slot). SafeCourse v (mapping e next (cutter_for n e (buffer_of y)).left (cutter_for n e (buffer_of y)) n (enters e (puts (slot_for e) (full (card_for n e) z) b)) j) P)
          (sym (put_here b.lists.slots (slot_for e) (full (card_for n e) z) (let g : slot_for e < length b.lists.slots = omega (arith, there, x.entries.room) in g)))
          (begin (enter z v (record { owns = s.0; card = s.1; pages = s.2; sound = s.3; boxes = placed v.host fixed }))))
        where
          begin : Entered e n z b (D z) v → SafeCourse v (mapping e next (cutter_for n e z).left (cutter_for n e z) n (enters e (puts (slot_for e) (full (card_for n e) z) b)) j) P
          begin t =
              subst (λ (f : Books). SafeCourse v (mapping e next (cutter_for n e z).left (cutter_for n e z) n f j) P) (sym t.same)
              (safe-mapping e n v.host (D z) t.entries t.boxes next (λ y i u a o. follows z y i u s.2 a o) (cutter_for n e z).left (cutter_for n e z) (D z).wire j v (t.loud ∙ x.loud)
              (let f : (cutter_for n e z).left ≤ (cutter_for n e z).left = omega arith in f) t.cut k refl t.owns t.card)

  -- THE THREE KINDS OF AREA
  -- the cutter of a buffer has all its pages
  whole : (bytes : ℕ) (z : Buffer) → pages_for bytes ≡ value z.pages → z.pages % 2 ^ 52 ≡ z.pages
  whole bytes z e = mod-eq_of_lt (pages_few bytes z.pages e).0

  -- a page of the cutter is one of the buffer's
  run_meets : (z : Buffer) (virt : Option ℕ) (y d k : ℕ) → k ≡ z.pages → OnRun virt z.dev k y d → Meets (spot_of z) d
  run_meets z virt y d k e (j, l, q, r) = (omega (arith, r), omega (arith, r, l, e))

  blocks_meet : (bytes : ℕ) (z : Buffer) → pages_for bytes ≡ value z.pages → Sound z.pages z → (y d : ℕ)
      → AnyIn (blocks_in 63 (record { virt = None; phys = z.dev; left = bytes_in z })) y d → Meets (spot_of z) d
  blocks_meet bytes z e s y d u = run_meets z None y d (z.pages % 2 ^ 52) (whole bytes z e) ((range_blocks None z.dev (z.pages % 2 ^ 52) refl s.aligned y d).0 u)

  device_end : (z : Buffer) → Sound z.pages z → z.pages % 2 ^ 52 ≡ z.pages → z.dev + z.pages % 2 ^ 52 * 4096 ≤ 2 ^ 64
  device_end z s e = subst (λ (k : ℕ). z.dev + k * 4096 ≤ 2 ^ 64) (sym e) s.fits

  cut_absent : (bytes : ℕ) (z : Buffer) → pages_for bytes ≡ value z.pages → Sound z.pages z → Cutting (record { virt = None; phys = z.dev; left = bytes_in z })
  cut_absent bytes z e s =
      cutting None z.dev (z.pages % 2 ^ 52) refl s.aligned (device_end z s (whole bytes z e))
      (let h : 0 + z.pages % 2 ^ 52 * 4096 ≤ 2 ^ 64 = omega arith in h)

  boxed : (b d : Books) (w : World) → Boxes b w.host → inbox_of d ≡ inbox_of b → outbox_of d ≡ outbox_of b → Boxes d w.host
  boxed b d w x p q = record {
    inbox = x.inbox;
    outbox = x.outbox;
    in_held = subst (λ (s : Slot). InSlot s x.inbox) (sym p) x.in_held;
    out_held = subst (λ (s : Slot). InSlot s x.outbox) (sym q) x.out_held;
    in_at = x.in_at;
    out_at = x.out_at;
    in_less = x.in_less;
    out_less = x.out_less;
  }

  pub enters_fa : (bytes : ℕ) (n : Info) (b : Books) (z : Buffer) (w : World) → fa_of b ≡ no_slot → Entries b → Grown bytes z b w → Entered a.Fa n z b (puts FA (full 0 z) b) w
  enters_fa bytes n b z w e i x = record {
    same = refl;
    owns = owns_perm base (z ∷ named b) (named (puts FA (full 0 z) b)) w.host (put_perm b FA (full 0 z) i.room (omega arith) refl e) x.owns;
    boxes = boxed b (puts FA (full 0 z) b) w x.boxes (put_there b.lists.slots FA INBOX (full 0 z) (λ q. let y : ⊥ = omega (arith, q) in y)) (put_there b.lists.slots FA OUTBOX (full 0 z) (λ q. let y : ⊥ = omega (arith, q) in y));
    entries = area_entries b i FA (omega arith) (full 0 z);
    loud = refl;
    cut = cut_absent bytes z x.pages x.sound;
    card = (
      x.card.0,
      record {
        lower = λ y d u. (in_kept b i FA (omega arith) (full 0 z) y d).1 ((x.card.1.icm y d).0 u);
        total = λ y d u. inl ((x.card.1.icm y d).1 ((in_kept b i FA (omega arith) (full 0 z) y d).0 u));
        firmware = λ d u. absurd (false≢true (sym (ap is_held e) ∙ (x.card.1.firmware d u).0));
        auxiliary = λ d u. subst (λ (s : Slot). OnSlot s d) (sym (put_there b.lists.slots FA AUX (full 0 z) (λ q. let y : ⊥ = omega (arith, q) in y))) (x.card.1.auxiliary d u);
        lent = x.card.1.lent;
        ahead = λ y d u. subst (λ (s : Slot). OnSlot s d) (sym (put_here b.lists.slots FA (full 0 z) (omega (arith, i.room)))) (refl, blocks_meet bytes z x.pages x.sound y d u);
      },
    );
  }

  pub enters_aux : (bytes : ℕ) (n : Info) (b : Books) (z : Buffer) (w : World) → aux_of b ≡ no_slot → Entries b → Grown bytes z b w → Entered a.Aux n z b (puts AUX (full 0 z) b) w
  enters_aux bytes n b z w e i x = record {
    same = refl;
    owns = owns_perm base (z ∷ named b) (named (puts AUX (full 0 z) b)) w.host (put_perm b AUX (full 0 z) i.room (omega arith) refl e) x.owns;
    boxes = boxed b (puts AUX (full 0 z) b) w x.boxes (put_there b.lists.slots AUX INBOX (full 0 z) (λ q. let y : ⊥ = omega (arith, q) in y)) (put_there b.lists.slots AUX OUTBOX (full 0 z) (λ q. let y : ⊥ = omega (arith, q) in y));
    entries = area_entries b i AUX (omega arith) (full 0 z);
    loud = refl;
    cut = cut_absent bytes z x.pages x.sound;
    card = (
      x.card.0,
      record {
        lower = λ y d u. (in_kept b i AUX (omega arith) (full 0 z) y d).1 ((x.card.1.icm y d).0 u);
        total = λ y d u. inl ((x.card.1.icm y d).1 ((in_kept b i AUX (omega arith) (full 0 z) y d).0 u));
        firmware = λ d u. subst (λ (s : Slot). OnSlot s d) (sym (put_there b.lists.slots AUX FA (full 0 z) (λ q. let y : ⊥ = omega (arith, q) in y))) (x.card.1.firmware d u);
        auxiliary = λ d u. absurd (false≢true (sym (ap is_held e) ∙ (x.card.1.auxiliary d u).0));
        lent = x.card.1.lent;
        ahead = λ y d u. subst (λ (s : Slot). OnSlot s d) (sym (put_here b.lists.slots AUX (full 0 z) (omega (arith, i.room)))) (refl, blocks_meet bytes z x.pages x.sound y d u);
      },
    );
  }

  pub enters_range : (n : Info) (i : ℕ) (b : Books) (z : Buffer) (w : World) → Placed (range_at n i).virt (range_at n i).bytes → b.lists.ranges ≡ i → i < 14 → Entries b → Grown (range_at n i).bytes z b w
      → Entered (a.Range i) n z b (ranged b (full (range_at n i).virt z)) w
  enters_range n i b z w place q₀ l₀ j x =
      let l : b.lists.ranges < 14 = subst (λ (m : ℕ). m < 14) (sym q₀) l₀ in
      let bytes = (range_at n i).bytes in
      let virt = (range_at n i).virt in
      let f = pages_few (range_at n i).bytes z.pages x.pages in
      let e = whole (range_at n i).bytes z x.pages in
      let s = x.sound in
      record {
        same = range_enters i (full (range_at n i).virt z) b q₀ l₀;
        owns = owns_perm base (z ∷ named b) (named (ranged b (full (range_at n i).virt z))) w.host (range_perm b j l (full (range_at n i).virt z) refl) x.owns;
        boxes = boxed b (ranged b (full (range_at n i).virt z)) w x.boxes
            (above INBOX (omega arith) l) (above OUTBOX (omega arith) l);
        entries = ranged_entries b j l (full (range_at n i).virt z) refl (omega (arith, f.1, place.few)) (omega (arith, place.below));
        loud = refl;
        cut = cutting (Some (range_at n i).virt) z.dev (z.pages % 2 ^ 52) place.page s.aligned (device_end z s e)
            (omega (arith, e, f.1, place.few, place.below));
        card = (
          x.card.0,
          record {
            lower = λ y d u. in_old b j l (full (range_at n i).virt z) y d ((x.card.1.icm y d).0 u);
            total = λ y d u. ⊎_elim (λ t. inl ((x.card.1.icm y d).1 t)) (λ t. inr (missing y d e t)) (in_either b j l (full (range_at n i).virt z) y d u);
            firmware = λ d u. subst (λ (s : Slot). OnSlot s d) (sym (above FA (omega arith) l)) (x.card.1.firmware d u);
            auxiliary = λ d u. subst (λ (s : Slot). OnSlot s d) (sym (above AUX (omega arith) l)) (x.card.1.auxiliary d u);
            lent = x.card.1.lent;
            ahead = λ y d u. in_new b j l (full (range_at n i).virt z) y d (found y d e u);
          },
        );
      }
    where
      above : (k : ℕ) → 78 ≤ k → b.lists.ranges < 14 → slot_at (set b.lists.slots (64 + b.lists.ranges) (full (range_at n i).virt z)) k ≡ slot_at b.lists.slots k
      above k h l = put_there b.lists.slots (64 + b.lists.ranges) k (full (range_at n i).virt z) (λ q. let y : ⊥ = omega (arith, q, h, l) in y)

      missing : (y d : ℕ) → z.pages % 2 ^ 52 ≡ z.pages → OnRange (full (range_at n i).virt z) y d → AnyIn (blocks_in 63 (cutter_for n (a.Range i) z)) y d
      missing y d e (t, h, p, q) =
          (range_blocks (Some (range_at n i).virt) z.dev (z.pages % 2 ^ 52) place.page x.sound.aligned y d).1 tt (t, subst (λ (k : ℕ). t < k) (sym e) h, p, q)

      found : (y d : ℕ) → z.pages % 2 ^ 52 ≡ z.pages → AnyIn (blocks_in 63 (cutter_for n (a.Range i) z)) y d → OnRange (full (range_at n i).virt z) y d
      found y d e u =
          let t = (range_blocks (Some (range_at n i).virt) z.dev (z.pages % 2 ^ 52) place.page x.sound.aligned y d).0 u in
          (t.0, subst (λ (k : ℕ). t.0 < k) e t.1, t.2, t.3)
