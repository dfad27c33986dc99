-- Tasks and commands in a course: where they can end well, or fail, the course can go on.
use Prim.Native.Nat.{ℕ, zero, suc, ◌^◌, ◌≤◌, ◌<◌}
use native.Mathlib.Omega.{arith}
use mathlib.Core.Bool.{Bool, true, false, not, false≢true}
use mathlib.Core.List.{List, []}
use mathlib.Core.Path.{◌≡◌, refl, sym, ◌∙◌, ap, subst}
use lib.Dec.{leb}
use lib.ListN.{length, replicate, length-replicate}
use Rattle.fields.specs.Outcome.{pick}
use Rattle.fields.proofs.Laws.{Bytes}
use Rattle.hcr.specs.declared.Post.{Post}
use Rattle.pci.specs.Script.{Script, Ask, Reply, failed}
use Rattle.pci.specs.Script as s
use Rattle.pci.specs.declared.Answer.TheVariants as an
use Rattle.command.specs.Script.{ending, command}
use Rattle.command.specs.declared.CmdResult.{CmdResult}
use Rattle.command.specs.declared.CmdResult.TheVariants as r
use Rattle.session.specs.Session.{wired, listing, after, end_seen, catas_for, INBOX, OUTBOX}
use Rattle.session.specs.Course.{Course, ret, ask, Here, here, Lent, lent, Place, neither, inbox, outbox, slot, touched, books_by, booked, run, task, sends, Rest}
use Rattle.session.specs.declared.Top.{Top}
use Rattle.session.specs.declared.Slot.{Slot}
use Rattle.session.specs.declared.Wire.{Wire}
use Rattle.session.specs.declared.Books.{Books}
use Rattle.session.specs.declared.Gave.{Gave}
use Rattle.session.specs.declared.Stage.TheVariants as g
use Rattle.session.specs.declared.Failure.{Failure}
use Rattle.session.specs.declared.Closing.{Closing}
use Rattle.card.specs.Card.{Card, same, Host, World}
use Rattle.card_calls.specs.SafeCourse.{Typed}
use Rattle.card_calls.proofs.Slots.{Ends}
use Rattle.card_calls.proofs.Courses.{untouched}
use Rattle.card_run.specs.Can.{Can, no_undo, Whole, CanCourse}
use Rattle.card_run.proofs.Steps.{no_bytes}
use Rattle.card_run.proofs.Command.{Idle, Well, can_command}
use Rattle.card_run.proofs.Tasks.{Room}

-- WHAT IS LENT: an outbox, and nothing to undo
abbrev pub lends : List ℕ → Lent
lends out = record { outbox = out; undo = no_undo }

pub lendable : (out : List ℕ) → Bytes out → length out ≡ 4096 → (u : Top) → Typed u → leb u.count 256 ≡ true → u.op < 2 ^ 16 → (u.count ≡ 0 → u ≡ no_undo) → Whole (record { outbox = out; undo = u })
lendable out b l u t c o n = record { lendable = record { outbox = b; undo = t }; outbox = l; undo = c; op = o; listed = n }

pub top_typed : Typed no_undo
top_typed = record { op_mod = omega arith; in_mod = omega arith; in_param = omega arith }

pub zeros : (n : ℕ) → Bytes (replicate n 0)
zeros zero k = let h : 0 < 256 = omega arith in h
zeros (suc n) zero = let h : 0 < 256 = omega arith in h
zeros (suc n) (suc k) = zeros n k

-- an outbox with nothing in it
abbrev pub empty : List ℕ
empty = replicate 4096 0

pub nil : Bytes empty
nil = zeros 4096

pub empty_length : length empty ≡ 4096
empty_length = length-replicate {A = ℕ} 4096 0

pub whole : Whole (lends empty)
whole = lendable empty nil empty_length no_undo top_typed refl (omega arith) (λ e. refl)

-- BETWEEN TWO COMMANDS: the card is idle, no command may still run, the session is not broken; it is silent or not, has so many lent buffers, and INIT_HCA was sent or not
pub record Mode : Type 0 where
  pub silent : Bool
  pub lends : ℕ
  pub started : Bool

pub record Up (m : Mode) (y : Wire) (lent : ℕ) (on : Bool) (k : Card) : Type 0 where
  pub idle : Idle y.toggle k
  pub running : y.running ≡ false
  pub broken : y.broken ≡ false
  pub silent : y.silent ≡ m.silent
  pub lends : lent ≡ m.lends
  pub started : on ≡ m.started

abbrev pub At : Mode → Books → Card → Type 0
At m b k = Up m b.wire b.lists.lends b.started k

-- of an opening until INIT_HCA; of an open session with so many lent buffers; of one that is torn down in silence
abbrev pub rising : Mode
rising = record { silent = false; lends = 0; started = false }

abbrev pub going : ℕ → Mode
going l = record { silent = false; lends = l; started = true }

abbrev pub hushed : ℕ → Mode
hushed l = record { silent = true; lends = l; started = true }

-- the host has handles and pages left
pub record Spare (k : Host) : Type 0 where
  pub at : ℕ
  pub page : ℕ
  pub few : page ≤ 2 ^ 51
  pub room : Room at page k

-- THE ENDS that are meant. The session is open, and this is what its last call gave, by the books
pub record IsOpen (P : Books → Gave → Type 0) (l : ℕ) (w : World) (x : Rest) : Type 1 where
  pub gave : Gave
  pub so : P x.books gave
  pub stage : x.stage ≡ g.Open gave
  pub up : At (going l) x.books w.card

-- it is closed, or its opening has failed
pub record IsEnded (f : Failure) (c : Closing) (w : World) (x : Rest) : Type 1 where
  pub stage : x.stage ≡ g.Ended
  pub failure : x.failure ≡ f
  pub closing : x.closing ≡ c

abbrev IsAsk : {A : Type 0} → Script A → Type 0
IsAsk (s.ret x) = ⊥
IsAsk (s.ask q k) = Unit {0}

-- THE BOOKS with these slots, which are all that a reply changes
abbrev pub slotted : Books → List Slot → Books
slotted b l = listing b (record { slots = l; ranges = b.lists.ranges; lends = b.lists.lends })

by_slots : (i v : ℕ) (q : Ask) (r : Reply q) (b : Books) → books_by i v q r b ≡ slotted b (books_by i v q r b).lists.slots
by_slots i v (s.config_read16 o) r b = refl
by_slots i v (s.config_read32 o) r b = refl
by_slots i v (s.config_write16 o y) r b = refl
by_slots i v (s.config_write32 o y) r b = refl
by_slots i v (s.read k o) r b = refl
by_slots i v (s.write k o y) r b = refl
by_slots i v (s.attributes o y) r b = refl
by_slots i v (s.resource k) r b = refl
by_slots i v (s.stall y) r b = refl
by_slots i v (s.allocate n) (s.good k) b = refl
by_slots i v (s.allocate n) s.failed b = refl
by_slots i v (s.mapped k n) (s.good x) b = refl
by_slots i v (s.mapped k n) s.failed b = refl
by_slots i v (s.unmap k) r b = refl
by_slots i v (s.free k n) r b = refl
by_slots i v (s.fence k) r b = refl

booked_slots : (p : Place) (q : Ask) (r : Reply q) (b : Books) → booked p q r b ≡ slotted b (booked p q r b).lists.slots
booked_slots neither q r b = refl
booked_slots inbox q r b = by_slots INBOX 0 q r b
booked_slots outbox q r b = by_slots OUTBOX 0 q r b
booked_slots (slot i v) q r b = by_slots i v q r b

OtherSlots : {A : Type 0} → Books → A → Books → Type 0
OtherSlots b x d = (l : List Slot) × (d ≡ slotted b l)

ends_slots : {A : Type 0} (p : Place) (t : Script A) (b d : Books) (l : List Slot) → d ≡ slotted b l → Ends p t d (OtherSlots b)
unfolding OtherSlots
ends_slots p (s.ret x) b d l e = (l, e)
ends_slots p (s.ask q g) b d l e = λ r.
    ends_slots p (g r) b (booked p q r d) (booked p q r d).lists.slots (booked_slots p q r d ∙ ap (λ (z : Books). slotted z (booked p q r d).lists.slots) e)

module _ (Q : World → Rest → Type 1) where
  pub course_true : (b : Bool) (x y : Course Rest) (w : World) → b ≡ true → CanCourse w x Q → CanCourse w (pick b x y) Q
  course_true true x y w e k = k
  course_true false x y w e k = absurd (false≢true e)

  pub course_false : (b : Bool) (x y : Course Rest) (w : World) → b ≡ false → CanCourse w y Q → CanCourse w (pick b x y) Q
  course_false true x y w e k = absurd (false≢true (sym e))
  course_false false x y w e k = k

  -- A TASK
  module _ {A : Type 0} (K : A → Books → Here → Course Rest) (M : World → A → Type 1) where
    -- with what it leaves of the books
    pub can-ends : (p : Place) (t : Script A) (b : Books) (E : A → Books → Type 0) (h : Here) (w : World) → Can w t M → Ends p t b E
        → ((v : World) (x : A) (d : Books) (j : Here) → M v x → E x d → CanCourse v (K x d j) Q) → CanCourse w (run p t K b h) Q
    can-ends p (s.ret x) b E h w y e k = k w x b h y e
    can-ends p (s.ask q d) b E h w (r, v, an, st, y) e k = (r, lends empty, v, whole, an, st, can-ends p (d r) (booked p q r b) E (touched p q r (lent h (lends empty))) v y (e r) k)

    pub can-run : (p : Place) (t : Script A) (b : Books) (h : Here) (w : World) → Can w t M → ((v : World) (x : A) (l : List Slot) (j : Here) → M v x → CanCourse v (K x (slotted b l) j) Q)
        → CanCourse w (run p t K b h) Q
    unfolding OtherSlots
    can-run p t b h w y k =
        can-ends p t b (OtherSlots b) h w y (ends_slots p t b b b.lists.slots refl) (λ v x d j m e. subst (λ (z : Books). CanCourse v (K x z j) Q) (sym e.1) (k v x e.0 j m))

    -- with this outbox lent at every reply
    module _ (out : List ℕ) (ok : Bytes out) (l : length out ≡ 4096) (b : Books) where
      full : Whole (lends out)
      full = lendable out ok l no_undo top_typed refl (omega arith) (λ e. refl)

      on : (t : Script A) (i : List ℕ) (w : World) → Can w t M → ((v : World) (x : A) → M v x → CanCourse v (K x b (here i out no_undo)) Q) → CanCourse w (run neither t K b (here i out no_undo)) Q
      on (s.ret x) i w y k = k w x y
      on (s.ask q d) i w (r, v, an, st, y) k =
          (r, lends out, v, full, an, st, subst (λ (j : Here). CanCourse v (run neither (d r) K b j) Q) (sym (untouched q r (here i out no_undo))) (on (d r) i v y k))

      pub can-task : (t : Script A) → IsAsk t → (h : Here) (w : World) → Can w t M → ((v : World) (x : A) → M v x → CanCourse v (K x b (here h.inbox out no_undo)) Q) → CanCourse w (task t K b h) Q
      can-task (s.ret x) e h w y k = absurd e
      can-task (s.ask q d) e h w (r, v, an, st, y) k =
          (r, lends out, v, full, an, st, subst (λ (j : Here). CanCourse v (run neither (d r) K b j) Q) (sym (untouched q r (lent h (lends out)))) (on (d r) h.inbox v y k))

  -- A COMMAND: it ends well, with this outbox
  module _ (b : Books) (p : Post) (K : CmdResult → Books → Here → Course Rest) (h : Here) (w : World) where
    pub can-sends : (m : Mode) (out : List ℕ) → Bytes out → length out ≡ 4096 → p.op < 0x1000 → p.op_mod < 0x100 → At m b w.card
        → ((us : ℕ) (d : Books) (v : World) → At m d v.card → v.host ≡ w.host → CanCourse v (K (r.Done 0 us) d (here h.inbox out no_undo)) Q)
        → CanCourse w (sends b p K h) Q
    unfolding command
    can-sends m out ok n o q u k =
        can-task (λ e d j. K e.result (wired d (after d.wire e)) j) (Well 0 b.wire.toggle w.host) out ok n b (command (catas_for b.wire) h.inbox b.wire.toggle p) tt h w
        (can_command (catas_for b.wire) h.inbox b.wire.toggle p w.host 0 (omega arith) w o q refl u.idle)
        (λ v e x.
        subst (λ (y : CmdResult). CanCourse v (K y (wired b (after b.wire e)) (here h.inbox out no_undo)) Q) (sym x.result)
        (k x.us (wired b (after b.wire e)) v
        (record {
          idle = subst (λ (y : Bool). Idle y v.card) (sym x.toggle) x.idle;
          running = ap (λ (y : CmdResult). not (end_seen y)) x.result;
          broken = u.broken;
          silent = u.silent;
          lends = u.lends;
          started = u.started;
        }) x.host))

    -- with an empty one
    pub can-sent : (m : Mode) → p.op < 0x1000 → p.op_mod < 0x100 → At m b w.card
        → ((us : ℕ) (d : Books) (v : World) → At m d v.card → v.host ≡ w.host → CanCourse v (K (r.Done 0 us) d (here h.inbox empty no_undo)) Q)
        → CanCourse w (sends b p K h) Q
    can-sent m o q u k = can-sends m empty nil empty_length o q u k

    -- or its first look at the card fails
    pub can-fail : CanCourse w (K (r.Bus 0) (wired b (after b.wire (ending b.wire.toggle (r.Bus 0)))) (here h.inbox empty no_undo)) Q → CanCourse w (sends b p K h) Q
    unfolding command
    can-fail k = (failed, lends empty, w, whole, (an.Failed, [], refl, tt, no_bytes), (same, refl), k)
