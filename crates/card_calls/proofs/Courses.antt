-- Tasks in a course: a safe script, and a safe course behind it.
use Prim.Native.Nat.{ℕ, zero, suc, ◌<◌}
use mathlib.Core.Bool.{Bool, true, false}
use mathlib.Core.List.{List}
use mathlib.Core.Path.{◌≡◌, refl, sym, ◌∙◌, subst}
use native.Mathlib.Omega.{arith}
use lib.ListN.{length, get_or, replicate, length-replicate}
use Rattle.fields.specs.Outcome.{pick}
use Rattle.pci.specs.Script.{Script, Ask, Reply, good, failed, config_read16, config_read32, config_write16, config_write32, read, write, attributes, resource, stall, allocate, mapped, unmap, free, fence}
use Rattle.pci.specs.Script as s
use Rattle.hcr.specs.declared.Post.{Post}
use Rattle.command.specs.Script.{command}
use Rattle.command.specs.declared.CmdResult.{CmdResult}
use Rattle.command.specs.declared.CmdEnd.{CmdEnd}
use Rattle.session.specs.Session.{wired, after, catas_for}
use Rattle.session.specs.Course.{Course, ret, ask, Here, Lent, lent, Place, slot, booked, neither, inbox, outbox, zeroed, touched, run, task, sends}
use Rattle.session.specs.declared.Books.{Books}
use Rattle.card.specs.Card.{Held, Command, World, mail_at}
use Rattle.card.specs.Safe.{Safe}
use Rattle.card.proofs.Command.{CmdPost, safe_command}
use Rattle.card_calls.proofs.Slots.{Ends}
use Rattle.card_calls.specs.SafeCourse.{Typed, Lendable, SafeCourse}
use Rattle.card.specs.Known.{Carried, Fits, Out, Within, posted_as}

-- the mailboxes and the undo record that a call is lent
pub record Fair (h : Here) : Type 0 where
  pub inbox : length h.inbox ≡ 4096
  pub outbox : (k : ℕ) → get_or h.outbox k 0 < 256
  pub undo : Typed h.undo

pub fair_lent : (h : Here) (m : Lent) → Fair h → Lendable m → Fair (lent h m)
fair_lent h m f l = record { inbox = f.inbox; outbox = l.outbox; undo = l.undo }

pub zeros : (n k : ℕ) → get_or (replicate n 0) k 0 < 256
zeros zero k = let g : 0 < 256 = omega arith in g
zeros (suc n) zero = let g : 0 < 256 = omega arith in g
zeros (suc n) (suc k) = zeros n k

pub fair_zeroed : (b : Place) (h : Here) → Fair h → Fair (zeroed b h)
fair_zeroed neither h f = f
fair_zeroed inbox h f = record { inbox = length-replicate (length h.inbox) 0 ∙ f.inbox; outbox = f.outbox; undo = f.undo }
fair_zeroed outbox h f = record { inbox = f.inbox; outbox = zeros (length h.outbox); undo = f.undo }
fair_zeroed (slot i v) h f = f

fair_touched : (b : Place) (q : Ask) (r : Reply q) (h : Here) → Fair h → Fair (touched b q r h)
fair_touched b (config_read16 o) r h f = f
fair_touched b (config_read32 o) r h f = f
fair_touched b (config_write16 o v) r h f = f
fair_touched b (config_write32 o v) r h f = f
fair_touched b (read k o) r h f = f
fair_touched b (write k o v) r h f = f
fair_touched b (attributes o v) r h f = f
fair_touched b (resource k) r h f = f
fair_touched b (stall u) r h f = f
fair_touched b (allocate n) (good v) h f = fair_zeroed b h f
fair_touched b (allocate n) failed h f = f
fair_touched b (mapped k n) r h f = f
fair_touched b (unmap k) r h f = f
fair_touched b (free k n) r h f = f
fair_touched b (fence i) r h f = f

pub untouched : (q : Ask) (r : Reply q) (h : Here) → touched neither q r h ≡ h
untouched (config_read16 o) r h = refl
untouched (config_read32 o) r h = refl
untouched (config_write16 o v) r h = refl
untouched (config_write32 o v) r h = refl
untouched (read b o) r h = refl
untouched (write b o v) r h = refl
untouched (attributes o v) r h = refl
untouched (resource b) r h = refl
untouched (stall u) r h = refl
untouched (allocate n) (good v) h = refl
untouched (allocate n) failed h = refl
untouched (mapped b n) r h = refl
untouched (unmap b) r h = refl
untouched (free b n) r h = refl
untouched (fence i) r h = refl

module _ {A R : Type 0} (K : A → Books → Here → Course R) (M : World → A → Type 1) (P : World → R → Type 1) where
  -- a task that copies no mailbox, whatever its buffer is for; E is what it leaves of the books
  pub safe_run : (p : Place) (t : Script A) (b : Books) (E : A → Books → Type 0) (h : Here) (w : World) → Fair h → ((i : List ℕ) → Safe i w t M) → Ends p t b E
      → ((v : World) (a : A) (d : Books) (j : Here) → Fair j → M v a → E a d → SafeCourse v (K a d j) P) → SafeCourse w (run p t K b h) P
  safe_run p (s.ret a) b E h w f x e k = k w a b h f (x h.inbox) e
  safe_run p (s.ask q g) b E h w f x e k = (
    (x h.inbox).0,
    λ r m v ok st. safe_run p (g r) (booked p q r b) E (touched p q r (lent h m)) v (fair_touched p q r (lent h m) (fair_lent h m f ok)) (λ i. (x i).1 r v st) (e r) k,
  )

  -- a task of no buffer: inbox and books stay as they are
  pub safe_task : (t : Script A) (b : Books) (h : Here) (w : World) → Fair h → Safe h.inbox w t M → ((v : World) (a : A) (j : Here) → Fair j → j.inbox ≡ h.inbox → M v a → SafeCourse v (K a b j) P)
      → SafeCourse w (task t K b h) P
  safe_task (s.ret a) b h w f x k = k w a h f refl x
  safe_task (s.ask q g) b h w f x k = (
    x.0,
    λ r m v ok st.
        subst (λ (j : Here). SafeCourse v (run neither (g r) K b j) P) (sym (untouched q r (lent h m)))
        (safe_task (g r) b (lent h m) v (fair_lent h m f ok) (x.1 r v st) k),
  )

-- A COMMAND in a course
pub safe_sends : {R : Type 0} (b : Books) (p : Post) (K : CmdResult → Books → Here → Course R) (H : Held → Type 1) (Q : Command → Type 0) (P : World → R → Type 1) (h : Here) (w : World)
    → Fair h → Fits p (mail_at w.host h.inbox) → Carried p w.host h.inbox → Within H Q w.card
    → ((v : World) (x : CmdEnd) (j : Here) → Fair j → v.host ≡ w.host → Out (posted_as b.wire.toggle p (mail_at w.host h.inbox)) H Q x.result v.card
    → SafeCourse v (K x.result (wired b (after b.wire x)) j) P)
    → SafeCourse w (sends b p K h) P
safe_sends b p K H Q P h w f fits car x k =
    safe_task (λ e d j. K e.result (wired d (after d.wire e)) j) (CmdPost (catas_for b.wire) h.inbox b.wire.toggle p H Q w.host) P
    (command (catas_for b.wire) h.inbox b.wire.toggle p) b h w f
    (safe_command (catas_for b.wire) h.inbox b.wire.toggle p H Q w.host fits car w refl x)
    (λ v a j g e m. k v a j g m.0 m.1)

pub course_pick : {R : Type 0} (b : Bool) (x y : Course R) (w : World) (P : World → R → Type 1) → (b ≡ true → SafeCourse w x P) → (b ≡ false → SafeCourse w y P) → SafeCourse w (pick b x y) P
course_pick true x y w P h k = h refl
course_pick false x y w P h k = k refl
