-- The course of a quiesce keeps to the card rules: it frees and unmaps nothing, and what the card may use lies in the buffers of the books as before.
use Prim.Native.Nat.{ℕ, zero, suc, ◌%◌, ◌^◌, ◌<◌}
use native.Mathlib.Omega.{arith}
use mathlib.Core.Bool.{true, false≢true}
use mathlib.Core.Logic.{◌⊎◌, ⊎_elim}
use mathlib.Core.Path.{◌≡◌, refl, sym, ◌∙◌, subst}
use lib.Dec.{eqb}
use Rattle.hcr.specs.Words.{is_reserved}
use Rattle.hcr.specs.declared.Post.{Post}
use Rattle.tasks.specs.Parting.{quieting}
use Rattle.session.specs.Session.{wired, after, broken, silent, icm_at, imm_of, is_held, fa_of, aux_of}
use Rattle.session.specs.Course.{Course, ret, Here, here, left, sends, Rest, at_rest}
use Rattle.session.specs.declared.Wire.{Wire}
use Rattle.session.specs.declared.Books.{Books}
use Rattle.session.specs.declared.Info.{Info}
use Rattle.session.specs.declared.Gave.TheVariants as gv
use Rattle.session.specs.declared.Stage.TheVariants as g
use Rattle.session.specs.declared.Failure.{Failure}
use Rattle.session.specs.declared.Closing.TheVariants as c
use Rattle.closing_plan.specs.Closing.{is_done, undo_post, popped, UNDOS, failing, quieted, quiescing, stopped, onward, unmap_fa, unmap_aux, unmapping, close_hca, undoing}
use Rattle.card.specs.Card.{Held, Command, Card, kind, effect, IsMap, Host, World, mail_at}
use Rattle.card.specs.Known.{Fits, Mailed, Within, posted_as}
use Rattle.card.proofs.Command.{out_within, within_stable}
use Rattle.card.proofs.Still.{safe_quieting}
use Rattle.card.proofs.View.{held_before}
use Rattle.card_calls.specs.SafeCourse.{SafeCourse}
use Rattle.card_calls.specs.Holding.{Boxes, Mine, Lies, Entries}
use Rattle.card_calls.proofs.Courses.{Fair, safe_task, safe_sends, course_pick}
use Rattle.card_calls.proofs.Closing.{fits_imm, fits_undo, mailed_carried, popped_fair, unreserved_other}
use Rattle.card_calls.proofs.Commands.{own_mine}

-- a command of no MAP adds nothing to what is held
lies_kept : (b : Books) (p : Command) → (IsMap (kind p.opcode) → ⊥) → (k : Held) → Lies b k → Lies b (effect p k)
unfolding effect
lies_kept b p free k x = record { within = λ d z. ⊎_elim (λ y. x.within d y) (λ y. absurd (free y.0)) (held_before (kind p.opcode) p k d z) }

-- `quiets` is what is to hold when the quiesce has ended
module _ (n : Info) (f : Failure) (P : World → Rest → Type 1) (l : Host) (b : Books) (x : Boxes b l) (i : Entries b) (mailed : Mailed l)
    (quiets : (y : Wire) (v : World) → y.silent ≡ true → v.host ≡ l → Within (Lies b) (Mine b) v.card → P v (at_rest (g.Open gv.Nothing) (wired b (broken y)) n f c.Clean)) where
  abbrev Known : Card → Type 1
  Known k = Within (Lies b) (Mine b) k

  safe_quieted : (y : Wire) (h : Here) (w : World) → y.silent ≡ true → Fair h → w.host ≡ l → Known w.card → SafeCourse w (quieted n f (wired b y) h) P
  unfolding quieted
  safe_quieted y h w s q e k =
      safe_task (λ u d j. ret (left j) (at_rest (g.Open gv.Nothing) d n f c.Clean)) (λ v u. (v.host ≡ l) × Known v.card) P quieting (wired b (broken y)) h w q
      (safe_quieting h.inbox Known l (within_stable (Lies b) (Mine b)) (λ k o v z. record { now = z.now; then = z.then }) w e k) (λ v a j k d m. quiets y v s m.0 m.1)

  safe_ends : (y : Wire) (h : Here) (w : World) → y.silent ≡ true → Fair h → w.host ≡ l → Known w.card → SafeCourse w (failing n f (wired b y) h) P
  unfolding failing
  safe_ends y h w s q e k = course_pick y.silent _ _ w P (λ t. safe_quieted y h w s q e k) (λ t. absurd (false≢true (sym t ∙ s)))

  -- a command, whatever comes of it
  sent : (p : Post) (next : Books → Here → Course Rest) (y : Wire) (h : Here) (w : World) → y.silent ≡ true → Fair h → w.host ≡ l → Known w.card
      → Fits p (mail_at w.host h.inbox) → (IsMap (kind p.op) → ⊥)
      → ((z : Wire) (j : Here) (v : World) → z.silent ≡ true → Fair j → v.host ≡ l → Known v.card → SafeCourse v (next (wired b z) j) P)
      → SafeCourse w (sends (wired b y) p (onward n f next) h) P
  sent p next y h w s q e k fits free follows =
      safe_sends (wired b y) p (onward n f next) (Lies b) (Mine b) P h w q fits (mailed_carried p w.host l h.inbox e mailed free) k
      (λ v a j d o m.
      let known : Known v.card = out_within (posted_as y.toggle p (mail_at w.host h.inbox)) (Lies b) (Mine b)
      (lies_kept b (posted_as y.toggle p (mail_at w.host h.inbox)) free)
      (subst (λ (z : Host). Mine b (posted_as y.toggle p (mail_at z h.inbox))) (sym e) (own_mine b l x y.toggle p h.inbox free)) a.result v.card m in
      course_pick (is_done a.result) _ _ v P (λ t. follows (after y a) j v s d (o ∙ e) known) (λ t. safe_ends (after y a) j v s d (o ∙ e) known))

  -- THE STEPS, from the last to the first
  safe_stopped : (y : Wire) (h : Here) (w : World) → y.silent ≡ true → Fair h → w.host ≡ l → Known w.card → SafeCourse w (stopped n f (wired b y) h) P
  unfolding stopped
  safe_stopped y h w s q e k = course_pick y.silent _ _ w P (λ t. safe_quieted y h w s q e k) (λ t. absurd (false≢true (sym t ∙ s)))

  safe_unmap_fa : (y : Wire) (h : Here) (w : World) → y.silent ≡ true → Fair h → w.host ≡ l → Known w.card → SafeCourse w (unmap_fa n f (wired b y) h) P
  unfolding unmap_fa
  safe_unmap_fa y h w s q e k =
      course_pick (is_held (fa_of b)) _ _ w P
      (λ t. sent (imm_of 0xffe 0 0 0) (stopped n f) y h w s q e k (fits_imm 0xffe 0 0 _ (omega arith) (λ z. z) (omega arith) (omega arith)) (λ z. z) safe_stopped)
      (λ t. safe_stopped y h w s q e k)

  safe_unmap_aux : (y : Wire) (h : Here) (w : World) → y.silent ≡ true → Fair h → w.host ≡ l → Known w.card → SafeCourse w (unmap_aux n f (wired b y) h) P
  unfolding unmap_aux
  safe_unmap_aux y h w s q e k =
      course_pick (is_held (aux_of b)) _ _ w P
      (λ t. sent (imm_of 0xffb 0 0 0) (unmap_fa n f) y h w s q e k (fits_imm 0xffb 0 0 _ (omega arith) (λ z. z) (omega arith) (omega arith)) (λ z. z) safe_unmap_fa)
      (λ t. safe_unmap_fa y h w s q e k)

  safe_unmapping : (m : ℕ) → ((k : ℕ) → k < m → (icm_at b.lists.slots k).virt < 2 ^ 64) → (y : Wire) (h : Here) (w : World) → y.silent ≡ true → Fair h → w.host ≡ l → Known w.card → SafeCourse w (unmapping n f m (wired b y) h) P
  unfolding unmapping
  safe_unmapping zero a y h w s q e k = safe_unmap_aux y h w s q e k
  safe_unmapping (suc m) a y h w s q e k =
      sent (imm_of 0xff9 0 ((icm_at b.lists.slots m).pages % 2 ^ 32) (icm_at b.lists.slots m).virt) (unmapping n f m) y h w s q e k
      (fits_imm 0xff9 ((icm_at b.lists.slots m).pages % 2 ^ 32) (icm_at b.lists.slots m).virt _ (omega arith) (λ z. z) (let o : (icm_at b.lists.slots m).pages % 2 ^ 32 < 2 ^ 32 = omega arith in o)
      (a m (let o : m < suc m = omega arith in o))) (λ z. z)
      (safe_unmapping m (λ j less. a j (let o : j < suc m = omega (arith, less) in o)))

  safe_close_hca : (y : Wire) (h : Here) (w : World) → y.silent ≡ true → Fair h → w.host ≡ l → Known w.card → SafeCourse w (close_hca n f (wired b y) h) P
  unfolding close_hca
  safe_close_hca y h w s q e k =
      course_pick b.started _ _ w P
      (λ t. sent (imm_of 0x008 0 0 0) (λ d j. unmapping n f d.lists.ranges d j) y h w s q e k (fits_imm 0x008 0 0 _ (omega arith) (λ z. z) (omega arith) (omega arith)) (λ z. z) (safe_unmapping b.lists.ranges i.addressed))
      (λ t. safe_unmapping b.lists.ranges i.addressed y h w s q e k)

  safe_undoing : (m : ℕ) (y : Wire) (h : Here) (w : World) → y.silent ≡ true → Fair h → w.host ≡ l → Known w.card → SafeCourse w (undoing n f m (wired b y) h) P
  unfolding undoing
  safe_undoing zero y h w s q e k = course_pick (eqb h.undo.count 0) _ _ w P (λ t. safe_close_hca y h w s q e k) (λ t. safe_ends y h w s q e k)
  safe_undoing (suc m) y h w s q e k =
      course_pick (eqb h.undo.count 0) _ _ w P (λ t. safe_close_hca y h w s q e k)
      (λ t. course_pick (is_reserved h.undo.op) _ _ w P (λ d. safe_ends y h w s q e k)
      (λ d. sent (undo_post h.undo) (undoing n f m) y (here h.inbox h.outbox (popped h.undo)) w s (popped_fair h q) e k
      (fits_undo h.undo _ q.undo d) (λ z. subst IsMap (unreserved_other h.undo.op d) z) (safe_undoing m)))

  -- QUIESCE
  pub safe_quiescing : (h : Here) (w : World) → Fair h → w.host ≡ l → Known w.card → SafeCourse w (quiescing n f b h) P
  unfolding quiescing
  safe_quiescing h w q e k =
      course_pick b.wire.broken _ _ w P (λ t. safe_quieted (silent b.wire) h w refl q e k) (λ t. safe_undoing UNDOS (silent b.wire) h w refl q e k)
