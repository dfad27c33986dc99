-- The course of a closing keeps to the card rules: by commands or by a reset, then all is given back, or kept if the reset failed.
use Prim.Native.Nat.{ℕ, zero, suc, ◌+◌, ◌/◌, ◌%◌, ◌^◌, ◌≤◌, ◌<◌}
use native.Mathlib.Omega.{arith}
use mathlib.Core.Bool.{Bool, true, false, false≢true}
use mathlib.Core.List.{List, [], ◌∷◌, ◌++◌}
use mathlib.Core.Logic.{◌⊎◌, ⊎_elim}
use mathlib.Core.Option.{Option}
use mathlib.Core.Path.{◌≡◌, refl, sym, ◌∙◌, ap, subst}
use lib.Dec.{eqb, ltb}
use borrow.Author.Tests.{ltb-false, eqb-true, eqb-false}
use Rattle.fields.specs.Outcome.{pick}
use Rattle.dma.specs.declared.Buffer.{Buffer}
use Rattle.hcr.specs.Words.{is_reserved, is_in, reserved_ops}
use Rattle.hcr.specs.declared.Post.{Post}
use Rattle.command.specs.declared.CmdResult.{CmdResult}
use Rattle.command.specs.declared.CmdResult.TheVariants as r
use Rattle.reset.specs.Reset.{reset, is_good}
use Rattle.buffer.specs.Buffer.{freeing}
use Rattle.tasks.specs.Parting.{releasing, restoring}
use Rattle.session.specs.Session.{wired, after, icm_at, imm_of, slot_at, no_slot, buffer_of, is_held, fa_of, aux_of, named, named_from, taken_off}
use Rattle.session.specs.Course.{Course, ret, Here, here, left, sends, Rest, at_rest, slot, run}
use Rattle.session.specs.declared.Slot.{Slot}
use Rattle.session.specs.declared.Top.{Top}
use Rattle.session.specs.declared.Wire.{Wire}
use Rattle.session.specs.declared.Books.{Books}
use Rattle.session.specs.declared.Info.{Info}
use Rattle.session.specs.declared.Stage.TheVariants as g
use Rattle.session.specs.declared.Failure.{Failure}
use Rattle.session.specs.declared.Closing.{Closing}
use Rattle.session.specs.declared.Closing.TheVariants as c
use Rattle.closing_plan.specs.Closing.{undo_post, popped, UNDOS, restored, parted, freed, giving, resetting, failing, stopped, onward, unmap_fa, unmap_aux, unmapping, close_hca, undoing, stopping}
use Rattle.card.specs.Card.{Held, Command, Card, Mail, Other, kind, does, effect, IsMap, Hold, Host, World, mail_at, store}
use Rattle.card.specs.Owns.{Owns}
use Rattle.card.proofs.Command.{quiet_stable, quiet_within}
use Rattle.card.proofs.Still.{safe_still, restoring_still, safe_releasing}
use Rattle.card.proofs.Reset.{safe_reset}
use Rattle.card.proofs.View.{nothing_empty, other_effect}
use Rattle.card.proofs.Owns.{safe_freeing}
use Rattle.card_calls.specs.SafeCourse.{Typed, SafeCourse}
use Rattle.card_calls.proofs.Slots.{named_other, freeing_ends}
use Rattle.card_calls.proofs.Courses.{safe_run, Fair, safe_task, safe_sends, course_pick}
use Rattle.card.specs.Known.{After, Carried, Clean, Empty, Fits, Mailed, Out, Quiet, ResetPost, Stable, Within, posted_as}
use Rattle.card_calls.specs.Owed.{Dropped, Owed, OwedBy, Stoppable}
use Rattle.card.proofs.Bools.{or_left, or_right}

false≢ : {A : Type 0} → ◌≡◌ {A = Bool} false true → A
false≢ e = absurd (false≢true e)

owed_none : (icms : List Slot) (h : Held) → Owed icms false 0 false false h → Empty h
owed_none icms h x = record {
  nothing = λ d z. ⊎_elim (λ i. let y = x.icm i.0 d i.1 in let q : ⊥ = omega (arith, y.1) in q)
      (λ u. ⊎_elim (λ f. false≢ (x.firmware d f)) (λ y. ⊎_elim (λ a. false≢ (x.auxiliary d a)) (λ l. false≢ (x.lent d l)) y) u) z;
}

module _ (icms : List Slot) (p : Command) where
  owed_other : (st : Bool) (n : ℕ) (aux fa : Bool) → kind p.opcode ≡ Other → (k : Held) → After p (Owed icms st n aux fa) k → Owed icms st n aux fa k
  owed_other st n aux fa o k (h, x, e) = subst (Owed icms st n aux fa) (sym (e ∙ other_effect p h o)) x

  owed_close : (st : Bool) (n : ℕ) (aux fa : Bool) → p.opcode ≡ 0x008 → (k : Held) → After p (Owed icms st n aux fa) k → Owed icms false n aux fa k
  unfolding effect
  owed_close st n aux fa o k (h, x, e) =
      subst (Owed icms false n aux fa) (sym (e ∙ ap (λ (y : ℕ). does (kind y) p h) o)) (record { icm = x.icm; firmware = x.firmware; auxiliary = x.auxiliary; lent = λ d z. absurd z })

  owed_aux : (fa : Bool) → p.opcode ≡ 0xffb → (k : Held) → After p (Owed icms false 0 true fa) k → Owed icms false 0 false fa k
  unfolding effect
  owed_aux fa o k (h, x, e) =
      subst (Owed icms false 0 false fa) (sym (e ∙ ap (λ (y : ℕ). does (kind y) p h) o)) (record { icm = x.icm; firmware = x.firmware; auxiliary = λ d z. absurd z; lent = x.lent })

  owed_fa : p.opcode ≡ 0xffe → (k : Held) → After p (Owed icms false 0 false true) k → Owed icms false 0 false false k
  unfolding effect
  owed_fa o k (h, x, e) =
      subst (Owed icms false 0 false false) (sym (e ∙ ap (λ (y : ℕ). does (kind y) p h) o)) (record { icm = x.icm; firmware = λ d z. absurd z; auxiliary = x.auxiliary; lent = x.lent })

  owed_unmap : (n : ℕ) (aux fa : Bool) → p.opcode ≡ 0xff9 → p.in_mod ≡ (icm_at icms n).pages % 2 ^ 32 → p.in_param ≡ (icm_at icms n).virt
      → (k : Held) → After p (Owed icms false (suc n) aux fa) k → Owed icms false n aux fa k
  unfolding effect
  owed_unmap n aux fa o m q k (h, x, e) =
      subst (Owed icms false n aux fa) (sym (e ∙ ap (λ (y : ℕ). does (kind y) p h) o)) (record {
        icm = λ v d z. let y = x.icm v d z.0 in older v z.1 y.0 y.1 y.2 (eqb y.0 n) refl;
        firmware = x.firmware;
        auxiliary = x.auxiliary;
        lent = x.lent;
      })
    where
      older : (v : ℕ) → ((p.in_param / 4096 ≤ v) × (v < p.in_param / 4096 + p.in_mod) → ⊥) → (j : ℕ) → j < suc n → Dropped (icm_at icms j) v → (t : Bool) → eqb j n ≡ t
          → (j : ℕ) × (j < n) × Dropped (icm_at icms j) v
      older v away j less d true t =
          let same = eqb-true j n t in
          let f = subst (λ (y : ℕ). Dropped (icm_at icms y) v) same d in
          absurd (away (rw (m, q) f))
      older v away j less d false t = let n' = eqb-false j n t in (j, below j less n', d)
        where
          below : (j : ℕ) → j < suc n → (j ≡ n → ⊥) → j < n
          below j a b = omega (arith, a, b)

-- AN UNDO RECORD is a command of no effect: its opcode is none that bring-up or closing sends
abbrev Outside : ℕ → List ℕ → Type 0
Outside n [] = Unit {0}
Outside n (x ∷ xs) = (eqb n x ≡ false) × Outside n xs

outside : (n : ℕ) (xs : List ℕ) → is_in n xs ≡ false → Outside n xs
unfolding is_in
outside n [] e = tt
outside n (x ∷ xs) e = (or_left (eqb n x) (is_in n xs) e, outside n xs (or_right (eqb n x) (is_in n xs) e))

pub unreserved_small : (n : ℕ) → is_reserved n ≡ false → n < 0x1000
unreserved_small n e = let l = ltb-false 0xfff n (or_left (ltb 0xfff n) (is_in n reserved_ops) e) in omega (arith, l)

pub unreserved_other : (n : ℕ) → is_reserved n ≡ false → kind n ≡ Other
unreserved_other n e =
    let o = outside n reserved_ops (or_right (ltb 0xfff n) (is_in n reserved_ops) e) in
    rw (o.1.1.1.1.1.1.1.1.1.1.0, o.1.1.1.1.1.1.1.1.1.0, o.1.1.1.1.1.1.1.0, o.1.1.1.1.1.1.0, o.1.1.1.1.1.0, o.1.1.1.1.0, o.1.0) refl

pub fits_undo : (u : Top) (m : Mail) → Typed u → is_reserved u.op ≡ false → Fits (undo_post u) m
fits_undo u m t e = record {
  op = unreserved_small u.op e;
  op_mod = t.op_mod;
  in_mod = t.in_mod;
  in_param = t.in_param;
  out_param = omega arith;
  addressed = λ z. absurd (subst IsMap (unreserved_other u.op e) z);
}

pub fits_imm : (op n x : ℕ) (m : Mail) → op < 0x1000 → (IsMap (kind op) → ⊥) → n < 2 ^ 32 → x < 2 ^ 64 → Fits (imm_of op 0 n x) m
fits_imm op n x m a never b d = record { op = a; op_mod = omega arith; in_mod = b; in_param = d; out_param = omega arith; addressed = λ z. absurd (never z) }

-- a command of no MAP carries the mailboxes alone
pub mailed_carried : (p : Post) (k l : Host) (i : List ℕ) → k ≡ l → Mailed l → (IsMap (kind p.op) → ⊥) → Carried p k i
mailed_carried p k l i e m never =
    subst (λ (z : Host). Carried p z i) (sym e) (λ d z. ⊎_elim (λ y. m.inbox d y) (λ u. ⊎_elim (λ y. m.outbox d y) (λ y. absurd (never y.0)) u) z)

pub popped_fair : (h : Here) → Fair h → Fair (here h.inbox h.outbox (popped h.undo))
popped_fair h q = record { inbox = q.inbox; outbox = q.outbox; undo = record { op_mod = q.undo.op_mod; in_mod = q.undo.in_mod; in_param = q.undo.in_param } }

-- a closing that gives back is not one that keeps
pub clean_differs : c.Clean ≡ c.Kept → ⊥
clean_differs e = subst (λ (x : Closing). IsClean x) e tt
  where
    IsClean : Closing → Type 0
    IsClean c.Clean = Unit {0}
    IsClean c.Reset = ⊥
    IsClean c.Kept = ⊥

pub reset_differs : c.Reset ≡ c.Kept → ⊥
reset_differs e = subst (λ (x : Closing). IsReset x) e tt
  where
    IsReset : Closing → Type 0
    IsReset c.Clean = ⊥
    IsReset c.Reset = Unit {0}
    IsReset c.Kept = ⊥

-- THE END OF A CLOSING: `back` and `kept` are what is to hold when all was given back, and when all was kept
module _ (n : Info) (f : Failure) (P : World → Rest → Type 1) where
  -- the owner is released and the attributes are restored; what is known of the card is stable, and does not speak of registers
  module _ (l : Host) (I : Card → Type 1) (stable : Stable I) (stores : (k : Card) (o v : ℕ) → I k → I (store k o v)) (x : Closing) (b : Books)
      (ends : (v : World) → v.host ≡ l → I v.card → P v (at_rest g.Ended b n f x)) where
    pub safe-restored : (h : Here) (w : World) → Fair h → w.host ≡ l → I w.card → SafeCourse w (restored n f x b h) P
    unfolding restored
    safe-restored h w q e i =
        safe_task (λ y d k. ret (left k) (at_rest g.Ended d n f x)) (λ v u. (v.host ≡ l) × I v.card) P (restoring b.original) b h w q
        (safe_still h.inbox (restoring b.original) I l w (restoring_still b.original) stable e i) (λ v a j k d m. ends v m.0 m.1)

    pub safe-parted : (h : Here) (w : World) → Fair h → w.host ≡ l → I w.card → SafeCourse w (parted n f x b h) P
    unfolding parted
    safe-parted h w q e i =
        safe_task (λ y d k. restored n f x d k) (λ v u. (v.host ≡ l) × I v.card) P releasing b h w q
        (safe_releasing h.inbox I l stable stores w e i) (λ v a j k d m. safe-restored j v k m.0 m.1)

  module _ (base : ℕ → Option Hold) where
    -- the m slots from i on
    safe-freed : (m i : ℕ) (k : Books → Here → Course Rest) → ((d : Books) (j : Here) (v : World) → Fair j → Owns base [] v.host → Quiet Empty v.card → SafeCourse v (k d j) P)
        → (b : Books) (h : Here) (w : World) → Fair h → Owns base (named_from m i b.lists.slots) w.host → Quiet Empty w.card → SafeCourse w (freed n f m i k b h) P
    unfolding freed named_from
    safe-freed zero i k next b h w q x e = next b h w q x e
    safe-freed (suc m) i k next b h w q x e = by-held (safe-freed m (suc i) k next) (is_held (slot_at b.lists.slots i)) x
      where
        by-held : ((d : Books) (j : Here) (v : World) → Fair j → Owns base (named_from m (suc i) d.lists.slots) v.host → Quiet Empty v.card → SafeCourse v (freed n f m (suc i) k d j) P)
            → (t : Bool) → Owns base (pick t (buffer_of (slot_at b.lists.slots i) ∷ []) [] ++ named_from m (suc i) b.lists.slots) w.host
            → SafeCourse w (pick t (run (slot i 0) (freeing (slot_at b.lists.slots i).handle (slot_at b.lists.slots i).pages) (λ u d j. freed n f m (suc i) k d j) b h) (freed n f m (suc i) k b h)) P
        by-held again true x =
            safe_run (λ u d j. freed n f m (suc i) k d j) (λ v u. Owns base (named_from m (suc i) b.lists.slots) v.host × Quiet Empty v.card) P (slot i 0)
            (freeing (slot_at b.lists.slots i).handle (slot_at b.lists.slots i).pages) b (λ u d. d ≡ taken_off i b) h w q
            (λ i'. safe_freeing i' base (buffer_of (slot_at b.lists.slots i)) (named_from m (suc i) b.lists.slots) w x e)
            (freeing_ends i 0 (slot_at b.lists.slots i).handle (slot_at b.lists.slots i).pages b)
            (λ v a d j g z same. again d j v g
            (subst (λ (xs : List Buffer). Owns base xs v.host)
            (sym (ap (λ (y : Books). named_from m (suc i) y.lists.slots) same ∙ named_other m (suc i) b.lists.slots i no_slot (λ j c d z. let y : ⊥ = omega (arith, c, z) in y))) z.0) z.1)
        by-held again false x = again b h w q x e

    quiet-store : (k : Card) (o v : ℕ) → Quiet Empty k → Quiet Empty (store k o v)
    quiet-store k o v q = q

    -- all that is held is freed, and the card is given up
    module _ (back : (x : Closing) (b : Books) (v : World) → (x ≡ c.Kept → ⊥) → Owns base [] v.host → Quiet Empty v.card → P v (at_rest g.Ended b n f x)) where
      pub safe-giving : (x : Closing) (b : Books) (h : Here) (w : World) → (x ≡ c.Kept → ⊥) → Fair h → Owns base (named b) w.host → Quiet Empty w.card → SafeCourse w (giving n f x b h) P
      unfolding giving
      safe-giving x b h w d q o e =
          safe-freed 82 0 (λ y k. parted n f x y k)
          (λ y j v g a z. safe-parted v.host (Quiet Empty) (quiet_stable Empty) quiet-store x y (λ u a' m. back x y u d (subst (Owns base []) (sym a') a) m) j v g refl z) b h w q o e

    module _ (l : Host) (mailed : Mailed l) (back : (x : Closing) (b : Books) (v : World) → (x ≡ c.Kept → ⊥) → Owns base [] v.host → Quiet Empty v.card → P v (at_rest g.Ended b n f x))
        (kept : (b : Books) (v : World) → Owns base (named b) v.host → v.host ≡ l → P v (at_rest g.Ended b n f c.Kept)) where
      -- nothing need be known of the card
      pub safe-resetting : (b : Books) (h : Here) (w : World) → Fair h → w.host ≡ l → Owns base (named b) w.host → SafeCourse w (resetting n f b h) P
      unfolding resetting
      safe-resetting b h w q e o =
          safe_task (λ a d k. pick (is_good a) (giving n f c.Reset d k) (parted n f c.Kept d k)) (ResetPost w.host) P reset b h w q (safe_reset h.inbox w.host w refl) (λ v a j k i m.
          course_pick (is_good a) _ _ v P
          (λ t. let x = m.1 t in safe-giving back c.Reset b j v reset_differs k (subst (Owns base (named b)) (sym m.0) o) (x.1.0, nothing_empty v.card.held x.1.1))
          (λ t. safe-parted v.host (λ y. y ≡ y) (λ y z s u. refl) (λ y z s u. refl) c.Kept b
          (λ u a z. kept b u (subst (Owns base (named b)) (sym (a ∙ m.0)) o) (a ∙ m.0 ∙ e)) j v k refl refl))

      quiet-stoppable : (H : Held → Type 1) (y : Wire) (k : Card) → Quiet H k → Stoppable H y k
      quiet-stoppable H y k x = (quiet_within H (λ p. Unit {0}) k x, λ e. x.0)

      -- a closing is not silent: it resets where a command failed
      safe-failing : (b : Books) (h : Here) (w : World) → b.wire.silent ≡ false → Fair h → w.host ≡ l → Owns base (named b) w.host → SafeCourse w (failing n f b h) P
      unfolding failing
      safe-failing b h w s q e o = course_pick b.wire.silent _ _ w P (λ t. absurd (false≢true (sym s ∙ t))) (λ t. safe-resetting b h w q e o)

      -- a command of the closing: where it was good the next follows, and else the reset
      sent : (p : Post) (H G : Held → Type 1) (next : Books → Here → Course Rest) (b : Books) (h : Here) (w : World) → b.wire.silent ≡ false → Fair h → w.host ≡ l → Owns base (named b) w.host
          → Fits p (mail_at w.host h.inbox) → (IsMap (kind p.op) → ⊥) → Within H (λ q. Unit {0}) w.card
          → ((k : Held) → After (posted_as b.wire.toggle p (mail_at w.host h.inbox)) H k → G k)
          → ((y : Wire) (j : Here) (v : World) → y.silent ≡ false → Fair j → v.host ≡ l → Owns base (named b) v.host → Quiet G v.card → SafeCourse v (next (wired b y) j) P)
          → SafeCourse w (sends b p (onward n f next) h) P
      sent p H G next b h w s₀ q e o fits never x gives follows =
          safe_sends b p (onward n f next) H (λ y. Unit {0}) P h w q fits (mailed_carried p w.host l h.inbox e mailed never) x
          (λ v a j k d m. by_result a.result (after b.wire a) v j s₀ k d m)
        where
          by_result : (a : CmdResult) (y : Wire) (v : World) (j : Here) → y.silent ≡ false → Fair j → v.host ≡ w.host → Out (posted_as b.wire.toggle p (mail_at w.host h.inbox)) H (λ y. Unit {0}) a v.card
              → SafeCourse v (onward n f next a (wired b y) j) P
          by_result (r.Done z us) y v j s₁ k d m = follows y j v s₁ k (d ∙ e) (subst (Owns base (named b)) (sym d) o) (m.0, gives v.card.held m.1)
          by_result (r.Status s us) y v j s₁ k d m = safe-failing (wired b y) j v s₁ k (d ∙ e) (subst (Owns base (named b)) (sym d) o)
          by_result (r.Timeout us) y v j s₁ k d m = safe-failing (wired b y) j v s₁ k (d ∙ e) (subst (Owns base (named b)) (sym d) o)
          by_result r.Busy y v j s₁ k d m = safe-failing (wired b y) j v s₁ k (d ∙ e) (subst (Owns base (named b)) (sym d) o)
          by_result (r.Bus us) y v j s₁ k d m = safe-failing (wired b y) j v s₁ k (d ∙ e) (subst (Owns base (named b)) (sym d) o)

      -- THE STEPS, from the last to the first
      safe_stopped : (b : Books) (h : Here) (w : World) → b.wire.silent ≡ false → Fair h → w.host ≡ l → Owns base (named b) w.host → Stoppable (Owed b.lists.slots false 0 false false) b.wire w.card
          → SafeCourse w (stopped n f b h) P
      unfolding stopped
      safe_stopped b h w l₁ q e o x =
          course_pick b.wire.silent _ _ w P (λ t. absurd (false≢true (sym l₁ ∙ t)))
          (λ s. course_pick b.wire.running _ _ w P (λ t. safe-resetting b h w q e o)
          (λ t. safe-giving back c.Clean b h w clean_differs q o (x.1 t, owed_none b.lists.slots w.card.held x.0.now)))

      safe_unmap_fa : (b : Books) (h : Here) (w : World) → b.wire.silent ≡ false → Fair h → w.host ≡ l → Owns base (named b) w.host
          → Stoppable (Owed b.lists.slots false 0 false (is_held (fa_of b))) b.wire w.card → SafeCourse w (unmap_fa n f b h) P
      unfolding unmap_fa
      safe_unmap_fa b h w l₁ q e o x = by-held (is_held (fa_of b)) x
        where
          by-held : (t : Bool) → Stoppable (Owed b.lists.slots false 0 false t) b.wire w.card
              → SafeCourse w (pick t (sends b (imm_of 0xffe 0 0 0) (onward n f (stopped n f)) h) (stopped n f b h)) P
          by-held true x =
              sent (imm_of 0xffe 0 0 0) (Owed b.lists.slots false 0 false true) (Owed b.lists.slots false 0 false false) (stopped n f) b h w l₁ q e o
              (fits_imm 0xffe 0 0 _ (omega arith) (λ z. z) (omega arith) (omega arith)) (λ z. z) x.0 (owed_fa b.lists.slots _ refl)
              (λ y j v i k d u z. safe_stopped (wired b y) j v i k d u (quiet-stoppable (Owed b.lists.slots false 0 false false) y v.card z))
          by-held false x = safe_stopped b h w l₁ q e o x

      safe_unmap_aux : (b : Books) (h : Here) (w : World) → b.wire.silent ≡ false → Fair h → w.host ≡ l → Owns base (named b) w.host
          → Stoppable (Owed b.lists.slots false 0 (is_held (aux_of b)) (is_held (fa_of b))) b.wire w.card → SafeCourse w (unmap_aux n f b h) P
      unfolding unmap_aux
      safe_unmap_aux b h w l₁ q e o x = by-held (is_held (aux_of b)) x
        where
          by-held : (t : Bool) → Stoppable (Owed b.lists.slots false 0 t (is_held (fa_of b))) b.wire w.card
              → SafeCourse w (pick t (sends b (imm_of 0xffb 0 0 0) (onward n f (unmap_fa n f)) h) (unmap_fa n f b h)) P
          by-held true x =
              sent (imm_of 0xffb 0 0 0) (Owed b.lists.slots false 0 true (is_held (fa_of b))) (Owed b.lists.slots false 0 false (is_held (fa_of b))) (unmap_fa n f) b h w l₁ q e o
              (fits_imm 0xffb 0 0 _ (omega arith) (λ z. z) (omega arith) (omega arith)) (λ z. z) x.0 (owed_aux b.lists.slots _ (is_held (fa_of b)) refl)
              (λ y j v i k d u z. safe_unmap_fa (wired b y) j v i k d u (quiet-stoppable (Owed b.lists.slots false 0 false (is_held (fa_of b))) y v.card z))
          by-held false x = safe_unmap_fa b h w l₁ q e o x

      -- the card addresses of the ranges have 64 bits
      abbrev pub Addressed : Books → Type 0
      Addressed b = (k : ℕ) → k < b.lists.ranges → (icm_at b.lists.slots k).virt < 2 ^ 64

      safe_unmapping : (i : ℕ) (b : Books) (h : Here) (w : World) → ((k : ℕ) → k < i → (icm_at b.lists.slots k).virt < 2 ^ 64) → b.wire.silent ≡ false → Fair h → w.host ≡ l → Owns base (named b) w.host
          → Stoppable (Owed b.lists.slots false i (is_held (aux_of b)) (is_held (fa_of b))) b.wire w.card → SafeCourse w (unmapping n f i b h) P
      unfolding unmapping
      safe_unmapping zero b h w a l₁ q e o x = safe_unmap_aux b h w l₁ q e o x
      safe_unmapping (suc i) b h w a l₁ q e o x =
          sent (imm_of 0xff9 0 ((icm_at b.lists.slots i).pages % 2 ^ 32) (icm_at b.lists.slots i).virt) (Owed b.lists.slots false (suc i) (is_held (aux_of b)) (is_held (fa_of b)))
          (Owed b.lists.slots false i (is_held (aux_of b)) (is_held (fa_of b))) (unmapping n f i) b h w l₁ q e o
          (fits_imm 0xff9 ((icm_at b.lists.slots i).pages % 2 ^ 32) (icm_at b.lists.slots i).virt _ (omega arith) (λ z. z) (let g : (icm_at b.lists.slots i).pages % 2 ^ 32 < 2 ^ 32 = omega arith in g)
          (a i (let g : i < suc i = omega arith in g))) (λ z. z) x.0
          (owed_unmap b.lists.slots _ i (is_held (aux_of b)) (is_held (fa_of b)) refl refl refl)
          (λ y j v i₁ k d u z. safe_unmapping i (wired b y) j v (λ m less. a m (let g : m < suc i = omega (arith, less) in g)) i₁ k d u
          (quiet-stoppable (Owed b.lists.slots false i (is_held (aux_of b)) (is_held (fa_of b))) y v.card z))

      safe_close_hca : (b : Books) (h : Here) (w : World) → Addressed b → b.wire.silent ≡ false → Fair h → w.host ≡ l → Owns base (named b) w.host → Stoppable (OwedBy b) b.wire w.card
          → SafeCourse w (close_hca n f b h) P
      unfolding close_hca
      safe_close_hca b h w a l₁ q e o x = by-started b.started x
        where
          by-started : (t : Bool) → Stoppable (Owed b.lists.slots t b.lists.ranges (is_held (aux_of b)) (is_held (fa_of b))) b.wire w.card
              → SafeCourse w (pick t (sends b (imm_of 0x008 0 0 0) (onward n f (λ d j. unmapping n f d.lists.ranges d j)) h) (unmapping n f b.lists.ranges b h)) P
          by-started true x =
              sent (imm_of 0x008 0 0 0) (Owed b.lists.slots true b.lists.ranges (is_held (aux_of b)) (is_held (fa_of b)))
              (Owed b.lists.slots false b.lists.ranges (is_held (aux_of b)) (is_held (fa_of b))) (λ d j. unmapping n f d.lists.ranges d j) b h w l₁ q e o
              (fits_imm 0x008 0 0 _ (omega arith) (λ z. z) (omega arith) (omega arith)) (λ z. z) x.0
              (owed_close b.lists.slots _ true b.lists.ranges (is_held (aux_of b)) (is_held (fa_of b)) refl)
              (λ y j v i k d u z. safe_unmapping b.lists.ranges (wired b y) j v a i k d u
              (quiet-stoppable (Owed b.lists.slots false b.lists.ranges (is_held (aux_of b)) (is_held (fa_of b))) y v.card z))
          by-started false x = safe_unmapping b.lists.ranges b h w a l₁ q e o x

      safe_undoing : (more : ℕ) (b : Books) (h : Here) (w : World) → Addressed b → b.wire.silent ≡ false → Fair h → w.host ≡ l → Owns base (named b) w.host → Stoppable (OwedBy b) b.wire w.card
          → SafeCourse w (undoing n f more b h) P
      unfolding undoing
      safe_undoing zero b h w a l₁ q e o x = course_pick (eqb h.undo.count 0) _ _ w P (λ t. safe_close_hca b h w a l₁ q e o x) (λ t. safe-failing b h w l₁ q e o)
      safe_undoing (suc m) b h w a l₁ q e o x =
          course_pick (eqb h.undo.count 0) _ _ w P (λ t. safe_close_hca b h w a l₁ q e o x)
          (λ t. course_pick (is_reserved h.undo.op) _ _ w P (λ d. safe-failing b h w l₁ q e o)
          (λ d. sent (undo_post h.undo) (OwedBy b) (OwedBy b) (undoing n f m) b (here h.inbox h.outbox (popped h.undo)) w l₁ (popped_fair h q) e o
          (fits_undo h.undo _ q.undo d) (λ z. subst IsMap (unreserved_other h.undo.op d) z) x.0
          (owed_other b.lists.slots _ b.started b.lists.ranges (is_held (aux_of b)) (is_held (fa_of b)) (unreserved_other h.undo.op d))
          (λ y j v i k s u z. safe_undoing m (wired b y) j v a i k s u (quiet-stoppable (OwedBy b) y v.card z))))

      -- CLOSING
      pub safe-stopping : (b : Books) (h : Here) (w : World) → Addressed b → Fair h → w.host ≡ l → Owns base (named b) w.host → (b.wire.broken ≡ false → b.wire.silent ≡ false)
          → (b.wire.broken ≡ false → Stoppable (OwedBy b) b.wire w.card) → SafeCourse w (stopping n f b h) P
      unfolding stopping
      safe-stopping b h w a q e o l₁ x =
          course_pick b.wire.broken _ _ w P (λ t. safe-resetting b h w q e o) (λ t. safe_undoing UNDOS b h w a (l₁ t) q e o (x t))
