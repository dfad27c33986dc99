-- The commands of an opening: what is known before and after each, and that a failure leads into a closing that keeps to the card rules.
use Prim.Native.Nat.{ℕ, ◌^◌, ◌<◌}
use native.Mathlib.Omega.{arith}
use mathlib.Core.Bool.{Bool, true, false, false≢true}
use mathlib.Core.List.{List, [], ◌++◌}
use mathlib.Core.Logic.{◌⊎◌, inl, inr, ⊎_elim}
use mathlib.Core.Option.{Option, some}
use mathlib.Core.Path.{◌≡◌, refl, sym, ◌∙◌, ap, subst}
use Rattle.fields.specs.Outcome.{Outcome, value, refused, pick}
use Rattle.hcr.specs.declared.Post.{Post}
use Rattle.pci.specs.declared.Refusal.{Refusal}
use Rattle.command.specs.declared.CmdEnd.{CmdEnd}
use Rattle.command.specs.declared.CmdResult.{CmdResult}
use Rattle.command.specs.declared.CmdResult.TheVariants as r
use Rattle.session.specs.Failures.{broken_by}
use Rattle.session.specs.Session.{wired, after, end_seen, broken, imm_of, with_in_of, with_out_of, inbox_of, outbox_of, named, INBOX, OUTBOX}
use Rattle.session.specs.Course.{Course, Here, sends, Rest, at_rest}
use Rattle.session.specs.declared.Wire.{Wire}
use Rattle.session.specs.declared.Books.{Books}
use Rattle.session.specs.declared.Info.{Info}
use Rattle.session.specs.declared.Stage.TheVariants as g
use Rattle.session.specs.declared.Failure.{Failure}
use Rattle.session.specs.declared.Failure.TheVariants as f
use Rattle.session.specs.declared.Closing.{Closing}
use Rattle.session.specs.declared.Closing.TheVariants as c
use Rattle.closing_plan.specs.Closing.{is_done}
use Rattle.opening_plan.specs.Values.{refusal_of}
use Rattle.opening_plan.specs.Opening.{fails, on_value}
use Rattle.pci.specs.Script.{Spot}
use Rattle.dma.specs.declared.Buffer.{Buffer}
use Rattle.card.specs.Card.{Held, Command, Card, Mail, Other, kind, effect, IsMap, StandsAt, OnBox, Hold, Host, World, mail_at}
use Rattle.card.specs.Owns.{Owns, InBooks, spot_of}
use Rattle.card.proofs.Owns.{In, in_books, owns_ours}
use Rattle.card_calls.proofs.Slots.{in_named}
use Rattle.card.proofs.Command.{quiet_within, out_within}
use Rattle.card.proofs.View.{other_effect}
use Rattle.card_calls.proofs.Courses.{Fair, safe_sends}
use Rattle.card_calls.proofs.Closing.{safe-stopping}
use Rattle.card_calls.proofs.Books.{knows_owed}
use Rattle.card_calls.specs.SafeCourse.{SafeCourse}
use Rattle.card.specs.Known.{After, Carried, Empty, Fits, Mailed, Out, Quiet, Within, posted_as}
use Rattle.card_calls.specs.Owed.{OwedBy}
use Rattle.card_calls.specs.Holding.{Boxes, Calm, Mine, Entries, Knows, Ready}

-- COMMANDS THAT FIT
module _ (b : Books) (k : Host) (x : Boxes b k) where
  in_device : (inbox_of b).dev ≡ x.inbox.dev
  in_device = ap (λ (y : Buffer). y.dev) x.in_held.1

  out_device : (outbox_of b).dev ≡ x.outbox.dev
  out_device = ap (λ (y : Buffer). y.dev) x.out_held.1

  pub fits_in : (op n : ℕ) (i : List ℕ) → op < 0x1000 → n < 2 ^ 32 → Fits (with_in_of b op n) (mail_at k i)
  fits_in op n i h l = record {
    op = h;
    op_mod = omega arith;
    in_mod = l;
    in_param = subst (λ (y : ℕ). y < 2 ^ 64) (sym in_device) x.in_less;
    out_param = omega arith;
    addressed = λ z. subst (λ (y : Option _). StandsAt y (inbox_of b).dev) (sym x.in_at) (sym in_device);
  }

  pub fits_out : (op n : ℕ) (i : List ℕ) → op < 0x1000 → n < 2 ^ 32 → kind op ≡ Other → Fits (with_out_of b op n) (mail_at k i)
  fits_out op n i h l e = record {
    op = h;
    op_mod = omega arith;
    in_mod = l;
    in_param = omega arith;
    out_param = subst (λ (y : ℕ). y < 2 ^ 64) (sym out_device) x.out_less;
    addressed = λ z. absurd (subst IsMap e z);
  }

pub fits_imm : (op y : ℕ) (m : Mail) → op < 0x1000 → kind op ≡ Other → y < 2 ^ 64 → Fits (imm_of op 0 0 y) m
fits_imm op y m h e l = record { op = h; op_mod = omega arith; in_mod = omega arith; in_param = l; out_param = omega arith; addressed = λ z. absurd (subst IsMap e z) }

-- what a command of no effect leaves of what is held
pub calm_kept : (p : Command) (H : Held → Type 1) → kind p.opcode ≡ Other → (k : Held) → H k → H (effect p k)
calm_kept p H e k x = subst H (sym (other_effect p k e)) x

-- the mailboxes are among the buffers, and a command of no MAP carries nothing else
pub own_mine : (b : Books) (k : Host) (x : Boxes b k) (t : Bool) (p : Post) (i : List ℕ) → (IsMap (kind p.op) → ⊥) → Mine b (posted_as t p (mail_at k i))
own_mine b k x t p i free = λ d z. ⊎_elim (λ y. boxed d x.inbox k.inbox x.in_at in-box y) (λ u. ⊎_elim (λ y. boxed d x.outbox k.outbox x.out_at out-box y) (λ y. absurd (free y.0)) u) z
  where
    boxed : (d : ℕ) (c : Buffer) (o : Option Spot) → o ≡ some (spot_of c) → In c (named b) → OnBox o d → InBooks (named b) d
    boxed d c o q m y = in_books c (named b) d m (subst (λ (z : Option Spot). OnBox z d) q y)

    in-box : In x.inbox (named b)
    in-box = subst (λ (c : Buffer). In c (named b)) x.in_held.1 (in_named 82 0 b.lists.slots INBOX (omega arith) (omega arith) x.in_held.0)

    out-box : In x.outbox (named b)
    out-box = subst (λ (c : Buffer). In c (named b)) x.out_held.1 (in_named 82 0 b.lists.slots OUTBOX (omega arith) (omega arith) x.out_held.0)

pub own_calm : (b : Books) (k : Host) (x : Boxes b k) (t : Bool) (p : Post) (i : List ℕ) → kind p.op ≡ Other → Calm b (posted_as t p (mail_at k i))
own_calm b k x t p i e = (e, own_mine b k x t p i (λ z. subst IsMap e z))

pub calm_within : (b : Books) (p : Command) (H : Held → Type 1) (a : CmdResult) (k : Card) → Calm b p → Out p H (Calm b) a k → Within H (Calm b) k
calm_within b p H a k e x = out_within p H (Calm b) (calm_kept p H e.0) e a k x

-- the mailboxes are the session's own
pub boxes_mailed : (base : ℕ → Option Hold) (b : Books) (k : Host) → Boxes b k → Owns base (named b) k → Mailed k
boxes_mailed base b k x o =
    let mine = own_mine b k x true (imm_of 0 0 0 0) [] (λ z. z) in
    record {
      inbox = λ d z. owns_ours (named b) k o.own o.dealt d (mine d (inl z));
      outbox = λ d z. owns_ours (named b) k o.own o.dealt d (mine d (inr (inl z)));
    }

-- THE OPENING'S ENDS: `back` and `kept` are what is to hold when all was given back, and when all was kept
module _ (base : ℕ → Option Hold) (P : World → Rest → Type 1)
    (back : (n : Info) (y : Failure) (x : Closing) (b : Books) (v : World) → (x ≡ c.Kept → ⊥) → Owns base [] v.host → Quiet Empty v.card → P v (at_rest g.Ended b n y x))
    (kept : (n : Info) (y : Failure) (b : Books) (v : World) → Owns base (named b) v.host → P v (at_rest g.Ended b n y c.Kept)) where
  -- the opening fails: closing runs
  pub safe_fails : (y : Refusal) (n : Info) (b : Books) (h : Here) (w : World) → Fair h → Mailed w.host → Owns base (named b) w.host → Entries b → b.wire.silent ≡ false
      → (b.wire.broken ≡ false → Quiet (OwedBy b) w.card) → SafeCourse w (fails y n b h) P
  safe_fails y n b h w q mail x i l k =
      safe-stopping n (f.By y) P base w.host mail (λ z d v e s t. back n (f.By y) z d v e s t) (λ d v s t. kept n (f.By y) d v s) b h w i.addressed q refl x (λ t. l)
      (λ t. (quiet_within (OwedBy b) (λ p. Unit {0}) w.card (k t), λ e. (k t).0))

  -- by a command that was not good: but for a status the session is broken, and nothing need be known of the card
  pub safe_failed : (a : CmdResult) (z : Refusal) (n : Info) (b : Books) (y : Wire) (h : Here) (v : World) (p : Command) (H : Held → Type 1) (Q : Command → Type 0) → is_done a ≡ false → Fair h → Mailed v.host
      → Owns base (named b) v.host → Entries b → y.silent ≡ false → ((k : Held) → H k → OwedBy b k) → Out p H Q a v.card → SafeCourse v (fails z n (broken_by a (wired b y)) h) P
  safe_failed (r.Done x us) z n b y h v p H Q e q mail s i l owed m = absurd (false≢true (sym e))
  safe_failed (r.Status x us) z n b y h v p H Q e q mail s i l owed m = safe_fails z n (wired b y) h v q mail s i' l (λ t. (m.0, owed v.card.held m.1))
    where
      i' : Entries (wired b y)
      i' = i
  safe_failed (r.Timeout us) z n b y h v p H Q e q mail s i l owed m = safe_fails z n (wired (wired b y) (broken y)) h v q mail s (i) l (λ t. absurd (false≢true (sym t)))
  safe_failed r.Busy z n b y h v p H Q e q mail s i l owed m = safe_fails z n (wired (wired b y) (broken y)) h v q mail s (i) l (λ t. absurd (false≢true (sym t)))
  safe_failed (r.Bus us) z n b y h v p H Q e q mail s i l owed m = safe_fails z n (wired (wired b y) (broken y)) h v q mail s (i) l (λ t. absurd (false≢true (sym t)))

  -- the state is the same whatever the command register is like
  rewired : (b : Books) (y : Wire) (w v : World) → Ready base b w → y.silent ≡ false → v.host ≡ w.host → Quiet (Knows b) v.card → Ready base (wired b y) v
  rewired b y w v x l e k = record {
    loud = l;
    owns = subst (Owns base (named b)) (sym e) x.owns;
    card = (k.0, record { icm = k.1.icm; firmware = k.1.firmware; auxiliary = k.1.auxiliary; lent = k.1.lent });
    boxes = record {
      inbox = x.boxes.inbox;
      outbox = x.boxes.outbox;
      in_held = x.boxes.in_held;
      out_held = x.boxes.out_held;
      in_at = ap (λ (l : Host). l.inbox) e ∙ x.boxes.in_at;
      out_at = ap (λ (l : Host). l.outbox) e ∙ x.boxes.out_at;
      in_less = x.boxes.in_less;
      out_less = x.boxes.out_less;
    };
    entries = x.entries;
  }

  pub ready_fails : (y : Refusal) (n : Info) (b : Books) (h : Here) (w : World) → Fair h → Ready base b w → SafeCourse w (fails y n b h) P
  ready_fails y n b h w q x = safe_fails y n b h w q (boxes_mailed base b w.host x.boxes x.owns) x.owns x.entries x.loud (λ t. (x.card.0, knows_owed b w.card.held x.entries x.card.1))

  -- a reply or a layout that is refused
  pub ready_value : {A : Type 0} (z : Outcome A) (k : A → Course Rest) (n : Info) (b : Books) (h : Here) (w : World) → Fair h → Ready base b w → ((y : A) → z ≡ value y → SafeCourse w (k y) P)
      → SafeCourse w (on_value z k n b h) P
  ready_value (value y) k n b h w q x s = s y refl
  ready_value (refused i vs) k n b h w q x s = ready_fails (refusal_of i vs) n b h w q x

  -- A COMMAND OF NO EFFECT: its end is seen, and all is as it was; or not
  pub safe_other : (p : Post) → kind p.op ≡ Other → (K : CmdResult → Books → Here → Course Rest) (b : Books) (h : Here) (w : World) → Fair h → Fits p (mail_at w.host h.inbox) → Ready base b w
      → ((a : CmdResult) (y : Wire) (j : Here) (v : World) → Fair j → end_seen a ≡ true → Ready base (wired b y) v → SafeCourse v (K a (wired b y) j) P)
      → ((a : CmdResult) (e : CmdEnd) (j : Here) (v : World) → Fair j → e.result ≡ a → end_seen a ≡ false → v.host ≡ w.host → Within (Knows b) (Calm b) v.card
      → Out (posted_as b.wire.toggle p (mail_at w.host h.inbox)) (Knows b) (Calm b) a v.card → SafeCourse v (K a (wired b (after b.wire e)) j) P)
      → SafeCourse w (sends b p K h) P
  safe_other p o K b h w q fits x seen unseen =
      safe_sends b p K (Knows b) (Calm b) P h w q fits carried (quiet_within (Knows b) (Calm b) w.card x.card) (λ v a j k d m. by_result a.result a v j refl k d m)
    where
      sent : Command
      sent = posted_as b.wire.toggle p (mail_at w.host h.inbox)

      carried : Carried p w.host h.inbox
      carried d z = owns_ours (named b) w.host x.owns.own x.owns.dealt d ((own_calm b w.host x.boxes b.wire.toggle p h.inbox o).1 d z)

      within : (a : CmdResult) (k : Card) → Out sent (Knows b) (Calm b) a k → Within (Knows b) (Calm b) k
      within a k m = calm_within b sent (Knows b) a k (own_calm b w.host x.boxes b.wire.toggle p h.inbox o) m

      kept_by : (k : Held) → After sent (Knows b) k → Knows b k
      kept_by k (g, y, e) = subst (Knows b) (sym (e ∙ other_effect sent g o)) y

      by_result : (a : CmdResult) (e : CmdEnd) (v : World) (j : Here) → e.result ≡ a → Fair j → v.host ≡ w.host → Out (posted_as b.wire.toggle p (mail_at w.host h.inbox)) (Knows b) (Calm b) a v.card
          → SafeCourse v (K a (wired b (after b.wire e)) j) P
      by_result (r.Done z us) e v j t k d m =
          seen (r.Done z us) (after b.wire e) j v k refl (rewired b (after b.wire e) w v x x.loud d (m.0, kept_by v.card.held m.1))
      by_result (r.Status s us) e v j t k d m = seen (r.Status s us) (after b.wire e) j v k refl (rewired b (after b.wire e) w v x x.loud d m)
      by_result (r.Timeout us) e v j t k d m = unseen (r.Timeout us) e j v k t refl d (within (r.Timeout us) v.card m) m
      by_result r.Busy e v j t k d m = unseen r.Busy e j v k t refl d m m
      by_result (r.Bus us) e v j t k d m = unseen (r.Bus us) e j v k t refl d (within (r.Bus us) v.card m) m

  -- where it was good, what follows; else the opening fails
  pub safe_good : (p : Post) → kind p.op ≡ Other → (z : CmdResult → Refusal) (next : CmdResult → Books → Here → Course Rest) (n : Info) (b : Books) (h : Here) (w : World) → Fair h
      → Fits p (mail_at w.host h.inbox) → Ready base b w
      → ((a : CmdResult) (y : Wire) (j : Here) (v : World) → Fair j → Ready base (wired b y) v → SafeCourse v (next a (wired b y) j) P)
      → SafeCourse w (sends b p (λ a d j. pick (is_done a) (next a d j) (fails (z a) n (broken_by a d) j)) h) P
  safe_good p o z next n b h w q fits x follows =
      safe_other p o (λ a d j. pick (is_done a) (next a d j) (fails (z a) n (broken_by a d) j)) b h w q fits x
      (λ a y j v k s d. seen a y j v k s d)
      (λ a e j v k t s d i m. unseen a e j v k s d m)
    where
      seen : (a : CmdResult) (y : Wire) (j : Here) (v : World) → Fair j → end_seen a ≡ true → Ready base (wired b y) v
          → SafeCourse v (pick (is_done a) (next a (wired b y) j) (fails (z a) n (broken_by a (wired b y)) j)) P
      seen (r.Done s us) y j v k t d = follows (r.Done s us) y j v k d
      seen (r.Status s us) y j v k t d = ready_fails (z (r.Status s us)) n (wired b y) j v k d
      seen (r.Timeout us) y j v k t d = absurd (false≢true t)
      seen r.Busy y j v k t d = absurd (false≢true t)
      seen (r.Bus us) y j v k t d = absurd (false≢true t)

      unseen : (a : CmdResult) (e : CmdEnd) (j : Here) (v : World) → Fair j → end_seen a ≡ false → v.host ≡ w.host
          → Out (posted_as b.wire.toggle p (mail_at w.host h.inbox)) (Knows b) (Calm b) a v.card
          → SafeCourse v (pick (is_done a) (next a (wired b (after b.wire e)) j) (fails (z a) n (broken_by a (wired b (after b.wire e))) j)) P
      unseen (r.Done s us) e j v k t d m = absurd (false≢true (sym t))
      unseen (r.Status s us) e j v k t d m = absurd (false≢true (sym t))
      unseen (r.Timeout us) e j v k t d m =
          safe_failed (r.Timeout us) (z (r.Timeout us)) n b (after b.wire e) j v (posted_as b.wire.toggle p (mail_at w.host h.inbox)) (Knows b) (Calm b) refl k (subst Mailed (sym d) (boxes_mailed base b w.host x.boxes x.owns)) (subst (Owns base (named b)) (sym d) x.owns) x.entries x.loud (λ g. knows_owed b g x.entries) m
      unseen r.Busy e j v k t d m =
          safe_failed r.Busy (z r.Busy) n b (after b.wire e) j v (posted_as b.wire.toggle p (mail_at w.host h.inbox)) (Knows b) (Calm b) refl k (subst Mailed (sym d) (boxes_mailed base b w.host x.boxes x.owns)) (subst (Owns base (named b)) (sym d) x.owns) x.entries x.loud (λ g. knows_owed b g x.entries) m
      unseen (r.Bus us) e j v k t d m =
          safe_failed (r.Bus us) (z (r.Bus us)) n b (after b.wire e) j v (posted_as b.wire.toggle p (mail_at w.host h.inbox)) (Knows b) (Calm b) refl k (subst Mailed (sym d) (boxes_mailed base b w.host x.boxes x.owns)) (subst (Owns base (named b)) (sym d) x.owns) x.entries x.loud (λ g. knows_owed b g x.entries) m
