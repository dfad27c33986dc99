-- The courses of a client's calls keep to the card rules, and leave an open session as it was: a command has no effect on what the card holds, a lending adds a buffer to
-- the books.
use Prim.Native.Nat.{ℕ, zero, suc, ◌+◌, ◌^◌, ◌≤◌, ◌<◌}
use native.Mathlib.Omega.{arith}
use mathlib.Core.Bool.{Bool, true, false, not, false≢true}
use mathlib.Core.List.{List, [], ◌∷◌}
use mathlib.Core.Logic.{inl, inr}
use mathlib.Core.Option.{Option, some, none}
use mathlib.Core.Path.{◌≡◌, refl, sym, ◌∙◌, ap, subst}
use lib.Dec.{leb}
use lib.ListN.{length, get_or}
use Rattle.fields.specs.Outcome.{value, pick}
use Rattle.dma.specs.Buffers.{pages_for}
use Rattle.opening_plan.specs.Values.{range_at}
use Rattle.dma.specs.declared.Buffer.{Buffer}
use Rattle.hcr.specs.Words.{is_reserved}
use Rattle.hcr.specs.declared.Post.{Post}
use Rattle.pci.specs.declared.Refusal.TheVariants as x
use Rattle.command.specs.declared.CmdEnd.{CmdEnd}
use Rattle.command.specs.declared.CmdResult.{CmdResult}
use Rattle.command.specs.declared.CmdResult.TheVariants as r
use Rattle.buffer.specs.Buffer.{making}
use Rattle.buffer.specs.declared.Made.{Made}
use Rattle.buffer.specs.declared.Made.TheVariants as m
use Rattle.session.specs.Session.{wired, after, broken, end_seen, slot_at, buffer_of, inbox_of, outbox_of, named, lent_to, FA, AUX, INBOX, OUTBOX}
use Rattle.session.specs.Failures.{fault_of, broken_by, needs_reset}
use borrow.Author.Tests.{lt-ltb}
use Rattle.session.specs.Course.{Place, neither, slot, run, Course, Here, here, blank, sends, Rest, at_rest}
use Rattle.session.specs.declared.Books.{Books}
use Rattle.session.specs.declared.Slot.{Slot}
use Rattle.session.specs.declared.Info.{Info}
use Rattle.session.specs.declared.Form.{Form}
use Rattle.session.specs.declared.Form.TheVariants as o
use Rattle.session.specs.declared.Gave.{Gave}
use Rattle.session.specs.declared.Gave.TheVariants as v
use Rattle.session.specs.declared.Stage.TheVariants as g
use Rattle.session.specs.declared.Failure.{Failure}
use Rattle.session.specs.declared.Closing.{Closing}
use Rattle.closing_plan.specs.Closing.{is_done, undo_post, popped, UNDOS}
use Rattle.client_plan.specs.Client.{takes_input, gives_output, in_address, out_address, post_of, readied, gave_by, gives, commanding, lent_by, lending, undoing, undoing_to}
use Rattle.client_plan.specs.declared.Request.{Request}
use Rattle.calls_plan.proofs.Begins.{length_input}
use Rattle.card.specs.Card.{Held, Command, Card, Settles, Other, kind, IsMap, Meets, Hold, Host, World, MayUse, mail_at}
use Rattle.card.proofs.Fixed.{safe_fixed}
use Rattle.card.specs.Owns.{Owns, InBooks, spot_of}
use Rattle.card.specs.Known.{Carried, Fits, Out, Within, posted_as}
use Rattle.card.proofs.Command.{out_within, quiet_stable, within_more, within_stable}
use Rattle.card.proofs.Owns.{owns_perm, owns_ours}
use Rattle.card.proofs.Making.{MadePost, safe_making}
use Rattle.card.proofs.View.{other_effect}
use Rattle.card_calls.specs.SafeCourse.{Sized, SafeCourse}
use Rattle.card_calls.specs.Ranges.{AsLaid}
use Rattle.card_calls.specs.Holding.{InSlot, OnSlot, Entries, Boxes, Calm, Mine, Uses, Lies, Idle, lents}
use Rattle.card_calls.proofs.Courses.{Fair, zeros, safe_run, safe_sends, course_pick}
use Rattle.card_calls.proofs.Closing.{fits_undo, popped_fair, unreserved_small, unreserved_other}
use Rattle.card_calls.proofs.Commands.{own_calm}
use Rattle.card_calls.proofs.Books.{uses_bound, lent_in, lends_enters, lent_perm, lent_entries, lent_old, lent_new, lent_same, lent_ranges, all_old}
use Rattle.card_calls.proofs.Slots.{full, MadeIn, making_ends, put_here}
use Rattle.card_calls.proofs.Idle.{moved_boxes, wired_entries, wired_card, wired_bound, idle_wired}

-- what the card may use lies in the buffers
uses_lies : (b : Books) → Entries b → (c : Card) → Within (Uses b) (Calm b) c → Within (Lies b) (Mine b) c
uses_lies b i c x = within_more (Uses b) (Lies b) (Calm b) (Mine b) c (λ k y. record { within = uses_bound b i k y }) (λ p y. y.1) x

-- what a call gave is in the books
abbrev pub Given : Gave → Books → Type 0
Given v.Nothing b = Unit {0}
Given (v.Command y us) b = Unit {0}
Given (v.Lent i) b = (d : ℕ) → Meets (spot_of (buffer_of (slot_at b.lists.slots i))) d → InBooks (lents b) d
Given (v.Failed y) b = Unit {0}

given_by_lem : (k : Form) (a : CmdResult) (b : Books) → Given (gave_by k a) b
given_by_lem k (r.Done y us) b = tt
given_by_lem k (r.Status s us) b = tt
given_by_lem k (r.Timeout us) b = tt
given_by_lem k r.Busy b = tt
given_by_lem k (r.Bus us) b = tt

module _ (base : ℕ → Option Hold) (n : Info) (f : Failure) (z : Closing) (P : World → Rest → Type 1)
    (idles : (y : Gave) (b : Books) (v : World) → Given y b → Idle base n b v → P v (at_rest (g.Open y) b n f z)) where
  -- A COMMAND OF NO EFFECT on an open session
  module _ (b : Books) (p : Post) (other : kind p.op ≡ Other) (K : CmdResult → Books → Here → Course Rest) (h : Here) (w : World) (q : Fair h) (i : Idle base n b w) (fits : Fits p (mail_at w.host h.inbox)) where
    abbrev sent : Command
    sent = posted_as b.wire.toggle p (mail_at w.host h.inbox)

    own : Calm b sent
    own = own_calm b w.host i.boxes b.wire.toggle p h.inbox other

    carried : Carried p w.host h.inbox
    carried d z = owns_ours (named b) w.host i.owns.own i.owns.dealt d (own.1 d z)

    -- whether its end was seen is in the books, and then none is pending
    seen : (Q : Command → Type 0) (H : Held → Type 1) (a : CmdResult) (c : Card) → Out sent H Q a c → not (end_seen a) ≡ false → c.pending ≡ none
    seen Q H (r.Done y us) c x e = x.0
    seen Q H (r.Status s us) c x e = x.0
    seen Q H (r.Timeout us) c x e = absurd (false≢true (sym e))
    seen Q H r.Busy c x e = absurd (false≢true (sym e))
    seen Q H (r.Bus us) c x e = absurd (false≢true (sym e))

    -- before a quiesce, and from it on
    before : (t : Bool) → b.wire.silent ≡ t → ((e : CmdEnd) (j : Here) (v : World) → Fair j → Idle base n (wired b (after b.wire e)) v → SafeCourse v (K e.result (wired b (after b.wire e)) j) P)
        → SafeCourse w (sends b p K h) P
    before true s k =
        safe_sends b p K (Lies b) (Mine b) P h w q fits carried i.bound
        (λ v a j d e m. k a j v d (record {
          owns = subst (Owns base (named b)) (sym e) i.owns;
          boxes = moved_boxes b (after b.wire a) w.host v.host e i.boxes;
          entries = wired_entries b (after b.wire a) i.entries;
          bound = wired_bound b (after b.wire a) v.card (out_within sent (Lies b) (Mine b) (λ y x. subst (Lies b) (sym (other_effect sent y other)) x) own.1 a.result v.card m);
          exact = λ t. absurd (false≢true (sym t ∙ s));
          broken = λ t. i.broken s;
        }))
    before false s k =
        safe_sends b p K (Uses b) (Calm b) P h w q fits carried (i.exact s).card
        (λ v a j d e m.
        let card : Within (Uses b) (Calm b) v.card = out_within sent (Uses b) (Calm b) (λ y x. subst (Uses b) (sym (other_effect sent y other)) x) own a.result v.card m in
        k a j v d (record {
          owns = subst (Owns base (named b)) (sym e) i.owns;
          boxes = moved_boxes b (after b.wire a) w.host v.host e i.boxes;
          entries = wired_entries b (after b.wire a) i.entries;
          bound = wired_bound b (after b.wire a) v.card (uses_lies b i.entries v.card card);
          exact = λ t. record {
            fourteen = (i.exact s).fourteen;
            laid = (i.exact s).laid;
            started = (i.exact s).started;
            card = wired_card b (after b.wire a) v.card card;
            quiet = λ t. seen (Calm b) (Uses b) a.result v.card m t;
          };
          broken = λ t. absurd (false≢true (sym s ∙ t));
        }))

    pub idle-sends : ((e : CmdEnd) (j : Here) (v : World) → Fair j → Idle base n (wired b (after b.wire e)) v → SafeCourse v (K e.result (wired b (after b.wire e)) j) P) → SafeCourse w (sends b p K h) P
    idle-sends k = before b.wire.silent refl k

  -- the session is broken, or not: all else is as it was
  idle_broken : (b : Books) (v : World) → Idle base n b v → Idle base n (wired b (broken b.wire)) v
  idle_broken b v i = idle_wired base n b (broken b.wire) v refl (λ e. refl) (λ e. e) i

  broken_by_lem : (a : CmdResult) (b : Books) (v : World) → Idle base n b v → Idle base n (broken_by a b) v
  broken_by_lem a b v i = by (needs_reset a)
    where
      by : (t : Bool) → Idle base n (pick t (wired b (broken b.wire)) b) v
      by true = idle_broken b v i
      by false = i

  -- A CLIENT'S COMMAND
  ready_fair : (k : Form) (y : List ℕ) (h : Here) → Fair h → Fair (readied k y h)
  ready_fair k y h q = record {
    inbox = length_input (takes_input k) y h.inbox ∙ q.inbox;
    outbox = by (gives_output k);
    undo = q.undo;
  }
    where
      by : (t : Bool) (j : ℕ) → get_or (pick t (blank h.outbox) h.outbox) j 0 < 256
      by true j = zeros (length h.outbox) j
      by false j = q.outbox j

  in_small : (k : Form) (e : Books) (y : ℕ) → (inbox_of e).dev < 2 ^ 64 → y < 2 ^ 64 → in_address e k y < 2 ^ 64
  in_small o.Imm e y a b = b
  in_small o.WithIn e y a b = a
  in_small o.WithOut e y a b = omega arith
  in_small o.InImm e y a b = a
  in_small o.InOut e y a b = a

  out_small : (k : Form) (e : Books) → (outbox_of e).dev < 2 ^ 64 → out_address e k < 2 ^ 64
  out_small o.Imm e a = omega arith
  out_small o.WithIn e a = omega arith
  out_small o.WithOut e a = a
  out_small o.InImm e a = omega arith
  out_small o.InOut e a = a

  pub safe_commanding : (y : Request) (input : List ℕ) (b : Books) (h : Here) (w : World) → is_reserved y.op ≡ false → Sized y → Fair h → Idle base n b w → SafeCourse w (commanding n f z y input b h) P
  unfolding commanding
  safe_commanding y input b h w u s q i =
      idle-sends b (post_of b y) (unreserved_other y.op u) (λ a d j. gives n f z (gave_by y.form a) (broken_by a d) j) (readied y.form input h) w (ready_fair y.form input h q) i
      (record {
        op = unreserved_small y.op u;
        op_mod = s.op_mod;
        in_mod = s.in_mod;
        in_param = in_small y.form b y.in_param (subst (λ (k : ℕ). k < 2 ^ 64) (sym (ap (λ (c : Buffer). c.dev) i.boxes.in_held.1)) i.boxes.in_less) s.in_param;
        out_param = out_small y.form b (subst (λ (k : ℕ). k < 2 ^ 64) (sym (ap (λ (c : Buffer). c.dev) i.boxes.out_held.1)) i.boxes.out_less);
        addressed = λ t. absurd (subst IsMap (unreserved_other y.op u) t);
      })
      (λ e j v k d. idles (gave_by y.form e.result) (broken_by e.result (wired b (after b.wire e))) v (given_by_lem y.form e.result (broken_by e.result (wired b (after b.wire e)))) (broken_by_lem e.result (wired b (after b.wire e)) v d))

  -- UNDO RECORDS
  safe_undoing : (mark m : ℕ) (b : Books) (h : Here) (w : World) → Fair h → Idle base n b w → SafeCourse w (undoing n f z mark m b h) P
  unfolding undoing
  safe_undoing mark zero b h w q i =
      course_pick (leb h.undo.count mark) _ _ w P (λ t. idles v.Nothing b w tt i)
      (λ t. course_pick b.wire.broken _ _ w P (λ d. idles (v.Failed x.Undo) b w tt i) (λ d. idles (v.Failed x.Undo) (wired b (broken b.wire)) w tt (idle_broken b w i)))
  safe_undoing mark (suc m) b h w q i =
      course_pick (leb h.undo.count mark) _ _ w P (λ t. idles v.Nothing b w tt i)
      (λ t. course_pick b.wire.broken _ _ w P (λ d. idles (v.Failed x.Undo) b w tt i)
      (λ d. course_pick (is_reserved h.undo.op) _ _ w P (λ e. idles (v.Failed x.Opcode) b w tt i)
      (λ e. idle-sends b (undo_post h.undo) (unreserved_other h.undo.op e)
      (λ a d j. pick (is_done a) (undoing n f z mark m d j) (gives n f z (v.Failed x.Undo) (wired d (broken d.wire)) j)) (here h.inbox h.outbox (popped h.undo)) w (popped_fair h q) i
      (fits_undo h.undo _ q.undo e)
      (λ a j u k s. course_pick (is_done a.result) _ _ u P (λ t. safe_undoing mark m (wired b (after b.wire a)) j u k s)
      (λ t. idles (v.Failed x.Undo) (wired (wired b (after b.wire a)) (broken (after b.wire a))) u tt (idle_broken (wired b (after b.wire a)) u s))))))

  pub safe_undoing_to : (mark : ℕ) (b : Books) (h : Here) (w : World) → Fair h → Idle base n b w → SafeCourse w (undoing_to n f z mark b h) P
  safe_undoing_to mark b h w q i = safe_undoing mark UNDOS b h w q i

  -- A LENDING
  abbrev Kept : Books → Card → Type 1
  Kept b c = Within (Lies b) (Mine b) c × (b.wire.silent ≡ false → Within (Uses b) (Calm b) c × (b.wire.running ≡ false → c.pending ≡ none))

  kept_stable : (b : Books) (c d : Card) → Settles c d → Kept b c → Kept b d
  kept_stable b c d s x = (
    within_stable (Lies b) (Mine b) c d s x.0,
    λ t. let y = x.1 t in (within_stable (Uses b) (Calm b) c d s y.0, λ e. still c d s (y.1 e)),
  )
    where
      still : (c d : Card) → Settles c d → c.pending ≡ none → d.pending ≡ none
      still c d s e = (quiet_stable (λ g. g ≡ g) c d s (e, refl)).0

  -- all that the card may use lies in the buffers
  kept_bound : (b : Books) (c : Card) → Kept b c → (d : ℕ) → MayUse c d → InBooks (named b) d
  kept_bound b c x d (inl y) = x.0.now.within d y
  kept_bound b c x d (inr (p, e, y)) = (x.0.then p e).0 d y

  pub safe_lending : (bytes : ℕ) (b : Books) (h : Here) (w : World) → b.lists.lends < 64 → Fair h → Idle base n b w → SafeCourse w (lending n f z bytes b h) P
  unfolding lending
  safe_lending bytes b h w less q i =
      subst (λ (p : Place). SafeCourse w (run p (making bytes) (λ y d j. lent_by n f z b.lists.lends y d j) b h) P)
      (sym (ap (λ (t : Bool). pick t (slot b.lists.lends 0) neither) (lt-ltb b.lists.lends 64 less)))
      (safe_run (λ y d j. lent_by n f z b.lists.lends y d j) After P (slot b.lists.lends 0) (making bytes) b (MadeIn b.lists.lends 0 b) h w q
      (λ t. safe_fixed t (making bytes) w (Had bytes b w) (spot_of i.boxes.inbox) (spot_of i.boxes.outbox) i.boxes.in_at i.boxes.out_at
      (safe_making t base (named b) (Kept b) (kept_stable b) (kept_bound b) w.host bytes w refl i.owns (i.bound, λ s. ((i.exact s).card, (i.exact s).quiet))))
      (making_ends b.lists.lends 0 b (let g : b.lists.lends < length b.lists.slots = omega (arith, less, i.entries.room) in g)
      (i.entries.unlent b.lists.lends (let g : b.lists.lends ≤ b.lists.lends = omega arith in g) less) bytes) at)
    where
      Had : ℕ → Books → World → World → Made → Type 1
      Had bytes b w = MadePost [] base (named b) (Kept b) (kept_stable b) (kept_bound b) w.host bytes

      After : World → Made → Type 1
      After v y = Had bytes b w v y × ((v.host.inbox ≡ some (spot_of i.boxes.inbox)) × (v.host.outbox ≡ some (spot_of i.boxes.outbox)))

      -- the mailboxes are where they were
      boxed : (d : Books) (k : Host) → inbox_of d ≡ inbox_of b → outbox_of d ≡ outbox_of b → (k.inbox ≡ some (spot_of i.boxes.inbox)) × (k.outbox ≡ some (spot_of i.boxes.outbox)) → Boxes d k
      boxed d k p p' s = record {
        inbox = i.boxes.inbox;
        outbox = i.boxes.outbox;
        in_held = subst (λ (y : Slot). InSlot y i.boxes.inbox) (sym p) i.boxes.in_held;
        out_held = subst (λ (y : Slot). InSlot y i.boxes.outbox) (sym p') i.boxes.out_held;
        in_at = s.0;
        out_at = s.1;
        in_less = i.boxes.in_less;
        out_less = i.boxes.out_less;
      }

      -- what the card may use lies in the longer list too
      more-bound : (y : Buffer) (c : Card) → Within (Lies b) (Mine b) c → Within (Lies (lent_in b (full 0 y))) (Mine (lent_in b (full 0 y))) c
      more-bound y c k =
          within_more (Lies b) (Lies (lent_in b (full 0 y))) (Mine b) (Mine (lent_in b (full 0 y))) c (λ j e. record { within = λ d t. all_old b i.entries less (full 0 y) refl d (e.within d t) })
          (λ p e d t. all_old b i.entries less (full 0 y) refl d (e d t)) k

      more-card : (y : Buffer) (c : Card) → Within (Uses b) (Calm b) c → Within (Uses (lent_in b (full 0 y))) (Calm (lent_in b (full 0 y))) c
      more-card y c k =
          within_more (Uses b) (Uses (lent_in b (full 0 y))) (Calm b) (Calm (lent_in b (full 0 y))) c
          (λ j e. record {
            icm = λ v d. (λ t. (lent_ranges b i.entries less (full 0 y) v d).1 ((e.icm v d).0 t), λ t. (e.icm v d).1 ((lent_ranges b i.entries less (full 0 y) v d).0 t));
            firmware = λ d t. subst (λ (s : Slot). OnSlot s d) (sym (lent_same b i.entries less (full 0 y) FA (omega arith))) (e.firmware d t);
            auxiliary = λ d t. subst (λ (s : Slot). OnSlot s d) (sym (lent_same b i.entries less (full 0 y) AUX (omega arith))) (e.auxiliary d t);
            lent = λ d t. lent_old b i.entries less (full 0 y) refl d (e.lent d t);
          })
          (λ p e. (e.0, λ d t. all_old b i.entries less (full 0 y) refl d (e.1 d t))) k

      -- the ranges are those of the layout still
      laid-still : (y : Buffer) → AsLaid n b 14 → AsLaid n (lent_in b (full 0 y)) 14
      laid-still y a = (
        a.0,
        λ k h.
            subst (λ (s : Slot). (s.virt ≡ (range_at n k).virt) × (pages_for (range_at n k).bytes ≡ value s.pages)) (sym (lent_same b i.entries less (full 0 y) (64 + k) (omega arith))) (a.1 k h),
      )

      at : (u : World) (y : Made) (d : Books) (j : Here) → Fair j → After u y → MadeIn b.lists.lends 0 b y d → SafeCourse u (lent_by n f z b.lists.lends y d j) P
      at u (m.Refused e) d j k (s, fixed) same = subst (λ (t : Books). P u (at_rest (g.Open (v.Failed (fault_of e))) t n f z)) (sym same) (idles (v.Failed (fault_of e)) b u tt (record {
        owns = s.0;
        boxes = boxed b u.host refl refl fixed;
        entries = i.entries;
        bound = s.1.0;
        exact = λ t. let a = i.exact t in record { fourteen = a.fourteen; laid = a.laid; started = a.started; card = (s.1.1 t).0; quiet = (s.1.1 t).1 };
        broken = i.broken;
      }))
      at u (m.Ready y) d j k (s, fixed) same =
          subst (λ (e : Books). P u (at_rest (g.Open (v.Lent b.lists.lends)) e n f z)) (sym (ap lent_to same ∙ lends_enters b (full 0 y) less))
          (idles (v.Lent b.lists.lends) (lent_in b (full 0 y)) u (λ d t. lent_new b i.entries less (full 0 y) refl d (subst (λ (s : Slot). Meets (spot_of (buffer_of s)) d) (put_here b.lists.slots b.lists.lends (full 0 y) room) t)) (record {
            owns = owns_perm base (y ∷ named b) (named (lent_in b (full 0 y))) u.host (lent_perm b i.entries less (full 0 y) refl) s.0;
            boxes = boxed (lent_in b (full 0 y)) u.host (lent_same b i.entries less (full 0 y) INBOX (omega arith)) (lent_same b i.entries less (full 0 y) OUTBOX (omega arith)) fixed;
            entries = lent_entries b i.entries less (full 0 y);
            bound = more-bound y u.card s.1.0;
            exact = λ t. let a = i.exact t in record { fourteen = a.fourteen; laid = laid-still y a.laid; started = a.started; card = more-card y u.card (s.1.1 t).0; quiet = (s.1.1 t).1 };
            broken = i.broken;
          }))
        where
          room : b.lists.lends < length b.lists.slots
          room = omega (arith, less, i.entries.room)
