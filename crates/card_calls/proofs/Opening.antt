-- The course of an opening keeps to the card rules, on any card and any host: it ends open, with the card's map exactly the ranges of the layout on their buffers; or
-- all is given back; or all is kept.
use Rattle.std.specs.Prelude.{Err, Ok}
use Prim.Native.Nat.{ℕ, zero, suc, ◌+◌, ◌-◌, ◌*◌, ◌^◌, ◌<◌, ◌≤◌}
use native.Mathlib.Omega.{arith}
use mathlib.Core.Bool.{Bool, true, false, not, false≢true}
use mathlib.Core.List.{List, [], ◌∷◌}
use mathlib.Core.Option.{Option, some, none}
use mathlib.Core.Path.{◌≡◌, refl, sym, ◌∙◌, ap, subst}
use lib.Dec.{eqb}
use borrow.Author.Tests.{eq-eqb}
use lib.ListN.{length, get_or, replicate, length-replicate}
use Rattle.fields.specs.Outcome.{value, value_or, pick}
use Rattle.fields.specs.Fields.{put_at}
use Rattle.fields.specs.declared.Order.TheVariants.{Big}
use Rattle.fields.proofs.Laws.{Bytes, length_put}
use Rattle.dma.specs.Buffers.{pages_for}
use Rattle.dma.specs.declared.Buffer.{Buffer}
use Rattle.pci.specs.Script.{Spot}
use Rattle.pci.specs.declared.Refusal.{Refusal}
use Rattle.pci.specs.declared.Refusal.TheVariants as x
use Rattle.reply.specs.Capability.{capability_of, dev_cap_of}
use Rattle.reply.specs.Replies.{query_fw_of, fw_held, query_port_of, query_func_of}
use Rattle.reply.proofs.Bounded.{accepted_is}
use Rattle.reply.specs.declared.DevCap.{DevCap}
use Rattle.reply.specs.declared.PortInfo.{PortInfo}
use Rattle.layout.specs.Layout.{no_layout}
use Rattle.layout.specs.Counts.{profile_of}
use Rattle.layout.specs.declared.Layout.{Layout}
use Rattle.layout.specs.declared.Range.{Range}
use Rattle.layout_laws.specs.Good.{GoodRange}
use Rattle.layout_laws.specs.Good as gd
use Rattle.layout_laws.proofs.Profiles.{profile_good}
use Rattle.init.specs.Init.{put_all, filled_by, fields_of, init_of, mod_stat_cfg}
use Rattle.init.specs.Init as ini
use Rattle.init.specs.declared.Field.{Field}
use Rattle.command.specs.declared.CmdEnd.{CmdEnd}
use Rattle.command.specs.declared.CmdResult.{CmdResult}
use Rattle.command.specs.declared.CmdResult.TheVariants as r
use Rattle.reset.specs.Reset.{reset, is_good}
use Rattle.buffer.specs.Buffer.{making}
use Rattle.buffer.specs.declared.Made.{Made}
use Rattle.buffer.specs.declared.Made.TheVariants as m
use Rattle.tasks.specs.Attributes.{attributing}
use Rattle.tasks.specs.declared.Attributes.{Attributes}
use Rattle.tasks.specs.declared.Attributes.TheVariants as t
use Rattle.tasks.specs.Claim.{claiming}
use Rattle.tasks.specs.declared.Claimed.{Claimed}
use Rattle.tasks.specs.declared.Claimed.TheVariants as l
use Rattle.uar.specs.Uar.{Found, finding}
use Rattle.uar.specs.declared.NotFound.TheVariants as u
use Rattle.work.specs.Work.{looking}
use Rattle.session.specs.Failures.{failure_of, fault_of, immediate_of, needs_reset}
use Rattle.session.specs.Session.{no_books, no_info, wired, after, end_seen, imm_of, with_in_of, with_out_of, slot_at, no_slot, named, named_from, puts, fa_of, aux_of, FA, AUX, INBOX, OUTBOX}
use Rattle.session.specs.Course.{Here, inbox, outbox, zeroed, Rest, at_rest}
use Rattle.session.specs.declared.Slot.{Slot}
use Rattle.session.specs.declared.Wire.{Wire}
use Rattle.session.specs.declared.Books.{Books}
use Rattle.session.specs.declared.Info.{Info}
use Rattle.session.specs.declared.Area.TheVariants as a
use Rattle.session.specs.declared.Gave.TheVariants as gv
use Rattle.session.specs.declared.Stage.TheVariants as g
use Rattle.session.specs.declared.Failure.{Failure}
use Rattle.session.specs.declared.Failure.TheVariants as f
use Rattle.session.specs.declared.Closing.{Closing}
use Rattle.session.specs.declared.Closing.TheVariants as c
use Rattle.closing_plan.specs.Closing.{giving, parted}
use Rattle.opening_plan.specs.Values.{fw_failure_of, layout_in, range_at, no_range, with_toggle, with_catas, with_original, now_started, with_uar, with_revision, with_cap, with_func, with_port}
use Rattle.opening_plan.specs.Opening.{fails_by, on_value, holds, on_made, opened, query_adapter, query_func, init_hca, area_for, map_icm, set_icm_size, laying_out, query_ports, ports_of, query_dev_cap, mod_stat, run_fw, fw_reply, query_fw, look, give_inbox, make_outbox, make_inbox, on_found, find_uar, first_reset, on_claimed, claim, on_enabled, enable, opening}
use Rattle.card.specs.Card.{Held, Card, Hold, Host, or_else, second, MayUse, World, mail_at}
use Rattle.card.specs.Owns.{Owns, InBooks, spot_of}
use Rattle.card.proofs.Command.{quiet_stable, within_more}
use Rattle.card.proofs.Still.{safe_still, attributing_still, claiming_still, finding_still, looking_still}
use Rattle.card.proofs.Reset.{safe_reset}
use Rattle.card.proofs.View.{nothing_empty, quiet_uses}
use Rattle.card.proofs.Owns.{swap, owns_perm}
use Rattle.card.proofs.Making.{Sound, MadePost, safe_making}
use Rattle.card_calls.specs.SafeCourse.{SafeCourse}
use Rattle.card_calls.specs.Ranges.{Capped, Accepted, AsLaid}
use Rattle.card_calls.proofs.Courses.{Fair, fair_zeroed, safe_run, safe_task, course_pick}
use Rattle.card_calls.proofs.Closing.{clean_differs, safe-restored, safe-parted, safe-giving}
use Rattle.card_calls.proofs.Books.{knows_owed, knows_uses, knows_bound, area_entries, ranged, each_range}
use Rattle.card_calls.proofs.Slots.{full, MadeIn, making_ends, ends_inbox, ends_outbox, put_there}
use Rattle.card_calls.proofs.Idle.{moved_boxes, ready_idle}
use Rattle.card_calls.proofs.Commands.{boxes_mailed, fits_in, fits_out, fits_imm, safe_failed, ready_value, safe_other, safe_good}
use Rattle.card_calls.proofs.Areas.{Placed, safe_area, enters_fa, enters_aux, enters_range}
use Rattle.card.specs.Known.{Clean, Empty, Mailed, Nothing, Out, Quiet, ResetPost, Within, posted_as}
use Rattle.card_calls.specs.Holding.{Calm, Mine, Entries, Knows, Uses, Lies, Idle, Ready}

-- THE LAYOUT's ranges
pub record Laid (n : Info) : Type 0 where
  pub placed : (k : ℕ) → k < 14 → Placed (range_at n k).virt (range_at n k).bytes
  pub total : (layout_in n).total < 2 ^ 64
  pub accepted : Accepted n

each_at : (Q : Range → Type 0) (rs : List Range) → gd.Each Q rs → (k : ℕ) → k < length rs → Q (get_or rs k no_range)
each_at Q [] e k h = absurd (let z : ⊥ = omega (arith, h) in z)
each_at Q (x ∷ rs) e zero h = e.0
each_at Q (x ∷ rs) e (suc k) h = each_at Q rs e.1 k (omega (arith, h))

good_placed : (total : ℕ) (x : Range) → total < 2 ^ 42 → GoodRange total x → Placed x.virt x.bytes
good_placed total x t e =
    let v = e.from in
    record { page = let q = v.1 in omega (arith, q); few = let q = e.few in omega (arith, q); below = let q = e.within in omega (arith, q, t) }

pub capped_laid : (n : Info) (y : Layout) → Capped n → profile_of n.cap ≡ value y → Laid n
capped_laid n y (s, bar, bs, e) q =
    let p = profile_good s bar n.cap y bs e q in
    let i : layout_in n ≡ y = ap (value_or no_layout) q in
    record {
      placed = λ k h. subst (λ (z : Layout). Placed (get_or z.ranges k no_range).virt (get_or z.ranges k no_range).bytes) (sym i)
          (good_placed y.total (get_or y.ranges k no_range) p.2 (each_at (GoodRange y.total) y.ranges p.1.each k (subst (λ (z : ℕ). k < z) (sym p.1.fourteen) h)));
      total = subst (λ (z : Layout). z.total < 2 ^ 64) (sym i) (let z = p.2 in omega (arith, z));
      accepted = ((s, bar, bs, e), q ∙ ap value (sym i));
    }

ports_few : (n : Info) → Capped n → n.cap.ports < 16
ports_few n (s, bar, bs, e) =
    subst (λ (z : DevCap). z.ports < 16) (sym (accepted_is s bar n.cap e)) (let z : (dev_cap_of s).ports < 16 = omega arith in z)

port_cap : (b : Bool) (x y : Info) (z : DevCap) → x.cap ≡ z → y.cap ≡ z → (pick b x y).cap ≡ z
port_cap true x y z p q = p
port_cap false x y z p q = q

port_capped : (n : Info) (p : ℕ) (i : PortInfo) → Capped n → Capped (with_port n p i)
port_capped n p i (s, bar, bs, e) = (s, bar, bs, e ∙ ap value (sym (port_cap (eqb p 1) _ _ n.cap refl refl)))

-- MAILBOXES of fields
pub length_all : (s : List ℕ) (fs : List Field) → length (put_all s fs) ≡ length s
unfolding put_all
length_all s [] = refl
length_all s (x ∷ fs) = length_all (put_at Big s x.offset x.width x.value) fs ∙ length_put Big s x.offset x.width x.value

fields_fair : (fs : List Field) (h : Here) → Fair h → Fair (holds (filled_by h.inbox fs) h)
fields_fair fs h q = record {
  inbox = ap (λ (b : Bool). length (pick b (ini.mailbox_of fs) h.inbox)) (eq-eqb (length h.inbox) 4096 q.inbox) ∙ length_all (replicate 4096 0) fs ∙ length-replicate {A = ℕ} 4096 0;
  outbox = q.outbox;
  undo = q.undo;
}

-- THE OPENING: `back`, `kept`, `opens` and `early` are what is to hold at each of its ends; at the last nothing was asked of the host
module _ (base : ℕ → Option Hold) (P : World → Rest → Type 1) (k₀ : Host)
    (back : (n : Info) (y : Failure) (x : Closing) (b : Books) (v : World) → (x ≡ c.Kept → ⊥) → Owns base [] v.host → Quiet Empty v.card → P v (at_rest g.Ended b n y x))
    (kept : (n : Info) (y : Failure) (b : Books) (v : World) → Owns base (named b) v.host → P v (at_rest g.Ended b n y c.Kept))
    (opens : (n : Info) (b : Books) (v : World) → Idle base n b v → P v (at_rest (g.Open gv.Nothing) b n f.Nothing c.Clean))
    (early : (n : Info) (y : Failure) (b : Books) (v : World) → v.host ≡ k₀ → P v (at_rest g.Ended b n y c.Clean)) where
  out_fair : (h : Here) → Fair h → Fair (zeroed outbox h)
  out_fair h q = fair_zeroed outbox h q

  -- QUERY_ADAPTER: "any failure passed over"
  safe_adapter : (n : Info) (b : Books) (h : Here) (w : World) → Fair h → Ready base b w → b.lists.ranges ≡ 14 → AsLaid n b 14 → b.started ≡ true → SafeCourse w (query_adapter n b h) P
  unfolding query_adapter
  safe_adapter n b h w q x e laid s =
      safe_other base P back kept (with_out_of b 0x006 0) refl (λ a d j. opened n d j) b (zeroed outbox h) w (out_fair h q)
      (fits_out b w.host x.boxes 0x006 0 _ (omega arith) (omega arith) refl) x
      (λ a y j v k z d. opens n (wired b y) v (ready_idle base n (wired b y) v d e laid s))
      (λ a y j v k z t d i u. opens n (wired b (after b.wire y)) v (record {
        owns = subst (Owns base (named b)) (sym d) x.owns;
        boxes = moved_boxes b (after b.wire y) w.host v.host d x.boxes;
        entries = x.entries;
        bound = within_more (Knows b) (Lies (wired b (after b.wire y))) (Calm b) (Mine (wired b (after b.wire y))) v.card (λ g m. record { within = knows_bound b x.entries g m }) (λ p m. m.1) i;
        exact = λ p. record {
          fourteen = e;
          laid = laid;
          started = s;
          card = within_more (Knows b) (Uses (wired b (after b.wire y))) (Calm b) (Calm (wired b (after b.wire y))) v.card (λ g m. let o = knows_uses b g m in record { icm = o.icm; firmware = o.firmware; auxiliary = o.auxiliary; lent = o.lent }) (λ p m. m) i;
          quiet = λ p. absurd (false≢true (sym p ∙ ap (λ (s : CmdResult). not (end_seen s)) z ∙ ap not t));
        };
        broken = λ p. absurd (false≢true (sym x.loud ∙ p));
      }))

  safe_func : (n : Info) (b : Books) (h : Here) (w : World) → Fair h → Ready base b w → b.lists.ranges ≡ 14 → AsLaid n b 14 → b.started ≡ true → SafeCourse w (query_func n b h) P
  unfolding query_func
  safe_func n b h w q x e laid s =
      course_pick (eqb n.cap.num_sys_eqs 0) _ _ w P (λ t. safe_adapter n b h w q x e laid s)
      (λ t. safe_good base P back kept (with_out_of b 0x056 0) refl failure_of
      (λ a d j. on_value (query_func_of j.outbox) (λ y. query_adapter (with_func n y) d j) n d j) n b (zeroed outbox h) w (out_fair h q)
      (fits_out b w.host x.boxes 0x056 0 _ (omega arith) (omega arith) refl) x
      (λ a y j v k d. ready_value base P back kept (query_func_of j.outbox) (λ z. query_adapter (with_func n z) (wired b y) j) n (wired b y) j v k d
      (λ z i. safe_adapter (with_func n z) (wired b y) j v k d e laid s)))

  safe_init : (n : Info) (b : Books) (h : Here) (w : World) → Fair h → Ready base b w → b.lists.ranges ≡ 14 → AsLaid n b 14 → SafeCourse w (init_hca n b h) P
  unfolding init_hca
  safe_init n b h w q x e laid =
      safe_good base P back kept (with_in_of b 0x007 0) refl failure_of (λ a d j. query_func n (now_started d) j) n b
      (holds (filled_by h.inbox (fields_of (init_of n.cap (layout_in n).rows))) h) w (fields_fair (fields_of (init_of n.cap (layout_in n).rows)) h q)
      (fits_in b w.host x.boxes 0x007 0 _ (omega arith) (omega arith)) x
      (λ a y j v k d. safe_func n (now_started (wired b y)) j v k (record {
        owns = d.owns;
        card = (d.card.0, record { icm = d.card.1.icm; firmware = d.card.1.firmware; auxiliary = d.card.1.auxiliary; lent = d.card.1.lent });
        boxes = record {
          inbox = d.boxes.inbox;
          outbox = d.boxes.outbox;
          in_held = d.boxes.in_held;
          out_held = d.boxes.out_held;
          in_at = d.boxes.in_at;
          out_at = d.boxes.out_at;
          in_less = d.boxes.in_less;
          out_less = d.boxes.out_less;
        };
        loud = d.loud;
        entries = d.entries;
      }) e laid refl)

  -- THE RANGES from i on
  safe_ranges : (more i : ℕ) (n : Info) (b : Books) (h : Here) (w : World) → i + more ≡ 14 → Laid n → Fair h → Ready base b w → b.lists.ranges ≡ i → AsLaid n b i → SafeCourse w (map_icm more i n b h) P
  unfolding map_icm
  safe_ranges zero i n b h w s z q x e laid =
      let t : i ≡ 14 = omega (arith, s) in safe_init n b h w q x (e ∙ t) (subst (AsLaid n b) t laid)
  safe_ranges (suc k) i n b h w s z q x e laid =
      let less : i < 14 = omega (arith, s) in
      safe_area base P back kept (a.Range i) (range_at n i).bytes (λ y. ranged b (full (range_at n i).virt y)) (map_icm k (suc i) n) n b h w q x
      (omega (arith, less)) (x.entries.free i (subst (λ (j : ℕ). j ≤ i) (sym e) (let g : i ≤ i = omega arith in g)) less)
      (λ y v t. enters_range base P back kept n i b y v (z.placed i less) e less x.entries t)
      (λ y d j v p o t. safe_ranges k (suc i) n (wired (ranged b (full (range_at n i).virt y)) d) j v (omega (arith, s)) z o t (ap (λ (m : ℕ). m + 1) e ∙ (let g : i + 1 ≡ suc i = omega arith in g)) (more-laid y p less))
    where
      more-laid : (y : Buffer) → pages_for (range_at n i).bytes ≡ value y.pages → i < 14 → AsLaid n (ranged b (full (range_at n i).virt y)) (suc i)
      more-laid y p less = (
        z.accepted,
        λ j g.
            each_range b x.entries (subst (λ (m : ℕ). m < 14) (sym e) less) (full (range_at n i).virt y)
            (λ k z. (z.virt ≡ (range_at n k).virt) × (pages_for (range_at n k).bytes ≡ value z.pages))
            (λ k t. laid.1 k (subst (λ (m : ℕ). k < m) e t)) (subst (λ (m : ℕ). ((range_at n i).virt ≡ (range_at n m).virt) × (pages_for (range_at n m).bytes ≡ value y.pages)) (sym e) (refl, p)) j
            (subst (λ (m : ℕ). j < m + 1) (sym e) (omega (arith, g))),
      )

  -- nothing is mapped yet
  abbrev Bare : Books → Type 0
  Bare b = (aux_of b ≡ no_slot) × (b.lists.ranges ≡ 0)

  none_laid : (n : Info) (b : Books) → Laid n → AsLaid n b 0
  none_laid n b z = (z.accepted, λ k h. absurd (let z : ⊥ = omega (arith, h) in z))

  safe_size : (n : Info) (b : Books) (h : Here) (w : World) → Laid n → Fair h → Ready base b w → Bare b → SafeCourse w (set_icm_size n b h) P
  unfolding set_icm_size
  safe_size n b h w z q x e =
      safe_good base P back kept (imm_of 0xffd 0 0 (layout_in n).total) refl failure_of (λ s d j. area_for a.Aux (immediate_of s * 4096) (map_icm 14 0 n) n d j) n b h w q
      (fits_imm 0xffd (layout_in n).total _ (omega arith) refl z.total) x
      (λ s y j v k d. safe_area base P back kept a.Aux (immediate_of s * 4096) (λ t. puts AUX (full 0 t) (wired b y)) (map_icm 14 0 n) n (wired b y) j v k d (omega arith) e.0
      (λ t i m. enters_aux base P back kept (immediate_of s * 4096) n (wired b y) t i e.0 d.entries m)
      (λ t d₁ i u p o m. safe_ranges 14 0 n (wired (puts AUX (full 0 t) (wired b y)) d₁) i u refl z o m e.1 (none_laid n (puts AUX (full 0 t) b) z)))

  safe_laying : (n : Info) (b : Books) (h : Here) (w : World) → Capped n → Fair h → Ready base b w → Bare b → SafeCourse w (laying_out n b h) P
  unfolding laying_out
  safe_laying n b h w z q x e =
      ready_value base P back kept (profile_of n.cap) (λ y. set_icm_size n b h) n b h w q x (λ y t. safe_size n b h w (capped_laid n y z t) q x e)

  safe_ports : (more p : ℕ) (n : Info) (b : Books) (h : Here) (w : World) → p + more < 2 ^ 32 → Capped n → Fair h → Ready base b w → Bare b → SafeCourse w (query_ports more p n b h) P
  unfolding query_ports
  safe_ports zero p n b h w s z q x e = safe_laying n b h w z q x e
  safe_ports (suc k) p n b h w s z q x e =
      safe_good base P back kept (with_out_of b 0x043 p) refl failure_of
      (λ a d j. on_value (query_port_of j.outbox p) (λ y. query_ports k (suc p) (with_port n p y) d j) n d j) n b (zeroed outbox h) w (out_fair h q)
      (fits_out b w.host x.boxes 0x043 p _ (omega arith) (omega (arith, s)) refl) x
      (λ a y j v i d. ready_value base P back kept (query_port_of j.outbox p) (λ t. query_ports k (suc p) (with_port n p t) (wired b y) j) n (wired b y) j v i d
      (λ t m. safe_ports k (suc p) (with_port n p t) (wired b y) j v (omega (arith, s)) (port_capped n p t z) i d e))

  rev_few : (b : Bool) (k : ℕ) → k < 16 → 1 + pick b k 0 < 2 ^ 32
  rev_few true k h = omega (arith, h)
  rev_few false k h = omega arith

  safe_cap : (n : Info) (b : Books) (h : Here) (w : World) → Fair h → Ready base b w → Bare b → SafeCourse w (query_dev_cap n b h) P
  unfolding query_dev_cap
  safe_cap n b h w q x e =
      safe_good base P back kept (with_out_of b 0x003 0) refl failure_of
      (λ a d j. on_value (capability_of j.outbox n.uar.size) (λ y. query_ports (ports_of (with_cap n y)) 1 (with_cap n y) d j) n d j) n b (zeroed outbox h) w (out_fair h q)
      (fits_out b w.host x.boxes 0x003 0 _ (omega arith) (omega arith) refl) x
      (λ a y j v i d. ready_value base P back kept (capability_of j.outbox n.uar.size) (λ t. query_ports (ports_of (with_cap n t)) 1 (with_cap n t) (wired b y) j) n (wired b y) j v i d
      (λ t m. let z : Capped (with_cap n t) = (j.outbox, n.uar.size, i.outbox, m) in
      safe_ports (ports_of (with_cap n t)) 1 (with_cap n t) (wired b y) j v (rev_few n.rev3 (t).ports (ports_few (with_cap n t) z)) z i d e))

  -- "(a status is passed over)"
  safe_stat : (n : Info) (b : Books) (h : Here) (w : World) → Fair h → Ready base b w → Bare b → SafeCourse w (mod_stat n b h) P
  unfolding mod_stat
  safe_stat n b h w q x e =
      safe_other base P back kept (with_in_of b 0x034 0) refl (λ a d j. pick (needs_reset a) (fails_by a n d j) (query_dev_cap n d j)) b (holds (filled_by h.inbox mod_stat_cfg) h) w
      (fields_fair mod_stat_cfg h q) (fits_in b w.host x.boxes 0x034 0 _ (omega arith) (omega arith)) x seen unseen
    where
      seen : (a : CmdResult) (y : Wire) (j : Here) (v : World) → Fair j → end_seen a ≡ true → Ready base (wired b y) v → SafeCourse v (pick (needs_reset a) (fails_by a n (wired b y) j) (query_dev_cap n (wired b y) j)) P
      seen (r.Done s us) y j v k z d = safe_cap n (wired b y) j v k d e
      seen (r.Status s us) y j v k z d = safe_cap n (wired b y) j v k d e
      seen (r.Timeout us) y j v k z d = absurd (false≢true z)
      seen r.Busy y j v k z d = absurd (false≢true z)
      seen (r.Bus us) y j v k z d = absurd (false≢true z)

      unseen : (a : CmdResult) (y : CmdEnd) (j : Here) (v : World) → Fair j → y.result ≡ a → end_seen a ≡ false → v.host ≡ w.host → Within (Knows b) (Calm b) v.card
          → Out (posted_as b.wire.toggle (with_in_of b 0x034 0) (mail_at w.host (filled_by h.inbox mod_stat_cfg))) (Knows b) (Calm b) a v.card
          → SafeCourse v (pick (needs_reset a) (fails_by a n (wired b (after b.wire y)) j) (query_dev_cap n (wired b (after b.wire y)) j)) P
      unseen (r.Done s us) y j v k p z d i t = absurd (false≢true (sym z))
      unseen (r.Status s us) y j v k p z d i t = absurd (false≢true (sym z))
      unseen (r.Timeout us) y j v k p z d i t =
          safe_failed base P back kept (r.Timeout us) (failure_of (r.Timeout us)) n b (after b.wire y) j v
          (posted_as b.wire.toggle (with_in_of b 0x034 0) (mail_at w.host (filled_by h.inbox mod_stat_cfg))) (Knows b) (Calm b) refl k (subst Mailed (sym d) (boxes_mailed base b w.host x.boxes x.owns))
          (subst (Owns base (named b)) (sym d) x.owns) x.entries x.loud (λ g. knows_owed b g x.entries) t
      unseen r.Busy y j v k p z d i t =
          safe_failed base P back kept r.Busy (failure_of r.Busy) n b (after b.wire y) j v
          (posted_as b.wire.toggle (with_in_of b 0x034 0) (mail_at w.host (filled_by h.inbox mod_stat_cfg))) (Knows b) (Calm b) refl k (subst Mailed (sym d) (boxes_mailed base b w.host x.boxes x.owns))
          (subst (Owns base (named b)) (sym d) x.owns) x.entries x.loud (λ g. knows_owed b g x.entries) t
      unseen (r.Bus us) y j v k p z d i t =
          safe_failed base P back kept (r.Bus us) (failure_of (r.Bus us)) n b (after b.wire y) j v
          (posted_as b.wire.toggle (with_in_of b 0x034 0) (mail_at w.host (filled_by h.inbox mod_stat_cfg))) (Knows b) (Calm b) refl k (subst Mailed (sym d) (boxes_mailed base b w.host x.boxes x.owns))
          (subst (Owns base (named b)) (sym d) x.owns) x.entries x.loud (λ g. knows_owed b g x.entries) t

  safe_run_fw : (n : Info) (b : Books) (h : Here) (w : World) → Fair h → Ready base b w → Bare b → SafeCourse w (run_fw n b h) P
  unfolding run_fw
  safe_run_fw n b h w q x e =
      safe_good base P back kept (imm_of 0xff6 0 0 0) refl failure_of (λ a d j. mod_stat n d j) n b h w q (fits_imm 0xff6 0 _ (omega arith) refl (omega arith)) x
      (λ a y j v k d. safe_stat n (wired b y) j v k d e)

  -- another command register
  ready_wired : (b : Books) (y : Wire) (w : World) → y.silent ≡ false → Ready base b w → Ready base (wired b y) w
  ready_wired b y w l d = record {
    owns = d.owns;
    card = (d.card.0, record { icm = d.card.1.icm; firmware = d.card.1.firmware; auxiliary = d.card.1.auxiliary; lent = d.card.1.lent });
    boxes = record {
      inbox = d.boxes.inbox;
      outbox = d.boxes.outbox;
      in_held = d.boxes.in_held;
      out_held = d.boxes.out_held;
      in_at = d.boxes.in_at;
      out_at = d.boxes.out_at;
      in_less = d.boxes.in_less;
      out_less = d.boxes.out_less;
    };
    loud = l;
    entries = d.entries;
  }

  -- where the catastrophic buffer is known
  safe_reply : (n : Info) (b : Books) (h : Here) (w : World) → Fair h → Ready base b w → fa_of b ≡ no_slot → Bare b → SafeCourse w (fw_reply n b h) P
  safe_reply n b h w q x z e =
      let d : Books = with_catas b (fw_held h.outbox n.uar.index) in
      let k : Ready base (with_catas b (fw_held h.outbox n.uar.index)) w = ready_wired b (with_catas b (fw_held h.outbox n.uar.index)).wire w x.loud x in
      ready_value base P back kept (query_fw_of h.outbox n.uar.index)
      (λ y. area_for a.Fa (y.pages * 4096) (run_fw (with_revision n y.rev)) (with_revision n y.rev) (with_catas b (fw_held h.outbox n.uar.index)) h) n
      (with_catas b (fw_held h.outbox n.uar.index)) h w q k
      (λ y t. safe_area base P back kept a.Fa (y.pages * 4096) (λ s. puts FA (full 0 s) (with_catas b (fw_held h.outbox n.uar.index))) (run_fw (with_revision n y.rev)) (with_revision n y.rev)
      (with_catas b (fw_held h.outbox n.uar.index)) h w q k (omega arith) z
      (λ s v i. enters_fa base P back kept (y.pages * 4096) (with_revision n y.rev) (with_catas b (fw_held h.outbox n.uar.index)) s v z k.entries i)
      (λ s i j v p o m. safe_run_fw (with_revision n y.rev) (wired (puts FA (full 0 s) (with_catas b (fw_held h.outbox n.uar.index))) i) j v o m (put_there b.lists.slots FA AUX (full 0 s) (λ g. let f : ⊥ = omega (arith, g) in f) ∙ e.0, e.1)))

  safe_query_fw : (n : Info) (b : Books) (h : Here) (w : World) → Fair h → Ready base b w → fa_of b ≡ no_slot → Bare b → SafeCourse w (query_fw n b h) P
  unfolding query_fw
  safe_query_fw n b h w q x z e =
      safe_good base P back kept (with_out_of b 0x004 0) refl fw_failure_of (λ a d j. fw_reply n d j) n b (zeroed outbox h) w (out_fair h q)
      (fits_out b w.host x.boxes 0x004 0 _ (omega arith) (omega arith) refl) x
      (λ a y j v k d. safe_reply n (wired b y) j v k d z e)

  safe_look : (n : Info) (b : Books) (h : Here) (w : World) → Fair h → Ready base b w → fa_of b ≡ no_slot → Bare b → SafeCourse w (look n b h) P
  unfolding look
  safe_look n b h w q x z e =
      safe_task (λ t d j. query_fw n (with_toggle d t) j) (λ v t. (v.host ≡ w.host) × Quiet (Knows b) v.card) P looking b h w q
      (safe_still h.inbox looking (Quiet (Knows b)) w.host w looking_still (quiet_stable (Knows b)) refl x.card)
      (λ v t j k d s. safe_query_fw n (with_toggle b t) j v k (ready_wired b (with_toggle b t).wire v x.loud (record {
        owns = subst (Owns base (named b)) (sym s.0) x.owns;
        card = s.1;
        boxes = record {
          inbox = x.boxes.inbox;
          outbox = x.boxes.outbox;
          in_held = x.boxes.in_held;
          out_held = x.boxes.out_held;
          in_at = ap (λ (l : Host). l.inbox) s.0 ∙ x.boxes.in_at;
          out_at = ap (λ (l : Host). l.outbox) s.0 ∙ x.boxes.out_at;
          in_less = x.boxes.in_less;
          out_less = x.boxes.out_less;
        };
        entries = x.entries;
        loud = x.loud;
      })) z e)

  -- BEFORE BRING-UP: the card was reset, and has taken no command since
  nothing_bound : (bs : List Buffer) (k : Card) → Quiet Nothing k → (d : ℕ) → MayUse k d → InBooks bs d
  nothing_bound bs k q d s = let t = quiet_uses Nothing k q d s in absurd ((nothing_empty (t).0 (t).1).nothing d (t).2)

  quiet_empty : (k : Card) → Quiet Nothing k → Quiet Empty k
  quiet_empty k q = (q.0, nothing_empty k.held q.1)

  -- the books with the attributes that were there first
  abbrev start : ℕ → Books
  start s = with_original no_books s

  one_page : (n : ℕ) → pages_for 4096 ≡ value n → n ≡ 1
  one_page n e = sym (ap (value_or 0) e)

  below : (z : Buffer) → pages_for 4096 ≡ value z.pages → Sound z.pages z → z.dev < 2 ^ 64
  below z e s = let n = one_page z.pages e in let t = s.fits in omega (arith, n, t)

  nothing_known : (b : Books) (g : Held) → b.lists.ranges ≡ 0 → Nothing g → Knows b g
  nothing_known b g e n = subst (Knows b) (sym n) (record {
    icm = λ x d. (λ z. absurd z, λ z. let y = z.1 in let q : ⊥ = omega (arith, y, e) in absurd q);
    firmware = λ d z. absurd z;
    auxiliary = λ d z. absurd z;
    lent = λ d z. z;
  })

  none_there : (m k : ℕ) → slot_at (replicate m no_slot) k ≡ no_slot
  none_there zero k = refl
  none_there (suc m) zero = refl
  none_there (suc m) (suc k) = none_there m k

  start_entries : (s : ℕ) → Entries (start s)
  start_entries s = record {
    room = refl;
    few = omega arith;
    small = λ k h. absurd (let q : ⊥ = omega (arith, h) in q);
    addressed = λ k h. absurd (let q : ⊥ = omega (arith, h) in q);
    held = λ k h. absurd (let q : ⊥ = omega (arith, h) in q);
    free = λ k h m. none_there 82 (64 + k);
    unlent = λ k h m. none_there 82 k;
  }

  -- the books with the inbox, and with both mailboxes
  abbrev boxed : ℕ → Buffer → Books
  boxed s x = puts INBOX (full 0 x) (start s)

  abbrev both : ℕ → Buffer → Buffer → Books
  both s x y = puts OUTBOX (full 0 y) (boxed s x)

  none_named : (s : ℕ) → named (start s) ≡ []
  unfolding named_from
  none_named s = refl

  one_named : (s : ℕ) (x : Buffer) → named (boxed s x) ≡ x ∷ []
  unfolding named_from
  one_named s x = refl

  two_named : (s : ℕ) (x y : Buffer) → named (both s x y) ≡ x ∷ y ∷ []
  unfolding named_from
  two_named s x y = refl

  both_entries : (s : ℕ) (x y : Buffer) → Entries (both s x y)
  both_entries s x y = area_entries (boxed s x) (area_entries (start s) (start_entries s) INBOX (omega arith) (full 0 x)) OUTBOX (omega arith) (full 0 y)

  safe_outbox : (s : ℕ) (x : Buffer) (n : Info) (h : Here) (w : World) → Fair h → Owns base (x ∷ []) w.host → Quiet Nothing w.card → w.host.inbox ≡ some (spot_of x) → w.host.outbox ≡ none → x.dev < 2 ^ 64
      → SafeCourse w (make_outbox n (boxed s x) h) P
  unfolding make_outbox give_inbox
  safe_outbox s x n h w q i k p o₁ less =
      safe_run (λ y d j. on_made y (λ z. look n d j) (λ e. give_inbox e n d j))
      (MadePost [] base (x ∷ []) (Quiet Nothing) (quiet_stable Nothing) (nothing_bound (x ∷ [])) w.host 4096) P outbox (making 4096) (boxed s x) (MadeIn OUTBOX 0 (boxed s x)) h w q
      (λ d. safe_making d base (x ∷ []) (Quiet Nothing) (quiet_stable Nothing) (nothing_bound (x ∷ [])) w.host 4096 w refl i k)
      (ends_outbox (making 4096) (boxed s x) (MadeIn OUTBOX 0 (boxed s x)) (making_ends OUTBOX 0 (boxed s x) (omega arith) refl 4096)) at
    where
      at : (v : World) (y : Made) (d : Books) (j : Here) → Fair j → MadePost [] base (x ∷ []) (Quiet Nothing) (quiet_stable Nothing) (nothing_bound (x ∷ [])) w.host 4096 v y → MadeIn OUTBOX 0 (boxed s x) y d
          → SafeCourse v (on_made y (λ z. look n d j) (λ e. give_inbox e n d j)) P
      at v (m.Refused e) d j fair z same =
          subst (λ (b : Books). SafeCourse v (giving n (f.By (fault_of e)) c.Clean b j) P) (sym same)
          (safe-giving n (f.By (fault_of e)) P base (λ t b u g a r. back n (f.By (fault_of e)) t b u g a r) c.Clean (boxed s x) j v clean_differs fair
          (subst (λ (bs : List Buffer). Owns base bs v.host) (sym (one_named s x)) z.0) (quiet_empty v.card z.1))
      at v (m.Ready y) d j fair z same =
          subst (λ (b : Books). SafeCourse v (look n b j) P) (sym same)
          (safe_look n (both s x y) j v fair (record {
            owns = subst (λ (bs : List Buffer). Owns base bs v.host) (sym (two_named s x y)) (owns_perm base (y ∷ x ∷ []) (x ∷ y ∷ []) v.host (swap y x []) z.0);
            card = (z.1.0, nothing_known (both s x y) v.card.held refl z.1.1);
            boxes = record {
              inbox = x;
              outbox = y;
              in_held = (refl, refl);
              out_held = (refl, refl);
              in_at = z.4.0 ∙ ap (λ (t : Option Spot). or_else t (spot_of y)) p;
              out_at = z.4.1 ∙ ap (λ (t : Option Spot). second t w.host.outbox (spot_of y)) p ∙ ap (λ (t : Option Spot). or_else t (spot_of y)) o₁;
              in_less = less;
              out_less = below y z.2 z.3;
            };
            entries = both_entries s x y;
            loud = refl;
          }) refl (refl, refl))

  safe_inbox : (s : ℕ) (n : Info) (h : Here) (w : World) → Fair h → Owns base [] w.host → Quiet Nothing w.card → w.host.inbox ≡ none → w.host.outbox ≡ none → SafeCourse w (make_inbox n (start s) h) P
  unfolding make_inbox
  safe_inbox s n h w q i k p o₁ =
      safe_run (λ y d j. on_made y (λ x. make_outbox n d j) (λ e. parted n (f.By (fault_of e)) c.Clean d j))
      (MadePost [] base [] (Quiet Nothing) (quiet_stable Nothing) (nothing_bound []) w.host 4096) P inbox (making 4096) (start s) (MadeIn INBOX 0 (start s)) h w q
      (λ d. safe_making d base [] (Quiet Nothing) (quiet_stable Nothing) (nothing_bound []) w.host 4096 w refl i k)
      (ends_inbox (making 4096) (start s) (MadeIn INBOX 0 (start s)) (making_ends INBOX 0 (start s) (omega arith) refl 4096)) at
    where
      at : (v : World) (y : Made) (d : Books) (j : Here) → Fair j → MadePost [] base [] (Quiet Nothing) (quiet_stable Nothing) (nothing_bound []) w.host 4096 v y → MadeIn INBOX 0 (start s) y d
          → SafeCourse v (on_made y (λ x. make_outbox n d j) (λ e. parted n (f.By (fault_of e)) c.Clean d j)) P
      at v (m.Refused e) d j fair z same =
          safe-parted n (f.By (fault_of e)) P v.host (Quiet Nothing) (quiet_stable Nothing) (λ a b d t. t) c.Clean d
          (λ y a b. back n (f.By (fault_of e)) c.Clean d y clean_differs (subst (Owns base []) (sym a) z.0) (quiet_empty y.card b)) j v fair refl z.1
      at v (m.Ready x) d j fair z same =
          subst (λ (b : Books). SafeCourse v (make_outbox n b j) P) (sym same)
          (safe_outbox s x n j v fair z.0 z.1 (z.4.0 ∙ ap (λ (t : Option Spot). or_else t (spot_of x)) p)
          (z.4.1 ∙ ap (λ (t : Option Spot). second t w.host.outbox (spot_of x)) p ∙ o₁) (below x z.2 z.3))

  -- no BAR was found: nothing is torn down
  safe_refused : (s : ℕ) (n : Info) (y : Refusal) (h : Here) (w : World) → Fair h → Owns base [] w.host → Quiet Nothing w.card
      → SafeCourse w (parted n (f.By y) c.Clean (start s) h) P
  safe_refused s n y h w fair i k =
      safe-parted n (f.By y) P w.host (Quiet Nothing) (quiet_stable Nothing) (λ a b d t. t) c.Clean (start s)
      (λ v a b. back n (f.By y) c.Clean (start s) v clean_differs (subst (Owns base []) (sym a) i) (quiet_empty v.card b)) h w fair refl k

  safe_find : (s : ℕ) (n : Info) (h : Here) (w : World) → Fair h → Owns base [] w.host → Quiet Nothing w.card → w.host.inbox ≡ none → w.host.outbox ≡ none → SafeCourse w (find_uar n (start s) h) P
  unfolding find_uar
  safe_find s n h w q i k p o₁ =
      safe_task (λ y d j. on_found y n d j) (λ v y. (v.host ≡ w.host) × Quiet Nothing v.card) P finding (start s) h w q
      (safe_still h.inbox finding (Quiet Nothing) w.host w finding_still (quiet_stable Nothing) refl k) (λ v y j fair d z. at y v j fair z)
    where
      at : (y : Found) (v : World) (j : Here) → Fair j → (v.host ≡ w.host) × Quiet Nothing v.card → SafeCourse v (on_found y n (start s) j) P
      at (Ok y) v j fair z =
          safe_inbox s (with_uar n y) j v fair (subst (Owns base []) (sym z.0) i) z.1 (ap (λ (l : Host). l.inbox) z.0 ∙ p) (ap (λ (l : Host). l.outbox) z.0 ∙ o₁)
      at (Err u.Refused) v j fair z = safe_refused s n x.Bar j v fair (subst (Owns base []) (sym z.0) i) z.1
      at (Err u.BadList) v j fair z = safe_refused s n x.List j v fair (subst (Owns base []) (sym z.0) i) z.1

  -- whatever the card held or ran is gone by then
  safe_first : (s : ℕ) (n : Info) (h : Here) (w : World) → Fair h → w.host ≡ k₀ → Owns base [] w.host → w.host.inbox ≡ none → w.host.outbox ≡ none → SafeCourse w (first_reset n (start s) h) P
  unfolding first_reset
  safe_first s n h w q e i p o₁ =
      safe_task (λ y d j. pick (is_good y) (find_uar n d j) (parted n (f.By x.Reset) c.Clean d j)) (ResetPost w.host) P reset (start s) h w q (safe_reset h.inbox w.host w refl) (λ v y j fair d z.
      course_pick (is_good y) _ _ v P
      (λ t. safe_find s n j v fair (subst (Owns base []) (sym z.0) i) (z.1 t).1 (ap (λ (l : Host). l.inbox) z.0 ∙ p) (ap (λ (l : Host). l.outbox) z.0 ∙ o₁))
      (λ t. safe-parted n (f.By x.Reset) P v.host (λ y. y ≡ y) (λ a b d t. refl) (λ a b d t. refl) c.Clean (start s)
      (λ y a b. early n (f.By x.Reset) (start s) y (a ∙ z.0 ∙ e)) j v fair refl refl))

  safe_claim : (s : ℕ) (n : Info) (h : Here) (w : World) → Fair h → w.host ≡ k₀ → Owns base [] w.host → w.host.inbox ≡ none → w.host.outbox ≡ none → SafeCourse w (claim n (start s) h) P
  unfolding claim
  safe_claim s n h w q e i p o₁ =
      safe_task (λ y d j. on_claimed y n d j) (λ v y. (v.host ≡ w.host) × (v.card ≡ v.card)) P claiming (start s) h w q
      (safe_still h.inbox claiming (λ y. y ≡ y) w.host w claiming_still (λ a b d t. refl) refl refl) (λ v y j fair d z. at y v j fair z.0)
    where
      at : (y : Claimed) (v : World) (j : Here) → Fair j → v.host ≡ w.host → SafeCourse v (on_claimed y n (start s) j) P
      at l.Good v j fair z =
          safe_first s n j v fair (z ∙ e) (subst (Owns base []) (sym z) i) (ap (λ (l : Host). l.inbox) z ∙ p) (ap (λ (l : Host). l.outbox) z ∙ o₁)
      at l.Refused v j fair z =
          safe-restored n (f.By x.Owner) P v.host (λ y. y ≡ y) (λ a b d t. refl) (λ a b d t. refl) c.Clean (start s) (λ y a b. early n (f.By x.Owner) (start s) y (a ∙ z ∙ e)) j v fair refl refl

  -- THE OPENING of a fresh session, on any card
  pub safe_opening : (h : Here) (w : World) → Fair h → w.host ≡ k₀ → Owns base [] w.host → w.host.inbox ≡ none → w.host.outbox ≡ none → SafeCourse w (opening h) P
  unfolding enable
  safe_opening h w q e i p o₁ =
      safe_task (λ y d j. on_enabled y no_info d j) (λ v y. (v.host ≡ w.host) × (v.card ≡ v.card)) P attributing no_books h w q
      (safe_still h.inbox attributing (λ y. y ≡ y) w.host w attributing_still (λ a b d t. refl) refl refl) (λ v y j fair d z. at y v j fair z.0)
    where
      at : (y : Attributes) (v : World) (j : Here) → Fair j → v.host ≡ w.host → SafeCourse v (on_enabled y no_info no_books j) P
      at (t.Enabled s) v j fair z =
          safe_claim s no_info j v fair (z ∙ e) (subst (Owns base []) (sym z) i) (ap (λ (l : Host). l.inbox) z ∙ p) (ap (λ (l : Host). l.outbox) z ∙ o₁)
      at t.Refused v j fair z = early no_info (f.By x.Attributes) no_books v (z ∙ e)
