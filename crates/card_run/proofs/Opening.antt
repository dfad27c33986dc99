-- A whole opening can end well: on a card that holds nothing and a host that has handed out nothing.
use Rattle.std.specs.Prelude.{None}
use Prim.Native.Nat.{ℕ, zero, suc, ◌+◌, ◌-◌, ◌*◌, ◌/◌, ◌%◌, ◌^◌, ◌≤◌, ◌<◌, max}
use native.Mathlib.Omega.{arith}
use mathlib.Core.Bool.{Bool, true, false, false≢true}
use mathlib.Core.List.{List, [], ◌∷◌, ◌++◌}
use mathlib.Core.Option.{none, none-ne-some}
use mathlib.Core.Path.{◌≡◌, refl, sym, ◌∙◌, ap, subst}
use mathlib.Core.Logic.{inl}
use lib.Dec.{eqb, ltb}
use lib.ListN.{length, get_or, set, replicate}
use borrow.Author.Tests.{eq-eqb, le-leb, ltb-true}
use Rattle.fields.specs.Outcome.{Outcome, value, refused, pick}
use Rattle.fields.specs.Fields.{digits, put_digits}
use Rattle.fields.proofs.Laws.{Bytes}
use Rattle.bench.specs.Bench.{input_l}
use Rattle.dma.specs.Buffers.{pages_for}
use Rattle.dma.specs.PageList.{first_blocks, behind, filled_at}
use Rattle.dma.specs.declared.Cutter.{Cutter}
use Rattle.hcr.specs.Words.{first_toggle}
use Rattle.reply.specs.Capability.{capability_of, dev_cap_of, read_into}
use Rattle.reply.specs.Replies.{query_fw_of, fw_of, fw_held}
use Rattle.reply.specs.declared.DevCap.{DevCap}
use Rattle.layout.specs.Layout.{first_pow, tables_from, spot_of, sort_into, place_from, total_of, first_bad, table_in, lay_out}
use Rattle.layout.specs.Counts.{profile_of, counts_of}
use Rattle.init.specs.Init.{filled_by, fields_of, init_of, mod_stat_cfg}
use Rattle.reset.specs.Reset.{reset, is_good}
use Rattle.reset.specs.declared.ResetEnd.TheVariants as re
use Rattle.buffer.specs.Buffer.{making}
use Rattle.buffer.specs.declared.Made.{Made}
use Rattle.tasks.specs.Attributes.{attributing}
use Rattle.tasks.specs.declared.Attributes.TheVariants as t
use Rattle.tasks.specs.Claim.{claiming}
use Rattle.tasks.specs.declared.Claimed.TheVariants as l
use Rattle.uar.specs.Uar.{finding}
use Rattle.work.specs.Work.{looking}
use Rattle.session.specs.Failures.{broken_by, fault_of, immediate_of, needs_reset}
use Rattle.session.specs.declared.Books.{Books}
use Rattle.session.specs.declared.Info.{Info}
use Rattle.session.specs.declared.Area.{Area}
use Rattle.session.specs.declared.Area.TheVariants as a
use Rattle.session.specs.declared.Failure.TheVariants as f
use Rattle.session.specs.declared.Closing.TheVariants as c
use Rattle.session.specs.Session.{no_books, no_info, imm_of, with_in_of, with_out_of}
use Rattle.session.specs.Course.{Course, Here, here, neither, inbox, outbox, zeroed, sends, Rest}
use Rattle.session.specs.declared.Lists.{Lists}
use Rattle.session.specs.declared.Wire.{Wire}
use Rattle.session.specs.declared.Gave.{Gave}
use Rattle.session.specs.declared.Gave.TheVariants as gv
use Rattle.closing_plan.specs.Closing.{is_done, parted}
use Rattle.opening_plan.specs.Values.{fw_failure_of, layout_in, range_at, with_toggle, with_catas, with_original, now_started, op_for, place_for, enters, cut_in, with_uar, with_revision, with_cap}
use Rattle.opening_plan.specs.Opening.{fails, fails_by, on_good, on_value, holds, on_made, opened, query_adapter, query_func, init_hca, mapping, area_for, map_icm, set_icm_size, laying_out, query_ports, ports_of, query_dev_cap, mod_stat, run_fw, fw_reply, query_fw, look, give_inbox, make_outbox, make_inbox, on_found, find_uar, first_reset, on_claimed, claim, on_enabled, enable, opening}
use Rattle.card.specs.Card.{Card, holds as holding, No, Host, World}
use Rattle.card_calls.proofs.Areas.{pages_few}
use Rattle.card_calls.proofs.Opening.{Laid, capped_laid}
use Rattle.card_run.specs.Can.{no_undo, CanCourse}
use Rattle.card_run.proofs.Tasks.{So, Barless, Room, Grew, cleared, can_attributing, can_claiming, can_reset, can_finding, can_looking, can_making}
use Rattle.card_run.proofs.Courses.{rising, going, At, Spare, IsOpen, slotted, course_true, can-run, can-sends, can-sent}

-- REPLIES: bytes
below : List ℕ → Bool
below [] = true
below (x ∷ xs) = pick (ltb x 256) (below xs) false

below_at : (xs : List ℕ) → below xs ≡ true → Bytes xs
unfolding below
below_at [] e k = let h : 0 < 256 = omega arith in h
below_at (x ∷ xs) e k = by_byte (λ q. below_at xs q) (ltb x 256) refl k
  where
    rest : (b : Bool) → ltb x 256 ≡ b → (ltb x 256 ≡ true) × (below xs ≡ true)
    rest true q = (q, ap (λ (b : Bool). pick b (below xs) false) (sym q) ∙ e)
    rest false q = absurd (false≢true (ap (λ (b : Bool). pick b (below xs) false) (sym q) ∙ e))

    by_byte : (below xs ≡ true → Bytes xs) → (b : Bool) → ltb x 256 ≡ b → (k : ℕ) → get_or (x ∷ xs) k 0 < 256
    by_byte on b q zero = ltb-true x 256 (rest b q).0
    by_byte on b q (suc k) = on (rest b q).1 k

-- AN AREA, which is in the books before it is mapped
op_small : (e : Area) → op_for e < 0x1000
op_small a.Fa = let h : 0xfff < 0x1000 = omega arith in h
op_small a.Aux = let h : 0xffc < 0x1000 = omega arith in h
op_small (a.Range i) = let h : 0xffa < 0x1000 = omega arith in h

more_lends : (t : Bool) (l : Lists) (n : ℕ) → (pick t (record { slots = l.slots; ranges = n; lends = l.lends }) l).lends ≡ l.lends
more_lends true l n = refl
more_lends false l n = refl

entered : (e : Area) (b : Books) (k : Card) → At rising b k → At rising (enters e b) k
entered a.Fa b k u = u
entered a.Aux b k u = u
entered (a.Range i) b k u =
    record { idle = u.idle; running = u.running; broken = u.broken; silent = u.silent; lends = more_lends (ltb b.lists.ranges 14) b.lists _ ∙ u.lends; started = u.started }

module _ (Q : World → Rest → Type 1) where
  module _ (e : Area) (next : Books → Here → Course Rest) (n : Info) (l : Host) (follows : (d : Books) (j : Here) (v : World) → At rising d v.card → v.host ≡ l → CanCourse v (next d j) Q) where
    can-mapping : (k : ℕ) (x : Cutter) (b : Books) (h : Here) (w : World) → w.host ≡ l → At rising b w.card → CanCourse w (mapping e next k x n b h) Q
    unfolding mapping
    can-mapping zero x b h w q i = follows b h w i q
    can-mapping (suc k) x b h w q i = by_left (λ d j v s o. can-mapping k (behind 63 256 x) d j v s o) (eqb x.left 0)
      where
        by_left : ((d : Books) (j : Here) (v : World) → v.host ≡ l → At rising d v.card → CanCourse v (mapping e next k (behind 63 256 x) n d j) Q) → (t : Bool)
            → CanCourse w (pick t (next b h)
            (sends b (with_in_of b (op_for e) (length (first_blocks 63 256 x) % 2 ^ 32)) (λ y d j. on_good y (λ z i. mapping e next k (behind 63 256 x) n z i) n d j)
            (holds (filled_at 63 256 x h.inbox) h))) Q
        by_left on true = follows b h w i q
        by_left on false =
            can-sent Q b (with_in_of b (op_for e) (length (first_blocks 63 256 x) % 2 ^ 32)) (λ y d j. on_good y (λ z i. mapping e next k (behind 63 256 x) n z i) n d j)
            (holds (filled_at 63 256 x h.inbox) h) w rising (op_small e) (omega arith) i (λ us d v j s. on d _ v (s ∙ q) j)

  can_area : (e : Area) (bytes pages at page : ℕ) (next : Books → Here → Course Rest) (n : Info) (b : Books) (h : Here) (w : World) → pages_for bytes ≡ value pages → page + pages ≤ 2 ^ 52
      → Room at page w.host → At rising b w.card
      → ((d : Books) (j : Here) (v : World) → At rising d v.card → Room (suc at) (page + pages) v.host → CanCourse v (next d j) Q)
      → CanCourse w (area_for e bytes next n b h) Q
  unfolding area_for
  can_area e bytes pages at page next n b h w q fits room i follows =
      can-run Q (λ y d j. on_made y (λ z. mapping e next (cut_in n e d).left (cut_in n e d) n (enters e d) j) (λ x. fails (fault_of x) n d j)) (Grew pages at page w) (place_for n e) (making bytes) b h w
      (can_making bytes pages at page q fits w room)
      (λ v y l j x.
      let d = slotted b l in
      subst (λ (m : Made). CanCourse v (on_made m (λ z. mapping e next (cut_in n e d).left (cut_in n e d) n (enters e d) j) (λ x. fails (fault_of x) n d j)) Q) (sym x.made)
      (can-mapping e next n v.host (λ d k u o s. follows d k u o (subst (Room (suc at) (page + pages)) (sym s) x.room)) (cut_in n e d).left (cut_in n e d) (enters e d) j v refl
      (entered e d v.card (subst (At rising b) (sym x.card) i))))

  value_is : {A : Type 0} (x : Outcome A) (y : A) (k : A → Course Rest) (n : Info) (b : Books) (h : Here) (w : World) → x ≡ value y → CanCourse w (k y) Q → CanCourse w (on_value x k n b h) Q
  value_is x y k n b h w e c = subst (λ (z : Outcome _). CanCourse w (on_value z k n b h) Q) (sym e) c

-- BRING-UP that ends well, from its end: the session is open, none of its buffers is lent, and the host has room
abbrev pub IsNothing : Books → Gave → Type 0
IsNothing b y = y ≡ gv.Nothing

pub record Ready (w : World) (x : Rest) : Type 1 where
  pub is_open : IsOpen IsNothing 0 w x
  pub spare : Spare w.host

can_adapter : (n : Info) (b : Books) (h : Here) (w : World) → Spare w.host → At (going 0) b w.card → CanCourse w (query_adapter n b h) Ready
unfolding query_adapter
can_adapter n b h w k u =
    can-sent Ready b (with_out_of b 0x006 0) (λ x d j. opened n d j) (zeroed outbox h) w (going 0) (omega arith) (omega arith) u
    (λ us d v e s. record { is_open = record { gave = gv.Nothing; so = refl; stage = refl; up = e }; spare = subst Spare (sym s) k })

can_func : (n : Info) (b : Books) (h : Here) (w : World) → n.cap.num_sys_eqs ≡ 0 → Spare w.host → At (going 0) b w.card → CanCourse w (query_func n b h) Ready
unfolding query_func
can_func n b h w e k u = course_true Ready (eqb n.cap.num_sys_eqs 0) _ _ w (eq-eqb n.cap.num_sys_eqs 0 e) (can_adapter n b h w k u)

-- INIT_HCA was seen good
begun : (b : Books) (k : Card) → At rising b k → At (going 0) (now_started b) k
begun b k u = record { idle = u.idle; running = u.running; broken = u.broken; silent = u.silent; lends = u.lends; started = refl }

can_init : (n : Info) (b : Books) (h : Here) (w : World) → n.cap.num_sys_eqs ≡ 0 → Spare w.host → At rising b w.card → CanCourse w (init_hca n b h) Ready
unfolding init_hca
can_init n b h w e k u =
    can-sent Ready b (with_in_of b 0x007 0) (λ x d j. on_good x (λ q k. query_func n (now_started q) k) n d j)
    (holds (filled_by h.inbox (fields_of (init_of n.cap (layout_in n).rows))) h) w rising (omega arith) (omega arith) u (λ us d v i s. can_func n (now_started d) _ v e (subst Spare (sym s) k) (begun d v.card i))

-- as many pages as a range wants
wanted : (bytes : ℕ) → bytes ≤ 2 ^ 36 → pages_for bytes ≡ value (max 1 ((bytes + 4095) / 4096))
wanted bytes h = ap (λ (b : Bool). pick b (value (max 1 ((bytes + 4095) / 4096))) (refused 18 [])) (le-leb bytes (2 ^ 64 - 4096) (omega (arith, h)))

can_ranges : (k i at page : ℕ) (n : Info) (b : Books) (h : Here) (w : World) → i + k ≡ 14 → page + k * 2 ^ 25 ≤ 2 ^ 51 → Laid n → n.cap.num_sys_eqs ≡ 0 → Room at page w.host → At rising b w.card
    → CanCourse w (map_icm k i n b h) Ready
unfolding map_icm
can_ranges zero i at page n b h w q fits laid e room o = can_init n b h w e (record { at = at; page = page; few = omega (arith, fits); room = room }) o
can_ranges (suc k) i at page n b h w q fits laid e room o =
    let less : i < 14 = omega (arith, q) in
    let p = (laid.placed i less).few in
    let s = wanted (range_at n i).bytes p in
    let few = (pages_few (range_at n i).bytes (max 1 (((range_at n i).bytes + 4095) / 4096)) s).1 in
    can_area Ready (a.Range i) (range_at n i).bytes (max 1 (((range_at n i).bytes + 4095) / 4096)) at page (map_icm k (suc i) n) n b h w s (omega (arith, fits, few, p)) room o
    (λ d j v x y. can_ranges k (suc i) (suc at) (page + max 1 (((range_at n i).bytes + 4095) / 4096)) n d j v (omega (arith, q)) (omega (arith, fits, few, p)) laid e y x)

can_size : (at page : ℕ) (n : Info) (b : Books) (h : Here) (w : World) → page + 1 + 14 * 2 ^ 25 ≤ 2 ^ 51 → Laid n → n.cap.num_sys_eqs ≡ 0 → Room at page w.host → At rising b w.card
    → CanCourse w (set_icm_size n b h) Ready
unfolding set_icm_size
can_size at page n b h w fits laid e room o =
    can-sent Ready b (imm_of 0xffd 0 0 (layout_in n).total) (λ x d j. on_good x (λ q k. area_for a.Aux (immediate_of x * 4096) (map_icm 14 0 n) n q k) n d j) h w rising (omega arith) (omega arith) o
    (λ us d v i s. can_area Ready a.Aux 0 1 at page (map_icm 14 0 n) n d _ v refl (omega (arith, fits)) (subst (Room at page) (sym s) room) i
    (λ y j u k x. can_ranges 14 0 (suc at) (page + 1) n y j u refl fits laid e x k))

-- THE CAPABILITIES of input L, in a mailbox of 4,096 bytes
abbrev cap_reply : List ℕ
cap_reply = input_l ++ replicate 3928 0

cap_bytes : Bytes cap_reply
unfolding below digits put_digits
cap_bytes = below_at cap_reply refl

cap_length : length cap_reply ≡ 4096
unfolding digits put_digits
cap_length = refl

abbrev cap_l : DevCap
cap_l = dev_cap_of cap_reply

cap_accepted : capability_of cap_reply None ≡ value cap_l
unfolding digits put_digits read_into
cap_accepted = refl

cap_eqs : cap_l.num_sys_eqs ≡ 0
unfolding digits put_digits
cap_eqs = refl

cap_profile : profile_of cap_l ≡ value (lay_out (counts_of cap_l) cap_l.entry)
unfolding digits put_digits read_into first_pow tables_from spot_of sort_into place_from total_of first_bad table_in
cap_profile = refl

can_laying : (at page : ℕ) (n : Info) (b : Books) (h : Here) (w : World) → n.cap ≡ cap_l → page + 1 + 14 * 2 ^ 25 ≤ 2 ^ 51 → Room at page w.host → At rising b w.card
    → CanCourse w (laying_out n b h) Ready
unfolding laying_out
can_laying at page n b h w e fits room o =
    let q : profile_of n.cap ≡ value (lay_out (counts_of cap_l) cap_l.entry) = ap profile_of e ∙ cap_profile in
    value_is Ready (profile_of n.cap) (lay_out (counts_of cap_l) cap_l.entry) (λ y. set_icm_size n b h) n b h w q
    (can_size at page n b h w fits (capped_laid n (lay_out (counts_of cap_l) cap_l.entry) (cap_reply, None, cap_bytes, cap_accepted ∙ ap value (sym e)) q) (ap (λ (x : DevCap). x.num_sys_eqs) e ∙ cap_eqs) room o)

can_cap : (at page : ℕ) (n : Info) (b : Books) (h : Here) (w : World) → n.uar.size ≡ None → n.rev3 ≡ false → page + 1 + 14 * 2 ^ 25 ≤ 2 ^ 51 → Room at page w.host → At rising b w.card
    → CanCourse w (query_dev_cap n b h) Ready
unfolding query_dev_cap query_ports
can_cap at page n b h w u v fits room o =
    can-sends Ready b (with_out_of b 0x003 0)
    (λ x d j. on_good x (λ e i. on_value (capability_of i.outbox n.uar.size) (λ y. query_ports (ports_of (with_cap n y)) 1 (with_cap n y) e i) n e i) n d j) (zeroed outbox h) w rising cap_reply cap_bytes cap_length (omega arith) (omega arith) o
    (λ us d x i s. value_is Ready (capability_of cap_reply n.uar.size) cap_l (λ y. query_ports (ports_of (with_cap n y)) 1 (with_cap n y) d (here (zeroed outbox h).inbox cap_reply no_undo)) n d (here (zeroed outbox h).inbox cap_reply no_undo) x
    (ap (capability_of cap_reply) u ∙ cap_accepted)
    (subst (λ (k : ℕ). CanCourse x (query_ports k 1 (with_cap n cap_l) d (here (zeroed outbox h).inbox cap_reply no_undo)) Ready) (sym (ap (λ (t : Bool). pick t cap_l.ports 0) v))
    (can_laying at page (with_cap n cap_l) d (here (zeroed outbox h).inbox cap_reply no_undo) x refl fits (subst (Room at page) (sym s) room) i)))

can_stat : (at page : ℕ) (n : Info) (b : Books) (h : Here) (w : World) → n.uar.size ≡ None → n.rev3 ≡ false → page + 1 + 14 * 2 ^ 25 ≤ 2 ^ 51 → Room at page w.host → At rising b w.card
    → CanCourse w (mod_stat n b h) Ready
unfolding mod_stat
can_stat at page n b h w u v fits room o =
    can-sent Ready b (with_in_of b 0x034 0) (λ x d j. pick (needs_reset x) (fails_by x n d j) (query_dev_cap n d j)) (holds (filled_by h.inbox mod_stat_cfg) h) w rising (omega arith) (omega arith) o
    (λ us d x i s. can_cap at page n d _ x u v fits (subst (Room at page) (sym s) room) i)

-- THE FIRMWARE AREA IS MAPPED, with all that this asked for
pub record HasFa (n : Info) (b : Books) (w : World) : Type 0 where
  bar : n.uar.size ≡ None
  rev : n.rev3 ≡ false
  room : Room 3 3 w.host
  up : At rising b w.card

can_run_fw : (n : Info) (b : Books) (h : Here) (w : World) → HasFa n b w → CanCourse w (run_fw n b h) Ready
unfolding run_fw
can_run_fw n b h w x =
    can-sent Ready b (imm_of 0xff6 0 0 0) (λ x d j. on_good x (λ e i. mod_stat n e i) n d j) h w rising (omega arith) (omega arith) x.up
    (λ us d v i s. can_stat 3 3 n d _ v x.bar x.rev (omega arith) (subst (Room 3 3) (sym s) x.room) i)

-- THE FIRMWARE: revision 2, and no pages asked for, which is a buffer of one
abbrev fw_bytes : List ℕ
fw_bytes = set (replicate 4096 0) 0x0b 2

fw_bytes_lem : Bytes fw_bytes
unfolding below
fw_bytes_lem = below_at fw_bytes refl

fw_length : length fw_bytes ≡ 4096
fw_length = refl

fw_accepted : (i : ℕ) → query_fw_of fw_bytes i ≡ value (fw_of fw_bytes i)
unfolding digits
fw_accepted i = refl

-- BEFORE IT, from its end: no command was sent since the reset, and so many buffers of one page were made
record New (y : Wire) (lent : ℕ) (on : Bool) (k : Card) : Type 0 where
  pending : k.pending ≡ none
  last : k.last ≡ none
  status : k.status ≡ 0
  running : y.running ≡ false
  broken : y.broken ≡ false
  silent : y.silent ≡ false
  lends : lent ≡ 0
  started : on ≡ false

record Before (at : ℕ) (y : Wire) (lent : ℕ) (on : Bool) (w : World) : Type 0 where
  room : Room at at w.host
  new : New y lent on w.card

module _ (Q : World → Rest → Type 1) (follows : (n : Info) (b : Books) (h : Here) (w : World) → HasFa n b w → CanCourse w (run_fw n b h) Q) where
  can_query_fw : (n : Info) (b : Books) (h : Here) (w : World) → n.uar.size ≡ None → Room 2 2 w.host → At rising b w.card → CanCourse w (query_fw n b h) Q
  unfolding query_fw digits
  can_query_fw n b h w u room o =
      can-sends Q b (with_out_of b 0x004 0) (λ x d j. pick (is_done x) (fw_reply n d j) (fails (fw_failure_of x) n (broken_by x d) j)) (zeroed outbox h) w rising fw_bytes fw_bytes_lem fw_length (omega arith) (omega arith) o
      (λ us d x i s. value_is Q (query_fw_of fw_bytes n.uar.index) (fw_of fw_bytes n.uar.index)
      (λ y. area_for a.Fa (y.pages * 4096) (run_fw (with_revision n y.rev)) (with_revision n y.rev) (with_catas d (fw_held fw_bytes n.uar.index)) (here (zeroed outbox h).inbox fw_bytes no_undo)) n
      (with_catas d (fw_held fw_bytes n.uar.index)) (here (zeroed outbox h).inbox fw_bytes no_undo) x (fw_accepted n.uar.index)
      (can_area Q a.Fa 0 1 2 2 (run_fw (with_revision n 2)) (with_revision n 2) (with_catas d (fw_held fw_bytes n.uar.index)) (here (zeroed outbox h).inbox fw_bytes no_undo) x refl (omega arith) (subst (Room 2 2) (sym s) room)
      (record { idle = i.idle; running = i.running; broken = i.broken; silent = i.silent; lends = i.lends; started = i.started })
      (λ y j z k t. follows (with_revision n 2) y j z (record { bar = u; rev = refl; room = t; up = k }))))

  can_look : (n : Info) (b : Books) (h : Here) (w : World) → n.uar.size ≡ None → Before 2 b.wire b.lists.lends b.started w → CanCourse w (look n b h) Q
  unfolding look
  can_look n b h w u o =
      can-run Q (λ t d j. query_fw n (with_toggle d t) j) (So (first_toggle 0) w) neither looking b h w (can_looking w o.new.pending o.new.last)
      (λ v t l j x. can_query_fw n (with_toggle (slotted b l) t) j v u (subst (λ (y : World). Room 2 2 y.host) (sym x.world) o.room)
      (subst (λ (y : World). At rising (with_toggle b t) y.card) (sym x.world) (record {
        idle = record { pending = o.new.pending; status = o.new.status; last = inl o.new.last };
        running = o.new.running;
        broken = o.new.broken;
        silent = o.new.silent;
        lends = o.new.lends;
        started = o.new.started;
      })))

  can_outbox : (n : Info) (b : Books) (h : Here) (w : World) → n.uar.size ≡ None → Before 1 b.wire b.lists.lends b.started w → CanCourse w (make_outbox n b h) Q
  unfolding make_outbox
  can_outbox n b h w u o =
      can-run Q (λ y d j. on_made y (λ x. look n d j) (λ e. give_inbox e n d j)) (Grew 1 1 1 w) outbox (making 4096) b h w (can_making 4096 1 1 1 refl (omega arith) w o.room)
      (λ v y l j x. subst (λ (m : Made). CanCourse v (on_made m (λ x. look n (slotted b l) j) (λ e. give_inbox e n (slotted b l) j)) Q) (sym x.made)
      (can_look n (slotted b l) j v u (record { room = x.room; new = subst (New b.wire b.lists.lends b.started) (sym x.card) o.new })))

  can_inbox : (n : Info) (b : Books) (h : Here) (w : World) → n.uar.size ≡ None → Before 0 b.wire b.lists.lends b.started w → CanCourse w (make_inbox n b h) Q
  unfolding make_inbox
  can_inbox n b h w u o =
      can-run Q (λ y d j. on_made y (λ x. make_outbox n d j) (λ e. parted n (f.By (fault_of e)) c.Clean d j)) (Grew 1 0 0 w) inbox (making 4096) b h w (can_making 4096 1 0 0 refl (omega arith) w o.room)
      (λ v y l j x. subst (λ (m : Made). CanCourse v (on_made m (λ x. make_outbox n (slotted b l) j) (λ e. parted n (f.By (fault_of e)) c.Clean (slotted b l) j)) Q) (sym x.made)
      (can_outbox n (slotted b l) j v u (record { room = x.room; new = subst (New b.wire b.lists.lends b.started) (sym x.card) o.new })))

  can_find : (n : Info) (b : Books) (h : Here) (w : World) → Before 0 b.wire b.lists.lends b.started w → CanCourse w (find_uar n b h) Q
  unfolding find_uar
  can_find n b h w o =
      can-run Q (λ y d j. on_found y n d j) (Barless w) neither finding b h w (can_finding w)
      (λ v y l j x. subst (λ (m : _). CanCourse v (on_found m n (slotted b l) j) Q) (sym x.so) (can_inbox (with_uar n x.bar) (slotted b l) j v x.size (subst (Before 0 b.wire b.lists.lends b.started) (sym x.world) o)))

  can_first : (n : Info) (b : Books) (h : Here) (w : World) → Before 0 b.wire b.lists.lends b.started w → CanCourse w (first_reset n b h) Q
  unfolding first_reset
  can_first n b h w o =
      can-run Q (λ y d j. pick (is_good y) (find_uar n d j) (parted n _ c.Clean d j)) (So re.Good (cleared w)) neither reset b h w (can_reset w)
      (λ v y l j x. course_true Q (is_good y) _ _ v (ap is_good x.so)
      (can_find n (slotted b l) j v (subst (Before 0 b.wire b.lists.lends b.started) (sym x.world) (record {
        room = o.room;
        new = record { pending = refl; last = refl; status = o.new.status; running = o.new.running; broken = o.new.broken; silent = o.new.silent; lends = o.new.lends; started = o.new.started };
      }))))

  can_claim : (n : Info) (b : Books) (h : Here) (w : World) → Before 0 b.wire b.lists.lends b.started w → CanCourse w (claim n b h) Q
  unfolding claim
  can_claim n b h w o =
      can-run Q (λ y d j. on_claimed y n d j) (So l.Good w) neither claiming b h w (can_claiming w)
      (λ v y i j x. subst (λ (m : _). CanCourse v (on_claimed m n (slotted b i) j) Q) (sym x.so) (can_first n (slotted b i) j v (subst (Before 0 b.wire b.lists.lends b.started) (sym x.world) o)))

-- A CARD that holds nothing and a HOST that has handed out nothing
abbrev pub card₀ : Card
card₀ =
    record {
      held = holding (λ v d. ⊥) No No No;
      pending = none;
      last = none;
      status = 0;
      registers = λ o. 0;
      mail = record { inbox = none; outbox = none; bytes = [] };
    }

abbrev pub host₀ : Host
host₀ = record { hand = λ h. none; log = []; inbox = none; outbox = none }

abbrev pub world₀ : World
world₀ = record { card = card₀; host = host₀ }

start : Before 0 no_books.wire 0 false world₀
start = record {
  room = record { handles = λ n e. refl; pages = λ d q. absurd (none-ne-some q.1 q.2); fewer = omega arith };
  new = record { pending = refl; last = refl; status = refl; running = refl; broken = refl; silent = refl; lends = refl; started = refl };
}

pub opening_maps : (Q : World → Rest → Type 1) → ((n : Info) (b : Books) (h : Here) (w : World) → HasFa n b w → CanCourse w (run_fw n b h) Q) → (h : Here) → CanCourse world₀ (opening h) Q
unfolding enable
opening_maps Q follows h =
    can-run Q (λ y d j. on_enabled y no_info d j) (So (t.Enabled 0) world₀) neither attributing no_books h world₀ (can_attributing world₀)
    (λ v y l j x. subst (λ (m : _). CanCourse v (on_enabled m no_info (slotted no_books l) j) Q) (sym x.so)
    (can_claim Q follows no_info (with_original (slotted no_books l) 0) j v (subst (Before 0 no_books.wire 0 false) (sym x.world) start)))

-- AN OPENING THAT IS GOOD
pub opening_good : (h : Here) → CanCourse world₀ (opening h) Ready
opening_good h = opening_maps Ready can_run_fw h
