-- While a client's call runs, no question changes the card's map: no reset is asked for, and every command that is posted is of no effect.
use Prim.Native.Nat.{ℕ, zero, suc, ◌+◌, ◌*◌, ◌%◌, ◌<◌, ◌≤◌}
use native.Mathlib.Omega.{arith}
use mathlib.Core.Bool.{Bool, true, false, not}
use mathlib.Core.List.{List, [], ◌∷◌}
use mathlib.Core.Logic.{◌⊎◌, ⊎_elim}
use mathlib.Core.Option.{some-injective}
use mathlib.Core.Path.{◌≡◌, refl, sym, ◌∙◌, ap, subst}
use borrow.Author.Tests.{eqb-true}
use lib.Dec.{eqb, leb}
use lib.ListN.{length}
use Rattle.fields.specs.Outcome.{Outcome, value, refused, pick}
use Rattle.dma.specs.Buffers.{pages_for, accept_at}
use Rattle.hcr.specs.Words.{go_word, pending_in, status_in, is_reserved}
use Rattle.hcr.specs.declared.Post.{Post}
use Rattle.pci.specs.Script.{Script, ret, ask, Ask, Reply, Bus, Spot, good, failed, config_read16, config_read32, config_write16, config_write32, read, write, attributes, resource, stall, allocate, mapped, unmap, free, fence}
use Rattle.pci.specs.declared.Refusal.TheVariants as x
use Rattle.command.specs.Script.{STALLS, on_read, on_write, timed_out, words, low, immediate, judged, verdict, poll, write_all, start, fenced, command}
use Rattle.command.specs.declared.Catas.{Catas}
use Rattle.command.specs.declared.Catas.TheVariants.{Known, Unknown}
use Rattle.command.specs.declared.CmdEnd.{CmdEnd}
use Rattle.command.specs.declared.CmdResult.{CmdResult}
use Rattle.buffer.specs.Buffer.{by_outcome, making, allocating, on_allocate, on_map, release}
use Rattle.buffer.specs.declared.Fault.TheVariants as e
use Rattle.buffer.specs.declared.Made.{Made}
use Rattle.buffer.specs.declared.Made.TheVariants as m
use Rattle.session.specs.Session.{wired, after, broken, catas_for}
use Rattle.session.specs.Failures.{broken_by}
use Rattle.session.specs.Course as cs
use Rattle.session.specs.Course.{Course, Here, here, Lent, Place, neither, slot, run, booked, touched, lent, sends}
use Rattle.session.specs.declared.Books.{Books}
use Rattle.session.specs.declared.Info.{Info}
use Rattle.session.specs.declared.Gave.TheVariants as v
use Rattle.session.specs.declared.Failure.{Failure}
use Rattle.session.specs.declared.Closing.{Closing}
use Rattle.closing_plan.specs.Closing.{is_done, undo_post, popped, UNDOS}
use Rattle.client_plan.specs.Client.{lend_at, post_of, readied, gave_by, gives, commanding, lent_by, lending, undoing, undoing_to}
use Rattle.client_plan.specs.declared.Request.{Request}
use Rattle.card.specs.Card.{Held, Command, Card, Other, kind, effect, Settles, go_of, written, begin, store, take, after_reset, Takes, World, WorldStep}
use Rattle.card.specs.Known.{Within}
use Rattle.card.proofs.Command.{within_stable}
use Rattle.card.proofs.View.{other_effect}
use Rattle.card_calls.proofs.Closing.{unreserved_small, unreserved_other}

-- A QUESTION that does not change the map
abbrev pub CalmAsk : Ask → Type 0
CalmAsk (config_read16 o) = Unit {0}
CalmAsk (config_read32 o) = Unit {0}
CalmAsk (config_write16 o v) = Unit {0}
CalmAsk (config_write32 o v) = Unit {0}
CalmAsk (read b o) = Unit {0}
CalmAsk (write b o v) = (o ≡ 0xf0010 → ⊥) × (o ≡ 0x80698 → kind (v % 0x1000) ≡ Other)
CalmAsk (attributes o v) = Unit {0}
CalmAsk (resource b) = Unit {0}
CalmAsk (stall t) = Unit {0}
CalmAsk (allocate n) = Unit {0}
CalmAsk (mapped h n) = Unit {0}
CalmAsk (unmap h) = Unit {0}
CalmAsk (free h n) = Unit {0}
CalmAsk (fence i) = Unit {0}

-- what is known of the card stands at such a question, where a command of no effect is one of Q
module _ (H : Held → Type 1) where
  abbrev Q : Command → Type 0
  Q p = kind p.opcode ≡ Other

  pub calm_stable : (c d : Card) → Settles c d → Within H Q c → Within H Q d
  calm_stable c d s x = within_stable H Q c d s x

  begun : (c : Card) (p : Command) → Q p → Within H Q c → Within H Q (begin c p)
  begun c p e x = record {
    now = x.now;
    then = λ q y. let s : p ≡ q = some-injective p q y in (subst Q s e, subst (λ (z : Command). H (effect z c.held)) s (subst H (sym (other_effect p c.held e)) x.now));
  }

  stored : (c : Card) (o v : ℕ) → Within H Q c → Within H Q (store c o v)
  stored c o v x = record { now = x.now; then = x.then }

  taken : (c : Card) (b o v : ℕ) → CalmAsk (write b o v) → Within H Q c → Within H Q (take c b o v)
  taken c b o v k x = by-bar (eqb b 0)
    where
      by-go : (t : Bool) → o ≡ 0x80698 → Within H Q (pick t (begin c (written c v)) c)
      by-go true e = begun c (written c v) (k.1 e) x
      by-go false e = x

      by-status : (t : Bool) → eqb o 0x80698 ≡ t → Within H Q (pick t (pick (go_of v) (begin c (written c v)) c) (store c o v))
      by-status true e = by-go (go_of v) (eqb-true o 0x80698 e)
      by-status false e = stored c o v x

      by-reset : (t : Bool) → eqb o 0xf0010 ≡ t
          → Within H Q (pick t (pick (eqb v 1) (after_reset c) c) (pick (eqb o 0x80698) (pick (go_of v) (begin c (written c v)) c) (store c o v)))
      by-reset true e = absurd (k.0 (eqb-true o 0xf0010 e))
      by-reset false e = by-status (eqb o 0x80698) refl

      by-bar : (t : Bool) → Within H Q (pick t (pick (eqb o 0xf0010) (pick (eqb v 1) (after_reset c) c) (pick (eqb o 0x80698) (pick (go_of v) (begin c (written c v)) c) (store c o v))) c)
      by-bar true = by-reset (eqb o 0xf0010) refl
      by-bar false = x

  takes : (c d : Card) (b o v : ℕ) → CalmAsk (write b o v) → Takes c b o v d → Within H Q c → Within H Q d
  takes c d b o v k st x = calm_stable (take st.0 b o v) d st.2 (taken st.0 b o v k (calm_stable c st.0 st.1 x))

  pub calm_step : (q : Ask) (r : Reply q) (w v : World) → CalmAsk q → WorldStep w q r v → Within H Q w.card → Within H Q v.card
  calm_step (config_read16 o) r w v k st x = calm_stable w.card v.card st.0 x
  calm_step (config_read32 o) r w v k st x = calm_stable w.card v.card st.0 x
  calm_step (config_write16 o y) r w v k st x = calm_stable w.card v.card st.0 x
  calm_step (config_write32 o y) r w v k st x = calm_stable w.card v.card st.0 x
  calm_step (read b o) (good y) w v k st x = calm_stable w.card v.card st.0.0 x
  calm_step (read b o) failed w v k st x = calm_stable w.card v.card st.0 x
  calm_step (write b o y) (good t) w v k st x = takes w.card v.card b o y k st.0 x
  calm_step (write b o y) failed w v k st x = ⊎_elim (λ s. calm_stable w.card v.card s x) (λ s. takes w.card v.card b o y k s x) st.0
  calm_step (attributes o y) r w v k st x = calm_stable w.card v.card st.0 x
  calm_step (resource b) r w v k st x = calm_stable w.card v.card st.0 x
  calm_step (stall t) r w v k st x = calm_stable w.card v.card st.0 x
  calm_step (allocate n) r w v k st x = calm_stable w.card v.card st.0 x
  calm_step (mapped h n) r w v k st x = calm_stable w.card v.card st.0 x
  calm_step (unmap h) r w v k st x = calm_stable w.card v.card st.0 x
  calm_step (free h n) r w v k st x = calm_stable w.card v.card st.0 x
  calm_step (fence i) r w v k st x =
      let y = calm_stable w.card st.0.0 st.0.1 x in
      subst (Within H Q) (sym st.0.2) (record { now = y.now; then = y.then })

-- SCRIPTS AND COURSES of such questions
abbrev pub Calms : {A : Type 0} → Script A → Type 0
Calms (ret a) = Unit {0}
Calms (ask q k) = CalmAsk q × ((r : Reply q) → Calms (k r))

abbrev pub CalmCourse : {R : Type 0} → Course R → Type 0
CalmCourse (cs.ret l r) = Unit {0}
CalmCourse (cs.ask q l k) = CalmAsk q × ((r : Reply q) (m : Lent) → CalmCourse (k r m))

calms_pick : {A : Type 0} (b : Bool) (x y : Script A) → Calms x → Calms y → Calms (pick b x y)
calms_pick true x y h k = h
calms_pick false x y h k = k

course_calm : {R : Type 0} (b : Bool) (x y : Course R) → (b ≡ true → CalmCourse x) → (b ≡ false → CalmCourse y) → CalmCourse (pick b x y)
course_calm true x y h k = h refl
course_calm false x y h k = k refl

calm_run : {A R : Type 0} (p : Place) (t : Script A) (K : A → Books → Here → Course R) (b : Books) (h : Here) → Calms t → ((a : A) (d : Books) (j : Here) → CalmCourse (K a d j)) → CalmCourse (run p t K b h)
calm_run p (ret a) K b h x k = k a b h
calm_run p (ask q f) K b h x k = (x.0, λ r m. calm_run p (f r) K (booked p q r b) (touched p q r (lent h m)) (x.1 r) k)

-- A COMMAND of no effect
module _ (catas : Catas) (inbox : List ℕ) where
  on_read_lem : (e : CmdEnd) (k : ℕ → Script CmdEnd) → ((v : ℕ) → Calms (k v)) → (r : Bus ℕ) → Calms (on_read e k r)
  on_read_lem e k h (good v) = h v
  on_read_lem e k h failed = tt

  on_write_lem : (e : CmdEnd) (k : Script CmdEnd) → Calms k → (r : Bus (Unit {0})) → Calms (on_write e k r)
  on_write_lem e k h (good y) = h
  on_write_lem e k h failed = tt

  timed_calm : (c : Catas) (e : CmdEnd) → Calms (timed_out c e)
  timed_calm (Known b o) e = (tt, λ r. tt)
  timed_calm Unknown e = tt

  low_calm : (t : Bool) (us h : ℕ) → Calms (low catas inbox t us h)
  unfolding low
  low_calm t us h = (tt, on_read_lem _ _ (λ l. tt))

  immediate_calm : (t : Bool) (us : ℕ) → Calms (immediate catas inbox t us)
  unfolding immediate
  immediate_calm t us = (tt, on_read_lem _ _ (low_calm t us))

  judged_calm : (t : Bool) (us : ℕ) → Calms (judged catas inbox t us)
  unfolding judged
  judged_calm t us = (tt, on_read_lem _ _ (λ v. calms_pick (eqb (status_in v) 0) _ _ (immediate_calm t us) tt))

  verdict_calm : (t : Bool) (us : ℕ) → Calms (verdict catas inbox t us)
  unfolding verdict
  verdict_calm t us = (tt, λ r. judged_calm t us)

  poll_calm : (t : Bool) (n left : ℕ) → Calms (poll catas inbox t n left)
  unfolding poll
  poll_calm t n zero = (tt, on_read_lem _ _ (λ v. calms_pick (pending_in v t) _ _ (timed_calm catas _) (verdict_calm t _)))
  poll_calm t n (suc left) = (tt, on_read_lem _ _ (λ v. calms_pick (pending_in v t) _ _ (tt, λ r. poll_calm t (suc n) left) (verdict_calm t _)))

  opcode_is : (t : Bool) (a o : ℕ) → o < 0x1000 → go_word t a o % 0x1000 ≡ o
  opcode_is t a o h = omega (arith, h)

  start_calm : (t : Bool) (p : Post) → p.op < 0x1000 → kind p.op ≡ Other → Calms (start catas inbox t p)
  unfolding start
  start_calm t p small e = (
    (λ z. let y : ⊥ = omega (arith, z) in y, λ z. ap kind (opcode_is t p.op_mod p.op small) ∙ e),
    on_write_lem _ _ (poll_calm (not t) 0 STALLS),
  )

  write_calm : (t : Bool) (off : ℕ) (vs : List ℕ) (k : Script CmdEnd) → off + length vs * 4 ≤ 0x18 → Calms k → Calms (write_all catas inbox t off vs k)
  unfolding write_all
  write_calm t off [] k h x = x
  write_calm t off (y ∷ vs) k h x = (
    (λ z. let q : ⊥ = omega (arith, z, h) in q, λ z. absurd (let q : ⊥ = omega (arith, z, h) in q)),
    on_write_lem _ _ (write_calm t (off + 4) vs k (omega (arith, h)) x),
  )

  pub command_calm : (t : Bool) (p : Post) → p.op < 0x1000 → kind p.op ≡ Other → Calms (command catas inbox t p)
  unfolding command fenced
  command_calm t p small e = (tt, on_read_lem _ _ (λ v. calms_pick (pending_in v t) _ _ tt (write_calm t 0 (words p) _ (omega arith) (tt, λ r. start_calm t p small e))))

sends_calm : {R : Type 0} (b : Books) (p : Post) (K : CmdResult → Books → Here → Course R) (h : Here) → p.op < 0x1000 → kind p.op ≡ Other
    → ((a : CmdResult) (d : Books) (j : Here) → CalmCourse (K a d j)) → CalmCourse (sends b p K h)
sends_calm b p K h small e k =
    calm_run neither (command (catas_for b.wire) h.inbox b.wire.toggle p) (λ e d j. K e.result (wired d (after d.wire e)) j) b h
    (command_calm (catas_for b.wire) h.inbox b.wire.toggle p small e) (λ a d j. k a.result (wired d (after d.wire a)) j)

-- A BUFFER is made
making_calm : (bytes : ℕ) → Calms (making bytes)
making_calm bytes = by_pages (pages_for bytes)
  where
    release-calm : (h k : ℕ) (r : Made) → Calms (release h k r)
    release-calm h k r = (tt, λ a. (tt, λ b. tt))

    accepted : (h k : ℕ) (s : Spot) (y : Outcome (Unit {0}))
        → Calms (by_outcome y (λ u. pick (eqb s.bytes (k * 4096)) (ret (m.Ready (record { handle = h; dev = s.address; pages = k }))) (release h k (m.Refused e.Memory))) (release h k (m.Refused e.Address)))
    accepted h k s (value u) = calms_pick (eqb s.bytes (k * 4096)) _ _ tt (release-calm h k (m.Refused e.Memory))
    accepted h k s (refused i vs) = release-calm h k (m.Refused e.Address)

    on-map : (h k : ℕ) (r : Bus Spot) → Calms (on_map h k r)
    on-map h k failed = (tt, λ r. tt)
    on-map h k (good s) = accepted h k s (accept_at s.address k)

    on-allocate : (k : ℕ) (r : Bus ℕ) → Calms (on_allocate k r)
    on-allocate k failed = tt
    on-allocate k (good h) = (tt, on-map h k)

    by_pages : (y : Outcome ℕ) → Calms (by_outcome y allocating (ret (m.Refused e.Address)))
    by_pages (value k) = (tt, on-allocate k)
    by_pages (refused i vs) = tt

-- THE CLIENT'S CALLS
module _ (n : Info) (f : Failure) (z : Closing) where
  pub commanding_calm : (y : Request) (input : List ℕ) (b : Books) (h : Here) → is_reserved y.op ≡ false → CalmCourse (commanding n f z y input b h)
  unfolding commanding
  commanding_calm y input b h u =
      sends_calm b (post_of b y) (λ a d j. gives n f z (gave_by y.form a) (broken_by a d) j) (readied y.form input h) (unreserved_small y.op u) (unreserved_other y.op u) (λ a d j. tt)

  lent_calm : (i : ℕ) (y : Made) (b : Books) (h : Here) → CalmCourse (lent_by n f z i y b h)
  lent_calm i (m.Ready y) b h = tt
  lent_calm i (m.Refused e) b h = tt

  pub lending_calm : (bytes : ℕ) (b : Books) (h : Here) → CalmCourse (lending n f z bytes b h)
  unfolding lending
  lending_calm bytes b h = calm_run (lend_at b.lists.lends) (making bytes) (λ y d j. lent_by n f z b.lists.lends y d j) b h (making_calm bytes) (λ y d j. lent_calm b.lists.lends y d j)

  undoing_calm : (mark k : ℕ) (b : Books) (h : Here) → CalmCourse (undoing n f z mark k b h)
  unfolding undoing
  undoing_calm mark zero b h = course_calm (leb h.undo.count mark) _ _ (λ t. tt) (λ t. course_calm b.wire.broken _ _ (λ d. tt) (λ d. tt))
  undoing_calm mark (suc k) b h =
      course_calm (leb h.undo.count mark) _ _ (λ t. tt)
      (λ t. course_calm b.wire.broken _ _ (λ d. tt)
      (λ d. course_calm (is_reserved h.undo.op) _ _ (λ e. tt)
      (λ e. sends_calm b (undo_post h.undo) (λ a d j. pick (is_done a) (undoing n f z mark k d j) (gives n f z (v.Failed x.Undo) (wired d (broken d.wire)) j)) (here h.inbox h.outbox (popped h.undo))
      (unreserved_small h.undo.op e) (unreserved_other h.undo.op e) (λ a d j. course_calm (is_done a) _ _ (λ t. undoing_calm mark k d j) (λ t. tt)))))

  pub undoing_to_calm : (mark : ℕ) (b : Books) (h : Here) → CalmCourse (undoing_to n f z mark b h)
  undoing_to_calm mark b h = undoing_calm mark UNDOS b h
