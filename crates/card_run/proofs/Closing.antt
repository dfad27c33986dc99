-- A closing can end clean, by a reset, and with all kept; a quiesce can end; and an opening can fail.
use Prim.Native.Nat.{ℕ, zero, suc, ◌%◌, ◌^◌}
use native.Mathlib.Omega.{arith}
use mathlib.Core.Bool.{Bool, true, false}
use mathlib.Core.List.{List, []}
use mathlib.Core.Path.{◌≡◌, refl, ap}
use Rattle.fields.specs.Outcome.{pick}
use Rattle.pci.specs.Script.{good, failed}
use Rattle.pci.specs.declared.Answer.TheVariants as an
use Rattle.pci.specs.declared.Refusal.TheVariants as x
use Rattle.reset.specs.Reset.{save, reset, is_good}
use Rattle.reset.specs.declared.ResetEnd.TheVariants as re
use Rattle.buffer.specs.Buffer.{freeing}
use Rattle.session.specs.Session.{wired, silent, slot_at, icm_at, is_held, fa_of, aux_of, imm_of}
use Rattle.session.specs.Course.{Here, here, neither, slot, run, sends, Rest}
use Rattle.session.specs.declared.Books.{Books}
use Rattle.session.specs.declared.Info.{Info}
use Rattle.session.specs.declared.Gave.TheVariants as gv
use Rattle.session.specs.declared.Stage.TheVariants as g
use Rattle.session.specs.declared.Failure.{Failure}
use Rattle.session.specs.declared.Failure.TheVariants as f
use Rattle.session.specs.declared.Closing.{Closing}
use Rattle.session.specs.declared.Closing.TheVariants as c
use Rattle.closing_plan.specs.Closing.{UNDOS, restored, parted, freed, giving, resetting, quieted, failing, stopped, onward, unmap_fa, unmap_aux, unmapping, close_hca, undoing, stopping, quiescing}
use Rattle.opening_plan.specs.Opening.{on_good, mod_stat, run_fw, enable, opening}
use Rattle.card.specs.Card.{same, World, store, unmap_in, hand_back}
use Rattle.card_run.specs.Can.{no_undo, CanCourse}
use Rattle.card_run.proofs.Steps.{no_bytes}
use Rattle.card_run.proofs.Tasks.{So, cleared, can_reset}
use Rattle.card_run.proofs.Courses.{lends, empty, whole, Mode, going, hushed, At, IsEnded, course_true, course_false, can-run, can-sent, can-fail}
use Rattle.card_run.proofs.Opening.{world₀, opening_maps}

-- how a quiesce ends: the session is open, and broken
pub record IsQuiet (w : World) (x : Rest) : Type 1 where
  pub stage : x.stage ≡ g.Open gv.Nothing
  pub broken : x.books.wire.broken ≡ true

module _ (n : Info) (f : Failure) where
  -- THE END: the owner is released, the attributes are restored
  can_parted : (c : Closing) (b : Books) (h : Here) (w : World) → CanCourse w (parted n f c b h) (IsEnded f c)
  unfolding parted restored
  can_parted c b h w =
      let v : World = record { card = store w.card 0x8069c 0; host = w.host } in (
        good tt,
        lends empty,
        v,
        whole,
        (an.Done, [], refl, tt, no_bytes),
        ((w.card, same, same), refl),
        (
          tt,
          lends empty,
          v,
          whole,
          (an.Done, [], refl, tt, no_bytes),
          (same, refl),
          (good 0, lends empty, v, whole, (an.Qword 0, [], refl, omega arith, no_bytes), (same, refl), record { stage = refl; failure = refl; closing = refl }),
        ),
      )

  -- all is given back, slot by slot
  can_freed : (m i : ℕ) (c : Closing) (b : Books) (h : Here) (w : World) → CanCourse w (freed n f m i (λ d k. parted n f c d k) b h) (IsEnded f c)
  unfolding freed
  can_freed zero i c b h w = can_parted c b h w
  can_freed (suc m) i c b h w = by (is_held (slot_at b.lists.slots i)) (λ d j v. can_freed m (suc i) c d j v)
    where
      by : (t : Bool) → ((d : Books) (j : Here) (v : World) → CanCourse v (freed n f m (suc i) (λ d k. parted n f c d k) d j) (IsEnded f c))
          → CanCourse w (pick t (run (slot i 0) (freeing (slot_at b.lists.slots i).handle (slot_at b.lists.slots i).pages) (λ u d j. freed n f m (suc i) (λ d k. parted n f c d k) d j) b h)
          (freed n f m (suc i) (λ d k. parted n f c d k) b h)) (IsEnded f c)
      by true on =
          let y = slot_at b.lists.slots i in (
            good tt,
            lends empty,
            record { card = w.card; host = unmap_in w.host y.handle },
            whole,
            (an.Done, [], refl, tt, no_bytes),
            (same, refl),
            (good tt, lends empty, record { card = w.card; host = hand_back (unmap_in w.host y.handle) y.handle y.pages }, whole, (an.Done, [], refl, tt, no_bytes), (same, refl), on _ _ _),
          )
      by false on = on b h w

  can_giving : (c : Closing) (b : Books) (h : Here) (w : World) → CanCourse w (giving n f c b h) (IsEnded f c)
  unfolding giving
  can_giving c b h w = can_freed 82 0 c b h w

  -- THE RESET is good; or its first question fails
  pub can_resetting : (b : Books) (h : Here) (w : World) → CanCourse w (resetting n f b h) (IsEnded f c.Reset)
  unfolding resetting
  can_resetting b h w =
      can-run (IsEnded f c.Reset) (λ e d k. pick (is_good e) (giving n f c.Reset d k) (parted n f c.Kept d k)) (So re.Good (cleared w)) neither reset b h w (can_reset w)
      (λ v y l j x. course_true (IsEnded f c.Reset) (is_good y) _ _ v (ap is_good x.so) (can_giving c.Reset _ j v))

  pub can_keeping : (b : Books) (h : Here) (w : World) → CanCourse w (resetting n f b h) (IsEnded f c.Kept)
  unfolding resetting save
  can_keeping b h w = (failed, lends empty, w, whole, (an.Failed, [], refl, tt, no_bytes), (same, refl), can_parted c.Kept b _ w)

  -- THE COMMANDS are all good
  module _ (Q : World → Rest → Type 1) (m : Mode) (ends : (b : Books) (h : Here) (w : World) → At m b w.card → CanCourse w (stopped n f b h) Q) where
    can-unmap-fa : (b : Books) (h : Here) (w : World) → At m b w.card → CanCourse w (unmap_fa n f b h) Q
    unfolding unmap_fa
    can-unmap-fa b h w u = by (is_held (fa_of b))
      where
        by : (t : Bool) → CanCourse w (pick t (sends b (imm_of 0xffe 0 0 0) (onward n f (stopped n f)) h) (stopped n f b h)) Q
        by true = can-sent Q b (imm_of 0xffe 0 0 0) (onward n f (stopped n f)) h w m (omega arith) (omega arith) u (λ us d v e s. ends d _ v e)
        by false = ends b h w u

    can-unmap-aux : (b : Books) (h : Here) (w : World) → At m b w.card → CanCourse w (unmap_aux n f b h) Q
    unfolding unmap_aux
    can-unmap-aux b h w u = by (is_held (aux_of b))
      where
        by : (t : Bool) → CanCourse w (pick t (sends b (imm_of 0xffb 0 0 0) (onward n f (unmap_fa n f)) h) (unmap_fa n f b h)) Q
        by true = can-sent Q b (imm_of 0xffb 0 0 0) (onward n f (unmap_fa n f)) h w m (omega arith) (omega arith) u (λ us d v e s. can-unmap-fa d _ v e)
        by false = can-unmap-fa b h w u

    can-unmapping : (i : ℕ) (b : Books) (h : Here) (w : World) → At m b w.card → CanCourse w (unmapping n f i b h) Q
    unfolding unmapping
    can-unmapping zero b h w u = can-unmap-aux b h w u
    can-unmapping (suc i) b h w u =
        can-sent Q b (imm_of 0xff9 0 ((icm_at b.lists.slots i).pages % 2 ^ 32) (icm_at b.lists.slots i).virt) (onward n f (unmapping n f i)) h w m (omega arith) (omega arith) u (λ us d v e s. can-unmapping i d _ v e)

    can-close-hca : (b : Books) (h : Here) (w : World) → At m b w.card → CanCourse w (close_hca n f b h) Q
    unfolding close_hca
    can-close-hca b h w u = by b.started
      where
        by : (t : Bool) → CanCourse w (pick t (sends b (imm_of 0x008 0 0 0) (onward n f (λ d j. unmapping n f d.lists.ranges d j)) h) (unmapping n f b.lists.ranges b h)) Q
        by true =
            can-sent Q b (imm_of 0x008 0 0 0) (onward n f (λ d j. unmapping n f d.lists.ranges d j)) h w m (omega arith) (omega arith) u (λ us d v e s. can-unmapping d.lists.ranges d _ v e)
        by false = can-unmapping b.lists.ranges b h w u

    can-tearing : (k : ℕ) (b : Books) (i o : List ℕ) (w : World) → At m b w.card → CanCourse w (undoing n f k b (here i o no_undo)) Q
    unfolding undoing
    can-tearing zero b i o w u = can-close-hca b (here i o no_undo) w u
    can-tearing (suc k) b i o w u = can-close-hca b (here i o no_undo) w u

  -- A CLOSE: clean
  pub closes_clean : (l : ℕ) (b : Books) (i o : List ℕ) (w : World) → At (going l) b w.card → CanCourse w (stopping n f b (here i o no_undo)) (IsEnded f c.Clean)
  unfolding stopping stopped
  closes_clean l b i o w u =
      course_false (IsEnded f c.Clean) b.wire.broken _ _ w u.broken
      (can-tearing (IsEnded f c.Clean) (going l)
      (λ d h v e.
      course_false (IsEnded f c.Clean) d.wire.silent _ _ v e.silent (course_false (IsEnded f c.Clean) d.wire.running _ _ v e.running (can_giving c.Clean d h v)))
      UNDOS b i o w u)

  -- by the reset: of a broken session
  module _ (Q : World → Rest → Type 1) (ends : (b : Books) (h : Here) (w : World) → CanCourse w (resetting n f b h) Q) where
    pub closes-broken : (b : Books) (h : Here) (w : World) → b.wire.broken ≡ true → CanCourse w (stopping n f b h) Q
    unfolding stopping
    closes-broken b h w e = course_true Q b.wire.broken _ _ w e (ends b h w)

    -- and where CLOSE_HCA fails
    fail-close : (l : ℕ) (b : Books) (h : Here) (w : World) → At (going l) b w.card → CanCourse w (close_hca n f b h) Q
    unfolding close_hca failing
    fail-close l b h w u =
        course_true Q b.started _ _ w u.started
        (can-fail Q b (imm_of 0x008 0 0 0) (onward n f (λ d j. unmapping n f d.lists.ranges d j)) h w (course_false Q b.wire.silent _ _ w u.silent (ends _ _ w)))

    no-undo : (l k : ℕ) (b : Books) (i o : List ℕ) (w : World) → At (going l) b w.card → CanCourse w (undoing n f k b (here i o no_undo)) Q
    unfolding undoing
    no-undo l zero b i o w u = fail-close l b (here i o no_undo) w u
    no-undo l (suc k) b i o w u = fail-close l b (here i o no_undo) w u

    pub closes-failed : (l : ℕ) (b : Books) (i o : List ℕ) (w : World) → At (going l) b w.card → CanCourse w (stopping n f b (here i o no_undo)) Q
    unfolding stopping
    closes-failed l b i o w u = course_false Q b.wire.broken _ _ w u.broken (no-undo l UNDOS b i o w u)

  -- A QUIESCE
  can_quieted : (b : Books) (h : Here) (w : World) → CanCourse w (quieted n f b h) IsQuiet
  unfolding quieted
  can_quieted b h w =
      let v : World = record { card = store w.card 0x8069c 0; host = w.host } in (
        good tt,
        lends empty,
        v,
        whole,
        (an.Done, [], refl, tt, no_bytes),
        ((w.card, same, same), refl),
        (
          good 0,
          lends empty,
          v,
          whole,
          (an.Word 0, [], refl, omega arith, no_bytes),
          (same, refl),
          (good tt, lends empty, v, whole, (an.Done, [], refl, tt, no_bytes), (same, refl), record { stage = refl; broken = refl }),
        ),
      )

  pub quiesces : (l : ℕ) (b : Books) (i o : List ℕ) (w : World) → At (going l) b w.card → CanCourse w (quiescing n f b (here i o no_undo)) IsQuiet
  unfolding quiescing stopped
  quiesces l b i o w u =
      course_false IsQuiet b.wire.broken _ _ w u.broken
      (can-tearing IsQuiet (hushed l) (λ d h v e. course_true IsQuiet d.wire.silent _ _ v e.silent (can_quieted d h v)) UNDOS (wired b (silent b.wire)) i o w
      (record { idle = u.idle; running = u.running; broken = u.broken; silent = refl; lends = u.lends; started = u.started }))

-- AN OPENING THAT FAILS: the attributes are refused; or RUN_FW fails, and the reset is good or fails
pub opening_refused : (h : Here) → CanCourse world₀ (opening h) (IsEnded (f.By x.Attributes) c.Clean)
unfolding enable
opening_refused h = (failed, lends empty, world₀, whole, (an.Failed, [], refl, tt, no_bytes), (same, refl), record { stage = refl; failure = refl; closing = refl })

abbrev pub no_bus : Failure
no_bus = f.By (x.Bus 0)

module _ (c : Closing) (ends : (n : Info) (b : Books) (h : Here) (w : World) → CanCourse w (resetting n no_bus b h) (IsEnded no_bus c)) where
  can_fail_fw : (n : Info) (b : Books) (h : Here) (w : World) → CanCourse w (run_fw n b h) (IsEnded no_bus c)
  unfolding run_fw
  can_fail_fw n b h w =
      can-fail (IsEnded no_bus c) b (imm_of 0xff6 0 0 0) (λ x d j. on_good x (λ e i. mod_stat n e i) n d j) h w (closes-broken n no_bus (IsEnded no_bus c) (ends n) _ _ w refl)

  opening_fails : (h : Here) → CanCourse world₀ (opening h) (IsEnded no_bus c)
  opening_fails h = opening_maps (IsEnded no_bus c) (λ n b j w u. can_fail_fw n b j w) h

pub opening_reset : (h : Here) → CanCourse world₀ (opening h) (IsEnded no_bus c.Reset)
opening_reset = opening_fails c.Reset (λ n. can_resetting n no_bus)

pub opening_kept : (h : Here) → CanCourse world₀ (opening h) (IsEnded no_bus c.Kept)
opening_kept = opening_fails c.Kept (λ n. can_keeping n no_bus)
