-- What a reset leaves, whatever the card does.
use Prim.Native.Nat.{ℕ, zero, suc, ◌+◌, ◌*◌, ◌/◌, ◌%◌, ◌<◌, ◌^◌}
use native.Mathlib.Omega.{arith}
use mathlib.Core.Bool.{false, false≢true}
use mathlib.Core.List.{List}
use mathlib.Core.Option.{Option, some, none, none-ne-some}
use mathlib.Core.Path.{◌≡◌, refl, sym, ◌∙◌}
use lib.Dec.{eqb}
use lib.ListN.{set, replicate}
use borrow.Author.Tests.{eq-eqb}
use Rattle.fields.specs.Outcome.{pick}
use Rattle.pci.specs.Script.{Script, ret, ask, Bus, good, failed, write, read, config_read16, config_read32, stall}
use Rattle.reset.specs.Reset.{is_good, either, dword_at, restore, restore_control, is_there, vendor, afterwards, settle, written, semaphore, taking, link_control, control, pointer, walk, capability, save, reset}
use Rattle.reset.specs.declared.ResetEnd.{ResetEnd}
use Rattle.reset.specs.declared.ResetEnd.TheVariants as e
use Rattle.reset.specs.declared.Control.{Control}
use Rattle.reset.specs.declared.Control.TheVariants as c
use Rattle.card.specs.Card.{Card, same, ends, Takes, take, Host, World, WorldStep}
use Rattle.card.specs.Safe.{Safe}
use Rattle.card.proofs.Sequence.{safe_weaken, safe_pick}
use Rattle.card.proofs.Still.{Stills, stills_pick, safe_still}
use Rattle.card.specs.Known.{Clean, ResetPost, Stable}

pub clean_stable : Stable Clean
clean_stable k d same x = x
clean_stable k d (ends p s q) x = absurd (none-ne-some p (sym x.1.0 ∙ q))

-- AFTER THE WRITE: nothing more is changed, and whatever the end, the card is reset
vendor_still : (n : ℕ) (next : Script ResetEnd) → Stills next → Stills (vendor n next)
unfolding vendor
vendor_still zero next h = tt
vendor_still (suc n) next h = (tt, λ r. stills_pick (is_there r) _ _ h (tt, λ s. vendor_still n next h))

restore_still : (n : ℕ) (ds : List ℕ) → Stills (restore n ds)
unfolding restore
restore_still zero ds = tt
restore_still (suc n) ds = (tt, λ r. restore_still n ds)

control_still : (k : Control) (next : Script ResetEnd) → Stills next → Stills (restore_control k next)
control_still c.Absent next h = h
control_still (c.Saved at device link) next h = (tt, λ r. (tt, λ s. h))

after_still : (ds : List ℕ) (k : Control) → Stills (afterwards ds k)
after_still ds k = vendor_still 2000 _ (control_still k _ (restore_still 16 ds))

module _ (i : List ℕ) (l : Host) where
  bad : (w : World) (x : ResetEnd) → is_good x ≡ false → w.host ≡ l → ResetPost l w x
  bad w x n f = (f, λ g. absurd (false≢true (sym n ∙ g)))

  taken : (k d : Card) → Takes k 0 0xf0010 1 d → Clean d
  taken k d st = clean_stable (take st.0 0 0xf0010 1) d st.2 (refl, (refl, refl))

  safe_written : (ds : List ℕ) (k : Control) (w : World) → w.host ≡ l → Safe i w (written ds k) (ResetPost l)
  safe_written ds k w f = ((let g : 1 < 2 ^ 32 = omega arith in g, λ a b. absurd (false≢true (eq-eqb 0xf0010 0x80698 b))), at)
    where
      at : (r : Bus (Unit {0})) (v : World) → WorldStep w (write 0 0xf0010 1) r v → Safe i v (either (ret e.Write) (λ x. settle ds k) r) (ResetPost l)
      at (good x) v st = (
        tt,
        λ r u tick.
            safe_weaken i (afterwards ds k) u _ _
            (safe_still i (afterwards ds k) Clean l u (after_still ds k) clean_stable (tick.1 ∙ st.1 ∙ f) (clean_stable v.card u.card tick.0 (taken w.card v.card st.0)))
            (λ y z m. (m.0, λ g. m.1)),
      )
      at failed v st = bad v e.Write refl (st.1 ∙ f)

  -- BEFORE IT: a script that asks a still question and goes on
  safe_config32 : (o : ℕ) (x : ResetEnd) (next : ℕ → Script ResetEnd) (w : World) → is_good x ≡ false → w.host ≡ l → ((y : ℕ) (v : World) → v.host ≡ l → Safe i v (next y) (ResetPost l))
      → Safe i w (ask (config_read32 o) (either (ret x) next)) (ResetPost l)
  safe_config32 o x next w n f k = (tt, at)
    where
      at : (r : Bus ℕ) (v : World) → WorldStep w (config_read32 o) r v → Safe i v (either (ret x) next r) (ResetPost l)
      at (good y) v st = k y v (st.1 ∙ f)
      at failed v st = bad v x n (st.1 ∙ f)

  safe_semaphore : (n : ℕ) (next : Script ResetEnd) (w : World) → w.host ≡ l → ((v : World) → v.host ≡ l → Safe i v next (ResetPost l)) → Safe i w (semaphore n next) (ResetPost l)
  unfolding semaphore
  safe_semaphore zero next w f k = (tt, at)
    where
      at : (r : Bus ℕ) (v : World) → WorldStep w (read 0 0xf03fc) r v → Safe i v (either (ret (e.Semaphore 0)) (λ y. pick (eqb y 0) next (ret (e.Semaphore y))) r) (ResetPost l)
      at (good y) v st = safe_pick i (eqb y 0) _ _ v (ResetPost l) (λ q. k v (st.1 ∙ f)) (λ q. bad v (e.Semaphore y) refl (st.1 ∙ f))
      at failed v st = bad v (e.Semaphore 0) refl (st.1 ∙ f)
  safe_semaphore (suc n) next w f k = (tt, at (λ v g. safe_semaphore n next v g k))
    where
      at : ((v : World) → v.host ≡ l → Safe i v (semaphore n next) (ResetPost l)) → (r : Bus ℕ) (v : World) → WorldStep w (read 0 0xf03fc) r v
          → Safe i v (either (ret (e.Semaphore 0)) (λ y. pick (eqb y 0) next (ask (stall 1000) (λ s. semaphore n next))) r) (ResetPost l)
      at again (good y) v st = safe_pick i (eqb y 0) _ _ v (ResetPost l) (λ q. k v (st.1 ∙ f)) (λ q. (tt, λ s u tick. again u (tick.1 ∙ st.1 ∙ f)))
      at again failed v st = bad v (e.Semaphore 0) refl (st.1 ∙ f)

  safe_taking : (ds : List ℕ) (k : Control) (w : World) → w.host ≡ l → Safe i w (taking ds k) (ResetPost l)
  safe_taking ds k w f = safe_semaphore 10000 (written ds k) w f (λ v g. safe_written ds k v g)

  safe_control : (ds : List ℕ) (k : Option ℕ) (w : World) → w.host ≡ l → Safe i w (control ds k) (ResetPost l)
  safe_control ds none w f = safe_taking ds c.Absent w f
  safe_control ds (some at) w f = (tt, device)
    where
      link : (d : ℕ) (w : World) → (r : Bus ℕ) (v : World) → WorldStep w (config_read16 (at + 0x10)) r v → w.host ≡ l
          → Safe i v (either (taking ds c.Absent) (λ y. taking ds (c.Saved at d y)) r) (ResetPost l)
      link d w (good y) v st g = safe_taking ds (c.Saved at d y) v (st.1 ∙ g)
      link d w failed v st g = safe_taking ds c.Absent v (st.1 ∙ g)

      device : (r : Bus ℕ) (v : World) → WorldStep w (config_read16 (at + 0x08)) r v → Safe i v (either (taking ds c.Absent) (λ d. link_control ds at d) r) (ResetPost l)
      device (good d) v st = (tt, λ r u tick. link d v r u tick (st.1 ∙ f))
      device failed v st = safe_taking ds c.Absent v (st.1 ∙ f)

  safe_walk : (n at : ℕ) (ds : List ℕ) (w : World) → w.host ≡ l → Safe i w (walk n at (control ds)) (ResetPost l)
  unfolding walk
  safe_walk zero at ds w f = safe_control ds none w f
  safe_walk (suc n) at ds w f =
      safe_pick i (eqb at 0) _ _ w (ResetPost l) (λ q. safe_control ds none w f) (λ q. (tt, found (λ p v g. safe_walk n p ds v g)))
    where
      found : ((p : ℕ) (v : World) → v.host ≡ l → Safe i v (walk n p (control ds)) (ResetPost l)) → (r : Bus ℕ) (v : World) → WorldStep w (config_read16 at) r v
          → Safe i v (either (control ds none) (λ y. pick (eqb (y % 0x100) 0x10) (control ds (some at)) (walk n (pointer (y / 0x100)) (control ds))) r) (ResetPost l)
      found again (good y) v st =
          safe_pick i (eqb (y % 0x100) 0x10) _ _ v (ResetPost l) (λ q. safe_control ds (some at) v (st.1 ∙ f)) (λ q. again (pointer (y / 0x100)) v (st.1 ∙ f))
      found again failed v st = safe_control ds none v (st.1 ∙ f)

  safe_capability : (ds : List ℕ) (w : World) → w.host ≡ l → Safe i w (capability ds) (ResetPost l)
  safe_capability ds w f = (tt, at)
    where
      at : (r : Bus ℕ) (v : World) → WorldStep w (config_read32 0x34) r v → Safe i v (either (control ds none) (λ y. walk 48 (pointer (y % 0x100)) (control ds)) r) (ResetPost l)
      at (good y) v st = safe_walk 48 (pointer (y % 0x100)) ds v (st.1 ∙ f)
      at failed v st = safe_control ds none v (st.1 ∙ f)

  safe_save : (n : ℕ) (ds : List ℕ) (w : World) → w.host ≡ l → Safe i w (save n ds) (ResetPost l)
  unfolding save
  safe_save zero ds w f = safe_capability ds w f
  safe_save (suc n) ds w f = safe_config32 (dword_at n * 4) e.Save _ w refl f (λ y v g. safe_save n (set ds (dword_at n) y) v g)

  pub safe_reset : (w : World) → w.host ≡ l → Safe i w reset (ResetPost l)
  safe_reset w f = safe_save 16 (replicate 16 0) w f
