-- Every state of the reset machine does what is left of the script.
use Prim.Native.Nat.{ℕ, zero, suc, ◌%◌, ◌/◌}
use mathlib.Core.Bool.{Bool, true, false, not}
use mathlib.Core.List.{List}
use mathlib.Core.Path.{◌≡◌, refl}
use lib.Dec.{eqb}
use Rattle.fields.specs.Outcome.{pick}
use Rattle.hcr.specs.Words.{swap_of}
use Rattle.pci.specs.Script.{Script}
use Rattle.pci.specs.Machine.{Next, rest, Follows}
use Rattle.pci.proofs.Cases.{word_case, dword_case, register_case, done_case, told_case}
use Rattle.reset.specs.Reset.{pointer, restore, restore_control, vendor, semaphore, control, walk, save}
use Rattle.reset.specs.Steps.{walk_move, saving_move, pointer_move, header_move, device_move, link_move, semaphore_move, hold_move, write_move, settle_move, restoring, vendor_move, gone_move, back_device_move, back_link_move, back_move, moved_of, next_of, reset_asks, reset_step, reset_script, ResetFollows}
use Rattle.reset.specs.declared.ResetEnd.{ResetEnd}
use Rattle.reset.specs.declared.Control.{Control}
use Rattle.reset.specs.declared.Control.TheVariants as c
use Rattle.reset.specs.declared.Phase.{Phase}
use Rattle.reset.specs.declared.Phase.TheVariants as p
use Rattle.reset.specs.declared.Reset.{Reset}
use Rattle.reset.specs.declared.Move.{Move}
use Rattle.reset.specs.declared.Move.TheVariants as v

abbrev state : Phase → List ℕ → Control → Reset
state f ds k = record { phase = f; dwords = ds; control = k }

-- where a move leads, and what is left then
abbrev to : Reset → Move → Next Reset ResetEnd
to s m = next_of (moved_of s m)

abbrev left : Reset → Move → Script ResetEnd
left s m = rest reset_asks reset_step reset_script (to s m)

either_left : (s : Reset) (b : Bool) (x y : Move) (p q : Script ResetEnd) → left s x ≡ p → left s y ≡ q → left s (pick b x y) ≡ pick b p q
either_left s true x y p q g h = g
either_left s false x y p q g h = h

-- the walk goes on at a header, or ends
walk_left : (s : Reset) (n at : ℕ) → left s (walk_move n at) ≡ walk n at (control s.dwords)
unfolding walk
walk_left s zero at = refl
walk_left s (suc n) at = either_left s (eqb at 0) _ _ _ _ refl refl

restoring_left : (s : Reset) (k : Control) → s.control ≡ k → left s (v.To (restoring k)) ≡ restore_control k (restore 16 s.dwords)
restoring_left s c.Absent h = refl
restoring_left s (c.Saved at device link) h = refl

module _ (ds : List ℕ) (k : Control) where
  at_phase : (f : Phase) → Follows reset_asks reset_step reset_script (state f ds k) (reset_script (state f ds k))
  unfolding save semaphore vendor restore
  at_phase (p.Saving zero) = (refl, dword_case reset_asks reset_step reset_script _ (λ r. to (state (p.Saving zero) ds k) (saving_move zero r)) _ (λ x. refl) refl refl)
  at_phase (p.Saving (suc n)) = (refl, dword_case reset_asks reset_step reset_script _ (λ r. to (state (p.Saving (suc n)) ds k) (saving_move (suc n) r)) _ (λ x. refl) refl refl)
  at_phase p.Pointer = (
    refl,
    dword_case reset_asks reset_step reset_script _ (λ r. to (state p.Pointer ds k) (pointer_move r)) _
        (λ x. walk_left (state p.Pointer ds k) 48 (pointer (x % 0x100))) refl refl,
  )
  at_phase (p.Header n at) = (
    refl,
    word_case reset_asks reset_step reset_script _ (λ r. to (state (p.Header n at) ds k) (header_move n at r)) _
        (λ x. either_left (state (p.Header n at) ds k) (eqb (x % 0x100) 0x10) _ _ _ _ refl (walk_left (state (p.Header n at) ds k) n (pointer (x / 0x100)))) refl refl,
  )
  at_phase (p.Device at) = (refl, word_case reset_asks reset_step reset_script _ (λ r. to (state (p.Device at) ds k) (device_move at r)) _ (λ x. refl) refl refl)
  at_phase (p.Link at device) =
      (refl, word_case reset_asks reset_step reset_script _ (λ r. to (state (p.Link at device) ds k) (link_move at device r)) _ (λ x. refl) refl refl)
  at_phase (p.Semaphore zero) = (
    refl,
    register_case reset_asks reset_step reset_script _ (λ r. to (state (p.Semaphore zero) ds k) (semaphore_move zero r)) _
        (λ x. either_left (state (p.Semaphore zero) ds k) (eqb (swap_of x) 0) _ _ _ _ refl refl) refl refl,
  )
  at_phase (p.Semaphore (suc n)) = (
    refl,
    register_case reset_asks reset_step reset_script _ (λ r. to (state (p.Semaphore (suc n)) ds k) (semaphore_move (suc n) r)) _
        (λ x. either_left (state (p.Semaphore (suc n)) ds k) (eqb (swap_of x) 0) _ _ _ _ refl refl) refl refl,
  )
  at_phase (p.Hold n) = (refl, told_case reset_asks reset_step reset_script _ (λ r. to (state (p.Hold n) ds k) (hold_move n r)) _ refl refl)
  at_phase p.Writing = (refl, done_case reset_asks reset_step reset_script _ (λ r. to (state p.Writing ds k) (write_move r)) _ refl refl refl)
  at_phase p.Settle = (refl, told_case reset_asks reset_step reset_script _ (λ r. to (state p.Settle ds k) (settle_move r)) _ refl refl)
  at_phase (p.Vendor n) = (
    refl,
    word_case reset_asks reset_step reset_script _ (λ r. to (state (p.Vendor n) ds k) (vendor_move n k r)) _
        (λ x. either_left (state (p.Vendor n) ds k) (not (eqb x 0xffff)) _ _ _ _ (restoring_left (state (p.Vendor n) ds k) k refl) refl) refl refl,
  )
  at_phase (p.Gone zero) = (refl, told_case reset_asks reset_step reset_script _ (λ r. to (state (p.Gone zero) ds k) (gone_move zero r)) _ refl refl)
  at_phase (p.Gone (suc n)) = (refl, told_case reset_asks reset_step reset_script _ (λ r. to (state (p.Gone (suc n)) ds k) (gone_move (suc n) r)) _ refl refl)
  at_phase (p.BackDevice at device link) =
      (refl, done_case reset_asks reset_step reset_script _ (λ r. to (state (p.BackDevice at device link) ds k) (back_device_move at link r)) _ refl refl refl)
  at_phase (p.BackLink at link) = (refl, done_case reset_asks reset_step reset_script _ (λ r. to (state (p.BackLink at link) ds k) (back_link_move r)) _ refl refl refl)
  at_phase (p.Back zero) = (refl, done_case reset_asks reset_step reset_script _ (λ r. to (state (p.Back zero) ds k) (back_move zero r)) _ refl refl refl)
  at_phase (p.Back (suc n)) = (refl, done_case reset_asks reset_step reset_script _ (λ r. to (state (p.Back (suc n)) ds k) (back_move (suc n) r)) _ refl refl refl)

pub reset_follows : ResetFollows
reset_follows s = at_phase s.dwords s.control s.phase
