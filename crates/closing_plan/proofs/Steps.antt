-- One step of a plan that counts down.
use Prim.Native.Nat.{ℕ, zero, suc, ◌-◌, ◌%◌, ◌^◌}
use mathlib.Core.Path.{◌≡◌, refl, ap}
use native.Mathlib.Omega.{arith}
use Rattle.fields.specs.Outcome.{pick}
use Rattle.hcr.specs.Words.{is_reserved}
use Rattle.session.specs.Session.{icm_at, sends_of, planned}
use Rattle.session.specs.declared.Top.{Top}
use Rattle.session.specs.declared.Stage.TheVariants as g
use Rattle.session.specs.declared.Close.TheVariants as k
use Rattle.session.specs.declared.Fill.TheVariants as w
use Rattle.session.specs.declared.Session.{Session}
use Rattle.closing_plan.specs.Closing.{undo_post, popped}
use Rattle.closing_plan.specs.Plan.{unmap_plan, unmap_aux_plan, send_plan, undo_send, failed_plan}

pub unmap_none : (s : Session) (i u : ℕ) → i ≡ 0 → unmap_plan s i u ≡ unmap_aux_plan s u
unfolding unmap_plan
unmap_none s zero u h = refl
unmap_none s (suc i) u h = absurd (let g : suc i ≡ 0 = h in let z : ⊥ = omega arith in z)

pub unmap_more : (s : Session) (i u : ℕ) → (i ≡ 0 → ⊥)
    → unmap_plan s i u ≡ send_plan s (k.Unmap (i - 1)) 0xff9 ((icm_at s.books.lists.slots (i - 1)).pages % 2 ^ 32) (icm_at s.books.lists.slots (i - 1)).virt u
unfolding unmap_plan
unmap_more s zero u h = absurd (h refl)
unmap_more s (suc i) u h =
    ap (λ (m : ℕ). send_plan s (k.Unmap m) 0xff9 ((icm_at s.books.lists.slots m).pages % 2 ^ 32) (icm_at s.books.lists.slots m).virt u) (let e : i ≡ suc i - 1 = omega arith in e)

pub undo_none : (s : Session) (m : ℕ) (u : Top) → m ≡ 0 → undo_send s m u ≡ failed_plan s u.count
undo_none s zero u h = refl
undo_none s (suc m) u h = absurd (let g : suc m ≡ 0 = h in let z : ⊥ = omega arith in z)

pub undo_more : (s : Session) (m : ℕ) (u : Top) → (m ≡ 0 → ⊥)
    → undo_send s m u ≡ pick (is_reserved u.op) (failed_plan s u.count) (planned (sends_of s (g.Close (k.Undo (m - 1))) (undo_post u)) w.Nothing (popped u).count)
undo_more s zero u h = absurd (h refl)
undo_more s (suc m) u h =
    ap (λ (j : ℕ). pick (is_reserved u.op) (failed_plan s u.count) (planned (sends_of s (g.Close (k.Undo j)) (undo_post u)) w.Nothing (popped u).count)) (let e : m ≡ suc m - 1 = omega arith in e)
