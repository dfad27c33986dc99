-- The machine counts down by `n - 1` where the definitions have `suc n`.
use Prim.Native.Nat.{ℕ, zero, suc, ◌-◌}
use mathlib.Core.Path.{◌≡◌, refl, ap}
use native.Mathlib.Omega.{arith}
use lib.Dec.{eqb}
use Rattle.fields.specs.Outcome.{pick}
use Rattle.reset.specs.Steps.{walk_move, held_move, gone_on, back_next, saving_next}
use Rattle.reset.specs.declared.Control.TheVariants as c
use Rattle.reset.specs.declared.Phase.TheVariants as p
use Rattle.reset.specs.declared.Move.TheVariants as v

pred : (n : ℕ) → n ≡ suc n - 1
pred n = omega arith

pub walk_more : (n : ℕ) → (n ≡ 0 → ⊥) → (at : ℕ) → walk_move n at ≡ pick (eqb at 0) (v.Known c.Absent) (v.To (p.Header (n - 1) at))
walk_more zero h at = absurd (h refl)
walk_more (suc n) h at = ap (λ (k : ℕ). pick (eqb at 0) (v.Known c.Absent) (v.To (p.Header k at))) (pred n)

pub held_more : (n : ℕ) → (n ≡ 0 → ⊥) → (x : ℕ) → held_move n x ≡ v.To (p.Hold (n - 1))
held_more zero h x = absurd (h refl)
held_more (suc n) h x = ap (λ (k : ℕ). v.To (p.Hold k)) (pred n)

pub gone_more : (n : ℕ) → (n ≡ 0 → ⊥) → gone_on n ≡ v.To (p.Vendor (n - 1))
gone_more zero h = absurd (h refl)
gone_more (suc n) h = ap (λ (k : ℕ). v.To (p.Vendor k)) (pred n)

pub back_more : (n : ℕ) → (n ≡ 0 → ⊥) → back_next n ≡ v.To (p.Back (n - 1))
back_more zero h = absurd (h refl)
back_more (suc n) h = ap (λ (k : ℕ). v.To (p.Back k)) (pred n)

pub saving_more : (n : ℕ) → (n ≡ 0 → ⊥) → saving_next n ≡ p.Saving (n - 1)
saving_more zero h = absurd (h refl)
saving_more (suc n) h = ap (λ (k : ℕ). p.Saving k) (pred n)
