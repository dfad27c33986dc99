-- Between the definitions and the code: counting down by `n - 1`.
use Prim.Native.Nat.{ℕ, zero, suc, ◌-◌}
use mathlib.Core.List.{List}
use mathlib.Core.Path.{◌≡◌, refl, ap}
use native.Mathlib.Omega.{arith}
use Rattle.uar.specs.Steps.{read_on}
use Rattle.uar.specs.declared.BarPhase.TheVariants as p
use Rattle.std.specs.Prelude.{None}
use Rattle.uar.specs.declared.BarStep.{BarStep}

abbrev reads : List ℕ → ℕ → BarStep
reads ds n = record { find = record { phase = p.Reading n; dwords = ds }; ending = None }

pub read_more : (n : ℕ) → (n ≡ 0 → ⊥) → (ds : List ℕ) → read_on ds n ≡ reads ds (n - 1)
read_more zero h ds = absurd (h refl)
read_more (suc n) h ds = ap (λ (k : ℕ). reads ds k) (let e : n ≡ suc n - 1 = omega arith in e)
