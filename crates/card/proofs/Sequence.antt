-- How safe scripts are put together.
use Prim.Native.Nat.{ℕ}
use mathlib.Core.Bool.{Bool, true, false}
use mathlib.Core.List.{List}
use mathlib.Core.Path.{◌≡◌, refl}
use Rattle.fields.specs.Outcome.{pick}
use Rattle.pci.specs.Script.{Script, ret, ask}
use Rattle.card.specs.Card.{World}
use Rattle.card.specs.Safe.{Safe}

pub safe_weaken : {A : Type 0} (i : List ℕ) (t : Script A) (w : World) (M P : World → A → Type 1) → Safe i w t M → ((v : World) (a : A) → M v a → P v a) → Safe i w t P
safe_weaken i (ret a) w M P h k = k w a h
safe_weaken i (ask q g) w M P h k = (h.0, λ r v st. safe_weaken i (g r) v M P (h.1 r v st) k)

pub safe_pick : {A : Type 0} (i : List ℕ) (b : Bool) (x y : Script A) (w : World) (P : World → A → Type 1) → (b ≡ true → Safe i w x P) → (b ≡ false → Safe i w y P)
    → Safe i w (pick b x y) P
safe_pick i true x y w P h k = h refl
safe_pick i false x y w P h k = k refl
