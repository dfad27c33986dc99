-- The slots from i on, one step of their freeing.
use Prim.Native.Nat.{ℕ, suc, ◌+◌, ◌-◌, ◌<◌, ◌≤◌}
use mathlib.Core.Bool.{Bool, true, false}
use mathlib.Core.Path.{◌≡◌, ap, sym, ◌∙◌}
use native.Mathlib.Numerals.{add-one}
use native.Mathlib.Omega.{arith}
use Rattle.fields.specs.Outcome.{pick}
use Rattle.session.specs.Session.{slot_at, buffer_of, is_held}
use Rattle.session.specs.declared.Close.TheVariants as c
use Rattle.session.specs.declared.Session.{Session}
use Rattle.closing_plan.specs.Plan.{release_plan, free_plan, frees_plan}

module _ (s : Session) (i u : ℕ) where
  -- none is left
  pub frees_none : 82 ≤ i → frees_plan (82 - i) i s u ≡ release_plan s u
  unfolding frees_plan
  frees_none h = ap (λ (n : ℕ). frees_plan n i s u) (let z : 82 - i ≡ 0 = omega arith in z)

  frees_next : i < 82
      → frees_plan (82 - i) i s u
      ≡ pick (is_held (slot_at s.books.lists.slots i)) (free_plan s (c.Free i) (buffer_of (slot_at s.books.lists.slots i)) u) (frees_plan (82 - suc i) (suc i) s u)
  unfolding frees_plan
  frees_next h = ap (λ (n : ℕ). frees_plan n i s u) (let z : 82 - i ≡ suc (82 - suc i) = omega arith in z)

  -- slot i has a buffer
  pub frees_here : i < 82 → is_held (slot_at s.books.lists.slots i) ≡ true
      → frees_plan (82 - i) i s u ≡ free_plan s (c.Free i) (buffer_of (slot_at s.books.lists.slots i)) u
  frees_here h e =
      frees_next h
      ∙ ap (λ (b : Bool). pick b (free_plan s (c.Free i) (buffer_of (slot_at s.books.lists.slots i)) u) (frees_plan (82 - suc i) (suc i) s u)) e

  -- slot i has none
  pub frees_on : i < 82 → is_held (slot_at s.books.lists.slots i) ≡ false → frees_plan (82 - (i + 1)) (i + 1) s u ≡ frees_plan (82 - i) i s u
  frees_on h e =
      ap (λ (n : ℕ). frees_plan (82 - n) n s u) (add-one i)
      ∙ sym (frees_next h ∙ ap (λ (b : Bool). pick b (free_plan s (c.Free i) (buffer_of (slot_at s.books.lists.slots i)) u) (frees_plan (82 - suc i) (suc i) s u)) e)
