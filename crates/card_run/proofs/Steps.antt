-- An answer to a register read, and a script behind a test.
use Prim.Native.Nat.{ℕ, ◌^◌, ◌<◌}
use native.Mathlib.Omega.{arith}
use mathlib.Core.Bool.{Bool, true, false, false≢true}
use mathlib.Core.List.{[]}
use mathlib.Core.Option.{some}
use mathlib.Core.Path.{◌≡◌, sym, ap}
use Rattle.fields.specs.Outcome.{pick}
use Rattle.hcr.specs.Words.{swap_of}
use Rattle.hcr.proofs.Laws.{swap_swap}
use Rattle.pci.specs.Script.{Script, good, read}
use Rattle.pci.specs.declared.Answer.TheVariants as an
use Rattle.card.specs.Card.{World}
use Rattle.card_run.specs.Can.{Slice, Answered, Can}

-- the replies, with no bytes beside them
pub no_bytes : Slice []
no_bytes = record { bytes = λ k. omega arith; long = omega arith }

swap_small : (x : ℕ) → swap_of x < 2 ^ 32
swap_small x = omega arith

pub says_read : (b o x : ℕ) → x < 2 ^ 32 → Answered (read b o) (good x)
says_read b o x h = (an.Dword (swap_of x), [], ap (λ (n : ℕ). some (good n)) (swap_swap x h), swap_small x, no_bytes)

module _ {R : Type 0} (w : World) (Q : World → R → Type 1) where
  pub can_true : (b : Bool) (x y : Script R) → b ≡ true → Can w x Q → Can w (pick b x y) Q
  can_true true x y e c = c
  can_true false x y e c = absurd (false≢true e)

  pub can_false : (b : Bool) (x y : Script R) → b ≡ false → Can w y Q → Can w (pick b x y) Q
  can_false true x y e c = absurd (false≢true (sym e))
  can_false false x y e c = c
