-- Laws of the command machine's counts.
use Prim.Native.Nat.{ℕ, zero, suc, ◌+◌, ◌-◌, ◌*◌, ◌≤◌, ◌<◌}
use mathlib.Core.Path.{◌≡◌, refl, subst}
use native.Mathlib.Omega.{arith}
use mathlib.Core.Bool.{Bool}
use Rattle.hcr.specs.Words.{waited_of, register, swap_of}
use Rattle.hcr.specs.declared.Post.{Post}
use Rattle.pci.specs.declared.Question.TheVariants.{RegWrite}
use Rattle.command.specs.Machine.{write_at, word_at}
use Rattle.hcr.proofs.Laws.{timeout_waited, waited_mono}
use Rattle.command.specs.Script.{STALLS}

-- after 600,990 stalls a Timeout is due
pub enough : (n : ℕ) → 600990 ≤ n → 60000000 ≤ waited_of n
enough n h =
    let e : 600990 + (n - 600990) ≡ n = omega arith in
    let m = waited_mono 600990 (n - 600990) in
    subst (λ (k : ℕ). k ≤ waited_of n) timeout_waited (subst (λ (k : ℕ). waited_of 600990 ≤ waited_of k) e m)

pub left_more : (n : ℕ) → n < STALLS → STALLS - n ≡ suc (STALLS - (n + 1))
left_more n h = omega arith

pub left_none : (n : ℕ) → STALLS ≤ n → STALLS - n ≡ 0
left_none n h = omega arith

-- write number k of the six, as the phase says it
pub write_word : (t : Bool) (x : Post) (k : ℕ) → k ≤ 5 → write_at t x k ≡ RegWrite 0 (register (4 * k)) (swap_of (word_at x k))
write_word t x zero h = refl
write_word t x (suc zero) h = refl
write_word t x (suc (suc zero)) h = refl
write_word t x (suc (suc (suc zero))) h = refl
write_word t x (suc (suc (suc (suc zero)))) h = refl
write_word t x (suc (suc (suc (suc (suc zero))))) h = refl
write_word t x (suc (suc (suc (suc (suc (suc k)))))) h = absurd (omega arith)
