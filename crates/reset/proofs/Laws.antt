-- What the order of restoring comes to, where the script of a reset begins, and the tests on raw values.
use Prim.Native.Nat.{ℕ, zero, suc, ◌*◌, ◌/◌, ◌%◌, ◌^◌, ◌<◌}
use mathlib.Core.List.{List, [], ◌∷◌}
use mathlib.Core.Path.{◌≡◌, refl}
use native.Mathlib.Omega.{arith}
use Rattle.hcr.specs.Words.{swap_of}
use Rattle.reset.specs.Reset.{restored_at, dword_at, reset}
use Rattle.reset.specs.Steps.{started, reset_script}

-- the offsets that f gives when n are left
abbrev offsets : (ℕ → ℕ) → (n : ℕ) → List ℕ
offsets f zero = []
offsets f (suc n) = f n * 4 ∷ offsets f n

-- "0x00..0x3c" are saved, and "0x00, 0x08..0x3c, last 0x04" restored
pub saved_order : offsets dword_at 16
    ≡ 0x00 ∷ 0x04 ∷ 0x08 ∷ 0x0c ∷ 0x10 ∷ 0x14 ∷ 0x18 ∷ 0x1c ∷ 0x20 ∷ 0x24 ∷ 0x28 ∷ 0x2c ∷ 0x30 ∷ 0x34 ∷ 0x38 ∷ 0x3c ∷ []
saved_order = refl

pub restored_order : offsets restored_at 16
    ≡ 0x00 ∷ 0x08 ∷ 0x0c ∷ 0x10 ∷ 0x14 ∷ 0x18 ∷ 0x1c ∷ 0x20 ∷ 0x24 ∷ 0x28 ∷ 0x2c ∷ 0x30 ∷ 0x34 ∷ 0x38 ∷ 0x3c ∷ 0x04 ∷ []
restored_order = refl

-- a reset that starts has the whole script before it
pub reset_starts : reset_script started ≡ reset
reset_starts = refl

low_byte : (q : ℕ) → q < 256 → q % 256 ≡ 0 → q ≡ 0
low_byte q h e = omega arith

-- the script compares a register's own number with 0, the Rust the raw dword: that is the same
pub swap_zero : (x : ℕ) → x < 2 ^ 32 → swap_of x ≡ 0 → x ≡ 0
swap_zero x h e =
    let d = low_byte (x / 16777216) (omega arith) (omega arith) in
    let c = low_byte (x / 65536) (omega arith) (omega arith) in
    let b = low_byte (x / 256) (omega arith) (omega arith) in
    low_byte x (omega arith) (omega arith)

pub zero_swap : swap_of 0 ≡ 0
zero_swap = refl
