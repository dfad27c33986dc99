-- A buffer's pages are few enough for its bytes.
use Prim.Native.Nat.{ℕ, ◌+◌, ◌-◌, ◌*◌, ◌/◌, ◌^◌, ◌<◌, max}
use mathlib.Core.Bool.{Bool, true, false}
use mathlib.Core.List.{[]}
use mathlib.Core.Path.{◌≡◌, refl}
use native.Mathlib.Omega.{arith}
use lib.Dec.{leb}
use borrow.Author.Tests.{leb-true}
use Rattle.fields.specs.Outcome.{value, refused, pick}
use Rattle.dma.specs.Buffers.{pages_for}

by_test : (bytes n : ℕ) (b : Bool) → leb bytes (2 ^ 64 - 4096) ≡ b → value n ≡ pick b (value (max 1 ((bytes + 4095) / 4096))) (refused 18 []) → n * 4096 < 2 ^ 64
by_test bytes n true e h =
    let k : n ≡ max 1 ((bytes + 4095) / 4096) = cc in
    let l = leb-true bytes (2 ^ 64 - 4096) e in
    omega arith
by_test bytes n false e h = let z : ◌≡◌ {A = ℕ} 0 1 = cc in omega arith

pub pages_fit : (bytes n : ℕ) → value n ≡ pages_for bytes → n * 4096 < 2 ^ 64
pages_fit bytes n h = by_test bytes n (leb bytes (2 ^ 64 - 4096)) refl h
