-- The blocks that a range is cut into. Document 01: "A block at host address p and card address v, with `left` bytes remaining, has the largest
-- exponent that divides p and v (0 if absent) and whose power is at most `left`; never above 63." The largest exponent allowed is a parameter.
use Rattle.std.specs.Prelude.{ℕ, zero, suc, ◌+◌, ◌-◌, ◌%◌, ◌^◌, Bool, ◌&&◌, List, [], ◌∷◌, ◌==◌, nat_le, Option, Some, None, Result, Ok, Err}
use Rattle.std.proofs.Math.Option as m
use Rattle.fields.specs.Outcome.{Outcome, value, refused, pick}
use Rattle.dma.specs.Buffers.{is_page, ends_within}
use Rattle.dma.specs.declared.BadAddress.{BadAddress}
use Rattle.dma.specs.declared.Block.{Block}
use Rattle.dma.specs.declared.Cutter.{Cutter}

-- "v (0 if absent)"
abbrev pub virt_of : Option ℕ → ℕ
virt_of (Some at) = at
virt_of None = 0

-- the exponent e is allowed, its power is at most left and divides both addresses
abbrev pub stands : (largest virt phys left e : ℕ) → Bool
stands largest virt phys left e = nat_le e largest && (nat_le (2 ^ e) left && (phys % 2 ^ e == 0 && virt % 2 ^ e == 0))

-- the highest number up to n that passes a test, and 0 where none does
unfoldable pub highest : (ℕ → Bool) → ℕ → ℕ
highest test zero = 0
highest test (suc n) = pick (test (suc n)) (suc n) (highest test n)

-- "the largest exponent … never above 63"
abbrev pub exponent_of : (largest virt phys left : ℕ) → ℕ
exponent_of largest virt phys left = highest (stands largest virt phys left) 63

-- the card address, if there is one, that many bytes on
abbrev pub onward_of : Option ℕ → ℕ → Option ℕ
onward_of (Some at) bytes = Some (at + bytes)
onward_of None bytes = None

abbrev pub block_at : (largest : ℕ) → Option ℕ → (phys left : ℕ) → Block
block_at largest virt phys left = record { virt = virt_of virt; phys = phys; log = exponent_of largest (virt_of virt) phys left }

-- the blocks from here on, each where the one before ended, at most fuel of them
unfoldable pub blocks_from : (largest fuel : ℕ) → Option ℕ → (phys left : ℕ) → List Block
blocks_from largest zero virt phys left = []
blocks_from largest (suc f) virt phys zero = []
blocks_from largest (suc f) virt phys (suc l) =
    let b : Block = block_at largest virt phys (suc l) in
    b ∷ blocks_from largest f (onward_of virt (2 ^ b.log)) (phys + 2 ^ b.log) (suc l - 2 ^ b.log)

-- The blocks of a range. No block is empty, so there are no more blocks than bytes.
abbrev pub blocks_of : (largest : ℕ) → Option ℕ → (phys size : ℕ) → List Block
blocks_of largest virt phys size = blocks_from largest size virt phys size

-- 18: "device address no page multiple, its end above 2^64, or bytes above 2^64 − 4,096"; the same
-- end of the card address
abbrev pub start_at : Option ℕ → (phys size : ℕ) → Outcome Cutter
start_at virt phys size =
    pick (is_page phys && (ends_within phys size && ends_within (virt_of virt) size)) (value (record { virt = virt; phys = phys; left = size })) (refused 18 [])

abbrev pub started : Result Cutter BadAddress → Outcome Cutter
started (Ok c) = value c
started (Err e) = refused 18 []

-- One step, for every value of the state: addresses are modulo 2^64, as the machine has them. In a range that ends at 2^64 or below only the
-- address behind the last block can be other than in `blocks_from`, and no block stands there.
abbrev pub wrapped : Option ℕ → ℕ → Option ℕ
wrapped (Some at) bytes = Some ((at + bytes) % 2 ^ 64)
wrapped None bytes = None

abbrev pub block_of : (largest : ℕ) → Cutter → Block
block_of largest c = block_at largest c.virt c.phys c.left

abbrev pub after_of : Cutter → ℕ → Cutter
after_of c bytes = record { virt = wrapped c.virt bytes; phys = (c.phys + bytes) % 2 ^ 64; left = c.left - bytes }

abbrev pub rest_of : (largest : ℕ) → Cutter → Cutter
rest_of largest c = after_of c (2 ^ (block_of largest c).log)

-- the next block and what is left behind it, or none where nothing is left
abbrev pub cut_of : (largest : ℕ) → Cutter → m.Option (Block × Cutter)
cut_of largest c = pick (c.left == 0) m.none (m.some (block_of largest c, rest_of largest c))

abbrev pub piece : Option (Block × Cutter) → m.Option (Block × Cutter)
piece (Some p) = m.some (p.0, p.1)
piece None = m.none
