-- What a list of blocks covers: bytes, and pages of the card on pages of the device.
use Rattle.std.specs.Prelude.{◌≡◌, ℕ, zero, suc, ◌+◌, ◌-◌, ◌*◌, ◌%◌, ◌^◌, ◌≤◌, List, [], ◌∷◌, ◌++◌, length, take, drop, Option}
use Rattle.dma.specs.Blocks.{virt_of, onward_of, blocks_of}
use Rattle.dma.specs.declared.Block.{Block}
use Rattle.dma.specs.declared.Cutter.{Cutter}

-- the blocks follow one another from these addresses on without gap or overlap, and cover exactly `left` bytes
unfoldable pub Tiles : Option ℕ → (phys left : ℕ) → List Block → Type 0
Tiles virt phys left [] = left ≡ 0
Tiles virt phys left (b ∷ bs) =
    (b.virt ≡ virt_of virt) × (b.phys ≡ phys) × (2 ^ b.log ≤ left) × Tiles (onward_of virt (2 ^ b.log)) (phys + 2 ^ b.log) (left - 2 ^ b.log) bs

unfoldable pub bytes_of : List Block → ℕ
bytes_of [] = 0
bytes_of (b ∷ bs) = 2 ^ b.log + bytes_of bs

-- what holds of each block
abbrev pub Each : (Block → Type 0) → List Block → Type 0
Each P [] = Unit {0}
Each P (b ∷ bs) = P b × Each P bs

-- a block stands on multiples of its own size, and has an exponent that is allowed
pub record Aligned (largest : ℕ) (b : Block) : Type 0 where
  pub allowed : b.log ≤ largest
  pub top : b.log ≤ 63
  pub host : b.phys % 2 ^ b.log ≡ 0
  pub card : b.virt % 2 ^ b.log ≡ 0

-- the n values of f from i on
unfoldable pub table : {A : Type 0} → (ℕ → A) → (i n : ℕ) → List A
table f i zero = []
table f i (suc n) = f i ∷ table f (suc i) n

-- what f says of each page of each block, in order: page k of block b is f b k
unfoldable pub cover : {A : Type 0} → (Block → ℕ → A) → List Block → List A
cover f [] = []
cover f (b ∷ bs) = table (f b) 0 (2 ^ (b.log - 12)) ++ cover f bs

-- page k of a run of pages: its address on the card, and the device address that it lies on
abbrev pub pair_at : (card device k : ℕ) → ℕ × ℕ
pair_at card device k = (card + k * 4096, device + k * 4096)

abbrev pub page_at : (device k : ℕ) → ℕ
page_at device k = device + k * 4096

-- the pages that the blocks put on the card, and the device pages that they name
abbrev pub pages_of : List Block → List (ℕ × ℕ)
pages_of bs = cover (λ b. pair_at b.virt b.phys) bs

abbrev pub device_pages : List Block → List ℕ
device_pages bs = cover (λ b. page_at b.phys) bs

-- "A mailbox carries at most 256 blocks": the blocks, in order, at most `capacity` to a mailbox; no more mailboxes than blocks
unfoldable pub split_by : (capacity fuel : ℕ) → List Block → List (List Block)
split_by capacity zero bs = []
split_by capacity (suc f) [] = []
split_by capacity (suc f) (b ∷ bs) = take capacity (b ∷ bs) ∷ split_by capacity f (drop capacity (b ∷ bs))

abbrev pub mailboxes : (capacity : ℕ) → List Block → List (List Block)
mailboxes capacity bs = split_by capacity (length bs) bs

-- the blocks of a range that is being cut
abbrev pub blocks_in : (largest : ℕ) → Cutter → List Block
blocks_in largest c = blocks_of largest c.virt c.phys c.left

-- the range ends at 2^64 or below, as every range that `blocks` accepts does
pub record Within (c : Cutter) : Type 0 where
  pub host : c.phys + c.left ≤ 2 ^ 64
  pub card : virt_of c.virt + c.left ≤ 2 ^ 64
