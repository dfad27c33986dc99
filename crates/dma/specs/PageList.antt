-- The page list of one mailbox. Document 01: "A mailbox carries at most 256 blocks, 16 bytes each: card address, then host address with exponent
-- minus 12 in its low bits."
-- Public document: ConnectX-3 Programmer's Reference Manual, the mailbox of MAP_FA, MAP_ICM_AUX and
-- MAP_ICM. It was not at hand.
use Rattle.std.specs.Prelude.{◌≡◌, ℕ, zero, suc, ◌+◌, ◌-◌, ◌*◌, ◌/◌, ◌%◌, ◌^◌, ◌<◌, ◌≤◌, min, List, [], ◌∷◌, length, replicate, ◌==◌, Result, Ok, Err}
use Rattle.fields.specs.Outcome.{Outcome, value, refused, pick}
use Rattle.fields.specs.Fields.{be, put_at}
use Rattle.fields.specs.declared.Order.TheVariants.{Big}
use Rattle.fields.specs.declared.Short.{Short}
use Rattle.dma.specs.Blocks.{block_of, rest_of}
use Rattle.dma.specs.Pages.{table}
use Rattle.dma.specs.declared.Block.{Block}
use Rattle.dma.specs.declared.Cutter.{Cutter}
use Rattle.dma.specs.declared.Listed.{Listed}

-- "host address with exponent minus 12 in its low bits"; an exponent below 12, which no session has, counts as 12
abbrev pub word_of : Block → ℕ
word_of b = b.phys + (b.log - 12)

-- a block's 16 bytes at place k
abbrev pub entry_at : List ℕ → ℕ → Block → List ℕ
entry_at s k b = put_at Big (put_at Big s (k * 16) 8 b.virt) (k * 16 + 8) 8 (word_of b)

-- the blocks, in order, from place k on
unfoldable pub list_at : List ℕ → ℕ → List Block → List ℕ
list_at s k [] = s
list_at s k (b ∷ bs) = list_at (entry_at s k b) (suc k) bs

-- a mailbox of 4,096 bytes that carries the blocks, and is 0 otherwise
abbrev pub mailbox_of : List Block → List ℕ
mailbox_of bs = list_at (replicate 4096 0) 0 bs

-- the block whose entry stands at place k of a mailbox, and the first n of them: how a reader of the mailbox takes it
abbrev pub block_in : List ℕ → ℕ → Block
block_in s k = record { virt = be s (k * 16) 8; phys = be s (k * 16 + 8) 8 / 4096 * 4096; log = be s (k * 16 + 8) 8 % 4096 + 12 }

abbrev pub list_in : List ℕ → ℕ → List Block
list_in s n = table (block_in s) 0 n

-- an entry can carry the block: a whole number of pages at page multiples of 64 bits
pub record Carried (b : Block) : Type 0 where
  pub log : 12 ≤ b.log
  pub top : b.log ≤ 63
  pub page : b.phys % 4096 ≡ 0
  pub host : word_of b < 2 ^ 64
  pub card : b.virt < 2 ^ 64

-- the next blocks of a range, n at most, and what is left behind them, for every value of the state
unfoldable pub first_blocks : (largest n : ℕ) → Cutter → List Block
first_blocks largest zero c = []
first_blocks largest (suc n) c = pick (c.left == 0) [] (block_of largest c ∷ first_blocks largest n (rest_of largest c))

unfoldable pub behind : (largest n : ℕ) → Cutter → Cutter
behind largest zero c = c
behind largest (suc n) c = pick (c.left == 0) c (behind largest n (rest_of largest c))

abbrev pub listed_of : (largest n : ℕ) → Cutter → Listed
listed_of largest n c = record { entries = length (first_blocks largest n c); rest = behind largest n c }

-- 21: "mailbox not 4,096 bytes", which then stays as it was
abbrev pub fill_at : (largest capacity : ℕ) → Cutter → List ℕ → Outcome Listed
fill_at largest capacity c s = pick (length s == 4096) (value (listed_of largest (min capacity 256) c)) (refused 21 [])

abbrev pub filled_at : (largest capacity : ℕ) → Cutter → List ℕ → List ℕ
filled_at largest capacity c s = pick (length s == 4096) (mailbox_of (first_blocks largest (min capacity 256) c)) s

abbrev pub page_list : Result Listed Short → Outcome Listed
page_list (Ok m) = value m
page_list (Err e) = refused 21 []
