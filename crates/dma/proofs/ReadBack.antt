-- A mailbox reads back as the blocks that it carries, and is 0 behind them.
use Rattle.std.specs.Prelude.{Option, Some, None}
use Rattle.std.proofs.Common.{◌≡◌, ℕ, suc, ◌+◌, ◌-◌, ◌*◌, ◌/◌, ◌%◌, ◌^◌, ◌<◌, ◌≤◌, List, [], ◌∷◌, length, get_or, replicate, sym, refl, ◌∙◌, subst, ap₂, mod-eq_of_lt, arith}
use lib.ListN.{length-replicate, get_or-replicate}
use Rattle.fields.specs.Fields.{be, put_at}
use Rattle.fields.specs.declared.Order.TheVariants.{Big}
use Rattle.fields.proofs.Laws.{number_put, number_apart, put_outside, length_put}
use Rattle.dma.specs.Blocks.{virt_of, onward_of, blocks_of}
use Rattle.dma.specs.Pages.{Each, table, Within}
use Rattle.dma.specs.PageList.{word_of, entry_at, list_at, mailbox_of, block_in, list_in, Carried}
use Rattle.dma.specs.declared.Block.{Block}
use Rattle.dma.proofs.Exponent.{exponent_stands, exponent_le}
use Rattle.dma.proofs.Lists.{length_entry, below_pow}
use Rattle.dma.proofs.Tiling.{log_of, blocks-ind}
use Rattle.dma.proofs.Cover.{first}

-- an entry leaves the fields in front of it, and the bytes behind it
entry_front : (s : List ℕ) (k : ℕ) (b : Block) (off w : ℕ) → off + w ≤ k * 16 → be (entry_at s k b) off w ≡ be s off w
entry_front s k b off w h =
    number_apart Big Big (put_at Big s (k * 16) 8 b.virt) off w (k * 16 + 8) 8 (word_of b) (λ j a b c d. omega arith)
    ∙ number_apart Big Big s off w (k * 16) 8 b.virt (λ j a b c d. omega arith)

entry_behind : (s : List ℕ) (k : ℕ) (b : Block) (j : ℕ) → k * 16 + 16 ≤ j → get_or (entry_at s k b) j 0 ≡ get_or s j 0
entry_behind s k b j h =
    put_outside Big (put_at Big s (k * 16) 8 b.virt) (k * 16 + 8) 8 (word_of b) j (λ a c. omega arith)
    ∙ put_outside Big s (k * 16) 8 b.virt j (λ a c. omega arith)

list_front : (s : List ℕ) (k : ℕ) (bs : List Block) (off w : ℕ) → off + w ≤ k * 16 → be (list_at s k bs) off w ≡ be s off w
unfolding list_at
list_front s k [] off w h = refl
list_front s k (b ∷ bs) off w h = list_front (entry_at s k b) (suc k) bs off w (omega arith) ∙ entry_front s k b off w h

list_behind : (s : List ℕ) (k : ℕ) (bs : List Block) (j : ℕ) → (k + length bs) * 16 ≤ j → get_or (list_at s k bs) j 0 ≡ get_or s j 0
unfolding list_at
list_behind s k [] j h = refl
list_behind s k (b ∷ bs) j h = list_behind (entry_at s k b) (suc k) bs j (omega arith) ∙ entry_behind s k b j (omega arith)

-- what an entry says
entry_card : (s : List ℕ) (k : ℕ) (b : Block) → k * 16 + 16 ≤ length s → b.virt < 2 ^ 64 → be (entry_at s k b) (k * 16) 8 ≡ b.virt
entry_card s k b h l =
    number_apart Big Big (put_at Big s (k * 16) 8 b.virt) (k * 16) 8 (k * 16 + 8) 8 (word_of b) (λ j a b c d. omega arith)
    ∙ number_put Big s (k * 16) 8 b.virt (omega arith)
    ∙ mod-eq_of_lt l

entry_word : (s : List ℕ) (k : ℕ) (b : Block) → k * 16 + 16 ≤ length s → word_of b < 2 ^ 64 → be (entry_at s k b) (k * 16 + 8) 8 ≡ word_of b
entry_word s k b h l =
    number_put Big (put_at Big s (k * 16) 8 b.virt) (k * 16 + 8) 8 (word_of b) (omega (arith, length_put Big s (k * 16) 8 b.virt))
    ∙ mod-eq_of_lt l

-- a block, from the two halves of its entry
block_of : (b : Block) (x w : ℕ) → Carried b → x ≡ b.virt → w ≡ word_of b → ◌≡◌ {A = Block} (record { virt = x; phys = w / 4096 * 4096; log = w % 4096 + 12 }) b
block_of b x w c e f =
    ap₂ (λ (y z : ℕ). record { virt = y; phys = z / 4096 * 4096; log = z % 4096 + 12 }) e f
    ∙ ap₂ (λ (y z : ℕ). record { virt = b.virt; phys = y; log = z })
    (let g : (b.phys + (b.log - 12)) / 4096 * 4096 ≡ b.phys = omega (arith, c.page, c.log, c.top) in g)
    (let g : (b.phys + (b.log - 12)) % 4096 + 12 ≡ b.log = omega (arith, c.page, c.log, c.top) in g)

list_read : (s : List ℕ) (k : ℕ) (bs : List Block) → (k + length bs) * 16 ≤ length s → Each Carried bs → table (block_in (list_at s k bs)) k (length bs) ≡ bs
unfolding table list_at
list_read s k [] h c = refl
list_read s k (b ∷ bs) h c =
    ap₂ (λ (x : Block) (xs : List Block). x ∷ xs)
    (block_of b (be (list_at (entry_at s k b) (suc k) bs) (k * 16) 8) (be (list_at (entry_at s k b) (suc k) bs) (k * 16 + 8) 8) c.0
    (list_front (entry_at s k b) (suc k) bs (k * 16) 8 (omega arith) ∙ entry_card s k b (omega arith) c.0.card)
    (list_front (entry_at s k b) (suc k) bs (k * 16 + 8) 8 (omega arith) ∙ entry_word s k b (omega arith) c.0.host))
    (list_read (entry_at s k b) (suc k) bs (omega (arith, length_entry s k b)) c.1)

-- A mailbox reads back as its blocks.
pub mailbox_read : (bs : List Block) → length bs ≤ 256 → Each Carried bs → list_in (mailbox_of bs) (length bs) ≡ bs
mailbox_read bs h c =
    list_read (replicate 4096 0) 0 bs (subst (λ (n : ℕ). (0 + length bs) * 16 ≤ n) (sym (length-replicate {A = ℕ} 4096 0)) (omega arith)) c

-- Behind them it is 0.
pub mailbox_tail : (bs : List Block) (j : ℕ) → length bs * 16 ≤ j → j < 4096 → get_or (mailbox_of bs) j 0 ≡ 0
mailbox_tail bs j h l = list_behind (replicate 4096 0) 0 bs j (omega arith) ∙ get_or-replicate 4096 j 0 0 l

on_end : (virt : Option ℕ) (n left : ℕ) → n ≤ left → virt_of virt + left ≤ 2 ^ 64 → virt_of (onward_of virt n) + (left - n) ≤ 2 ^ 64
on_end (Some at) n left l h = omega arith
on_end None n left l h = omega arith

-- An entry can carry each block of a range of pages that ends at 2^64 or below.
pub blocks_carried : (largest : ℕ) → 12 ≤ largest → (virt : Option ℕ) (phys n : ℕ) → virt_of virt % 4096 ≡ 0 → phys % 4096 ≡ 0
    → Within (record { virt = virt; phys = phys; left = n * 4096 }) → Each Carried (blocks_of largest virt phys (n * 4096))
blocks_carried largest allowed virt phys n a b w =
    blocks-ind largest
    (λ virt phys left bs. (n : ℕ) → left ≡ n * 4096 → virt_of virt % 4096 ≡ 0 → phys % 4096 ≡ 0 → phys + left ≤ 2 ^ 64 → virt_of virt + left ≤ 2 ^ 64 → Each Carried bs)
    (λ virt phys n e a b p q. tt)
    (λ virt phys left bs h r n e a b p q.
    let f = first largest allowed virt phys left n e a b h in
    let s = (exponent_stands largest (virt_of virt) phys left h).within in
    let t = exponent_le largest (virt_of virt) phys left in (
      record { log = f.log; top = t; page = b; host = omega (arith, s, below_pow (log_of largest virt phys left)); card = omega arith },
      r (n - f.m) f.rest f.card f.host (omega (arith, s)) (on_end virt (2 ^ log_of largest virt phys left) left s q),
    ))
    virt phys (n * 4096) n refl a b w.host w.card
