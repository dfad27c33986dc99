-- Laws of the blocks of a range: they tile it, they are aligned, and page k of the range lies on device page k.
use Rattle.std.specs.Prelude.{Option}
use Rattle.std.proofs.Common.{◌≡◌, ℕ, zero, suc, ◌+◌, ◌-◌, ◌^◌, ◌<◌, ◌≤◌, List, [], ◌∷◌, refl, arith, pow_pos}
use Rattle.dma.specs.Blocks.{virt_of, exponent_of, onward_of, block_at, blocks_from, blocks_of}
use Rattle.dma.specs.Pages.{Tiles, bytes_of, Each, Aligned}
use Rattle.dma.specs.declared.Block.{Block}
use Rattle.dma.proofs.Exponent.{exponent_stands, exponent_le}

module _ (largest : ℕ) where
  -- the exponent of the first block
  abbrev pub log_of : Option ℕ → (phys left : ℕ) → ℕ
  log_of virt phys left = exponent_of largest (virt_of virt) phys left

  -- Induction over the blocks of a range.
  module _ (P : Option ℕ → (phys left : ℕ) → List Block → Type 0)
      (none : (virt : Option ℕ) (phys : ℕ) → P virt phys 0 [])
      (more : (virt : Option ℕ) (phys left : ℕ) (bs : List Block) → 0 < left
      → P (onward_of virt (2 ^ log_of virt phys left)) (phys + 2 ^ log_of virt phys left) (left - 2 ^ log_of virt phys left) bs
      → P virt phys left (block_at largest virt phys left ∷ bs)) where
    from : (f : ℕ) (virt : Option ℕ) (phys left : ℕ) → left ≤ f → P virt phys left (blocks_from largest f virt phys left)
    unfolding blocks_from
    from zero virt phys zero h = none virt phys
    from zero virt phys (suc l) h = absurd (omega arith)
    from (suc f) virt phys zero h = none virt phys
    from (suc f) virt phys (suc l) h =
        more virt phys (suc l) (blocks_from largest f (onward_of virt (2 ^ log_of virt phys (suc l))) (phys + 2 ^ log_of virt phys (suc l)) (suc l - 2 ^ log_of virt phys (suc l))) (omega arith)
        (from f (onward_of virt (2 ^ log_of virt phys (suc l))) (phys + 2 ^ log_of virt phys (suc l)) (suc l - 2 ^ log_of virt phys (suc l)) (omega (arith, pow_pos (log_of virt phys (suc l)))))

    pub blocks-ind : (virt : Option ℕ) (phys size : ℕ) → P virt phys size (blocks_of largest virt phys size)
    blocks-ind virt phys size = from size virt phys size (omega arith)

  within : (virt : Option ℕ) (phys left : ℕ) → 0 < left → 2 ^ log_of virt phys left ≤ left
  within virt phys left h = (exponent_stands largest (virt_of virt) phys left h).within

  -- The blocks follow one another without gap or overlap and cover exactly the range.
  pub blocks_tile : (virt : Option ℕ) (phys size : ℕ) → Tiles virt phys size (blocks_of largest virt phys size)
  unfolding Tiles
  blocks_tile = blocks-ind Tiles (λ virt phys. refl) (λ virt phys left bs h r. (refl, refl, within virt phys left h, r))

  -- Their sizes add up to it.
  pub blocks_bytes : (virt : Option ℕ) (phys size : ℕ) → bytes_of (blocks_of largest virt phys size) ≡ size
  unfolding bytes_of
  blocks_bytes = blocks-ind (λ virt phys size bs. bytes_of bs ≡ size) (λ virt phys. refl) (λ virt phys left bs h r. omega (arith, r, within virt phys left h))

  -- Each stands on multiples of its own size in both addresses.
  pub blocks_aligned : (virt : Option ℕ) (phys size : ℕ) → Each (Aligned largest) (blocks_of largest virt phys size)
  blocks_aligned =
      blocks-ind (λ virt phys size bs. Each (Aligned largest) bs) (λ virt phys. tt)
      (λ virt phys left bs h r. let s = exponent_stands largest (virt_of virt) phys left h in
      (record { allowed = s.allowed; top = exponent_le largest (virt_of virt) phys left; host = s.divides_phys; card = s.divides_virt }, r))
