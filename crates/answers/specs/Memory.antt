-- What the calls on memory give as words.
use Rattle.std.specs.Prelude.{ℕ, Bool, true, false, List, [], ◌∷◌, replicate, Option, Some, None}
use Rattle.std.proofs.Math.Option as m
use Rattle.fields.specs.Outcome.{Outcome, value, refused}
use Rattle.dma.specs.Blocks.{virt_of}
use Rattle.dma.specs.declared.Block.{Block}
use Rattle.dma.specs.declared.Cutter.{Cutter}
use Rattle.dma.specs.declared.Listed.{Listed}

-- a card address, or none
abbrev pub virt_from : (has : Bool) → ℕ → Option ℕ
virt_from true at = Some at
virt_from false at = None

abbrev pub virt_known : Option ℕ → ℕ
virt_known (Some at) = 1
virt_known None = 0

abbrev pub cutter_from : (has : Bool) (virt phys left : ℕ) → Cutter
cutter_from has virt phys left = record { virt = virt_from has virt; phys = phys; left = left }

-- what is left of a range: whether it has a card address, that address, the host address and the bytes
abbrev pub cutter_words : Cutter → List ℕ
cutter_words c = virt_known c.virt ∷ virt_of c.virt ∷ c.phys ∷ c.left ∷ []

-- 0 and the range, or the refusal's number
abbrev pub started_words : Outcome Cutter → List ℕ
started_words (value c) = 0 ∷ cutter_words c
started_words (refused k vs) = k ∷ replicate 4 0

-- 1, the block and what is left behind it; or zeros at the end
abbrev pub piece_words : m.Option (Block × Cutter) → List ℕ
piece_words (m.some (b, c)) = 1 ∷ b.virt ∷ b.phys ∷ b.log ∷ cutter_words c
piece_words m.none = replicate 8 0

-- 0, how many entries, and what is left behind them; or the refusal's number
abbrev pub listed_words : Outcome Listed → List ℕ
listed_words (value m) = 0 ∷ m.entries ∷ cutter_words m.rest
listed_words (refused k vs) = k ∷ replicate 5 0
