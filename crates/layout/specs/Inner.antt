-- What functions inside the crate ask and say; no public contract cites it.
use Rattle.std.specs.Prelude.{ℕ, ◌<◌, ◌≤◌, ◌^◌, List, [], ◌∷◌}
use Rattle.layout.specs.declared.Table.{Table}
use Rattle.layout.specs.declared.Found.{Found}
use Rattle.layout.specs.Layout.{spot_of, compared_at}

-- each table has this property
abbrev pub All : (Table → Type 0) → List Table → Type 0
All P [] = Unit {0}
All P (x ∷ xs) = P x × All P xs

-- a table so small that the bytes of eleven add up within 64 bits
abbrev pub Small : Table → Type 0
Small t = (t.bytes < 2 ^ 48) × (t.count ≤ 2 ^ 32) × (t.entry < 2 ^ 16)

-- one of those with its base
abbrev pub Modest : Table → Type 0
Modest t = (t.base < 2 ^ 52) × Small t

-- the place of a table of b bytes among the first n of those placed, and its comparisons
abbrev pub found : List Table → (b n : ℕ) → Found
found t b n = record { at = spot_of t b n; comparisons = compared_at n (spot_of t b n) }
