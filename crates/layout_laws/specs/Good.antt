-- What is shown of an accepted layout, for any counts: document 01, "Then tables tile the area and each base is a multiple of its bytes", and of its
-- mapped ranges. The theorems are `layout_good`, `ranges-good` and `accepted` of proofs/.
use Rattle.std.specs.Prelude.{ℕ, ◌+◌, ◌*◌, ◌^◌, ◌≤◌, ◌<◌, ◌⊎◌, ◌≡◌, List, [], ◌∷◌, length, get_or}
use Rattle.layout.specs.declared.Table.{Table}
use Rattle.layout.specs.declared.Range.{Range}
use Rattle.layout.specs.declared.Layout.{Layout}
use Rattle.layout.specs.Layout.{table_in, table_of, based}
use Rattle.layout.specs.Inner.{All}

-- n is a multiple of m
abbrev pub Multiple : (m n : ℕ) → Type 0
Multiple m n = (k : ℕ) × (n ≡ k * m)

-- the tables stand one after the other from a to b, with no gap and no overlap
abbrev pub Tiles : (a b : ℕ) → List Table → Type 0
Tiles a b [] = a ≡ b
Tiles a b (x ∷ xs) = (x.base ≡ a) × Tiles (a + x.bytes) b xs

-- x goes before y: it has more bytes, or as many and a lower index
abbrev pub Before : Table → Table → Type 0
Before x y = (y.bytes < x.bytes) ⊎ ((y.bytes ≡ x.bytes) × (x.index < y.index))

abbrev pub Ordered : List Table → Type 0
Ordered [] = Unit {0}
Ordered (x ∷ xs) = All (Before x) xs × Ordered xs

-- an accepted layout: it tiles the area, each base is a multiple of its bytes, the tables stand in order, and each is there with its size
pub record GoodLayout (counts entries : List ℕ) (l : Layout) : Type 0 where
  pub tiles : Tiles 0 l.total l.rows
  pub multiples : All (λ t. Multiple t.bytes t.base) l.rows
  pub ordered : Ordered l.rows
  pub many : length l.rows ≡ length counts
  pub there : (i : ℕ) → i < length counts → based (table_in i l.rows) 0 ≡ table_of i (get_or counts i 0) (get_or entries i 0)

-- two ranges have no byte in common
abbrev pub Apart : Range → Range → Type 0
Apart r s = (r.virt + r.bytes ≤ s.virt) ⊎ (s.virt + s.bytes ≤ r.virt)

abbrev pub Each : (Range → Type 0) → List Range → Type 0
Each P [] = Unit {0}
Each P (r ∷ rs) = P r × Each P rs

abbrev pub AllApart : List Range → Type 0
AllApart [] = Unit {0}
AllApart (r ∷ rs) = Each (Apart r) rs × AllApart rs

-- a range in whole pages, at least one and at most 2^24 of them, within the area
pub record GoodRange (total : ℕ) (r : Range) : Type 0 where
  pub from : Multiple 4096 r.virt
  pub pages : Multiple 4096 r.bytes
  pub some : 0 < r.bytes
  pub few : r.bytes ≤ 2 ^ 24 * 4096
  pub within : r.virt + r.bytes ≤ total

-- counts as a profile has them: four quarters of 2^24 for the cMPT, at most 2^21 of anything else
pub record Counted (counts : List ℕ) : Type 0 where
  pub eleven : length counts ≡ 11
  pub cmpt : get_or counts 8 0 ≡ 2 ^ 26
  pub others : (i : ℕ) → (i ≡ 8 → ⊥) → get_or counts i 0 ≤ 2 ^ 21

pub record GoodRanges (l : Layout) : Type 0 where
  pub fourteen : length l.ranges ≡ 14
  pub each : Each (GoodRange l.total) l.ranges
  pub apart : AllApart l.ranges
