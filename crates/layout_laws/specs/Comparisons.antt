-- What is shown of the comparisons that put tables in order. The theorems are `comparisons_good`, `eleven_good` and `passes_none` of proofs/.
use Rattle.std.specs.Prelude.{ℕ, ◌-◌, ◌*◌, ◌≤◌, ◌<◌, ◌≡◌, List, [], ◌∷◌, length}
use Rattle.layout.specs.declared.Table.{Table}
use Rattle.layout.specs.declared.Layout.{Layout}
use Rattle.layout.specs.Layout.{tables_from}
use Rattle.layout.specs.Inner.{All}

-- the tables come by falling bytes: none is larger than one before it
abbrev pub Falling : List Table → Type 0
Falling [] = Unit {0}
Falling (x ∷ xs) = All (λ y. y.bytes ≤ x.bytes) xs × Falling xs

-- each table is larger than all before it
abbrev pub Growing : List Table → Type 0
Growing [] = Unit {0}
Growing (x ∷ xs) = All (λ y. x.bytes < y.bytes) xs × Growing xs

-- m comparisons put these tables in order: at least n - 1 and at most n (n - 1) / 2, each reached
pub record GoodComparisons (tables : List Table) (m : ℕ) : Type 0 where
  pub least : length tables - 1 ≤ m
  pub most : m * 2 ≤ length tables * (length tables - 1)
  pub falling : Falling tables → m ≡ length tables - 1
  pub growing : Growing tables → m * 2 ≡ length tables * (length tables - 1)

-- the same of a layout of eleven tables
pub record GoodEleven (counts entries : List ℕ) (l : Layout) : Type 0 where
  pub least : 10 ≤ l.comparisons
  pub most : l.comparisons ≤ 55
  pub falling : Falling (tables_from 0 counts entries) → l.comparisons ≡ 10
  pub growing : Growing (tables_from 0 counts entries) → l.comparisons ≡ 55
