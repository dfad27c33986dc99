-- How large the counts can be.
use Prim.Native.Nat.{ℕ, ◌+◌, ◌*◌, ◌/◌, ◌^◌, ◌≤◌, ◌<◌}
use mathlib.Core.Path.{◌≡◌, sym, subst}
use mathlib.Core.List.{List}
use native.Mathlib.Nat.{add-mul, div-lt_iff_lt-mul, mul-le-mul, div-mul-le_self}
use native.Mathlib.Omega.{arith}
use lib.Dec.{lit≤}
use Rattle.layout.specs.declared.Table.{Table}
use Rattle.layout.specs.Layout.{table_in}
use Rattle.layout.specs.Counts.{lines, first_free}
use Rattle.layout.specs.Inner.{All, Modest}
use Rattle.layout.proofs.Order.{modest_none}
use Rattle.layout.proofs.Placing.{all_find}
use Rattle.layout.proofs.Powers.{raised_le}

-- whole cache lines hold at most 63 entries more than are reserved
pub lines_lt : (reserved entry : ℕ) → 0 < entry → lines (reserved * entry) / entry < reserved + 64
lines_lt reserved entry h =
    (div-lt_iff_lt-mul {k = entry} {x = lines (reserved * entry)} {y = reserved + 64} h).1
    (omega (arith, div-mul-le_self (reserved * entry + 63) 64, add-mul reserved 64 entry))

pub free_le : (reserved entry : ℕ) → 0 < entry → reserved < 2 ^ 16 → first_free reserved entry ≤ 2 ^ 17
free_le reserved entry h k = raised_le (lines (reserved * entry) / entry) 17 (lit≤ tt) (omega (arith, lines_lt reserved entry h))

-- the tables found among modest ones, and the products made of their fields
pub modest_found : (rows : List Table) (i : ℕ) {t : Table} → t ≡ table_in i rows → All Modest rows → Modest t
modest_found rows i e a = subst Modest (sym e) (all_find Modest i rows modest_none a)

pub quarter_le : (k e : ℕ) → k < 4 → e < 2 ^ 16 → k * (e * 2 ^ 24) ≤ 3 * 2 ^ 40
quarter_le k e h l = mul-le-mul {n₁ = k} {m₁ = e * 2 ^ 24} {n₂ = 3} {m₂ = 2 ^ 40} (omega arith) (omega arith)

pub cells_le : (n e : ℕ) → n ≤ 2 ^ 32 → e < 2 ^ 16 → n * e ≤ 2 ^ 48
cells_le n e h l = mul-le-mul {n₁ = n} {m₁ = e} {n₂ = 2 ^ 32} {m₂ = 2 ^ 16} h (omega arith)
