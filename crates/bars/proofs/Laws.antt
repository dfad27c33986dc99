-- Laws of the count of BARs.
use Rattle.std.proofs.Common.{◌≡◌, ℕ, suc, ◌+◌, ◌<◌, ◌≤◌, Bool, true, false, List, [], ◌∷◌, length, get_or, take, drop, sym, arith, length-take, length-drop}
use Rattle.std.proofs.lemmas.List.{at_drop_more}
use Rattle.bars.specs.Bars.{is64, bars, count_of}

-- a dword starts a BAR, or is the high half of one
pub bars_start : (xs : List ℕ) (i : ℕ) → i < length xs → suc (bars (is64 (get_or xs i 0)) (drop (i + 1) xs)) ≡ bars false (drop i xs)
unfolding bars
bars_start xs i h = sym (at_drop_more (bars false) xs i 0 h)

pub bars_half : (xs : List ℕ) (i : ℕ) → i < length xs → bars false (drop (i + 1) xs) ≡ bars true (drop i xs)
unfolding bars
bars_half xs i h = sym (at_drop_more (bars true) xs i 0 h)

bars_le : (half : Bool) (xs : List ℕ) → bars half xs ≤ length xs
unfolding bars
bars_le half [] = omega arith
bars_le true (x ∷ xs) = omega (arith, bars_le false xs)
bars_le false (x ∷ xs) = omega (arith, bars_le (is64 x) xs)

-- nothing is left to count
pub bars_end : (half : Bool) (xs : List ℕ) (i : ℕ) → length xs ≤ i → bars half (drop i xs) ≡ 0
bars_end half xs i h = omega (arith, bars_le half (drop i xs), length-drop i xs)

-- the second candidate is at most the first
pub count_le : (regs : List ℕ) (reg : ℕ) → count_of regs reg ≤ reg
count_le regs reg = omega (arith, bars_le false (take reg regs), length-take reg regs)
