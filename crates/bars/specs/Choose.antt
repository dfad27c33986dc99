-- Which index PCI I/O has for a BAR, as a function of what it would say about each: which indices are asked, in order, and which is picked.
-- Document 01: "`choose` asks both (once if equal); if the base is not 0, a matching base wins, then the other indices 0 to 5 in rising order; else
-- the single answer, else the first, else the first candidate with no size."
-- Public document: UEFI, PCI I/O Protocol, which knows a BAR by an index from 0 to 5. It was not at
-- hand: that the index may be that of the register or count the BARs is the Rust's reading, and
-- both are asked.
use Rattle.std.specs.Prelude.{ℕ, zero, suc, ◌-◌, Bool, true, false, not, ◌&&◌, ◌||◌, List, [], ◌∷◌, ◌++◌, ◌==◌, Option, Some, None}
use Rattle.fields.specs.Outcome.{pick}
use Rattle.bars.specs.declared.BarRange.{BarRange}
use Rattle.bars.specs.declared.How.{How}
use Rattle.bars.specs.declared.How.TheVariants as h

-- what PCI I/O would say about each index
abbrev pub Table : Type 0
Table = ℕ → Option BarRange

-- it knows the index
abbrev pub answers : Option BarRange → Bool
answers (Some r) = true
answers None = false

-- it knows the index, and by that base
abbrev pub has_base : ℕ → Option BarRange → Bool
has_base want (Some r) = r.base == want
has_base want None = false

-- the indices, as they stand, that pass a test
unfoldable pub those : (ℕ → Bool) → List ℕ → List ℕ
those test [] = []
those test (i ∷ is) = pick (test i) (i ∷ those test is) (those test is)

-- the indices up to and with the first that passes a test
unfoldable pub up_to : (ℕ → Bool) → List ℕ → List ℕ
up_to test [] = []
up_to test (i ∷ is) = i ∷ pick (test i) [] (up_to test is)

-- some index passes
unfoldable pub any : (ℕ → Bool) → List ℕ → Bool
any test [] = false
any test (i ∷ is) = test i || any test is

-- the first index that passes, chosen this way; else what stands at the end
unfoldable pub first_of : (ℕ → Bool) → List ℕ → How → ℕ × How → ℕ × How
first_of test [] how none = none
first_of test (i ∷ is) how none = pick (test i) (i, how) (first_of test is how none)

-- n indices from i on, rising
unfoldable pub rising : (i n : ℕ) → List ℕ
rising i zero = []
rising i (suc n) = i ∷ rising (suc i) n

-- "asks both (once if equal)"
abbrev pub both : (first second : ℕ) → List ℕ
both first second = pick (first == second) (first ∷ []) (first ∷ second ∷ [])

-- "the other indices 0 to 5 in rising order", here those from i on
abbrev pub is_other : (first second i : ℕ) → Bool
is_other first second i = not (i == first) && not (i == second)

abbrev pub others_from : (first second i : ℕ) → List ℕ
others_from first second i = those (is_other first second) (rising i (6 - i))

-- "else the single answer, else the first, else the first candidate": by the candidates that answered
abbrev pub settled : (first : ℕ) (answered : List ℕ) → ℕ × How
settled first [] = (first, h.NoAnswer)
settled first (i ∷ []) = (i, h.OnlyAnswer)
settled first (i ∷ j ∷ is) = (first, h.NoMatch)

module _ (base first second : ℕ) (t : Table) where
  -- the index has the base wanted
  abbrev matches : ℕ → Bool
  matches i = has_base base (t i)

  -- the indices asked, in order
  unfoldable pub asked : List ℕ
  asked = both first second ++ pick (base == 0 || any matches (both first second)) [] (up_to matches (others_from first second 0))

  -- the index picked, and how
  unfoldable pub chosen : ℕ × How
  chosen =
      let none : ℕ × How = settled first (those (λ i. answers (t i)) (both first second)) in
      pick (base == 0) none (first_of matches (both first second) h.BaseMatches (first_of matches (others_from first second 0) h.Scan none))
