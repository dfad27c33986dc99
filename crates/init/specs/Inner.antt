-- What functions inside the crate ask; no public contract cites it.
use Rattle.std.specs.Prelude.{ℕ, ◌+◌, ◌≤◌, List, [], ◌∷◌}
use Rattle.init.specs.declared.Field.{Field}

-- each field ends within n bytes
abbrev pub Within : ℕ → List Field → Type 0
Within n [] = Unit {0}
Within n (f ∷ fs) = (f.offset + f.width ≤ n) × Within n fs
