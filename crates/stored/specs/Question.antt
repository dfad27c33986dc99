-- A question's kind: its number, and how many values it has.
use Rattle.std.specs.Prelude.{◌≡◌, ℕ, ◌<◌, Result, MatchResult}
use Rattle.stored.specs.declared.question.Kind.{Kind}
use Rattle.stored.specs.declared.question.Kind.TheVariants.{Finished, ConfigRead16, ConfigRead32, ConfigWrite16, ConfigWrite32, RegRead, RegWrite, Attributes, Resource, Stall, Allocate, Map, Unmap, Free, Fence}
use Rattle.stored.specs.declared.question.UnknownKind.{UnknownKind}

-- the number over C linkage
abbrev pub kind_number : Kind → ℕ
kind_number Finished = 0
kind_number ConfigRead16 = 1
kind_number ConfigRead32 = 2
kind_number ConfigWrite16 = 3
kind_number ConfigWrite32 = 4
kind_number RegRead = 5
kind_number RegWrite = 6
kind_number Attributes = 7
kind_number Resource = 8
kind_number Stall = 9
kind_number Allocate = 10
kind_number Map = 11
kind_number Unmap = 12
kind_number Free = 13
kind_number Fence = 14

-- the kind that has the number, or an error with a number that no kind has
abbrev pub Decodes : ℕ → Result Kind UnknownKind → Type 0
Decodes n r = MatchResult r (λ k. kind_number k ≡ n) (λ e. (e.0 ≡ n) × (14 < n))

-- how many values a question of the kind has
abbrev pub value_count : Kind → ℕ
value_count Finished = 0
value_count ConfigRead16 = 1
value_count ConfigRead32 = 1
value_count ConfigWrite16 = 2
value_count ConfigWrite32 = 2
value_count RegRead = 2
value_count RegWrite = 3
value_count Attributes = 2
value_count Resource = 1
value_count Stall = 1
value_count Allocate = 1
value_count Map = 2
value_count Unmap = 1
value_count Free = 2
value_count Fence = 0
