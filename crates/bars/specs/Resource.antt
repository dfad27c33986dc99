-- The firmware's resource list of a BAR, from its first byte to the descriptor that answers.
-- Document 02, Req 05; ACPI, QWORD address space descriptor and end tag; UEFI, PCI I/O Protocol,
-- GetBarAttributes.
use Rattle.std.specs.Prelude.{◌≡◌, ℕ, zero, suc, ◌+◌, ◌%◌, ◌^◌, ◌≤◌, not, ◌&&◌, List, [], ◌∷◌, length, ◌==◌, nat_le, slice_index, slice_index_or, Result, Ok, Err}
use Rattle.std.specs.Prelude as std
use Rattle.std.proofs.Math.Option.{Option, none, some}
use Rattle.fields.specs.Outcome.{Outcome, value, refused, pick}
use Rattle.fields.specs.Fields.{number_at}
use Rattle.fields.specs.declared.Order.TheVariants.{Little}
use Rattle.bars.specs.declared.BarRange.{BarRange}
use Rattle.bars.specs.declared.BadList.{BadList}

-- what a list comes to: a base and a length; no answer; or 27, with no value beside it
abbrev pub Answer : Type 0
Answer = Outcome (Option (ℕ × ℕ))

abbrev pub no_answer : Answer
no_answer = value none

-- "27 when a memory BAR's descriptor length is below 43, or the list runs out before 0x79 with no
-- whole memory descriptor found"
abbrev pub bad : Answer
bad = refused 27 []

-- "a 16-bit little-endian length", "counted after the three header bytes"
abbrev pub length_in : List ℕ → ℕ
length_in d = number_at Little d 1 2

-- "minimum at 14, translation offset at 30, length at 38"; "The base for matching is the minimum plus
-- the translation offset, modulo 2^64." UEFI: the offset is what is added to the starting address of
-- a BAR to make it a PCI address.
abbrev pub range_in : List ℕ → ℕ × ℕ
range_in d = ((number_at Little d 14 8 + number_at Little d 30 8) % 2 ^ 64, number_at Little d 38 8)

-- a memory descriptor gives the BAR if it has all its fields and is whole
abbrev pub memory_in : List ℕ → Answer
memory_in d = pick (nat_le 43 (length_in d) && nat_le (3 + length_in d) (length d)) (value (some (range_in d))) bad

-- What the bytes from one descriptor on come to, where `on` is what those behind it come to.
-- "another tag there, or 0x79 before any memory one, is no answer"; where the type at 3 is cut off,
-- the list has run out; "the first memory one gives the BAR"; "Descriptors of type other than 0 are
-- passed over"
abbrev pub entry_of : List ℕ → (on : Answer) → Answer
entry_of d on =
    pick (not (slice_index d 0 == 0x8a)) no_answer
    (pick (nat_le (length d) 3) bad
    (pick (slice_index d 3 == 0) (memory_in d) on))

-- "Walk the list": n more bytes belong to a descriptor that is passed over "by [its] length, counted
-- after the three header bytes", of which the tag is the first
unfoldable pub walk : (n : ℕ) → List ℕ → Answer
walk n [] = bad
walk (suc n) (x ∷ xs) = walk n xs
walk zero (x ∷ xs) = entry_of (x ∷ xs) (walk (2 + length_in (x ∷ xs)) xs)

abbrev pub resource_at : List ℕ → Answer
resource_at bytes = walk 0 bytes

-- what each end of a walk stands for
abbrev pub listed : Result (std.Option BarRange) BadList → Answer
listed (Ok (std.Some r)) = value (some (r.base, r.length))
listed (Ok std.None) = no_answer
listed (Err e) = bad

-- Document 01, the Rust's rule, which still holds of a list of one memory range: "A resource of 46
-- bytes or more starting with 0x8a gives base at 14 and length at 38 (little-endian 64 bits); anything
-- else is no answer."
abbrev pub first_rule : List ℕ → Option (ℕ × ℕ)
first_rule bytes =
    pick (nat_le 46 (length bytes) && slice_index bytes 0 == 0x8a)
    (some (number_at Little bytes 14 8, number_at Little bytes 38 8)) none

-- the list begins with a whole memory descriptor that this rule reads alike: "its offset 0 and
-- descriptor length 43 or more"
pub record Leads (s : List ℕ) : Type 0 where
  pub tag : slice_index_or s 0 0 ≡ 0x8a
  pub memory : slice_index_or s 3 0 ≡ 0
  pub long : 43 ≤ length_in s
  pub whole : 3 + length_in s ≤ length s
  pub unmoved : number_at Little s 30 8 ≡ 0
