-- The BAR dwords: the address that one holds, and the indices that PCI I/O may know it by. Document 01, bars.
use Rattle.std.specs.Prelude.{ℕ, suc, ◌+◌, ◌*◌, ◌/◌, ◌%◌, Bool, true, false, not, ◌&&◌, List, [], ◌∷◌, take, ◌==◌, nat_le, slice_index, Result, Ok, Err}
use Rattle.fields.specs.Outcome.{Outcome, value, refused, pick}
use Rattle.bars.specs.declared.BadRegister.{BadRegister}
use Rattle.bars.specs.declared.Indices.{Indices}

-- Public document: PCI Local Bus, base address registers (what the low bits say; the two dwords of
-- a 64-bit BAR). It was not at hand; bits and places are those of Linux's pci_regs.h.
-- "A BAR dword with low three bits 4 is 64-bit."
abbrev pub is64 : ℕ → Bool
is64 dword = dword % 8 == 4

-- "`base` clears two low bits if bit 0 is set, else four"
abbrev pub low_part : ℕ → ℕ
low_part dword = pick (dword % 2 == 1) (dword / 4 * 4) (dword / 16 * 16)

-- "and adds the next dword as high half if 64-bit and not register 5"
abbrev pub high_part : List ℕ → ℕ → ℕ
high_part regs reg = pick (not (reg == 5) && is64 (slice_index regs reg)) (slice_index regs (reg + 1)) 0

-- "register above 5": 4
abbrev pub in_range : {A : Type 0} → ℕ → A → Outcome A
in_range reg x = pick (nat_le reg 5) (value x) (refused 4 [])

abbrev pub base_of : List ℕ → ℕ → ℕ
base_of regs reg = high_part regs reg * 4294967296 + low_part (slice_index regs reg)

abbrev pub base_at : List ℕ → ℕ → Outcome ℕ
base_at regs reg = in_range reg (base_of regs reg)

-- "the count of BARs before it": of these dwords each starts a BAR, unless it is the high half of a 64-bit one (`half`)
unfoldable pub bars : (half : Bool) → List ℕ → ℕ
bars half [] = 0
bars true (dword ∷ rest) = bars false rest
bars false (dword ∷ rest) = suc (bars (is64 dword) rest)

abbrev pub count_of : List ℕ → ℕ → ℕ
count_of regs reg = bars false (take reg regs)

-- "`candidates`: the register number, and the count of BARs before it"
abbrev pub candidates_at : List ℕ → ℕ → Outcome (ℕ × ℕ)
candidates_at regs reg = in_range reg (reg, count_of regs reg)

-- what each answer stands for
abbrev pub address : Result ℕ BadRegister → Outcome ℕ
address (Ok base) = value base
address (Err e) = refused 4 []

abbrev pub indices : Result Indices BadRegister → Outcome (ℕ × ℕ)
indices (Ok i) = value (i.first, i.second)
indices (Err e) = refused 4 []
