-- The command register, as words. Document 01, hcr: "Status dword at 0x80680+0x18: GO bit 23, T bit 21, status top byte. Pending: GO set, or T equal to the
-- toggle. .. Writes at 0x00, 0x04, 0x08, 0x0c, 0x10, 0x14 (0xffff0000), then 0x18".
-- Public document: ConnectX-3 Programmer's Reference Manual, the command register and the opcodes.
-- It was not at hand: places, bits and numbers are document 01's and the Rust's.
use Rattle.std.specs.Prelude.{ℕ, zero, suc, ◌+◌, ◌*◌, ◌/◌, ◌%◌, ◌^◌, Bool, true, false, ◌||◌, not, List, [], ◌∷◌, ltb, eqb}
use Rattle.fields.specs.Outcome.{pick}
use Rattle.hcr.specs.declared.Post.{Post}
use Rattle.hcr.specs.declared.RegWrite.{RegWrite}

abbrev pub bit : ℕ → ℕ → Bool
bit i n = eqb (n / 2 ^ i % 2) 1

-- a flag as a digit
abbrev pub digit : Bool → ℕ
digit true = 1
digit false = 0

-- two flags are equal
abbrev pub same : Bool → Bool → Bool
same true b = b
same false b = not b

abbrev pub pending_in : (status : ℕ) → (toggle : Bool) → Bool
pending_in s t = bit 23 s || same (bit 21 s) t

abbrev pub status_in : ℕ → ℕ
status_in s = s / 2 ^ 24

-- "Start: toggle 1; if readable with GO clear, the opposite of T."
abbrev pub first_toggle : (status : ℕ) → Bool
first_toggle s = pick (bit 23 s) true (not (bit 21 s))

-- the dword at 0x18 that posts a command: GO, T, the modifier from bit 12 on, the opcode in bits 0 to 11
abbrev pub go_word : (toggle : Bool) → (op_mod op : ℕ) → ℕ
go_word t m op = 2 ^ 23 + digit t * 2 ^ 21 + m * 2 ^ 12 + op % 2 ^ 12

-- the registers are big-endian; the bus carries a dword with its bytes in the other order
abbrev pub swap_of : ℕ → ℕ
swap_of x = x % 256 * 2 ^ 24 + x / 2 ^ 8 % 256 * 2 ^ 16 + x / 2 ^ 16 % 256 * 2 ^ 8 + x / 2 ^ 24 % 256

-- where the command register stands in its BAR
abbrev pub register : ℕ → ℕ
register off = 0x80680 + off

abbrev pub write : (off value : ℕ) → RegWrite
write off v = record { offset = register off; value = swap_of v }

-- the writes of a command as the bus sees them, in their order; a fence stands before the last
abbrev pub writes_of : (toggle : Bool) → Post → List RegWrite
writes_of t p =
    write 0x00 (p.in_param / 2 ^ 32)
    ∷ write 0x04 (p.in_param % 2 ^ 32)
    ∷ write 0x08 p.in_mod
    ∷ write 0x0c (p.out_param / 2 ^ 32)
    ∷ write 0x10 (p.out_param % 2 ^ 32)
    ∷ write 0x14 0xffff0000
    ∷ write 0x18 (go_word t p.op_mod p.op)
    ∷ []

-- "Wait: 1,000 stalls of 1 µs, then 100 µs each": the length of stall number n, counted from 0, and of the first n together
abbrev pub stall_of : ℕ → ℕ
stall_of n = pick (ltb n 1000) 1 100

unfoldable pub waited_of : ℕ → ℕ
waited_of zero = 0
waited_of (suc n) = waited_of n + stall_of n

-- "22 client command or undo whose opcode bring-up or closing sends, queries excepted, or is above 0xfff"
abbrev pub reserved_ops : List ℕ
reserved_ops = 0x007 ∷ 0x008 ∷ 0x034 ∷ 0xff6 ∷ 0xff9 ∷ 0xffa ∷ 0xffb ∷ 0xffc ∷ 0xffd ∷ 0xffe ∷ 0xfff ∷ []

unfoldable pub is_in : ℕ → List ℕ → Bool
is_in n [] = false
is_in n (x ∷ xs) = eqb n x || is_in n xs

abbrev pub is_reserved : ℕ → Bool
is_reserved op = ltb 0xfff op || is_in op reserved_ops
