-- WRONG ANSWERS. A contract is an equation of the answer with a definition, so a function that answers otherwise at one input does not meet it. A row has what the definition
-- gives at an input, as numbers, and two answers that a wrong function would give there. The theorem `wrong_refused` of proofs/ says that neither is the definition's.
use Rattle.std.specs.Prelude.{ℕ, ◌-◌, ◌^◌, Bool, true, false, List, [], ◌∷◌, ◌++◌, ◌≡◌, eqb, length, replicate, get_or, take, leb, Result, Ok, Err, Option, Some, None}
use Rattle.std.proofs.Math.Option as m
use Rattle.fields.specs.Outcome.{Outcome, value, refused, number_of, pick}
use Rattle.fields.specs.Fields.{fits, field_at, write_at, written_at, put_at}
use Rattle.fields.specs.declared.Order.{Order}
use Rattle.fields.specs.declared.Order.TheVariants.{Big, Little}
use Rattle.hcr.specs.Words.{pending_in, status_in, first_toggle, go_word, swap_of, writes_of, stall_of, waited_of, is_reserved}
use Rattle.hcr.specs.declared.Post.{Post}
use Rattle.hcr.specs.declared.RegWrite.{RegWrite}
use Rattle.dma.specs.Buffers.{pages_for, accept_at}
use Rattle.dma.specs.Blocks.{start_at, cut_of}
use Rattle.dma.specs.Pages.{pair_at}
use Rattle.dma.specs.PageList.{fill_at, filled_at}
use Rattle.dma.specs.declared.Block.{Block}
use Rattle.dma.specs.declared.Cutter.{Cutter}
use Rattle.dma.specs.declared.Listed.{Listed}
use Rattle.bars.specs.Bars.{is64, base_at, candidates_at}
use Rattle.bars.specs.Resource.{resource_at}
use Rattle.bars.specs.Choose as choose
use Rattle.bars.specs.Steps.{step_of, choose_at}
use Rattle.bars.specs.declared.BarRange.{BarRange}
use Rattle.bars.specs.declared.How.{How}
use Rattle.bars.specs.declared.How.TheVariants as h
use Rattle.bars.specs.declared.Candidate.{Candidate}
use Rattle.bars.specs.declared.Asking.{Asking}
use Rattle.bars.specs.declared.Asking.TheVariants as k
use Rattle.bars.specs.declared.Choice.{Choice}
use Rattle.bars.specs.declared.Next.{Next}
use Rattle.bars.specs.declared.Next.TheVariants as n
use Rattle.pci.specs.Suits.{suits_of}
use Rattle.pci.specs.Refusals.{refusal}
use Rattle.pci.specs.Views.{word_of, dword_of, qword_of, done_of, told_of, granted_of, mapped_of, list_of}
use Rattle.pci.specs.declared.Question.TheVariants as q
use Rattle.pci.specs.declared.Answer.{Answer}
use Rattle.pci.specs.declared.Answer.TheVariants as a
use Rattle.pci.specs.declared.Refusal.{Refusal}
use Rattle.pci.specs.declared.Refusal.TheVariants as r
use Rattle.pci.specs.declared.NoReply.{NoReply}
use Rattle.pci.specs.declared.NoReply.TheVariants.{Failed, Wrong}

-- answers as numbers: 0 and the value, or the refusal's number and values
abbrev pub told : Outcome ℕ → List ℕ
told (value n) = 0 ∷ n ∷ []
told (refused n vs) = n ∷ vs

abbrev pub told_by : {A : Type 0} → (A → List ℕ) → Outcome A → List ℕ
told_by f (value x) = 0 ∷ f x
told_by f (refused n vs) = n ∷ vs

abbrev pub told_unit : Outcome Unit → List ℕ
told_unit (value x) = 0 ∷ []
told_unit (refused n vs) = n ∷ vs

abbrev pub told_pair : Outcome (ℕ × ℕ) → List ℕ
told_pair (value p) = 0 ∷ p.0 ∷ p.1 ∷ []
told_pair (refused n vs) = n ∷ vs

abbrev pub told_range : m.Option (ℕ × ℕ) → List ℕ
told_range m.none = []
told_range (m.some p) = p.0 ∷ p.1 ∷ []

abbrev pub yes : Bool → ℕ
yes true = 1
yes false = 0

-- the same numbers
unfoldable pub alike : List ℕ → List ℕ → Bool
alike [] [] = true
alike [] (y ∷ ys) = false
alike (x ∷ xs) [] = false
alike (x ∷ xs) (y ∷ ys) = pick (eqb x y) (alike xs ys) false

pub record Row : Type 0 where
  pub asked : List ℕ
  pub first : List ℕ
  pub second : List ℕ

abbrev pub row : (asked first second : List ℕ) → Row
row a x y = record { asked = a; first = x; second = y }

-- one computed test over a table
abbrev pub refuses : Row → Bool
refuses r = pick (alike r.asked r.first) false (pick (alike r.asked r.second) false true)

unfoldable pub refuses_all : List Row → Bool
refuses_all [] = true
refuses_all (r ∷ rs) = pick (refuses r) (refuses_all rs) false

-- what it says: neither answer is the definition's
abbrev pub Refuses : Row → Type 0
Refuses r = (r.asked ≡ r.first → ⊥) × (r.asked ≡ r.second → ⊥)

unfoldable pub AllRefuse : List Row → Type 0
AllRefuse [] = Unit
AllRefuse (r ∷ rs) = Refuses r × AllRefuse rs

abbrev bytes : List ℕ
bytes = 1 ∷ 2 ∷ 3 ∷ 4 ∷ 5 ∷ 6 ∷ 7 ∷ 8 ∷ 9 ∷ []

abbrev more : List ℕ
more = bytes ++ (10 ∷ 11 ∷ 12 ∷ 13 ∷ 14 ∷ 15 ∷ 16 ∷ [])

abbrev zeros : ℕ → List ℕ
zeros n = replicate n 0

-- reading a field of any width up to eight bytes; writing one, with the slice as it is then
abbrev reads : Order → List ℕ → (off width : ℕ) → List ℕ
reads o s off w = told (pick (leb w 8) (field_at o s off w) (refused 21 []))

abbrev writes : Order → List ℕ → (off width x : ℕ) → List ℕ
writes o s off w x = told_unit (write_at s off w) ++ written_at o s off w x

-- fields, and the reader's methods and functions u8, byte, be16, be32, be64, whose definitions are the same: reading
abbrev pub reading : List Row
reading =
    -- room: a field that ends with the slice is refused; one that ends past it is read
    row (yes (fits bytes 1 8) ∷ yes (fits bytes 2 8) ∷ []) (0 ∷ 0 ∷ []) (1 ∷ 1 ∷ []) ∷
    -- room of an offset of 2^64 - 1: the sum is taken modulo 2^64; an empty field there
    row (yes (fits bytes (2 ^ 64 - 1) 2) ∷ yes (fits bytes (2 ^ 64 - 1) 0) ∷ []) (1 ∷ 0 ∷ []) (0 ∷ 1 ∷ []) ∷
    -- field: one byte too few; the other order
    row (reads Big bytes 1 3) (0 ∷ 0x0203 ∷ []) (0 ∷ 0x040302 ∷ []) ∷
    -- field of nine bytes, refused: read into eight; its first eight
    row (reads Big bytes 0 9) (0 ∷ 0x0203040506070809 ∷ []) (0 ∷ 0x0102030405060708 ∷ []) ∷
    -- field, refused: what there is of it; refused with 20
    row (reads Little bytes 7 3) (0 ∷ 0x0908 ∷ []) (20 ∷ []) ∷
    -- byte (and the reader's u8 and byte): the offset is not looked at; refused
    row (told (field_at Big bytes 1 1)) (0 ∷ 1 ∷ []) (21 ∷ []) ∷
    -- byte of the last offset: refused where no second byte follows; the one before
    row (told (field_at Big bytes 8 1)) (21 ∷ []) (0 ∷ 8 ∷ []) ∷
    -- byte, refused: 0; the last byte
    row (told (field_at Big bytes 9 1)) (0 ∷ 0 ∷ []) (0 ∷ 9 ∷ []) ∷
    -- be16 (and the reader's): the other order; the offset is not looked at
    row (told (field_at Big bytes 1 2)) (0 ∷ 0x0302 ∷ []) (0 ∷ 0x0102 ∷ []) ∷
    -- be16, refused: a byte past the end counts as 0; the one before is taken
    row (told (field_at Big bytes 8 2)) (0 ∷ 0x0900 ∷ []) (0 ∷ 0x0809 ∷ []) ∷
    -- be32 (and the reader's): two of its bytes; the other order
    row (told (field_at Big bytes 1 4)) (0 ∷ 0x0203 ∷ []) (0 ∷ 0x05040302 ∷ []) ∷
    -- be32, refused: bytes past the end count as 0; refused with 20
    row (told (field_at Big bytes 6 4)) (0 ∷ 0x07080900 ∷ []) (20 ∷ []) ∷
    -- be64 (and the reader's): the other order; the low half
    row (told (field_at Big bytes 1 8)) (0 ∷ 0x0908070605040302 ∷ []) (0 ∷ 0x06070809 ∷ []) ∷
    -- be64 of sixteen bytes: the one at the next offset; refused
    row (told (field_at Big more 0 8)) (0 ∷ 0x090a0b0c0d0e0f10 ∷ []) (21 ∷ []) ∷
    -- be64, refused: a byte past the end counts as 0; the last eight bytes
    row (told (field_at Big bytes 2 8)) (0 ∷ 0x0304050607080900 ∷ []) (0 ∷ 0x0203040506070809 ∷ []) ∷
    -- le16: the other order; the offset is not looked at
    row (told (field_at Little bytes 1 2)) (0 ∷ 0x0203 ∷ []) (0 ∷ 0x0201 ∷ []) ∷
    -- le16, refused: a byte past the end counts as 0; the last two bytes
    row (told (field_at Little bytes 8 2)) (0 ∷ 0x0009 ∷ []) (0 ∷ 0x0908 ∷ []) ∷
    -- le64: the other order; the offset is not looked at
    row (told (field_at Little bytes 1 8)) (0 ∷ 0x0203040506070809 ∷ []) (0 ∷ 0x0807060504030201 ∷ []) ∷
    -- le64, refused: a byte past the end counts as 0; refused with 20
    row (told (field_at Little bytes 2 8)) (0 ∷ 0x0009080706050403 ∷ []) (20 ∷ []) ∷
    -- the reader's new, as the bytes that it holds: none; all but the last
    row bytes [] (1 ∷ 2 ∷ 3 ∷ 4 ∷ 5 ∷ 6 ∷ 7 ∷ 8 ∷ []) ∷
    []

-- fields: writing, done or the refusal's number, and the slice as it is then
abbrev pub writing : List Row
writing =
    -- set_byte: at the start; not at all
    row (writes Big (zeros 3) 1 1 0xab) (0 ∷ 0xab ∷ 0 ∷ 0 ∷ []) (0 ∷ 0 ∷ 0 ∷ 0 ∷ []) ∷
    -- set_byte, refused: the last byte is written; said to be done
    row (writes Big (zeros 2) 2 1 0xab) (21 ∷ 0 ∷ 0xab ∷ []) (0 ∷ 0 ∷ 0 ∷ []) ∷
    -- set_be16: the other order; one place too low
    row (writes Big (zeros 4) 1 2 0xabcd) (0 ∷ 0 ∷ 0xcd ∷ 0xab ∷ 0 ∷ []) (0 ∷ 0xab ∷ 0xcd ∷ 0 ∷ 0 ∷ []) ∷
    -- set_be16: each byte with the next weight's digit; its low byte twice
    row (writes Big (zeros 4) 1 2 0xabcd) (0 ∷ 0 ∷ 0 ∷ 0xab ∷ 0 ∷ []) (0 ∷ 0 ∷ 0xcd ∷ 0xcd ∷ 0 ∷ []) ∷
    -- set_be16, refused: what fits is written; the end of the slice is written
    row (writes Big (zeros 2) 1 2 0xabcd) (21 ∷ 0 ∷ 0xab ∷ []) (21 ∷ 0xab ∷ 0xcd ∷ []) ∷
    -- set_be16, refused: said to be done; refused with 20
    row (writes Big (zeros 2) 1 2 0xabcd) (0 ∷ 0 ∷ 0 ∷ []) (20 ∷ 0 ∷ 0 ∷ []) ∷
    -- set_be32: the other order; one place too low
    row (writes Big (zeros 5) 1 4 0x01020304) (0 ∷ 0 ∷ 4 ∷ 3 ∷ 2 ∷ 1 ∷ []) (0 ∷ 1 ∷ 2 ∷ 3 ∷ 4 ∷ 0 ∷ []) ∷
    -- set_be32, refused: what fits is written; said to be done
    row (writes Big (zeros 4) 1 4 0x01020304) (21 ∷ 0 ∷ 1 ∷ 2 ∷ 3 ∷ []) (0 ∷ 0 ∷ 0 ∷ 0 ∷ 0 ∷ []) ∷
    -- set_be64: the other order; its low half alone
    row (writes Big (zeros 8) 0 8 0x0102030405060708) (0 ∷ 8 ∷ 7 ∷ 6 ∷ 5 ∷ 4 ∷ 3 ∷ 2 ∷ 1 ∷ []) (0 ∷ 0 ∷ 0 ∷ 0 ∷ 0 ∷ 5 ∷ 6 ∷ 7 ∷ 8 ∷ []) ∷
    -- set_be64, refused: the low bytes are written; said to be done
    row (writes Big (zeros 4) 0 8 0x0102030405060708) (21 ∷ 5 ∷ 6 ∷ 7 ∷ 8 ∷ []) (0 ∷ 0 ∷ 0 ∷ 0 ∷ 0 ∷ []) ∷
    -- set_le16: the other order; one place too low
    row (writes Little (zeros 4) 1 2 0xabcd) (0 ∷ 0 ∷ 0xab ∷ 0xcd ∷ 0 ∷ []) (0 ∷ 0xcd ∷ 0xab ∷ 0 ∷ 0 ∷ []) ∷
    -- set_le16, refused: what fits is written; said to be done
    row (writes Little (zeros 2) 1 2 0xabcd) (21 ∷ 0 ∷ 0xcd ∷ []) (0 ∷ 0 ∷ 0 ∷ []) ∷
    -- set_le64: the other order; its low half alone
    row (writes Little (zeros 8) 0 8 0x0102030405060708) (0 ∷ 1 ∷ 2 ∷ 3 ∷ 4 ∷ 5 ∷ 6 ∷ 7 ∷ 8 ∷ []) (0 ∷ 8 ∷ 7 ∷ 6 ∷ 5 ∷ 0 ∷ 0 ∷ 0 ∷ 0 ∷ []) ∷
    -- set_le64, refused: the low bytes are written; said to be done
    row (writes Little (zeros 4) 0 8 0x0102030405060708) (21 ∷ 8 ∷ 7 ∷ 6 ∷ 5 ∷ []) (0 ∷ 0 ∷ 0 ∷ 0 ∷ 0 ∷ []) ∷
    -- set_field of three bytes: two of them; the other order
    row (writes Big (zeros 4) 1 3 0x010203) (0 ∷ 0 ∷ 2 ∷ 3 ∷ 0 ∷ []) (0 ∷ 0 ∷ 3 ∷ 2 ∷ 1 ∷ []) ∷
    -- set_field, refused: what fits is written; refused with 20
    row (writes Big (zeros 3) 1 3 0x010203) (21 ∷ 0 ∷ 1 ∷ 2 ∷ []) (20 ∷ 0 ∷ 0 ∷ 0 ∷ []) ∷
    -- zero: not; all but the first
    row (zeros (length {A = ℕ} (7 ∷ 8 ∷ []))) (7 ∷ 8 ∷ []) (7 ∷ 0 ∷ []) ∷
    -- zero: ones; all but the last
    row (zeros (length {A = ℕ} (7 ∷ 8 ∷ []))) (255 ∷ 255 ∷ []) (0 ∷ 8 ∷ []) ∷
    []

abbrev post : Post
post = record { op = 0x43; op_mod = 1; in_mod = 2; in_param = 0x1122334455667788; out_param = 0x99aabbccddeeff00 }

-- each write's offset and value
unfoldable pub write_numbers : List RegWrite → List ℕ
write_numbers [] = []
write_numbers (w ∷ ws) = w.offset ∷ w.value ∷ write_numbers ws

-- hcr: the words of the command register
abbrev pub words : List Row
words =
    -- pending: GO is not looked at, or in another bit; T set is pending, whatever the toggle
    row (yes (pending_in 0x800000 true) ∷ yes (pending_in 0x200000 true) ∷ yes (pending_in 0x200000 false) ∷ yes (pending_in 0 false) ∷ [])
    (0 ∷ 1 ∷ 0 ∷ 1 ∷ []) (1 ∷ 1 ∷ 1 ∷ 1 ∷ []) ∷
    -- status: the byte below the top one; the lowest
    row (status_in 0x50800001 ∷ []) (0x80 ∷ []) (1 ∷ []) ∷
    -- first_toggle: T itself; always 1
    row (yes (first_toggle 0x800000) ∷ yes (first_toggle 0x200000) ∷ yes (first_toggle 0) ∷ []) (1 ∷ 1 ∷ 0 ∷ []) (1 ∷ 1 ∷ 1 ∷ []) ∷
    -- first_toggle with GO (and T, and bit 22): GO is not looked at; it is looked for in bit 22
    row (yes (first_toggle 0xa00000) ∷ yes (first_toggle 0x600000) ∷ []) (0 ∷ 0 ∷ []) (0 ∷ 1 ∷ []) ∷
    -- go_word: without T; the modifier one bit too low
    row (go_word true 1 0x43 ∷ []) (0x801043 ∷ []) (0xa00843 ∷ []) ∷
    -- go_word: GO one bit too low; an opcode above twelve bits reaches the modifier
    row (go_word true 1 0x2043 ∷ []) (0x601043 ∷ []) (0xa03043 ∷ []) ∷
    -- swap: not; the halves alone
    row (swap_of 0x01020304 ∷ []) (0x01020304 ∷ []) (0x03040102 ∷ []) ∷
    -- swap: the outer bytes stay; the inner ones stay
    row (swap_of 0x01020304 ∷ []) (0x01030204 ∷ []) (0x04020301 ∷ []) ∷
    -- writes: the low half of the input parameter for its high one; the output parameter's halves exchanged
    row (write_numbers (writes_of true post))
    (0x80680 ∷ 0x88776655 ∷ 0x80684 ∷ 0x88776655 ∷ 0x80688 ∷ 0x02000000 ∷ 0x8068c ∷ 0xccbbaa99 ∷ 0x80690 ∷ 0x00ffeedd ∷ 0x80694 ∷ 0x0000ffff ∷ 0x80698 ∷ 0x4310a000 ∷ [])
    (0x80680 ∷ 0x44332211 ∷ 0x80684 ∷ 0x88776655 ∷ 0x80688 ∷ 0x02000000 ∷ 0x8068c ∷ 0x00ffeedd ∷ 0x80690 ∷ 0xccbbaa99 ∷ 0x80694 ∷ 0x0000ffff ∷ 0x80698 ∷ 0x4310a000 ∷ []) ∷
    -- writes: as the registers have them, not as the bus does; input and output exchanged
    row (write_numbers (writes_of true post))
    (0x80680 ∷ 0x11223344 ∷ 0x80684 ∷ 0x55667788 ∷ 0x80688 ∷ 2 ∷ 0x8068c ∷ 0x99aabbcc ∷ 0x80690 ∷ 0xddeeff00 ∷ 0x80694 ∷ 0xffff0000 ∷ 0x80698 ∷ 0xa01043 ∷ [])
    (0x80680 ∷ 0xccbbaa99 ∷ 0x80684 ∷ 0x00ffeedd ∷ 0x80688 ∷ 0x02000000 ∷ 0x8068c ∷ 0x44332211 ∷ 0x80690 ∷ 0x88776655 ∷ 0x80694 ∷ 0x0000ffff ∷ 0x80698 ∷ 0x4310a000 ∷ []) ∷
    -- writes: without T; without the token
    row (write_numbers (writes_of true post))
    (0x80680 ∷ 0x44332211 ∷ 0x80684 ∷ 0x88776655 ∷ 0x80688 ∷ 0x02000000 ∷ 0x8068c ∷ 0xccbbaa99 ∷ 0x80690 ∷ 0x00ffeedd ∷ 0x80694 ∷ 0x0000ffff ∷ 0x80698 ∷ 0x43108000 ∷ [])
    (0x80680 ∷ 0x44332211 ∷ 0x80684 ∷ 0x88776655 ∷ 0x80688 ∷ 0x02000000 ∷ 0x8068c ∷ 0xccbbaa99 ∷ 0x80690 ∷ 0x00ffeedd ∷ 0x80694 ∷ 0 ∷ 0x80698 ∷ 0x4310a000 ∷ []) ∷
    -- stall: always short; the 1,000th is long
    row (stall_of 999 ∷ stall_of 1000 ∷ []) (1 ∷ 1 ∷ []) (100 ∷ 100 ∷ []) ∷
    -- waited: one stall too few; long ones
    row (waited_of 3 ∷ []) (2 ∷ []) (300 ∷ []) ∷
    -- waited, 1,001 stalls: none long; the 1,000th long too
    row (waited_of 1001 ∷ []) (1001 ∷ []) (1199 ∷ []) ∷
    -- reserved (CLOSE_HCA, QUERY_DEV_CAP, thirteen bits): CLOSE_HCA let through; thirteen bits let through
    row (yes (is_reserved 0x008) ∷ yes (is_reserved 0x003) ∷ yes (is_reserved 0x1000) ∷ []) (0 ∷ 0 ∷ 1 ∷ []) (1 ∷ 0 ∷ 0 ∷ []) ∷
    -- reserved (MAP_FA, the last opcode; QUERY_FW): MAP_FA let through; a query refused
    row (yes (is_reserved 0xfff) ∷ yes (is_reserved 0x004) ∷ []) (0 ∷ 0 ∷ []) (1 ∷ 1 ∷ []) ∷
    []

-- a card address, a range that is to be cut, and a block, as numbers
abbrev pub virt_numbers : Option ℕ → List ℕ
virt_numbers (Some at) = 1 ∷ at ∷ []
virt_numbers None = 0 ∷ []

abbrev pub cutter_numbers : Cutter → List ℕ
cutter_numbers c = virt_numbers c.virt ++ (c.phys ∷ c.left ∷ [])

abbrev pub told_piece : m.Option (Block × Cutter) → List ℕ
told_piece m.none = []
told_piece (m.some p) = p.0.virt ∷ p.0.phys ∷ p.0.log ∷ cutter_numbers p.1

abbrev pub listed_numbers : Listed → List ℕ
listed_numbers m = m.entries ∷ cutter_numbers m.rest

abbrev cutter : Option ℕ → (phys left : ℕ) → Cutter
cutter at p n = record { virt = at; phys = p; left = n }

-- the first bytes of a mailbox that held ones
abbrev filled : ℕ → Cutter → List ℕ
filled n c = take n (filled_at 63 1 c (replicate 4096 255))

-- dma
abbrev pub buffers : List Row
buffers =
    -- pages_of (0 bytes, a page and a byte): no page for 0 bytes; rounded down
    row (told (pages_for 0) ++ told (pages_for 4097)) (0 ∷ 0 ∷ 0 ∷ 2 ∷ []) (0 ∷ 1 ∷ 0 ∷ 1 ∷ []) ∷
    -- pages_of, refused (2^64 - 4,095 bytes): taken; the sum modulo 2^64 taken
    row (told (pages_for (2 ^ 64 - 4095))) (0 ∷ 0x10000000000000 ∷ []) (0 ∷ 0 ∷ []) ∷
    -- pages_of (2^64 - 4,096 bytes, the most): refused; a page too many
    row (told (pages_for (2 ^ 64 - 4096))) (18 ∷ []) (0 ∷ 0x10000000000000 ∷ []) ∷
    -- accept (a page, half a page, the last page): half a page accepted; an end at exactly 2^64 refused
    row (told_unit (accept_at 0x1000 1) ++ told_unit (accept_at 0x1800 1) ++ told_unit (accept_at (2 ^ 64 - 4096) 1)) (0 ∷ 0 ∷ 0 ∷ []) (0 ∷ 18 ∷ 18 ∷ []) ∷
    -- accept, refused (an end above 2^64): accepted; refused with 5
    row (told_unit (accept_at (2 ^ 64 - 4096) 2)) (0 ∷ []) (5 ∷ []) ∷
    -- accept, refused (2^52 pages, more bytes than a buffer may have): accepted; refused with 5
    row (told_unit (accept_at 0 (2 ^ 52))) (0 ∷ []) (5 ∷ []) ∷
    -- blocks: an absent card address is 0; the end for the bytes left
    row (told_by cutter_numbers (start_at None 0x3000 0x5000)) (0 ∷ 1 ∷ 0 ∷ 0x3000 ∷ 0x5000 ∷ []) (0 ∷ 0 ∷ 0x3000 ∷ 0x8000 ∷ []) ∷
    -- blocks: card and host address exchanged; the card address left out
    row (told_by cutter_numbers (start_at (Some 0x1000) 0x3000 0x5000)) (0 ∷ 1 ∷ 0x3000 ∷ 0x1000 ∷ 0x5000 ∷ []) (0 ∷ 0 ∷ 0x3000 ∷ 0x5000 ∷ []) ∷
    -- blocks, refused (half a page): taken; rounded down to a page
    row (told_by cutter_numbers (start_at None 0x1800 0x1000)) (0 ∷ 0 ∷ 0x1800 ∷ 0x1000 ∷ []) (0 ∷ 0 ∷ 0x1000 ∷ 0x1000 ∷ []) ∷
    -- blocks that end at exactly 2^64: refused; nothing left
    row (told_by cutter_numbers (start_at None (2 ^ 64 - 4096) 4096)) (18 ∷ []) (0 ∷ 0 ∷ 0xfffffffffffff000 ∷ 0 ∷ []) ∷
    -- blocks, refused (a card address that ends above 2^64): taken; refused with 17
    row (told_by cutter_numbers (start_at (Some (2 ^ 64 - 4096)) 0x1000 0x2000)) (0 ∷ 1 ∷ 0xfffffffffffff000 ∷ 0x1000 ∷ 0x2000 ∷ []) (17 ∷ []) ∷
    -- blocks, refused (more bytes than a buffer may have): taken; cut to whole pages
    row (told_by cutter_numbers (start_at None 0 (2 ^ 64 - 1)))
    (0 ∷ 0 ∷ 0 ∷ 0xffffffffffffffff ∷ []) (0 ∷ 0 ∷ 0 ∷ 0xfffffffffffff000 ∷ []) ∷
    -- blocks of the most bytes: refused; a byte left out
    row (told_by cutter_numbers (start_at None 0 (2 ^ 64 - 4096))) (18 ∷ []) (0 ∷ 0 ∷ 0 ∷ 0xffffffffffffefff ∷ []) ∷
    -- cut: the next block starts where this one did; as many bytes left
    row (told_piece (cut_of 63 (cutter None 0x3000 0x5000))) (0 ∷ 0x3000 ∷ 12 ∷ 0 ∷ 0x3000 ∷ 0x4000 ∷ []) (0 ∷ 0x3000 ∷ 12 ∷ 0 ∷ 0x4000 ∷ 0x5000 ∷ []) ∷
    -- cut to the end: an exponent one too small; one too large
    row (told_piece (cut_of 63 (cutter None 0x8000 0x4000))) (0 ∷ 0x8000 ∷ 13 ∷ 0 ∷ 0xa000 ∷ 0x2000 ∷ []) (0 ∷ 0x8000 ∷ 15 ∷ 0 ∷ 0x10000 ∷ 0 ∷ []) ∷
    -- cut with 12 the largest: larger than allowed; one less than allowed
    row (told_piece (cut_of 12 (cutter None 0x4000 0x4000))) (0 ∷ 0x4000 ∷ 14 ∷ 0 ∷ 0x8000 ∷ 0 ∷ []) (0 ∷ 0x4000 ∷ 11 ∷ 0 ∷ 0x4800 ∷ 0x3800 ∷ []) ∷
    -- cut: not aligned on the card; the card address stays
    row (told_piece (cut_of 63 (cutter (Some 0x1000) 0x4000 0x4000)))
    (0x1000 ∷ 0x4000 ∷ 14 ∷ 1 ∷ 0x5000 ∷ 0x8000 ∷ 0 ∷ []) (0x1000 ∷ 0x4000 ∷ 12 ∷ 1 ∷ 0x1000 ∷ 0x5000 ∷ 0x3000 ∷ []) ∷
    -- cut of 2^64 - 1 bytes at 0: an exponent of 62; of 64
    row (told_piece (cut_of 255 (cutter None 0 (2 ^ 64 - 1)))) (0 ∷ 0 ∷ 62 ∷ 0 ∷ 0x4000000000000000 ∷ 0xbfffffffffffffff ∷ []) (0 ∷ 0 ∷ 64 ∷ 0 ∷ 0 ∷ 0 ∷ []) ∷
    -- cut with nothing left: a page; a block of a byte
    row (told_piece (cut_of 63 (cutter None 0x4000 0))) (0 ∷ 0x4000 ∷ 12 ∷ 0 ∷ 0x5000 ∷ 0 ∷ []) (0 ∷ 0x4000 ∷ 0 ∷ 0 ∷ 0x4001 ∷ 0 ∷ []) ∷
    -- fill, the answer: both blocks though one is to be listed; what is left is not moved on
    row (told_by listed_numbers (fill_at 63 1 (cutter None 0x3000 0x5000) (zeros 4096))) (0 ∷ 2 ∷ 0 ∷ 0x8000 ∷ 0 ∷ []) (0 ∷ 1 ∷ 0 ∷ 0x3000 ∷ 0x5000 ∷ []) ∷
    -- fill of 257 pages: 257 entries; 255
    row (told_by listed_numbers (fill_at 63 257 (cutter (Some 0x1000) 0x4000 0x101000) (zeros 4096)))
    (0 ∷ 257 ∷ 1 ∷ 0x102000 ∷ 0x105000 ∷ 0 ∷ []) (0 ∷ 255 ∷ 1 ∷ 0x100000 ∷ 0x103000 ∷ 0x2000 ∷ []) ∷
    -- fill, the entry: the exponent less 11; the exponent
    row (filled 16 (cutter None 0x4000 0x4000))
    (0 ∷ 0 ∷ 0 ∷ 0 ∷ 0 ∷ 0 ∷ 0 ∷ 0 ∷ 0 ∷ 0 ∷ 0 ∷ 0 ∷ 0 ∷ 0 ∷ 0x40 ∷ 3 ∷ []) (0 ∷ 0 ∷ 0 ∷ 0 ∷ 0 ∷ 0 ∷ 0 ∷ 0 ∷ 0 ∷ 0 ∷ 0 ∷ 0 ∷ 0 ∷ 0 ∷ 0x40 ∷ 14 ∷ []) ∷
    -- fill, the entry: card and host address exchanged; nothing written
    row (filled 16 (cutter (Some 0x1000) 0x4000 0x1000))
    (0 ∷ 0 ∷ 0 ∷ 0 ∷ 0 ∷ 0 ∷ 0x40 ∷ 0 ∷ 0 ∷ 0 ∷ 0 ∷ 0 ∷ 0 ∷ 0 ∷ 0x10 ∷ 0 ∷ [])
    (255 ∷ 255 ∷ 255 ∷ 255 ∷ 255 ∷ 255 ∷ 255 ∷ 255 ∷ 255 ∷ 255 ∷ 255 ∷ 255 ∷ 255 ∷ 255 ∷ 255 ∷ 255 ∷ []) ∷
    -- fill, the byte behind the last entry: it keeps what it held; an entry of the bytes that are not left
    row (get_or (filled_at 63 2 (cutter None 0x4000 0x4000) (replicate 4096 255)) 16 1 ∷ get_or (filled_at 63 2 (cutter None 0x4000 0x4000) (replicate 4096 255)) 30 1 ∷ [])
    (255 ∷ 255 ∷ []) (0 ∷ 0x80 ∷ []) ∷
    -- fill, refused (4,095 bytes): filled; refused with 20
    row (told_by listed_numbers (fill_at 63 1 (cutter None 0x4000 0x4000) (zeros 4095))) (0 ∷ 1 ∷ 0 ∷ 0x8000 ∷ 0 ∷ []) (20 ∷ []) ∷
    -- fill, refused, the slice then: zeroed; the low bytes of the entry written
    row (filled_at 63 1 (cutter None 0x4000 0x4000) (7 ∷ 8 ∷ [])) (0 ∷ 0 ∷ []) (0x40 ∷ 2 ∷ []) ∷
    -- page k of a range: k bytes behind device page k; card and device page exchanged
    row ((pair_at 0x1000 0x4000 1).0 ∷ (pair_at 0x1000 0x4000 1).1 ∷ []) (0x2000 ∷ 0x5001 ∷ []) (0x5000 ∷ 0x2000 ∷ []) ∷
    []

-- "BARs 0xf0000004, 0, 0xe000000c, 0"
abbrev dwords : List ℕ
dwords = 0xf0000004 ∷ 0 ∷ 0xe000000c ∷ 0 ∷ 0 ∷ 0 ∷ []

-- an I/O BAR; 64-bit BARs at registers 4 and 5
abbrev others : List ℕ
others = 0xc005 ∷ 0 ∷ 0 ∷ 0 ∷ 0xd000000c ∷ 0x14 ∷ []

-- a descriptor of 46 bytes, by its tag, its length field and its type, with a translation offset; and
-- a memory descriptor without one
abbrev quad : List ℕ → (off v : ℕ) → List ℕ
quad s off v = put_at Little s off 8 v

abbrev descriptor : (tag long type offset : ℕ) → List ℕ
descriptor tag long type offset =
    quad (quad (quad (tag ∷ long ∷ 0 ∷ type ∷ zeros 42) 14 0x1122334455667788) 30 offset) 38 0x800000

abbrev memory : List ℕ
memory = descriptor 0x8a 43 0 0

abbrev listed : List ℕ → List ℕ
listed bytes = told_by told_range (resource_at bytes)

-- bars: the registers, and what PCI I/O says of one
abbrev pub addresses : List Row
addresses =
    -- is_64bit (4, 12, 0): by four bits; by two
    row (yes (is64 4) ∷ yes (is64 12) ∷ yes (is64 0) ∷ []) (1 ∷ 0 ∷ 0 ∷ []) (1 ∷ 1 ∷ 1 ∷ []) ∷
    -- base: its low bits kept; the prefetchable bit kept
    row (told (base_at dwords 2)) (0 ∷ 0xe000000c ∷ []) (0 ∷ 0xe0000008 ∷ []) ∷
    -- base of an I/O BAR: four bits cleared; its bit 0 kept
    row (told (base_at others 0)) (0 ∷ 0xc000 ∷ []) (0 ∷ 0xc005 ∷ []) ∷
    -- base of register 4: no high half; the halves exchanged
    row (told (base_at others 4)) (0 ∷ 0xd0000000 ∷ []) (0 ∷ 0xd000000000000014 ∷ []) ∷
    -- base of register 5, which has no high half: the first register's; refused
    row (told (base_at others 5)) (0 ∷ 0xc00500000010 ∷ []) (4 ∷ []) ∷
    -- base of register 6, refused: 0; the last one's
    row (told (base_at others 6)) (0 ∷ 0 ∷ []) (0 ∷ 0x10 ∷ []) ∷
    -- candidates: a 64-bit BAR counts as two; the BARs behind it
    row (told_pair (candidates_at dwords 2)) (0 ∷ 2 ∷ 2 ∷ []) (0 ∷ 2 ∷ 0 ∷ []) ∷
    -- candidates of register 6, refused: both 0; counted
    row (told_pair (candidates_at dwords 6)) (0 ∷ 0 ∷ 0 ∷ []) (0 ∷ 6 ∷ 4 ∷ []) ∷
    -- resource: base and length exchanged; the other order
    row (listed memory) (0 ∷ 0x800000 ∷ 0x1122334455667788 ∷ []) (0 ∷ 0x8877665544332211 ∷ 0x800000000000 ∷ []) ∷
    -- resource of 45 bytes: no answer; a range with the bytes that are there
    row (listed (take 45 memory)) (0 ∷ []) (0 ∷ 0x1122334455667788 ∷ 0x800000 ∷ []) ∷
    -- resource of a DWORD descriptor: a range; 27
    row (listed (descriptor 0x87 43 0 0)) (0 ∷ 0x1122334455667788 ∷ 0x800000 ∷ []) (27 ∷ []) ∷
    -- resource with an offset of 2^64 - 0x1122334400000000: not added; added beyond 2^64
    row (listed (descriptor 0x8a 43 0 0xeeddccbc00000000))
    (0 ∷ 0x1122334455667788 ∷ 0x800000 ∷ []) (0 ∷ 0x10000000055667788 ∷ 0x800000 ∷ []) ∷
    -- resource of 42 bytes behind the header: a range; no answer
    row (listed (descriptor 0x8a 42 0 0)) (0 ∷ 0x1122334455667788 ∷ 0x800000 ∷ []) (0 ∷ []) ∷
    -- resource of an I/O range ahead of a memory one: the I/O range's; no answer
    row (listed (descriptor 0x8a 43 1 1 ++ memory)) (0 ∷ 0x1122334455667789 ∷ 0x800000 ∷ []) (0 ∷ []) ∷
    -- resource of an I/O range and the end tag: 27; a range
    row (listed (descriptor 0x8a 43 1 0 ++ (0x79 ∷ 0 ∷ []))) (27 ∷ []) (0 ∷ 0x1122334455667788 ∷ 0x800000 ∷ []) ∷
    -- resource of an I/O range without an end tag: no answer; a range
    row (listed (descriptor 0x8a 43 1 0)) (0 ∷ []) (0 ∷ 0x1122334455667788 ∷ 0x800000 ∷ []) ∷
    -- resource of two memory ranges: the last; both lengths
    row (listed (memory ++ descriptor 0x8a 43 0 1))
    (0 ∷ 0x1122334455667789 ∷ 0x800000 ∷ []) (0 ∷ 0x1122334455667788 ∷ 0x1000000 ∷ []) ∷
    -- resource of no bytes: no answer; an empty range
    row (listed []) (0 ∷ []) (0 ∷ 0 ∷ 0 ∷ []) ∷
    []

-- a choice under way, a pick, and what an answer leads to, as numbers
abbrev pub range_numbers : Option BarRange → List ℕ
range_numbers (Some r) = 1 ∷ r.base ∷ r.length ∷ []
range_numbers None = 0 ∷ []

abbrev pub asking_numbers : Asking → List ℕ
asking_numbers k.First = 1 ∷ []
asking_numbers k.Second = 2 ∷ []
asking_numbers (k.Other i) = 3 ∷ i ∷ []

abbrev pub candidate_numbers : Candidate → List ℕ
candidate_numbers c = c.index ∷ range_numbers c.answer

abbrev pub choice_numbers : Choice → List ℕ
choice_numbers c = c.base ∷ (candidate_numbers c.first ++ candidate_numbers c.second ++ asking_numbers c.asking)

abbrev pub size_numbers : Option ℕ → List ℕ
size_numbers (Some bytes) = 1 ∷ bytes ∷ []
size_numbers None = 0 ∷ []

abbrev pub how_number : How → ℕ
how_number h.BaseMatches = 1
how_number h.Scan = 2
how_number h.OnlyAnswer = 3
how_number h.NoMatch = 4
how_number h.NoAnswer = 5

abbrev pub told_next : Next → List ℕ
told_next (n.Ask i c) = 1 ∷ i ∷ choice_numbers c
told_next (n.Picked p) = 2 ∷ p.index ∷ (size_numbers p.size ++ (how_number p.how ∷ []))

abbrev pub start_numbers : ℕ × Choice → List ℕ
start_numbers p = p.0 ∷ choice_numbers p.1

-- candidates 2 and 1 of a base, with what was said of them
abbrev choice : ℕ → Option BarRange → Option BarRange → Asking → Choice
choice base x y q = record { base = base; first = record { index = 2; answer = x }; second = record { index = 1; answer = y }; asking = q }

-- the base that is looked for, and another
abbrev hit : Option BarRange
hit = Some (record { base = 0xe0000000; length = 0x800000 })

abbrev miss : Option BarRange
miss = Some (record { base = 0xd0000000; length = 0x1000 })

-- index 0 has the base
abbrev at_zero : ℕ → Option BarRange
at_zero i = pick (eqb i 0) hit None

abbrev pub chosen_numbers : ℕ × How → List ℕ
chosen_numbers p = p.0 ∷ how_number p.1 ∷ []

-- bars: the choice
abbrev pub choices : List Row
choices =
    -- choose: the register number twice; the count 0
    row (told_by start_numbers (choose_at dwords 2)) (0 ∷ 2 ∷ 0xe0000000 ∷ 2 ∷ 0 ∷ 2 ∷ 0 ∷ 1 ∷ []) (0 ∷ 2 ∷ 0xe0000000 ∷ 2 ∷ 0 ∷ 0 ∷ 0 ∷ 1 ∷ []) ∷
    -- choose of register 6, refused: begun with index 0; refused with 20
    row (told_by start_numbers (choose_at dwords 6)) (0 ∷ 0 ∷ 0 ∷ 0 ∷ 0 ∷ 0 ∷ 0 ∷ 1 ∷ []) (20 ∷ []) ∷
    -- step, the first candidate answers: its answer is lost; the second is not asked
    row (told_next (step_of (choice 0xe0000000 None None k.First) miss)) (1 ∷ 1 ∷ 0xe0000000 ∷ 2 ∷ 0 ∷ 1 ∷ 0 ∷ 2 ∷ []) (2 ∷ 2 ∷ 1 ∷ 0x1000 ∷ 3 ∷ []) ∷
    -- step, the first matches: picked before the second is asked; the second asked as the first
    row (told_next (step_of (choice 0xe0000000 None None k.First) hit))
    (2 ∷ 2 ∷ 1 ∷ 0x800000 ∷ 1 ∷ []) (1 ∷ 1 ∷ 0xe0000000 ∷ 2 ∷ 1 ∷ 0xe0000000 ∷ 0x800000 ∷ 1 ∷ 0 ∷ 1 ∷ []) ∷
    -- step, the second matches: the first is picked; the scan begins
    row (told_next (step_of (choice 0xe0000000 miss None k.Second) hit))
    (2 ∷ 2 ∷ 1 ∷ 0x1000 ∷ 1 ∷ []) (1 ∷ 0 ∷ 0xe0000000 ∷ 2 ∷ 1 ∷ 0xd0000000 ∷ 0x1000 ∷ 1 ∷ 1 ∷ 0xe0000000 ∷ 0x800000 ∷ 3 ∷ 0 ∷ []) ∷
    -- step, both match: the second is picked; told as a scan
    row (told_next (step_of (choice 0xe0000000 hit None k.Second) hit)) (2 ∷ 1 ∷ 1 ∷ 0x800000 ∷ 1 ∷ []) (2 ∷ 2 ∷ 1 ∷ 0x800000 ∷ 2 ∷ []) ∷
    -- step, none matches: settled without a scan; the scan begins at 3
    row (told_next (step_of (choice 0xe0000000 miss None k.Second) None))
    (2 ∷ 2 ∷ 1 ∷ 0x1000 ∷ 3 ∷ []) (1 ∷ 3 ∷ 0xe0000000 ∷ 2 ∷ 1 ∷ 0xd0000000 ∷ 0x1000 ∷ 1 ∷ 0 ∷ 3 ∷ 3 ∷ []) ∷
    -- step, the scan behind index 0: the second candidate again; the first again
    row (told_next (step_of (choice 0xe0000000 None None (k.Other 0)) None))
    (1 ∷ 1 ∷ 0xe0000000 ∷ 2 ∷ 0 ∷ 1 ∷ 0 ∷ 3 ∷ 1 ∷ []) (1 ∷ 2 ∷ 0xe0000000 ∷ 2 ∷ 0 ∷ 1 ∷ 0 ∷ 3 ∷ 2 ∷ []) ∷
    -- step, another index matches: told as a candidate; the scan goes on
    row (told_next (step_of (choice 0xe0000000 None None (k.Other 0)) hit)) (2 ∷ 0 ∷ 1 ∷ 0x800000 ∷ 1 ∷ []) (1 ∷ 3 ∷ 0xe0000000 ∷ 2 ∷ 0 ∷ 1 ∷ 0 ∷ 3 ∷ 3 ∷ []) ∷
    -- step, the scan behind index 4: index 5 is left out; index 6 is asked
    row (told_next (step_of (choice 0xe0000000 None None (k.Other 4)) None)) (2 ∷ 2 ∷ 0 ∷ 5 ∷ []) (1 ∷ 6 ∷ 0xe0000000 ∷ 2 ∷ 0 ∷ 1 ∷ 0 ∷ 3 ∷ 6 ∷ []) ∷
    -- step, the scan behind index 5: index 6 is asked; index 5 is picked
    row (told_next (step_of (choice 0xe0000000 None None (k.Other 5)) None)) (1 ∷ 6 ∷ 0xe0000000 ∷ 2 ∷ 0 ∷ 1 ∷ 0 ∷ 3 ∷ 6 ∷ []) (2 ∷ 5 ∷ 0 ∷ 5 ∷ []) ∷
    -- step, only the second answered: the first is picked as the only answer; as no answer
    row (told_next (step_of (choice 0xe0000000 None miss (k.Other 5)) None)) (2 ∷ 2 ∷ 0 ∷ 3 ∷ []) (2 ∷ 2 ∷ 0 ∷ 5 ∷ []) ∷
    -- step, both answered and none matches: the second is picked; told as the only answer
    row (told_next (step_of (choice 0xe0000000 miss miss (k.Other 5)) None)) (2 ∷ 1 ∷ 1 ∷ 0x1000 ∷ 4 ∷ []) (2 ∷ 2 ∷ 1 ∷ 0x1000 ∷ 3 ∷ []) ∷
    -- step, a base of 0: it is matched; the scan begins
    row (told_next (step_of (choice 0 (Some (record { base = 0; length = 0x1000 })) None k.Second) None)) (2 ∷ 2 ∷ 1 ∷ 0x1000 ∷ 1 ∷ []) (1 ∷ 0 ∷ 0 ∷ 2 ∷ 1 ∷ 0 ∷ 0x1000 ∷ 1 ∷ 0 ∷ 3 ∷ 0 ∷ []) ∷
    -- the indices asked where index 0 matches: asked on after the match; the others first
    row (choose.asked 0xe0000000 2 1 at_zero) (2 ∷ 1 ∷ 0 ∷ 3 ∷ 4 ∷ 5 ∷ []) (0 ∷ 2 ∷ 1 ∷ []) ∷
    -- the index picked then, and how: told as a candidate; the first candidate
    row (chosen_numbers (choose.chosen 0xe0000000 2 1 at_zero)) (0 ∷ 1 ∷ []) (2 ∷ 5 ∷ []) ∷
    []

-- what an answer of each kind says: a value is 0 and the value, failed is 1, another kind is 20
abbrev kinds : (Answer → List ℕ) → List ℕ
kinds f = f (a.Word 5) ++ f (a.Dword 6) ++ f (a.Qword 7) ++ f a.Done ++ f a.Failed ++ f (a.Handle 8) ++ f (a.Mapped 9 10) ++ f a.List

abbrev pub told_reply : {A : Type 0} → (A → List ℕ) → Result A NoReply → List ℕ
told_reply f (Ok x) = 0 ∷ f x
told_reply f (Err Failed) = 1 ∷ []
told_reply f (Err Wrong) = 20 ∷ []

abbrev pub told_number : Result ℕ NoReply → List ℕ
told_number r = told_reply (λ n. n ∷ []) r

abbrev pub told_done : Result (Unit {0}) NoReply → List ℕ
told_done r = told_reply (λ u. []) r

abbrev pub told_told : Bool → List ℕ
told_told true = 0 ∷ []
told_told false = 20 ∷ []

abbrev pub told_map : Result (ℕ × ℕ) NoReply → List ℕ
told_map r = told_reply (λ (x, y). x ∷ y ∷ []) r

-- pci: what an answer says to a question of each kind
abbrev pub views : List Row
views =
    -- as_word: a dword is taken; failed told as ones
    row (kinds (λ x. told_number (word_of x))) (0 ∷ 5 ∷ 0 ∷ 6 ∷ 20 ∷ 20 ∷ 1 ∷ 20 ∷ 20 ∷ 20 ∷ []) (0 ∷ 5 ∷ 20 ∷ 20 ∷ 20 ∷ 0 ∷ 0xffff ∷ 20 ∷ 20 ∷ 20 ∷ []) ∷
    -- as_dword: a word is taken; failed told as ones
    row (kinds (λ x. told_number (dword_of x))) (0 ∷ 5 ∷ 0 ∷ 6 ∷ 20 ∷ 20 ∷ 1 ∷ 20 ∷ 20 ∷ 20 ∷ []) (20 ∷ 0 ∷ 6 ∷ 20 ∷ 20 ∷ 0 ∷ 0xffffffff ∷ 20 ∷ 20 ∷ 20 ∷ []) ∷
    -- as_qword: a dword told as failed; done taken for 0
    row (kinds (λ x. told_number (qword_of x))) (20 ∷ 1 ∷ 0 ∷ 7 ∷ 20 ∷ 1 ∷ 20 ∷ 20 ∷ 20 ∷ []) (20 ∷ 20 ∷ 0 ∷ 7 ∷ 0 ∷ 0 ∷ 1 ∷ 20 ∷ 20 ∷ 20 ∷ []) ∷
    -- as_done: failed counts as done; a dword does
    row (kinds (λ x. told_done (done_of x))) (20 ∷ 20 ∷ 20 ∷ 0 ∷ 0 ∷ 20 ∷ 20 ∷ 20 ∷ []) (20 ∷ 0 ∷ 20 ∷ 0 ∷ 1 ∷ 20 ∷ 20 ∷ 20 ∷ []) ∷
    -- as_told: failed counts as done; failed is told
    row (kinds (λ x. told_told (told_of x))) (20 ∷ 20 ∷ 20 ∷ 0 ∷ 0 ∷ 20 ∷ 20 ∷ 20 ∷ []) (20 ∷ 20 ∷ 20 ∷ 0 ∷ 1 ∷ 20 ∷ 20 ∷ 20 ∷ []) ∷
    -- as_handle: a qword is taken; a mapping's address
    row (kinds (λ x. told_number (granted_of x))) (20 ∷ 20 ∷ 0 ∷ 7 ∷ 20 ∷ 1 ∷ 0 ∷ 8 ∷ 20 ∷ 20 ∷ []) (20 ∷ 20 ∷ 20 ∷ 20 ∷ 1 ∷ 0 ∷ 8 ∷ 0 ∷ 9 ∷ 20 ∷ []) ∷
    -- as_map: address and bytes exchanged; a handle is taken
    row (kinds (λ x. told_map (mapped_of x))) (20 ∷ 20 ∷ 20 ∷ 20 ∷ 1 ∷ 20 ∷ 0 ∷ 10 ∷ 9 ∷ 20 ∷ []) (20 ∷ 20 ∷ 20 ∷ 20 ∷ 1 ∷ 0 ∷ 8 ∷ 0 ∷ 0 ∷ 9 ∷ 10 ∷ 20 ∷ []) ∷
    -- as_list: done is taken; failed is
    row (kinds (λ x. told_done (list_of x))) (20 ∷ 20 ∷ 20 ∷ 0 ∷ 1 ∷ 20 ∷ 20 ∷ 0 ∷ []) (20 ∷ 20 ∷ 20 ∷ 20 ∷ 0 ∷ 20 ∷ 20 ∷ 0 ∷ []) ∷
    []

-- the number of each refusal, in the order of document 01
abbrev numbers : (Refusal → ℕ) → List ℕ
numbers f =
    f r.Attributes ∷ f r.Owner ∷ f r.Reset ∷ f r.Bar ∷ f r.Memory ∷ f (r.Status 2 50) ∷ f (r.Timeout 60000000) ∷ f r.Busy ∷ f (r.Bus 3) ∷ f r.NotPrimary ∷ f (r.Revision 4)
    ∷ f (r.MinPage 13) ∷ f (r.Ports 3) ∷ f (r.Uar 44) ∷ f (r.UarArea 7) ∷ f (r.Entry 9) ∷ f (r.Total 8) ∷ f r.Address ∷ f r.Full ∷ f r.Wrong ∷ f r.Short ∷ f r.Opcode ∷ f r.Undo ∷ []

-- pci: which answers suit a question, and the numbers of refusals
abbrev pub answers : List Row
answers =
    -- suits, a read (a dword, a word, failed): any width; it cannot fail
    row (yes (suits_of (q.RegRead 0 0) (a.Dword 5)) ∷ yes (suits_of (q.RegRead 0 0) (a.Word 5)) ∷ yes (suits_of (q.RegRead 0 0) a.Failed) ∷ [])
    (1 ∷ 1 ∷ 1 ∷ []) (1 ∷ 0 ∷ 0 ∷ []) ∷
    -- suits, config reads of 16 and 32 bits (a word, a dword): a dword for both; each with the other's
    row (yes (suits_of (q.ConfigRead16 0) (a.Word 5)) ∷ yes (suits_of (q.ConfigRead16 0) (a.Dword 5)) ∷ yes (suits_of (q.ConfigRead32 0) (a.Word 5))
    ∷ yes (suits_of (q.ConfigRead32 0) (a.Dword 5)) ∷ [])
    (0 ∷ 1 ∷ 0 ∷ 1 ∷ []) (0 ∷ 1 ∷ 1 ∷ 0 ∷ []) ∷
    -- suits, a write (done, a dword, failed): with a value; it cannot fail
    row (yes (suits_of (q.RegWrite 0 0 1) a.Done) ∷ yes (suits_of (q.RegWrite 0 0 1) (a.Dword 5)) ∷ yes (suits_of (q.RegWrite 0 0 1) a.Failed) ∷ [])
    (1 ∷ 1 ∷ 1 ∷ []) (1 ∷ 0 ∷ 0 ∷ []) ∷
    -- suits, an unmap and a free (failed): they cannot fail; a free cannot
    row (yes (suits_of (q.Unmap 7) a.Failed) ∷ yes (suits_of (q.Free 7 1) a.Failed) ∷ []) (0 ∷ 0 ∷ []) (1 ∷ 0 ∷ []) ∷
    -- suits, a stall and a fence (done, failed): they may fail; nothing suits
    row (yes (suits_of (q.Stall 1) a.Done) ∷ yes (suits_of (q.Stall 1) a.Failed) ∷ yes (suits_of q.Fence a.Done) ∷ yes (suits_of q.Fence a.Failed) ∷ [])
    (1 ∷ 1 ∷ 1 ∷ 1 ∷ []) (0 ∷ 0 ∷ 0 ∷ 0 ∷ []) ∷
    -- suits, a stall (done, failed): it may fail; nothing suits
    row (yes (suits_of (q.Stall 1) a.Done) ∷ yes (suits_of (q.Stall 1) a.Failed) ∷ []) (1 ∷ 1 ∷ []) (0 ∷ 0 ∷ []) ∷
    -- suits, an allocation and a map (a handle, a mapping): each with the other's; a handle for both
    row (yes (suits_of (q.Allocate 1) (a.Handle 7)) ∷ yes (suits_of (q.Allocate 1) (a.Mapped 0 0)) ∷ yes (suits_of (q.Map 7 4096) (a.Handle 7))
    ∷ yes (suits_of (q.Map 7 4096) (a.Mapped 0 4096)) ∷ [])
    (0 ∷ 1 ∷ 1 ∷ 0 ∷ []) (1 ∷ 0 ∷ 1 ∷ 0 ∷ []) ∷
    -- suits, a resource list and an attribute call: each with the other's; failed alone
    row (yes (suits_of (q.Resource 0) a.List) ∷ yes (suits_of (q.Resource 0) (a.Qword 0)) ∷ yes (suits_of (q.Attributes 0 0) (a.Qword 0)) ∷ yes (suits_of (q.Attributes 0 0) a.List)
    ∷ [])
    (0 ∷ 1 ∷ 0 ∷ 1 ∷ []) (0 ∷ 0 ∷ 0 ∷ 0 ∷ []) ∷
    -- suits, finished (done, failed): any answer; failed is taken
    row (yes (suits_of q.Finished a.Done) ∷ yes (suits_of q.Finished a.Failed) ∷ []) (1 ∷ 1 ∷ []) (0 ∷ 1 ∷ []) ∷
    -- refusals (status, Timeout, full): a status without its microseconds; 19 for 18
    row (told (refusal (r.Status 2 50)) ++ told (refusal (r.Timeout 60000000)) ++ told (refusal r.Full))
    (6 ∷ 2 ∷ 7 ∷ 60000000 ∷ 19 ∷ []) (6 ∷ 2 ∷ 50 ∷ 7 ∷ 60000000 ∷ 18 ∷ []) ∷
    -- number: 18 for a full list; 7 and 8 exchanged
    row (numbers (λ x. number_of {A = Unit {0}} (refusal x)))
    (1 ∷ 2 ∷ 3 ∷ 4 ∷ 5 ∷ 6 ∷ 7 ∷ 8 ∷ 9 ∷ 10 ∷ 11 ∷ 12 ∷ 13 ∷ 14 ∷ 15 ∷ 16 ∷ 17 ∷ 18 ∷ 18 ∷ 20 ∷ 21 ∷ 22 ∷ 23 ∷ [])
    (1 ∷ 2 ∷ 3 ∷ 4 ∷ 5 ∷ 6 ∷ 8 ∷ 7 ∷ 9 ∷ 10 ∷ 11 ∷ 12 ∷ 13 ∷ 14 ∷ 15 ∷ 16 ∷ 17 ∷ 18 ∷ 19 ∷ 20 ∷ 21 ∷ 22 ∷ 23 ∷ []) ∷
    []

abbrev pub wrong : List Row
wrong = reading ++ writing ++ words ++ buffers ++ addresses ++ choices ++ views ++ answers
