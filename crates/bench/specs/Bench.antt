-- The bench values of document 01, and of document 02 the counts of comparisons (Req 04) and resource
-- lists (Req 05), as one table. The theorem `bench_holds` of proofs/ says that the definitions give
-- each of them.
use Rattle.std.specs.Prelude.{ℕ, ◌+◌, ◌*◌, ◌^◌, List, [], ◌∷◌, ◌++◌, ◌≡◌, length, set, replicate, take, Option, Some, None}
use Rattle.std.proofs.Math.Option as m
use Rattle.fields.specs.Fields.{put_at}
use Rattle.fields.specs.Outcome.{Outcome, value, refused, value_or}
use Rattle.fields.specs.declared.Order.TheVariants.{Big, Little}
use Rattle.bars.specs.Bars.{base_at, candidates_at}
use Rattle.bars.specs.Resource.{resource_at}
use Rattle.dma.specs.declared.Block.{Block}
use Rattle.dma.specs.Blocks.{blocks_of}
use Rattle.dma.specs.Pages.{table, mailboxes}
use Rattle.reply.specs.declared.DevCap.{DevCap}
use Rattle.reply.specs.Capability.{capability_of}
use Rattle.layout.specs.declared.Table.{Table}
use Rattle.layout.specs.declared.Layout.{Layout}
use Rattle.layout.specs.Layout.{no_layout, layout_of}
use Rattle.layout.specs.Counts.{profile_of}

-- a line of the listing: the table's index, entry, count, bytes and base
abbrev line : (index entry count bytes base : ℕ) → Table
line i e c b a = record { index = i; entry = e; count = c; bytes = b; base = a }

-- what the listing prints: the tables in the order of their bases, and the total; and the comparisons, which it does not print
pub record Listing : Type 0 where
  pub rows : List Table
  pub total : ℕ
  pub comparisons : ℕ

abbrev pub listed : Layout → Listing
listed l = record { rows = l.rows; total = l.total; comparisons = l.comparisons }

abbrev pub list_of : Outcome Layout → Outcome Listing
list_of (value l) = value (listed l)
list_of (refused n vs) = refused n vs

abbrev pub then_profile : Outcome DevCap → Outcome Layout
then_profile (value c) = profile_of c
then_profile (refused n vs) = refused n vs

-- the layout of a capability reply, "BAR size unknown", and its listing
abbrev pub layout_for : List ℕ → Outcome Layout
layout_for s = then_profile (capability_of s None)

abbrev pub listing_of : List ℕ → Outcome Listing
listing_of s = list_of (layout_for s)

abbrev be16 : List ℕ → (off v : ℕ) → List ℕ
be16 s off v = put_at Big s off 2 v

abbrev be64 : List ℕ → (off v : ℕ) → List ℕ
be64 s off v = put_at Big s off 8 v

-- "Input L: zeros but 0x1f=07, 0x37=01, 0x4b=12; be16 0x80=32, 0x82=256, 0x84=32, 0x86=64, 0x88=128, 0x8a=128, 0x8c=128, 0x8e=64, 0x90=8, 0x92=64;
-- be64 0xa0=0x100121000"
abbrev bytes_l : List ℕ
bytes_l = set (set (set (replicate 168 0) 0x1f 7) 0x37 1) 0x4b 12

-- entries from an offset on
abbrev entries_from : List ℕ → (off : ℕ) → List ℕ → List ℕ
entries_from s off [] = s
entries_from s off (v ∷ vs) = entries_from (be16 s off v) (off + 2) vs

abbrev entries_l : List ℕ
entries_l = entries_from bytes_l 0x80 (32 ∷ 256 ∷ 32 ∷ 64 ∷ 128 ∷ 128 ∷ 128 ∷ 64 ∷ 8 ∷ 64 ∷ [])

abbrev pub input_l : List ℕ
input_l = be64 entries_l 0xa0 0x100121000

-- the listing that document 01 prints for it
abbrev pub listing_l : Listing
listing_l =
    record {
      rows =
          line 8 64 67108864 0x100000000 0x0
          ∷ line 1 32 16384 0x80000 0x100000000
          ∷ line 0 256 1024 0x40000 0x100080000
          ∷ line 10 1024 256 0x40000 0x1000c0000
          ∷ line 2 64 1024 0x10000 0x100100000
          ∷ line 3 32 1024 0x8000 0x100110000
          ∷ line 6 128 128 0x4000 0x100118000
          ∷ line 5 128 64 0x2000 0x10011c000
          ∷ line 4 128 2 0x1000 0x10011e000
          ∷ line 7 64 64 0x1000 0x10011f000
          ∷ line 9 8 512 0x1000 0x100120000
          ∷ [];
      total = 0x100121000;
      comparisons = 27;
    }

-- a reply whose exponents are all 0 and whose entries are all 1
abbrev all_ones : List ℕ
all_ones = be64 (entries_from (set (set (replicate 168 0) 0x37 1) 0x4b 12) 0x80 (replicate 10 1)) 0xa0 (2 ^ 32)

-- the layout of tables of so many pages, by index
abbrev of_pages : List ℕ → Outcome Layout
of_pages pages = layout_of pages (replicate 11 4096) (2 ^ 32)

-- a QWORD address space descriptor of 46 bytes: length field, type (0 memory, 1 I/O), minimum,
-- translation offset; a range of 8 MiB
abbrev le64 : List ℕ → (off v : ℕ) → List ℕ
le64 s off v = put_at Little s off 8 v

abbrev descriptor : (long type minimum offset : ℕ) → List ℕ
descriptor long type minimum offset =
    le64 (le64 (le64 (0x8a ∷ long ∷ 0 ∷ type ∷ replicate 42 0) 14 minimum) 30 offset) 38 0x800000

abbrev memory : List ℕ
memory = descriptor 43 0 0xe0000000 0

abbrev io : List ℕ
io = descriptor 43 1 0xc000 0

abbrev end : List ℕ
end = 0x79 ∷ 0 ∷ []

-- what a list comes to: the BAR at a base; no answer; 27
abbrev bar_at : ℕ → Outcome (m.Option (ℕ × ℕ))
bar_at base = value (m.some (base, 0x800000))

abbrev no_answer : Outcome (m.Option (ℕ × ℕ))
no_answer = value m.none

abbrev bad : Outcome (m.Option (ℕ × ℕ))
bad = refused 27 []

-- a bench value: a reply with what its listing comes to; a layout with its comparisons; a range of
-- `size` bytes with its blocks and the number of mailboxes that carry them; BAR dwords and a register
-- with its base and its two candidates; a resource list with what it comes to
pub data Case : Type 0 where
  reply : List ℕ → Outcome Listing → Case
  compared : Outcome Layout → (comparisons : ℕ) → Case
  blocks : Option ℕ → (phys size : ℕ) → List Block → (boxes : ℕ) → Case
  bar : (regs : List ℕ) → (reg base first second : ℕ) → Case
  list : List ℕ → Outcome (m.Option (ℕ × ℕ)) → Case

abbrev pub Holds : Case → Type 0
Holds (reply s o) = listing_of s ≡ o
Holds (compared o m) = (value_or no_layout o).comparisons ≡ m
Holds (blocks v p n bs m) = (blocks_of 63 v p n ≡ bs) × (length (mailboxes 256 bs) ≡ m)
Holds (bar regs reg b i j) = (base_at regs reg ≡ value b) × (candidates_at regs reg ≡ value (i, j))
Holds (list s o) = resource_at s ≡ o

abbrev block : (virt phys log : ℕ) → Block
block v p e = record { virt = v; phys = p; log = e }

abbrev pub AllHold : List Case → Type 0
AllHold [] = Unit {0}
AllHold (c ∷ cs) = Holds c × AllHold cs

abbrev pub bench : List Case
bench =
    -- P1 input L
    reply input_l (value listing_l)
    -- P2 L with 0xa0 one less: 17
    ∷ reply (be64 entries_l 0xa0 0x100120fff) (refused 17 (0x100121000 ∷ []))
    -- P3 L with MTT entry 0, or 24: 16
    ∷ reply (be16 input_l 0x90 0) (refused 16 (9 ∷ []))
    ∷ reply (be16 input_l 0x90 24) (refused 16 (9 ∷ []))
    -- P4 0x4b=13: 12
    ∷ reply (set input_l 0x4b 13) (refused 12 (13 ∷ []))
    -- P5 ports 0, or 3: 13
    ∷ reply (set input_l 0x37 0) (refused 13 (0 ∷ []))
    ∷ reply (set input_l 0x37 3) (refused 13 (3 ∷ []))
    -- P6 0x49=0x2c: 14; 0x2b goes on
    ∷ reply (set input_l 0x49 0x2c) (refused 14 (0x2c ∷ []))
    ∷ reply (set input_l 0x49 0x2b) (value listing_l)
    -- P7 blocks of p 0x3000, size 0x5000, no v: 0x3000 exponent 12, 0x4000 exponent 14
    ∷ blocks None 0x3000 0x5000 (block 0 0x3000 12 ∷ block 0 0x4000 14 ∷ []) 1
    -- P8 v 0x1000, p 0x4000, 257 pages: 257 single pages, two mailboxes
    ∷ blocks (Some 0x1000) 0x4000 (257 * 4096) (table (λ k. block (0x1000 + k * 4096) (0x4000 + k * 4096) 12) 0 257) 2
    -- P9 size 0: none
    ∷ blocks None 0 0 [] 0
    -- P10 BARs 0xf0000004, 0, 0xe000000c, 0, register 2: base 0xe0000000, candidates 2 and 1
    ∷ bar (0xf0000004 ∷ 0 ∷ 0xe000000c ∷ 0 ∷ 0 ∷ 0 ∷ []) 2 0xe0000000 2 1
    -- Req 04: falling bytes; each larger than all before; all equal; equal but for the last, which passes ten; a reply of ones; none beside a refusal
    ∷ compared (of_pages (1024 ∷ 512 ∷ 256 ∷ 128 ∷ 64 ∷ 32 ∷ 16 ∷ 8 ∷ 4 ∷ 2 ∷ 1 ∷ [])) 10
    ∷ compared (of_pages (1 ∷ 2 ∷ 4 ∷ 8 ∷ 16 ∷ 32 ∷ 64 ∷ 128 ∷ 256 ∷ 512 ∷ 1024 ∷ [])) 55
    ∷ compared (of_pages (replicate 11 1)) 10
    ∷ compared (of_pages (set (replicate 11 1) 10 2)) 19
    ∷ compared (layout_for all_ones) 26
    ∷ compared (layout_for (be64 entries_l 0xa0 0x100120fff)) 0
    -- Req 05: one memory descriptor, with the end tag and without; an I/O range ahead of it
    ∷ list (memory ++ end) (bar_at 0xe0000000)
    ∷ list memory (bar_at 0xe0000000)
    ∷ list (io ++ (memory ++ end)) (bar_at 0xe0000000)
    -- an offset of 2^32; one that wraps
    ∷ list (descriptor 43 0 0xe0000000 0x100000000 ++ end) (bar_at 0x1e0000000)
    ∷ list (descriptor 43 0 0xf0000000 0xfffffffff0000000 ++ end) (bar_at 0xe0000000)
    -- the end tag before any memory descriptor; an unknown tag; length 0: the type is the byte behind
    ∷ list end no_answer
    ∷ list (io ++ end) no_answer
    ∷ list (set memory 0 0x87) no_answer
    ∷ list (0x8a ∷ 0 ∷ 0 ∷ end) no_answer
    -- a list that runs out; a memory descriptor that is too short, or not whole
    ∷ list io bad
    ∷ list [] bad
    ∷ list (0x8a ∷ []) bad
    ∷ list (0x8a ∷ 0x2b ∷ 0 ∷ []) bad
    ∷ list (descriptor 42 0 0xe0000000 0) bad
    ∷ list (take 45 memory) bad
    ∷ list (0x8a ∷ 0 ∷ 0 ∷ 0 ∷ end) bad
    -- two memory descriptors: the first
    ∷ list (memory ++ (descriptor 43 0 0xd0000000 0 ++ end)) (bar_at 0xe0000000)
    ∷ []
