-- The ranges that the books name, as the card has them. Document 01: "The mapped ranges are the 14
-- that `bring_up` computes from the layout, page k of each on page k of its buffer."
use Rattle.std.specs.Prelude.{ℕ, ◌+◌, ◌-◌, ◌/◌, ◌^◌, ◌<◌, List, [], ◌∷◌, ◌⊎◌, ◌≡◌, get_or, Option}
use Rattle.fields.specs.Outcome.{value}
use Rattle.dma.specs.Buffers.{pages_for}
use Rattle.dma.specs.declared.Block.{Block}
use Rattle.reply.specs.Capability.{capability_of}
use Rattle.layout.specs.Counts.{profile_of}
use Rattle.session.specs.Session.{icm_at}
use Rattle.session.specs.declared.Slot.{Slot}
use Rattle.session.specs.declared.Books.{Books}
use Rattle.session.specs.declared.Info.{Info}
use Rattle.opening_plan.specs.Values.{layout_in, range_at}

-- card page x lies on device page d: page j of the range on page j of its buffer
abbrev pub OnRange : Slot → ℕ → ℕ → Type 0
OnRange e x d = (j : ℕ) × (j < e.pages) × (x ≡ e.virt / 4096 + j) × (d ≡ e.dev / 4096 + j)

abbrev pub InRanges : Books → ℕ → ℕ → Type 0
InRanges b x d = (k : ℕ) × (k < b.lists.ranges) × OnRange (icm_at b.lists.slots k) x d

-- the capabilities are those of a reply of bytes
abbrev pub Capped : Info → Type 0
Capped n = (s : List ℕ) × (bar : Option ℕ) × ((k : ℕ) → get_or s k 0 < 256) × (capability_of s bar ≡ value n.cap)

-- and their layout was accepted
abbrev pub Accepted : Info → Type 0
Accepted n = Capped n × (profile_of n.cap ≡ value (layout_in n))

-- the ranges of the books up to i are those of an accepted layout: at its card addresses, with as
-- many pages as its bytes want
abbrev pub AsLaid : Info → Books → (i : ℕ) → Type 0
AsLaid n b i = Accepted n × ((k : ℕ) → k < i → ((icm_at b.lists.slots k).virt ≡ (range_at n k).virt) × (pages_for (range_at n k).bytes ≡ value (icm_at b.lists.slots k).pages))

-- page i of a block that was cut
abbrev pub InCut : Block → ℕ → ℕ → Type 0
InCut b x d = (i : ℕ) × (i < 2 ^ (b.log - 12)) × (x ≡ b.virt / 4096 + i) × (d ≡ b.phys / 4096 + i)

abbrev pub AnyIn : List Block → ℕ → ℕ → Type 0
AnyIn [] x d = ⊥
AnyIn (b ∷ bs) x d = InCut b x d ⊎ AnyIn bs x d
