-- What is said of a head and of what stands behind it, in the terms of the session that they are.
use Rattle.std.specs.Prelude.{◌≡◌, ℕ, Option}
use Rattle.dma.specs.declared.Cutter.{Cutter}
use Rattle.reply.specs.declared.DevCap.{DevCap}
use Rattle.session.specs.declared.Area.{Area}
use Rattle.session.specs.declared.Core.{Core}
use Rattle.session.specs.Core.{Behind, behind, full}
use Rattle.session.specs.Session.{informs}
use Rattle.opening_plan.specs.Values.{virt_for, cut_in, with_cap}

-- the capabilities have come
abbrev pub capped : DevCap → Behind → Behind
capped c b = behind b.reset b.find c b.port1 b.port2 b.slots

abbrev pub CapIs : Core → DevCap → Core → Type 0
CapIs r c s = (b : Behind) → full r (capped c b) ≡ informs (full s b) (with_cap (full s b).info c)

-- an area's card address, and what is to be cut of it: they are all read behind the head, so that they are those of any head
abbrev pub VirtIs : Option ℕ → Area → Behind → Type 0
VirtIs r a b = (c : Core) → r ≡ virt_for (full c b).info a

abbrev pub CutIs : Cutter → Area → Behind → Type 0
CutIs r a b = (c : Core) → r ≡ cut_in (full c b).info a (full c b).books

-- of whatever has these slots
abbrev pub WithSlots : Behind → (Behind → Type 0) → Type 0
WithSlots a f = (b : Behind) → b.slots ≡ a.slots → f b
