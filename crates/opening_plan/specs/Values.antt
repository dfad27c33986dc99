-- What an opening notes as it goes: in the books, and of what the card says.
use Rattle.std.specs.Prelude.{ℕ, ◌+◌, Bool, true, List, [], ◌∷◌, eqb, ltb, get_or, Option, Some, None}
use Rattle.fields.specs.Outcome.{value_or, pick}
use Rattle.bars.specs.declared.Pick.{Pick}
use Rattle.dma.specs.declared.Buffer.{Buffer}
use Rattle.dma.specs.declared.Cutter.{Cutter}
use Rattle.pci.specs.declared.Refusal.{Refusal}
use Rattle.pci.specs.declared.Refusal.TheVariants as x
use Rattle.reply.specs.declared.DevCap.{DevCap}
use Rattle.reply.specs.declared.FwInfo.{FwInfo}
use Rattle.reply.specs.declared.FuncInfo.{FuncInfo}
use Rattle.reply.specs.declared.PortInfo.{PortInfo}
use Rattle.layout.specs.Layout.{no_layout}
use Rattle.layout.specs.Counts.{profile_of}
use Rattle.layout.specs.declared.Layout.{Layout}
use Rattle.layout.specs.declared.Range.{Range}
use Rattle.command.specs.declared.CmdResult.{CmdResult}
use Rattle.command.specs.declared.CmdResult.TheVariants as r
use Rattle.command.specs.declared.Catas.TheVariants as k
use Rattle.session.specs.Session.{books, wired, listing, slot_at, buffer_of, bytes_in, FA, AUX}
use Rattle.session.specs.Course.{Place, slot}
use Rattle.session.specs.declared.Lists.{Lists}
use Rattle.session.specs.declared.Books.{Books}
use Rattle.session.specs.declared.Info.{Info}
use Rattle.session.specs.declared.Area.{Area}
use Rattle.session.specs.declared.Area.TheVariants as a

-- REFUSALS. The refusal of a number and its values: those that a reply or a layout can be refused with
abbrev pub first : List ℕ → ℕ
first [] = 0
first (n ∷ ns) = n

abbrev pub refusal_of : ℕ → List ℕ → Refusal
refusal_of n vs =
    pick (eqb n 11) (x.Revision (first vs))
    (pick (eqb n 12) (x.MinPage (first vs))
    (pick (eqb n 13) (x.Ports (first vs))
    (pick (eqb n 14) (x.Uar (first vs))
    (pick (eqb n 15) (x.UarArea (first vs))
    (pick (eqb n 16) (x.Entry (first vs))
    (pick (eqb n 17) (x.Total (first vs)) x.Short))))))

-- "10 QUERY_FW status 0x50 in an opening"
abbrev pub status_refusal : (s us : ℕ) → Refusal
status_refusal s us = pick (eqb s 0x50) x.NotPrimary (x.Status s us)

abbrev pub fw_failure_of : CmdResult → Refusal
fw_failure_of (r.Done y us) = x.Bus us
fw_failure_of (r.Status s us) = status_refusal s us
fw_failure_of (r.Timeout us) = x.Timeout us
fw_failure_of r.Busy = x.Busy
fw_failure_of (r.Bus us) = x.Bus us

-- THE BOOKS
abbrev pub with_toggle : Books → Bool → Books
with_toggle b t = wired b (record { toggle = t; running = b.wire.running; broken = b.wire.broken; silent = b.wire.silent; catas = b.wire.catas })

-- the catastrophic buffer is known
abbrev pub with_catas : Books → FwInfo → Books
with_catas b i =
    wired b (record { toggle = b.wire.toggle; running = b.wire.running; broken = b.wire.broken; silent = b.wire.silent; catas = k.Known i.catas_bar i.catas_offset })

abbrev pub with_original : Books → ℕ → Books
with_original b v = books b.wire b.lists b.started v

-- INIT_HCA was seen good
abbrev pub now_started : Books → Books
now_started b = books b.wire b.lists true b.original

-- one range more; the layout has fourteen, and there is room for no more
abbrev pub appended : Lists → Lists
appended l = pick (ltb l.ranges 14) (record { slots = l.slots; ranges = l.ranges + 1; lends = l.lends }) l

-- THE LAYOUT of the card's capabilities, and its ranges
abbrev pub layout_in : Info → Layout
layout_in n = value_or no_layout (profile_of n.cap)

abbrev pub no_range : Range
no_range = record { virt = 0; bytes = 0 }

abbrev pub range_in : List Range → ℕ → Range
range_in rs i = get_or rs i no_range

abbrev pub range_at : Info → ℕ → Range
range_at n i = range_in (layout_in n).ranges i

-- an area's card address, and its command
abbrev pub virt_for : Info → Area → Option ℕ
virt_for n a.Fa = None
virt_for n a.Aux = None
virt_for n (a.Range i) = Some (range_at n i).virt

abbrev pub op_for : Area → ℕ
op_for a.Fa = 0xfff
op_for a.Aux = 0xffc
op_for (a.Range i) = 0xffa

-- its slot
abbrev pub slot_for : Area → ℕ
slot_for a.Fa = FA
slot_for a.Aux = AUX
slot_for (a.Range i) = 64 + i

abbrev pub card_for : Info → Area → ℕ
card_for n a.Fa = 0
card_for n a.Aux = 0
card_for n (a.Range i) = (range_at n i).virt

abbrev pub place_for : Info → Area → Place
place_for n a = slot (slot_for a) (card_for n a)

-- its buffer is made, and in its slot: a range counts
abbrev pub enters : Area → Books → Books
enters a.Fa b = b
enters a.Aux b = b
enters (a.Range i) b = listing b (appended b.lists)

abbrev pub cutter_for : Info → Area → Buffer → Cutter
cutter_for n a y = record { virt = virt_for n a; phys = y.dev; left = bytes_in y }

-- what is to be cut of an area whose buffer is in its slot
abbrev pub cut_in : Info → Area → Books → Cutter
cut_in n a b = cutter_for n a (buffer_of (slot_at b.lists.slots (slot_for a)))

-- WHAT THE CARD SAYS
abbrev pub info : Pick → DevCap → FuncInfo → PortInfo → PortInfo → Bool → Info
info u c f p q v = record { uar = u; cap = c; func = f; port1 = p; port2 = q; rev3 = v }

abbrev pub with_uar : Info → Pick → Info
with_uar n u = info u n.cap n.func n.port1 n.port2 n.rev3

abbrev pub with_revision : Info → ℕ → Info
with_revision n v = info n.uar n.cap n.func n.port1 n.port2 (eqb v 3)

-- until QUERY_FUNC says otherwise, its three fields are the capability's
abbrev pub with_cap : Info → DevCap → Info
with_cap n c =
    info n.uar c (record { rsvd_eqs = c.rsvd_eqs; max_eqs = c.max_eqs; rsvd_uars = c.rsvd_uars }) n.port1 n.port2 n.rev3

abbrev pub with_func : Info → FuncInfo → Info
with_func n i = info n.uar n.cap i n.port1 n.port2 n.rev3

abbrev pub with_port : Info → ℕ → PortInfo → Info
with_port n p i = pick (eqb p 1) (info n.uar n.cap n.func i n.port2 n.rev3) (info n.uar n.cap n.func n.port1 i n.rev3)
