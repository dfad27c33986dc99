-- The session's values: its books at the start, and how a step changes them.
use Rattle.std.specs.Prelude.{ℕ, zero, suc, ◌+◌, ◌*◌, ◌%◌, ◌^◌, Bool, true, false, not, List, [], ◌∷◌, ◌++◌, eqb, ltb, get_or, set, replicate, None}
use Rattle.fields.specs.Outcome.{pick}
use Rattle.bars.specs.declared.How.TheVariants as w
use Rattle.dma.specs.declared.Buffer.{Buffer}
use Rattle.hcr.specs.declared.Post.{Post}
use Rattle.reply.specs.Capability.{no_caps}
use Rattle.reply.specs.Replies.{no_port}
use Rattle.command.specs.Machine.{first}
use Rattle.command.specs.declared.Catas.{Catas}
use Rattle.command.specs.declared.Catas.TheVariants as k
use Rattle.command.specs.declared.CmdEnd.{CmdEnd}
use Rattle.command.specs.declared.CmdResult.{CmdResult}
use Rattle.command.specs.declared.CmdResult.TheVariants as r
use Rattle.work.specs.Work.{working, resting}
use Rattle.work.specs.declared.Task.{Task}
use Rattle.work.specs.declared.Task.TheVariants as t
use Rattle.work.specs.declared.Work.{Work}
use Rattle.session.specs.declared.Slot.{Slot}
use Rattle.session.specs.declared.Wire.{Wire}
use Rattle.session.specs.declared.Lists.{Lists}
use Rattle.session.specs.declared.Books.{Books}
use Rattle.session.specs.declared.Info.{Info}
use Rattle.session.specs.declared.Stage.{Stage}
use Rattle.session.specs.declared.Stage.TheVariants as g
use Rattle.session.specs.declared.Failure.{Failure}
use Rattle.session.specs.declared.Failure.TheVariants as f
use Rattle.session.specs.declared.Closing.{Closing}
use Rattle.session.specs.declared.Closing.TheVariants as c
use Rattle.session.specs.declared.Session.{Session}
use Rattle.session.specs.declared.Fill.{Fill}
use Rattle.session.specs.declared.Planned.{Planned}

-- THE SLOTS, in the order in which a closing frees them: 0 to 63 lent, 64 to 77 the ranges, 78 the auxiliary area, 79 the firmware area, 80 the inbox, 81 the outbox
abbrev pub no_slot : Slot
no_slot = record { runs = 0; virt = 0; handle = 0; dev = 0; pages = 0; mapped = false }

-- a run as it was handed over, and one that is mapped
abbrev pub bare : (virt handle pages : ℕ) → Slot
bare v h n = record { runs = 1; virt = v; handle = h; dev = 0; pages = n; mapped = false }

abbrev pub mapped_at : Slot → (dev : ℕ) → Slot
mapped_at x d = record { runs = x.runs; virt = x.virt; handle = x.handle; dev = d; pages = x.pages; mapped = true }

abbrev pub unmapped_from : Slot → Slot
unmapped_from x = record { runs = x.runs; virt = x.virt; handle = x.handle; dev = x.dev; pages = x.pages; mapped = false }

-- THE BOOKS
abbrev pub books : Wire → Lists → Bool → ℕ → Books
books w l s a = record { wire = w; lists = l; started = s; original = a }

-- nothing is held yet; the toggle is 1
abbrev pub no_books : Books
no_books =
    books (record { toggle = true; running = false; broken = false; silent = false; catas = k.Unknown })
    (record { slots = replicate 82 no_slot; ranges = 0; lends = 0 }) false 0

abbrev pub no_info : Info
no_info =
    record {
      uar = record { index = 0; size = None; how = w.NoMatch };
      cap = no_caps;
      func = record { rsvd_eqs = 0; max_eqs = 0; rsvd_uars = 0 };
      port1 = no_port;
      port2 = no_port;
      rev3 = false;
    }

abbrev pub wired : Books → Wire → Books
wired b w = books w b.lists b.started b.original

abbrev pub listing : Books → Lists → Books
listing b l = books b.wire l b.started b.original

-- the slot of a number, and of a range; its buffer, if it has one
abbrev pub slot_at : List Slot → ℕ → Slot
slot_at l i = get_or l i no_slot

abbrev pub icm_at : List Slot → ℕ → Slot
icm_at l i = slot_at l (64 + i)

abbrev pub buffer_of : Slot → Buffer
buffer_of x = record { handle = x.handle; dev = x.dev; pages = x.pages }

abbrev pub is_held : Slot → Bool
is_held x = not (eqb x.runs 0)

abbrev pub in_slot : Slot → List Buffer
in_slot x = pick (is_held x) (buffer_of x ∷ []) []

abbrev pub AUX : ℕ
AUX = 78

abbrev pub FA : ℕ
FA = 79

abbrev pub INBOX : ℕ
INBOX = 80

abbrev pub OUTBOX : ℕ
OUTBOX = 81

abbrev pub aux_of : Books → Slot
aux_of b = slot_at b.lists.slots AUX

abbrev pub fa_of : Books → Slot
fa_of b = slot_at b.lists.slots FA

abbrev pub inbox_of : Books → Slot
inbox_of b = slot_at b.lists.slots INBOX

abbrev pub outbox_of : Books → Slot
outbox_of b = slot_at b.lists.slots OUTBOX

-- WHAT IS HELD, in the order in which it is freed: of the m slots from i on, and in all
unfoldable pub named_from : (m i : ℕ) → List Slot → List Buffer
named_from zero i l = []
named_from (suc m) i l = in_slot (slot_at l i) ++ named_from m (suc i) l

abbrev pub named : Books → List Buffer
named b = named_from 82 0 b.lists.slots

-- this in that slot; nothing there
abbrev pub puts : ℕ → Slot → Books → Books
puts i x b = listing b (record { slots = set b.lists.slots i x; ranges = b.lists.ranges; lends = b.lists.lends })

abbrev pub taken_off : ℕ → Books → Books
taken_off i b = puts i no_slot b

-- the bytes of a buffer, modulo 2^64; one that was made has no more
abbrev pub bytes_in : Buffer → ℕ
bytes_in b = b.pages % 2 ^ 52 * 4096

-- COMMANDS as they are posted: "imm", with the inbox's address, or with the outbox's
abbrev pub imm_of : (op modifier in_mod in_param : ℕ) → Post
imm_of op m n x = record { op = op; op_mod = m; in_mod = n; in_param = x; out_param = 0 }

abbrev pub names_in : (inbox op in_mod : ℕ) → Post
names_in d op n = record { op = op; op_mod = 0; in_mod = n; in_param = d; out_param = 0 }

abbrev pub names_out : (outbox op in_mod : ℕ) → Post
names_out d op n = record { op = op; op_mod = 0; in_mod = n; in_param = 0; out_param = d }

-- a mailbox's address is that of its slot, 0 where there is none
abbrev pub with_in_of : Books → (op in_mod : ℕ) → Post
with_in_of b op n = names_in (inbox_of b).dev op n

abbrev pub with_out_of : Books → (op in_mod : ℕ) → Post
with_out_of b op n = names_out (outbox_of b).dev op n

-- "A Timeout, unless silent, reads the catastrophic buffer once if known"
abbrev pub catas_for : Wire → Catas
catas_for w = pick w.silent k.Unknown w.catas

-- the end of a command was seen exactly if it has a status
abbrev pub end_seen : CmdResult → Bool
end_seen (r.Done x us) = true
end_seen (r.Status s us) = true
end_seen (r.Timeout us) = false
end_seen r.Busy = false
end_seen (r.Bus us) = false

-- the command register after a command; and after one that needs a reset
abbrev pub after : Wire → CmdEnd → Wire
after w e = record { toggle = e.toggle; running = not (end_seen e.result); broken = w.broken; silent = w.silent; catas = w.catas }

abbrev pub broken : Wire → Wire
broken w = record { toggle = w.toggle; running = w.running; broken = true; silent = w.silent; catas = w.catas }

-- a quiesce has begun
abbrev pub silent : Wire → Wire
silent w = record { toggle = w.toggle; running = w.running; broken = w.broken; silent = true; catas = w.catas }

-- one lent buffer more, which is in its slot; a full list stays as it is, and no call lends then: 19
abbrev pub lent_to : Books → Books
lent_to b = pick (ltb b.lists.lends 64) (listing b (record { slots = b.lists.slots; ranges = b.lists.ranges; lends = b.lists.lends + 1 })) b

-- THE SESSION
abbrev pub session : Stage → Work → Books → Info → Failure → Closing → Session
session s w b n f c = record { stage = s; work = w; books = b; info = n; failure = f; closing = c }

abbrev pub fresh : Session
fresh = session g.Fresh resting no_books no_info f.Nothing c.Clean

abbrev pub starts : Session → Stage → Task → Session
starts s st k = session st (working k s.work.reset s.work.find) s.books s.info s.failure s.closing

abbrev pub bookkeeps : Session → Books → Session
bookkeeps s b = session s.stage s.work b s.info s.failure s.closing

abbrev pub informs : Session → Info → Session
informs s n = session s.stage s.work s.books n s.failure s.closing

abbrev pub sends_of : Session → Stage → Post → Session
sends_of s st p = starts s st (t.Cmd (first p s.books.wire.toggle (catas_for s.books.wire)))

abbrev pub took_of : Session → CmdEnd → Session
took_of s e = bookkeeps s (wired s.books (after s.books.wire e))

abbrev pub breaks_of : Session → Session
breaks_of s = bookkeeps s (wired s.books (broken s.books.wire))

abbrev pub silenced_of : Session → Session
silenced_of s = bookkeeps s (wired s.books (silent s.books.wire))

abbrev pub planned : Session → Fill → ℕ → Planned
planned s f n = record { session = s; fill = f; undo = n }
