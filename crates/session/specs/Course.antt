-- The course of a call: a tree of questions as a script is, which also says what the mailboxes and the undo list hold while each question is open. With every
-- reply come the outbox and the newest undo record as they are lent then: "meanwhile only the shell (outbox) and the caller (undo list) write."
use Rattle.std.specs.Prelude.{ℕ, List, length, replicate}
use Rattle.pci.specs.Script.{Script, Ask, Reply, Bus, Spot, good, failed, config_read16, config_read32, config_write16, config_write32, read, write, attributes, resource, stall, allocate, mapped, unmap, free, fence}
use Rattle.pci.specs.Script as s
use Rattle.hcr.specs.declared.Post.{Post}
use Rattle.command.specs.Script.{command}
use Rattle.command.specs.declared.CmdResult.{CmdResult}
use Rattle.session.specs.Session.{wired, after, catas_for, puts, taken_off, slot_at, bare, mapped_at, unmapped_from, INBOX, OUTBOX}
use Rattle.session.specs.declared.Top.{Top}
use Rattle.session.specs.declared.Books.{Books}
use Rattle.session.specs.declared.Stage.{Stage}
use Rattle.session.specs.declared.Info.{Info}
use Rattle.session.specs.declared.Failure.{Failure}
use Rattle.session.specs.declared.Closing.{Closing}
use Rattle.session.specs.declared.Session.{Session}

-- what is lent with a reply
pub record Lent : Type 0 where
  pub outbox : List ℕ
  pub undo : Top

-- what a call leaves with its question: both mailboxes, and how many undo records
pub record Left : Type 0 where
  pub inbox : List ℕ
  pub outbox : List ℕ
  pub undo : ℕ

pub data Course (R : Type 0) : Type 0 where
  ret : Left → R → Course R
  ask : (q : Ask) → Left → (Reply q → Lent → Course R) → Course R

-- where a call stands: the mailboxes as they are now, and the newest undo record
pub record Here : Type 0 where
  pub inbox : List ℕ
  pub outbox : List ℕ
  pub undo : Top

abbrev pub here : List ℕ → List ℕ → Top → Here
here i o u = record { inbox = i; outbox = o; undo = u }

abbrev pub left : Here → Left
left h = record { inbox = h.inbox; outbox = h.outbox; undo = h.undo.count }

-- after a reply: the inbox is the session's own, the rest is as lent
abbrev pub lent : Here → Lent → Here
lent h l = here h.inbox l.outbox l.undo

-- a mailbox with all its bytes 0
abbrev pub blank : List ℕ → List ℕ
blank s = replicate (length s) 0

-- WHAT A TASK'S BUFFER IS FOR: none; one of the mailboxes; or this slot, a range's with its card address. "two lent slices of 4,096 bytes, inbox and outbox, zeroed when their
-- buffers are allocated"
pub data Place : Type 0 where
  neither : Place
  inbox : Place
  outbox : Place
  slot : (i virt : ℕ) → Place

abbrev pub zeroed : Place → Here → Here
zeroed neither h = h
zeroed inbox h = here (blank h.inbox) h.outbox h.undo
zeroed outbox h = here h.inbox (blank h.outbox) h.undo
zeroed (slot i v) h = h

abbrev pub on_allocated : Place → Bus ℕ → Here → Here
on_allocated b (good v) h = zeroed b h
on_allocated b failed h = h

-- at a reply the mailbox is zeroed if its pages were handed over
abbrev pub touched : Place → (q : Ask) → Reply q → Here → Here
touched b (config_read16 o) r h = h
touched b (config_read32 o) r h = h
touched b (config_write16 o v) r h = h
touched b (config_write32 o v) r h = h
touched b (read k o) r h = h
touched b (write k o v) r h = h
touched b (attributes o v) r h = h
touched b (resource k) r h = h
touched b (stall u) r h = h
touched b (allocate n) r h = on_allocated b r h
touched b (mapped k n) r h = h
touched b (unmap k) r h = h
touched b (free k n) r h = h
touched b (fence i) r h = h

-- WHAT A REPLY DOES TO THE BOOKS, by the question and the reply alone: a good allocate puts the run down, a good map marks it, an unmap unmarks it, a free takes it off;
-- nothing else changes a slot
abbrev pub on_granted : (i virt pages : ℕ) → Bus ℕ → Books → Books
on_granted i v n (good k) b = puts i (bare v k n) b
on_granted i v n failed b = b

abbrev pub on_mapped : (i : ℕ) → Bus Spot → Books → Books
on_mapped i (good x) b = puts i (mapped_at (slot_at b.lists.slots i) x.address) b
on_mapped i failed b = b

abbrev pub books_by : (i virt : ℕ) → (q : Ask) → Reply q → Books → Books
books_by i w (config_read16 o) r b = b
books_by i w (config_read32 o) r b = b
books_by i w (config_write16 o v) r b = b
books_by i w (config_write32 o v) r b = b
books_by i w (read k o) r b = b
books_by i w (write k o v) r b = b
books_by i w (attributes o v) r b = b
books_by i w (resource k) r b = b
books_by i w (stall u) r b = b
books_by i w (allocate n) r b = on_granted i w n r b
books_by i w (mapped k n) r b = on_mapped i r b
books_by i w (unmap k) r b = puts i (unmapped_from (slot_at b.lists.slots i)) b
books_by i w (free k n) r b = taken_off i b
books_by i w (fence j) r b = b

abbrev pub booked : Place → (q : Ask) → Reply q → Books → Books
booked neither q r b = b
booked inbox q r b = books_by INBOX 0 q r b
booked outbox q r b = books_by OUTBOX 0 q r b
booked (slot i v) q r b = books_by i v q r b

-- a task's script in a course: its end, and the books and where the call stands then
abbrev pub run : {A R : Type 0} → Place → Script A → (A → Books → Here → Course R) → Books → Here → Course R
run p (s.ret a) k b h = k a b h
run p (s.ask q f) k b h = ask q (left h) (λ r l. run p (f r) k (booked p q r b) (touched p q r (lent h l)))

abbrev pub task : {A R : Type 0} → Script A → (A → Books → Here → Course R) → Books → Here → Course R
task t k b h = run neither t k b h

-- a command in a course: its result, and the books with the toggle that it leaves. Its fences copy the inbox as it stands
abbrev pub sends : {R : Type 0} → Books → Post → (CmdResult → Books → Here → Course R) → Here → Course R
sends b p k h = task (command (catas_for b.wire) h.inbox b.wire.toggle p) (λ e d j. k e.result (wired d (after d.wire e)) j) b h

-- what a session is between two calls
pub record Rest : Type 0 where
  pub stage : Stage
  pub books : Books
  pub info : Info
  pub failure : Failure
  pub closing : Closing

abbrev pub at_rest : Stage → Books → Info → Failure → Closing → Rest
at_rest s b n f c = record { stage = s; books = b; info = n; failure = f; closing = c }

abbrev pub rest_of : Session → Rest
rest_of s = at_rest s.stage s.books s.info s.failure s.closing
