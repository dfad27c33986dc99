-- A script: a tree of questions. What may be replied to a question is a type of its own, so a script never meets an answer of the wrong kind. A register's value
-- is the register's own (big-endian) number, and a fence names the bytes of the inbox that the shell copies to the device.
use Rattle.std.specs.Prelude.{ℕ, List, Bool, true, false, Result, Ok, Err}
use Rattle.std.proofs.Math.Option.{Option, some, none}
use Rattle.hcr.specs.Words.{swap_of}
use Rattle.pci.specs.Views.{word_of, dword_of, qword_of, done_of, told_of, granted_of, mapped_of, list_of}
use Rattle.pci.specs.declared.Question.{Question}
use Rattle.pci.specs.declared.Question.TheVariants as q
use Rattle.pci.specs.declared.Answer.{Answer}
use Rattle.pci.specs.declared.NoReply.{NoReply}
use Rattle.pci.specs.declared.NoReply.TheVariants.{Failed, Wrong}

-- "Kinds: config read or write (16, 32 bits), register read or write (BAR, offset), attribute call, BAR resource, stall, allocate (zeroed), map, unmap, free,
-- fence". Public document: UEFI, PCI I/O Protocol, whose calls these are, but for stall (boot
-- services) and fence. It was not at hand; docs/SHELL.md says which call each is.
pub data Ask : Type 0 where
  config_read16 : (offset : ℕ) → Ask
  config_read32 : (offset : ℕ) → Ask
  config_write16 : (offset value : ℕ) → Ask
  config_write32 : (offset value : ℕ) → Ask
  read : (bar offset : ℕ) → Ask
  write : (bar offset value : ℕ) → Ask
  attributes : (operation value : ℕ) → Ask
  resource : (bar : ℕ) → Ask
  stall : (us : ℕ) → Ask
  allocate : (pages : ℕ) → Ask
  mapped : (handle bytes : ℕ) → Ask
  unmap : (handle : ℕ) → Ask
  free : (handle pages : ℕ) → Ask
  fence : (inbox : List ℕ) → Ask

-- a bus call is good, with what it gives, or has failed
pub data Bus (A : Type 0) : Type 0 where
  good : A → Bus A
  failed : Bus A

-- a stretch of device addresses
pub record Spot : Type 0 where
  pub address : ℕ
  pub bytes : ℕ

-- what may be replied; a stall and a fence cannot fail
abbrev pub Reply : Ask → Type 0
Reply (config_read16 o) = Bus ℕ
Reply (config_read32 o) = Bus ℕ
Reply (config_write16 o v) = Bus (Unit {0})
Reply (config_write32 o v) = Bus (Unit {0})
Reply (read b o) = Bus ℕ
Reply (write b o v) = Bus (Unit {0})
Reply (attributes o v) = Bus ℕ
Reply (resource b) = Bus (List ℕ)
Reply (stall u) = Unit {0}
Reply (allocate n) = Bus ℕ
Reply (mapped h n) = Bus Spot
Reply (unmap h) = Bus (Unit {0})
Reply (free h n) = Bus (Unit {0})
Reply (fence i) = Unit {0}

pub data Script (R : Type 0) : Type 0 where
  ret : R → Script R
  ask : (q : Ask) → (Reply q → Script R) → Script R

infixl 20 ◌>>=◌
abbrev pub ◌>>=◌ : {A B : Type 0} → Script A → (A → Script B) → Script B
ret a >>= f = f a
ask q k >>= f = ask q (λ r. k r >>= f)

-- the question as the machine shows it: the bus carries a register's bytes in the other order, and the mailboxes are lent and not shown
abbrev pub shown : Ask → Question
shown (config_read16 o) = q.ConfigRead16 o
shown (config_read32 o) = q.ConfigRead32 o
shown (config_write16 o v) = q.ConfigWrite16 o v
shown (config_write32 o v) = q.ConfigWrite32 o v
shown (read b o) = q.RegRead b o
shown (write b o v) = q.RegWrite b o (swap_of v)
shown (attributes o v) = q.Attributes o v
shown (resource b) = q.Resource b
shown (stall u) = q.Stall u
shown (allocate n) = q.Allocate n
shown (mapped h n) = q.Map h n
shown (unmap h) = q.Unmap h
shown (free h n) = q.Free h n
shown (fence i) = q.Fence

-- an answer as a reply to a question: none where its kind is wrong, which is 20. The bytes are those lent for a resource list.
abbrev pub as_bus : {A : Type 0} → Result A NoReply → Option (Bus A)
as_bus (Ok v) = some (good v)
as_bus (Err Failed) = some failed
as_bus (Err Wrong) = none

abbrev pub as_register : Result ℕ NoReply → Option (Bus ℕ)
as_register (Ok v) = some (good (swap_of v))
as_register (Err Failed) = some failed
as_register (Err Wrong) = none

abbrev pub as_told : Bool → Option (Unit {0})
as_told true = some tt
as_told false = none

abbrev pub as_spot : Result (ℕ × ℕ) NoReply → Option (Bus Spot)
as_spot (Ok (a, n)) = some (good (record { address = a; bytes = n }))
as_spot (Err Failed) = some failed
as_spot (Err Wrong) = none

abbrev pub as_list : List ℕ → Result (Unit {0}) NoReply → Option (Bus (List ℕ))
as_list bytes (Ok u) = some (good bytes)
as_list bytes (Err Failed) = some failed
as_list bytes (Err Wrong) = none

abbrev pub reply_of : (q : Ask) → Answer → (bytes : List ℕ) → Option (Reply q)
reply_of (config_read16 o) a bytes = as_bus (word_of a)
reply_of (config_read32 o) a bytes = as_bus (dword_of a)
reply_of (config_write16 o v) a bytes = as_bus (done_of a)
reply_of (config_write32 o v) a bytes = as_bus (done_of a)
reply_of (read b o) a bytes = as_register (dword_of a)
reply_of (write b o v) a bytes = as_bus (done_of a)
reply_of (attributes o v) a bytes = as_bus (qword_of a)
reply_of (resource b) a bytes = as_list bytes (list_of a)
reply_of (stall u) a bytes = as_told (told_of a)
reply_of (allocate n) a bytes = as_bus (granted_of a)
reply_of (mapped h n) a bytes = as_spot (mapped_of a)
reply_of (unmap h) a bytes = as_bus (done_of a)
reply_of (free h n) a bytes = as_bus (done_of a)
reply_of (fence i) a bytes = as_told (told_of a)
