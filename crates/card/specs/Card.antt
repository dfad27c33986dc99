-- The card rules of document 01, sentence by sentence: what the card and the host may do at each
-- question, and what a session must keep to. Registers have their own numbers here, as scripts have
-- them; a page is a number, an address divided by 4,096.
use Rattle.std.specs.Prelude.{ℕ, zero, suc, ◌+◌, ◌*◌, ◌/◌, ◌%◌, ◌^◌, ◌<◌, ◌≤◌, Bool, true, List, [], ◌∷◌, ◌++◌, ◌⊎◌, ◌≡◌, eqb}
use Rattle.std.proofs.Math.Option.{Option, some, none}
use Rattle.fields.specs.Outcome.{pick}
use Rattle.fields.specs.Fields.{be}
use Rattle.hcr.specs.Words.{bit}
use Rattle.pci.specs.Script.{Ask, Reply, Bus, good, failed, Spot, config_read16, config_read32, config_write16, config_write32, read, write, attributes, resource, stall, allocate, mapped, unmap, free, fence}

-- THE CARD

-- What the card holds.
pub record Held : Type 1 where
  -- the ICM map: a card page on a device page
  pub icm : ℕ → ℕ → Type 0
  -- device pages of the firmware area, of the auxiliary area, and lent ones
  pub firmware : ℕ → Type 0
  pub auxiliary : ℕ → Type 0
  pub lent : ℕ → Type 0

-- "for a session's command its inbox and outbox": where they are mapped, and the bytes that the
-- last fence copied to the inbox
pub record Mail : Type 0 where
  pub inbox : Option Spot
  pub outbox : Option Spot
  pub bytes : List ℕ

pub record Command : Type 0 where
  pub opcode : ℕ
  pub in_mod : ℕ
  pub in_param : ℕ
  pub tbit : Bool
  pub mail : Mail

pub record Card : Type 1 where
  pub held : Held
  pub pending : Option Command
  -- the T of the last command taken since the reset, and its status
  pub last : Option Bool
  pub status : ℕ
  -- what was last written to each register, and the mailboxes at the last fence
  pub registers : ℕ → ℕ
  pub mail : Mail

-- BLOCKS

-- "16 bytes each: card address, then host address with exponent minus 12 in its low bits."
pub record Block : Type 0 where
  pub card : ℕ
  pub device : ℕ
  pub pages : ℕ

abbrev pub block_at : List ℕ → ℕ → Block
block_at s k = record { card = be s (k * 16) 8 / 4096; device = be s (k * 16 + 8) 8 / 4096; pages = 2 ^ (be s (k * 16 + 8) 8 % 4096) }

-- page i of a block is card page `card + i` on device page `device + i`
abbrev pub InBlock : Block → ℕ → ℕ → Type 0
InBlock b v d = (i : ℕ) × (i < b.pages) × (v ≡ b.card + i) × (d ≡ b.device + i)

-- the input modifier's number of blocks, from the inbox as the fence copied it
abbrev pub Blocks : Command → ℕ → ℕ → Type 0
Blocks p v d = (k : ℕ) × (k < p.in_mod) × InBlock (block_at p.mail.bytes k) v d

abbrev pub Named : Command → ℕ → Type 0
Named p d = (v : ℕ) × Blocks p v d

-- the input modifier's number of pages, from the card address in the input parameter
abbrev pub Range : Command → ℕ → Type 0
Range p v = (p.in_param / 4096 ≤ v) × (v < p.in_param / 4096 + p.in_mod)

-- WHAT A COMMAND DOES

pub data Kind : Type 0 where
  MapFa : Kind
  UnmapFa : Kind
  MapAux : Kind
  UnmapAux : Kind
  MapIcm : Kind
  UnmapIcm : Kind
  CloseHca : Kind
  Other : Kind

abbrev pub kind : ℕ → Kind
kind o =
    pick (eqb o 0xfff) MapFa
    (pick (eqb o 0xffe) UnmapFa
    (pick (eqb o 0xffc) MapAux
    (pick (eqb o 0xffb) UnmapAux
    (pick (eqb o 0xffa) MapIcm
    (pick (eqb o 0xff9) UnmapIcm
    (pick (eqb o 0x008) CloseHca Other))))))

abbrev pub holds : (ℕ → ℕ → Type 0) → (ℕ → Type 0) → (ℕ → Type 0) → (ℕ → Type 0) → Held
holds i f a l = record { icm = i; firmware = f; auxiliary = a; lent = l }

abbrev pub No : ℕ → Type 0
No d = ⊥

-- "MAP adds its blocks; UNMAP_ICM drops its range; UNMAP_FA and UNMAP_ICM_AUX drop theirs", "lent
-- pages until CLOSE_HCA succeeds", "Nothing else changes what the card holds."
abbrev pub does : Kind → Command → Held → Held
does MapFa p h = holds h.icm (λ d. h.firmware d ⊎ Named p d) h.auxiliary h.lent
does UnmapFa p h = holds h.icm No h.auxiliary h.lent
does MapAux p h = holds h.icm h.firmware (λ d. h.auxiliary d ⊎ Named p d) h.lent
does UnmapAux p h = holds h.icm h.firmware No h.lent
does MapIcm p h = holds (λ v d. h.icm v d ⊎ Blocks p v d) h.firmware h.auxiliary h.lent
does UnmapIcm p h = holds (λ v d. h.icm v d × (Range p v → ⊥)) h.firmware h.auxiliary h.lent
does CloseHca p h = holds h.icm h.firmware h.auxiliary No
does Other p h = h

unfoldable pub effect : Command → Held → Held
effect p h = does (kind p.opcode) p h

-- "Non-zero status changes nothing."
abbrev pub result : (status : ℕ) → Command → Held → Held
result zero p h = effect p h
result (suc s) p h = h

-- STEPS OF THE CARD

abbrev pub finish : Card → Command → (status : ℕ) → Card
finish c p s = record { held = result s p c.held; pending = none; last = c.last; status = s; registers = c.registers; mail = c.mail }

-- a pending command may end at any time, with any status
pub data Settles (c : Card) : Card → Type 1 where
  same : Settles c c
  ends : (p : Command) (s : ℕ) → c.pending ≡ some p → Settles c (finish c p s)

-- "Status dword at 0x80680+0x18: GO bit 23, T bit 21, status top byte."
abbrev pub go_of : ℕ → Bool
go_of v = bit 23 v

abbrev pub tbit_of : ℕ → Bool
tbit_of v = bit 21 v

abbrev pub status_of : ℕ → ℕ
status_of v = v / 2 ^ 24

-- the command that the registers hold when `v` is written at 0x18
abbrev pub written : Card → ℕ → Command
written c v =
    record {
      opcode = v % 0x1000;
      in_mod = c.registers 0x80688;
      in_param = c.registers 0x80680 * 2 ^ 32 + c.registers 0x80684;
      tbit = tbit_of v;
      mail = c.mail;
    }

-- "The card takes a written command once, whole": the write at 0x18 is the command. (A second one
-- while the first is pending is forbidden to a session, see Allowed.)
abbrev pub begin : Card → Command → Card
begin c p = record { held = c.held; pending = some p; last = some p.tbit; status = c.status; registers = c.registers; mail = c.mail }

-- "A reset taken drops everything and ends a pending command."
abbrev pub after_reset : Card → Card
after_reset c = record { held = holds (λ v d. ⊥) No No No; pending = none; last = none; status = c.status; registers = c.registers; mail = c.mail }

abbrev pub put : {A : Type 0} → (ℕ → A) → ℕ → A → ℕ → A
put f n x m = pick (eqb m n) x (f m)

abbrev pub store : Card → ℕ → ℕ → Card
store c o v = record { held = c.held; pending = c.pending; last = c.last; status = c.status; registers = put c.registers o v; mail = c.mail }

-- "lent pages until CLOSE_HCA succeeds": from when they are lent, the card may use these pages
abbrev pub lend_to : (ℕ → Type 0) → Card → Card
lend_to P c =
    record {
      held = holds c.held.icm c.held.firmware c.held.auxiliary (λ d. c.held.lent d ⊎ P d);
      pending = c.pending;
      last = c.last;
      status = c.status;
      registers = c.registers;
      mail = c.mail;
    }

-- A write that is taken: 1 at 0xf0010 resets, GO at 0x80680 + 0x18 starts a command, others are
-- stored. The registers are those of BAR 0.
abbrev pub take : Card → (bar offset value : ℕ) → Card
take c b o v =
    pick (eqb b 0)
    (pick (eqb o 0xf0010) (pick (eqb v 1) (after_reset c) c)
    (pick (eqb o 0x80698) (pick (go_of v) (begin c (written c v)) c)
    (store c o v)))
    c

-- "The shell copies them to and from the device at fence questions"
abbrev pub fenced : Card → Mail → Card
fenced c m = record { held = c.held; pending = c.pending; last = c.last; status = c.status; registers = c.registers; mail = m }

-- "shows GO set until it is done, then that command's T", and its status. Else the dword is free:
-- before the first command after a reset, and GO once it is done.
pub record Shows (c : Card) (v : ℕ) : Type 1 where
  pub while_pending : (p : Command) → c.pending ≡ some p → go_of v ≡ true
  pub when_done : (t : Bool) → c.pending ≡ none → c.last ≡ some t → (tbit_of v ≡ t) × (status_of v ≡ c.status)

abbrev pub CardReads : Card → (bar offset : ℕ) → Bus ℕ → Card → Type 1
CardReads c b o (good v) d = Settles c d × (b ≡ 0 → o ≡ 0x80698 → Shows d v)
CardReads c b o failed d = Settles c d

-- the command may end before the write is answered
abbrev pub Takes : Card → (bar offset value : ℕ) → Card → Type 1
Takes c b o v d = (m : Card) × Settles c m × Settles (take m b o v) d

-- "A bus call reported good was taken; one reported failed may have been, then and not later",
-- "whole or not at all"
abbrev pub CardWrites : Card → (bar offset value : ℕ) → Bus (Unit {0}) → Card → Type 1
CardWrites c b o v (good x) d = Takes c b o v d
CardWrites c b o v failed d = Settles c d ⊎ Takes c b o v d

-- THE HOST

-- What stands behind a handle: so many pages, the addresses at which they are mapped, and those at
-- which they were.
pub record Hold : Type 0 where
  pub pages : ℕ
  pub mapped : List Spot
  pub unmapped : List Spot

-- each handing over and each giving back, newest first
pub data Deal : Type 0 where
  out : (handle pages : ℕ) → Deal
  back : (handle pages : ℕ) → Deal

-- what stands under a handle: the pages of its last handing over, until they are given back
abbrev pub standing : ℕ → List Deal → Option ℕ
standing h [] = none
standing h (out x n ∷ l) = pick (eqb h x) (some n) (standing h l)
standing h (back x n ∷ l) = pick (eqb h x) none (standing h l)

-- What is handed out, by handle; the deals with this session; and where its inbox and its outbox
-- are: a session's first two buffers that were mapped are its mailboxes.
pub record Host : Type 0 where
  pub hand : ℕ → Option Hold
  pub log : List Deal
  pub inbox : Option Spot
  pub outbox : Option Spot

-- a device page that a stretch of addresses meets
abbrev pub Meets : Spot → ℕ → Type 0
Meets s d = (s.address < (d + 1) * 4096) × (d * 4096 < s.address + s.bytes)

abbrev pub On : List Spot → ℕ → Type 0
On [] d = ⊥
On (s ∷ ss) d = Meets s d ⊎ On ss d

-- the device page's address is in use
abbrev pub InUse : Host → ℕ → Type 0
InUse k d = (h : ℕ) × (x : Hold) × (k.hand h ≡ some x) × On x.mapped d

-- it is an address of pages that stand handed over to this session
abbrev pub Ours : Host → ℕ → Type 0
Ours k d = (h : ℕ) × (x : Hold) × (k.hand h ≡ some x) × (standing h k.log ≡ some x.pages) × On x.mapped d

abbrev pub or_else : Option Spot → Spot → Option Spot
or_else none s = some s
or_else (some x) s = some x

-- the second buffer is the first one after the inbox
abbrev pub second : Option Spot → Option Spot → Spot → Option Spot
second none o s = o
second (some i) o s = or_else o s

abbrev pub map_at : Spot → Option Hold → Option Hold
map_at s none = none
map_at s (some x) = some (record { pages = x.pages; mapped = s ∷ x.mapped; unmapped = x.unmapped })

abbrev pub unmap_all : Option Hold → Option Hold
unmap_all none = none
unmap_all (some x) = some (record { pages = x.pages; mapped = []; unmapped = x.mapped ++ x.unmapped })

abbrev pub hand_out : Host → (handle pages : ℕ) → Host
hand_out k h n =
    record { hand = put k.hand h (some (record { pages = n; mapped = []; unmapped = [] })); log = out h n ∷ k.log; inbox = k.inbox; outbox = k.outbox }

abbrev pub map_in : Host → (handle : ℕ) → Spot → Host
map_in k h s =
    record { hand = put k.hand h (map_at s (k.hand h)); log = k.log; inbox = or_else k.inbox s; outbox = second k.inbox k.outbox s }

abbrev pub unmap_in : Host → (handle : ℕ) → Host
unmap_in k h = record { hand = put k.hand h (unmap_all (k.hand h)); log = k.log; inbox = k.inbox; outbox = k.outbox }

abbrev pub hand_back : Host → (handle pages : ℕ) → Host
hand_back k h n = record { hand = put k.hand h none; log = back h n ∷ k.log; inbox = k.inbox; outbox = k.outbox }

-- The host hands out no page or handle in use; "a failed allocation handed over nothing".
abbrev pub HostAllocates : Host → ℕ → Bus ℕ → Host → Type 0
HostAllocates k n (good h) l = (k.hand h ≡ none) × (l ≡ hand_out k h n)
HostAllocates k n failed l = l ≡ k

-- It gives no address in use; "a failed map mapped nothing".
abbrev pub HostMaps : Host → ℕ → Bus Spot → Host → Type 0
HostMaps k h (good s) l = ((d : ℕ) → Meets s d → InUse k d → ⊥) × (l ≡ map_in k h s)
HostMaps k h failed l = l ≡ k

-- "A page is given back by the question that frees it, even if that fails; it and its handle are in
-- use till then, an address till its unmap question."
abbrev pub HostStep : Host → (q : Ask) → Reply q → Host → Type 0
HostStep k (config_read16 o) r l = l ≡ k
HostStep k (config_read32 o) r l = l ≡ k
HostStep k (config_write16 o v) r l = l ≡ k
HostStep k (config_write32 o v) r l = l ≡ k
HostStep k (read b o) r l = l ≡ k
HostStep k (write b o v) r l = l ≡ k
HostStep k (attributes o v) r l = l ≡ k
HostStep k (resource b) r l = l ≡ k
HostStep k (stall t) r l = l ≡ k
HostStep k (allocate n) r l = HostAllocates k n r l
HostStep k (mapped h n) r l = HostMaps k h r l
HostStep k (unmap h) r l = l ≡ unmap_in k h
HostStep k (free h n) r l = l ≡ hand_back k h n
HostStep k (fence i) r l = l ≡ k

-- THE WORLD

pub record World : Type 1 where
  pub card : Card
  pub host : Host

-- the mailboxes at a fence that copies these bytes
abbrev pub mail_at : Host → List ℕ → Mail
mail_at k i = record { inbox = k.inbox; outbox = k.outbox; bytes = i }

-- "Nothing else changes what the card holds": config, attribute, resource and stall questions do
-- not
abbrev pub CardStep : Host → Card → (q : Ask) → Reply q → Card → Type 1
CardStep k c (config_read16 o) r d = Settles c d
CardStep k c (config_read32 o) r d = Settles c d
CardStep k c (config_write16 o v) r d = Settles c d
CardStep k c (config_write32 o v) r d = Settles c d
CardStep k c (read b o) r d = CardReads c b o r d
CardStep k c (write b o v) r d = CardWrites c b o v r d
CardStep k c (attributes o v) r d = Settles c d
CardStep k c (resource b) r d = Settles c d
CardStep k c (stall t) r d = Settles c d
CardStep k c (allocate n) r d = Settles c d
CardStep k c (mapped h n) r d = Settles c d
CardStep k c (unmap h) r d = Settles c d
CardStep k c (free h n) r d = Settles c d
CardStep k c (fence i) r d = (n : Card) × Settles c n × (d ≡ fenced n (mail_at k i))

abbrev pub WorldStep : World → (q : Ask) → Reply q → World → Type 1
WorldStep w q r v = CardStep w.host w.card q r v.card × HostStep w.host q r v.host

-- WHAT THE CARD MAY USE

abbrev pub IsHeld : Held → ℕ → Type 0
IsHeld h d = ((v : ℕ) × h.icm v d) ⊎ h.firmware d ⊎ h.auxiliary d ⊎ h.lent d

abbrev pub IsMap : Kind → Type 0
IsMap MapFa = Unit {0}
IsMap UnmapFa = ⊥
IsMap MapAux = Unit {0}
IsMap UnmapAux = ⊥
IsMap MapIcm = Unit {0}
IsMap UnmapIcm = ⊥
IsMap CloseHca = ⊥
IsMap Other = ⊥

-- a page of a mailbox
abbrev pub OnBox : Option Spot → ℕ → Type 0
OnBox none d = ⊥
OnBox (some s) d = Meets s d

-- "its inbox and outbox", in every form of command, and the blocks of a MAP; "no immediate names a
-- page"
abbrev pub Carries : Command → ℕ → Type 0
Carries p d = OnBox p.mail.inbox d ⊎ OnBox p.mail.outbox d ⊎ (IsMap (kind p.opcode) × Named p d)

-- "The card may use what it holds, a pending command's mailboxes and blocks, and lent pages until
-- CLOSE_HCA succeeds."
abbrev pub MayUse : Card → ℕ → Type 0
MayUse c d = IsHeld c.held d ⊎ ((p : Command) × (c.pending ≡ some p) × Carries p d)

-- WHAT A SESSION MUST KEEP TO

-- the handle was handed over to this session, and the card may use no page of what is behind it, at
-- any address that it was given
pub record Clear (w : World) (h : ℕ) : Type 0 where
  pub hold : Hold
  pub handed : w.host.hand h ≡ some hold
  pub own : standing h w.host.log ≡ some hold.pages
  pub unused : (d : ℕ) → On (hold.mapped ++ hold.unmapped) d → MayUse w.card d → ⊥

-- the inbox stands at this address
abbrev pub StandsAt : Option Spot → ℕ → Type 0
StandsAt none x = ⊥
StandsAt (some s) x = s.address ≡ x

-- a command is written only while none is pending; a MAP's input parameter is its inbox's address;
-- and all that it tells the card of is the session's own
pub record Posts (w : World) (v : ℕ) : Type 0 where
  pub idle : w.card.pending ≡ none
  pub addressed : IsMap (kind (written w.card v).opcode) → StandsAt (written w.card v).mail.inbox (written w.card v).in_param
  pub carried : (d : ℕ) → Carries (written w.card v) d → Ours w.host d

-- What a session may ask, while its inbox holds these bytes: it writes dwords; it takes its first
-- page only when the card may use none; it maps what is its own and is not mapped; it unmaps an
-- address and gives pages back only if they are its own and the card may not use them, and all of
-- them at once; a fence copies the inbox as it is.
abbrev pub Allowed : (inbox : List ℕ) → World → Ask → Type 0
Allowed i w (config_read16 o) = Unit {0}
Allowed i w (config_read32 o) = Unit {0}
Allowed i w (config_write16 o v) = Unit {0}
Allowed i w (config_write32 o v) = Unit {0}
Allowed i w (read b o) = Unit {0}
Allowed i w (write b o v) = (v < 2 ^ 32) × (b ≡ 0 → o ≡ 0x80698 → Posts w v)
Allowed i w (attributes o v) = Unit {0}
Allowed i w (resource b) = Unit {0}
Allowed i w (stall t) = Unit {0}
Allowed i w (allocate n) = w.host.log ≡ [] → (d : ℕ) → MayUse w.card d → ⊥
Allowed i w (mapped h n) = (x : Hold) × (w.host.hand h ≡ some x) × (standing h w.host.log ≡ some x.pages) × (x.mapped ≡ [])
Allowed i w (unmap h) = Clear w h
Allowed i w (free h n) = (x : Clear w h) × (x.hold.pages ≡ n)
Allowed i w (fence j) = j ≡ i
