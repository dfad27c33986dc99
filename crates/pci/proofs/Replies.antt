-- An answer suits a question exactly if it is a reply to it.
use Prim.Native.Nat.{ℕ}
use mathlib.Core.Bool.{Bool, true, false}
use mathlib.Core.List.{List}
use mathlib.Core.Option.{Option, some, none}
use mathlib.Core.Path.{◌≡◌, refl}
use Rattle.std.specs.Prelude.{Result, Ok, Err}
use Rattle.pci.specs.Suits.{is_kind, suits_of}
use Rattle.pci.specs.Views.{word_of, dword_of, qword_of, done_of, told_of, granted_of, mapped_of, list_of}
use Rattle.pci.specs.Script.{Ask, shown, reply_of, as_bus, as_register, as_told, as_spot, as_list, config_read16, config_read32, config_write16, config_write32, read, write, attributes, resource, stall, allocate, mapped, unmap, free, fence}
use Rattle.pci.specs.declared.Answer.{Answer}
use Rattle.pci.specs.declared.NoReply.{NoReply}
use Rattle.pci.specs.declared.NoReply.TheVariants.{Failed, Wrong}

abbrev pub is_reply : {A : Type 0} → Option A → Bool
is_reply none = false
is_reply (some a) = true

bus : {A : Type 0} (r : Result A NoReply) → is_kind r ≡ is_reply (as_bus r)
bus (Ok v) = refl
bus (Err Failed) = refl
bus (Err Wrong) = refl

register : (r : Result ℕ NoReply) → is_kind r ≡ is_reply (as_register r)
register (Ok v) = refl
register (Err Failed) = refl
register (Err Wrong) = refl

told : (r : Bool) → r ≡ is_reply (as_told r)
told true = refl
told false = refl

spot : (r : Result (ℕ × ℕ) NoReply) → is_kind r ≡ is_reply (as_spot r)
spot (Ok (v, n)) = refl
spot (Err Failed) = refl
spot (Err Wrong) = refl

list : (bytes : List ℕ) (r : Result (Unit {0}) NoReply) → is_kind r ≡ is_reply (as_list bytes r)
list bytes (Ok u) = refl
list bytes (Err Failed) = refl
list bytes (Err Wrong) = refl

pub suits_reply : (q : Ask) (a : Answer) (bytes : List ℕ) → suits_of (shown q) a ≡ is_reply (reply_of q a bytes)
suits_reply (config_read16 o) a bytes = bus (word_of a)
suits_reply (config_read32 o) a bytes = bus (dword_of a)
suits_reply (config_write16 o v) a bytes = bus (done_of a)
suits_reply (config_write32 o v) a bytes = bus (done_of a)
suits_reply (read b o) a bytes = register (dword_of a)
suits_reply (write b o v) a bytes = bus (done_of a)
suits_reply (attributes o v) a bytes = bus (qword_of a)
suits_reply (resource b) a bytes = list bytes (list_of a)
suits_reply (stall u) a bytes = told (told_of a)
suits_reply (allocate n) a bytes = bus (granted_of a)
suits_reply (mapped k n) a bytes = spot (mapped_of a)
suits_reply (unmap k) a bytes = bus (done_of a)
suits_reply (free k n) a bytes = bus (done_of a)
suits_reply (fence i) a bytes = told (told_of a)
