-- What an answer says to a question of each kind.
use Rattle.std.specs.Prelude.{ℕ, Bool, true, false, Result, Ok, Err}
use Rattle.pci.specs.declared.Answer.{Answer}
use Rattle.pci.specs.declared.Answer.TheVariants as a
use Rattle.pci.specs.declared.NoReply.{NoReply}
use Rattle.pci.specs.declared.NoReply.TheVariants.{Failed, Wrong}

-- to a config read of 16 bits
abbrev pub word_of : Answer → Result ℕ NoReply
word_of (a.Word x) = Ok x
word_of a.Failed = Err Failed
word_of _ = Err Wrong

-- to a config read of 32 bits, or a register read
abbrev pub dword_of : Answer → Result ℕ NoReply
dword_of (a.Dword x) = Ok x
dword_of a.Failed = Err Failed
dword_of _ = Err Wrong

-- to an attribute call
abbrev pub qword_of : Answer → Result ℕ NoReply
qword_of (a.Qword x) = Ok x
qword_of a.Failed = Err Failed
qword_of _ = Err Wrong

-- to a write, an unmap or a free
abbrev pub done_of : Answer → Result (Unit {0}) NoReply
done_of a.Done = Ok tt
done_of a.Failed = Err Failed
done_of _ = Err Wrong

-- to a stall or a fence, which cannot fail: whether it is of the right kind
abbrev pub told_of : Answer → Bool
told_of a.Done = true
told_of _ = false

-- to an allocation
abbrev pub granted_of : Answer → Result ℕ NoReply
granted_of (a.Handle x) = Ok x
granted_of a.Failed = Err Failed
granted_of _ = Err Wrong

-- to a map: the device address and the bytes
abbrev pub mapped_of : Answer → Result (ℕ × ℕ) NoReply
mapped_of (a.Mapped x y) = Ok (x, y)
mapped_of a.Failed = Err Failed
mapped_of _ = Err Wrong

-- to a question for a BAR resource
abbrev pub list_of : Answer → Result (Unit {0}) NoReply
list_of a.List = Ok tt
list_of a.Failed = Err Failed
list_of _ = Err Wrong
