-- Which answers are of the right kind for which question. Document 01: "20 answer of the wrong kind"; a stall and a fence cannot fail, so "failed" is none.
use Rattle.std.specs.Prelude.{Bool, true, false, Result, Ok, Err}
use Rattle.pci.specs.Views.{word_of, dword_of, qword_of, done_of, told_of, granted_of, mapped_of, list_of}
use Rattle.pci.specs.declared.Question.{Question}
use Rattle.pci.specs.declared.Question.TheVariants as q
use Rattle.pci.specs.declared.Answer.{Answer}
use Rattle.pci.specs.declared.NoReply.{NoReply}
use Rattle.pci.specs.declared.NoReply.TheVariants.{Failed, Wrong}

-- an answer of the right kind is good or has failed
abbrev pub is_kind : {A : Type 0} → Result A NoReply → Bool
is_kind (Ok v) = true
is_kind (Err Failed) = true
is_kind (Err Wrong) = false

-- nothing answers a call that is finished
abbrev pub suits_of : Question → Answer → Bool
suits_of (q.ConfigRead16 o) a = is_kind (word_of a)
suits_of (q.ConfigRead32 o) a = is_kind (dword_of a)
suits_of (q.ConfigWrite16 o v) a = is_kind (done_of a)
suits_of (q.ConfigWrite32 o v) a = is_kind (done_of a)
suits_of (q.RegRead b o) a = is_kind (dword_of a)
suits_of (q.RegWrite b o v) a = is_kind (done_of a)
suits_of (q.Attributes o v) a = is_kind (qword_of a)
suits_of (q.Resource b) a = is_kind (list_of a)
suits_of (q.Stall u) a = told_of a
suits_of (q.Allocate n) a = is_kind (granted_of a)
suits_of (q.Map k n) a = is_kind (mapped_of a)
suits_of (q.Unmap k) a = is_kind (done_of a)
suits_of (q.Free k n) a = is_kind (done_of a)
suits_of q.Fence a = told_of a
suits_of q.Finished a = false
