-- What a script or a course can come to: some answers, and some steps of the card and the host that
-- keep the rules, lead it to an end where Q holds.
use Rattle.std.specs.Prelude.{ℕ, ◌<◌, ◌^◌, List, true, ◌≡◌, leb, length, get_or}
use Rattle.std.proofs.Math.Option.{some}
use Rattle.pci.specs.Script.{Script, Ask, Reply, reply_of}
use Rattle.pci.specs.Script as s
use Rattle.pci.specs.declared.Answer.{Answer}
use Rattle.pci.specs.declared.Answer.TheVariants as a
use Rattle.session.specs.Course.{Course, ret, ask, Lent}
use Rattle.session.specs.declared.Top.{Top}
use Rattle.card.specs.Card.{World, WorldStep}
use Rattle.card_calls.specs.SafeCourse.{Lendable}

-- a slice of bytes, so short that a call's slices have room in one memory
pub record Slice (s : List ℕ) : Type 0 where
  pub bytes : (k : ℕ) → get_or s k 0 < 256
  pub long : length s < 2 ^ 32

-- the numbers of an answer are those of its type
abbrev pub SizedAnswer : Answer → Type 0
SizedAnswer (a.Word v) = v < 2 ^ 16
SizedAnswer (a.Dword v) = v < 2 ^ 32
SizedAnswer (a.Qword v) = v < 2 ^ 64
SizedAnswer a.Done = Unit {0}
SizedAnswer a.Failed = Unit {0}
SizedAnswer (a.Handle v) = v < 2 ^ 64
SizedAnswer (a.Mapped v n) = (v < 2 ^ 64) × (n < 2 ^ 64)
SizedAnswer a.List = Unit {0}

-- an answer of its type, with bytes beside it, says this
abbrev pub Answered : (q : Ask) → Reply q → Type 0
Answered q r = (a : Answer) × (bytes : List ℕ) × (reply_of q a bytes ≡ some r) × SizedAnswer a × Slice bytes

abbrev pub Can : {R : Type 0} → World → Script R → (World → R → Type 1) → Type 1
Can w (s.ret r) Q = Q w r
Can w (s.ask q k) Q = (r : Reply q) × (v : World) × Answered q r × WorldStep w q r v × Can v (k r) Q

-- nothing is on the undo list
abbrev pub no_undo : Top
no_undo = record { count = 0; op = 0; op_mod = 0; in_mod = 0; in_param = 0 }

-- what is lent is a mailbox of 4,096 bytes and at most 256 undo records
pub record Whole (m : Lent) : Type 0 where
  pub lendable : Lendable m
  pub outbox : length m.outbox ≡ 4096
  pub undo : leb m.undo.count 256 ≡ true
  -- the record is one of a list: its opcode has its type's width, and with no record there is none
  pub op : m.undo.op < 2 ^ 16
  pub listed : m.undo.count ≡ 0 → m.undo ≡ no_undo

abbrev pub CanCourse : {R : Type 0} → World → Course R → (World → R → Type 1) → Type 1
CanCourse w (ret l r) Q = Q w r
CanCourse w (ask q l k) Q = (r : Reply q) × (m : Lent) × (v : World) × Whole m × Answered q r × WorldStep w q r v × CanCourse v (k r m) Q
