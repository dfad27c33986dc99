-- The two machines: the question of each state, what an answer makes of it, and the script that is left.
use Rattle.std.specs.Prelude.{ℕ, ◌*◌, ◌/◌, List, eqb, Result, Ok, Err}
use Rattle.fields.specs.Outcome.{pick}
use Rattle.dma.specs.Buffers.{pages_for, accept_at}
use Rattle.dma.specs.declared.Buffer.{Buffer}
use Rattle.pci.specs.Views.{done_of, granted_of, mapped_of}
use Rattle.pci.specs.Script.{Script, ret, ask, free}
use Rattle.pci.specs.Machine.{Next, more, ended, Follows}
use Rattle.pci.specs.declared.Question.{Question}
use Rattle.pci.specs.declared.Question.TheVariants as q
use Rattle.pci.specs.declared.Answer.{Answer}
use Rattle.pci.specs.declared.NoReply.{NoReply}
use Rattle.pci.specs.declared.NoReply.TheVariants.{Failed, Wrong}
use Rattle.buffer.specs.Buffer.{by_outcome, release, mapping, allocating, freeing}
use Rattle.buffer.specs.declared.Fault.{Fault}
use Rattle.buffer.specs.declared.Fault.TheVariants as f
use Rattle.buffer.specs.declared.Made.{Made}
use Rattle.buffer.specs.declared.Made.TheVariants as m
use Rattle.buffer.specs.declared.MakePhase.{MakePhase}
use Rattle.buffer.specs.declared.MakePhase.TheVariants as p
use Rattle.buffer.specs.declared.Making.{Making}
use Rattle.buffer.specs.declared.MakeStep.{MakeStep}
use Rattle.buffer.specs.declared.MakeStep.TheVariants as s
use Rattle.buffer.specs.declared.FreePhase.{FreePhase}
use Rattle.buffer.specs.declared.FreePhase.TheVariants as e
use Rattle.buffer.specs.declared.Freeing.{Freeing}
use Rattle.buffer.specs.declared.FreeStep.{FreeStep}
use Rattle.buffer.specs.declared.FreeStep.TheVariants as t

-- MAKING
abbrev pub pages_in : Making → ℕ
pages_in k = k.bytes / 4096

abbrev pub in_phase : Making → MakePhase → Making
in_phase k x = record { bytes = k.bytes; phase = x }

abbrev pub make_asks_at : (pages : ℕ) → MakePhase → Question
make_asks_at n p.Allocate = q.Allocate n
make_asks_at n (p.Map handle) = q.Map handle (n * 4096)
make_asks_at n (p.Unmap handle x) = q.Unmap handle
make_asks_at n (p.Free handle x) = q.Free handle n

abbrev pub make_asks : Making → Question
make_asks k = make_asks_at (pages_in k) k.phase

abbrev pub allocated : Making → Result ℕ NoReply → MakeStep
allocated k (Ok handle) = s.More (in_phase k (p.Map handle))
allocated k (Err Failed) = s.Ended (m.Refused f.Memory)
allocated k (Err Wrong) = s.More k

-- the address is looked at before the size
abbrev pub spotted : Making → (handle address bytes : ℕ) → MakeStep
spotted k handle address bytes =
    by_outcome (accept_at address (pages_in k))
    (λ u.
    pick (eqb bytes (pages_in k * 4096)) (s.Ended (m.Ready (record { handle = handle; dev = address; pages = pages_in k })))
    (s.More (in_phase k (p.Unmap handle f.Memory))))
    (s.More (in_phase k (p.Unmap handle f.Address)))

abbrev pub map_step : Making → (handle : ℕ) → Result (ℕ × ℕ) NoReply → MakeStep
map_step k handle (Ok (address, bytes)) = spotted k handle address bytes
map_step k handle (Err Failed) = s.More (in_phase k (p.Free handle f.Memory))
map_step k handle (Err Wrong) = s.More k

abbrev pub unmapped : Making → (handle : ℕ) → Fault → Result (Unit {0}) NoReply → MakeStep
unmapped k handle x (Ok _) = s.More (in_phase k (p.Free handle x))
unmapped k handle x (Err Failed) = s.More (in_phase k (p.Free handle x))
unmapped k handle x (Err Wrong) = s.More k

abbrev pub freed : Making → Fault → Result (Unit {0}) NoReply → MakeStep
freed k x (Ok _) = s.Ended (m.Refused x)
freed k x (Err Failed) = s.Ended (m.Refused x)
freed k x (Err Wrong) = s.More k

abbrev pub make_step_at : Making → Answer → MakePhase → MakeStep
make_step_at k a p.Allocate = allocated k (granted_of a)
make_step_at k a (p.Map handle) = map_step k handle (mapped_of a)
make_step_at k a (p.Unmap handle x) = unmapped k handle x (done_of a)
make_step_at k a (p.Free handle x) = freed k x (done_of a)

abbrev pub make_step_of : Making → Answer → MakeStep
make_step_of k a = make_step_at k a k.phase

-- the first question, or 18
abbrev pub make_of : (bytes : ℕ) → MakeStep
make_of bytes = by_outcome (pages_for bytes) (λ n. s.More (record { bytes = n * 4096; phase = p.Allocate })) (s.Ended (m.Refused f.Address))

abbrev pub make_next : MakeStep → Next Making Made
make_next (s.More k) = more k
make_next (s.Ended r) = ended r

abbrev pub make_step : Making → Answer → List ℕ → Next Making Made
make_step k a bytes = make_next (make_step_of k a)

abbrev pub make_script_at : (pages : ℕ) → MakePhase → Script Made
make_script_at n p.Allocate = allocating n
make_script_at n (p.Map handle) = mapping handle n
make_script_at n (p.Unmap handle x) = release handle n (m.Refused x)
make_script_at n (p.Free handle x) = ask (free handle n) (λ y. ret (m.Refused x))

abbrev pub make_script : Making → Script Made
make_script k = make_script_at (pages_in k) k.phase

abbrev pub MakeFollows : Type 0
MakeFollows = (k : Making) → Follows make_asks make_step make_script k (make_script k)

-- FREEING
abbrev pub start_free : Buffer → Freeing
start_free b = record { handle = b.handle; pages = b.pages; phase = e.Unmap }

abbrev pub to_free : Freeing → Freeing
to_free k = record { handle = k.handle; pages = k.pages; phase = e.Free }

abbrev pub free_asks_at : (handle pages : ℕ) → FreePhase → Question
free_asks_at handle n e.Unmap = q.Unmap handle
free_asks_at handle n e.Free = q.Free handle n

abbrev pub free_asks : Freeing → Question
free_asks k = free_asks_at k.handle k.pages k.phase

abbrev pub free_on : Freeing → FreeStep → Result (Unit {0}) NoReply → FreeStep
free_on k next (Ok _) = next
free_on k next (Err Failed) = next
free_on k next (Err Wrong) = t.More k

abbrev pub free_step_at : Freeing → Result (Unit {0}) NoReply → FreePhase → FreeStep
free_step_at k r e.Unmap = free_on k (t.More (to_free k)) r
free_step_at k r e.Free = free_on k t.Freed r

abbrev pub free_step_of : Freeing → Answer → FreeStep
free_step_of k a = free_step_at k (done_of a) k.phase

abbrev pub free_next : FreeStep → Next Freeing (Unit {0})
free_next (t.More k) = more k
free_next t.Freed = ended tt

abbrev pub free_step : Freeing → Answer → List ℕ → Next Freeing (Unit {0})
free_step k a bytes = free_next (free_step_of k a)

abbrev pub free_script_at : (handle pages : ℕ) → FreePhase → Script (Unit {0})
free_script_at handle n e.Unmap = freeing handle n
free_script_at handle n e.Free = ask (free handle n) (λ y. ret tt)

abbrev pub free_script : Freeing → Script (Unit {0})
free_script k = free_script_at k.handle k.pages k.phase

abbrev pub FreeFollows : Type 0
FreeFollows = (k : Freeing) → Follows free_asks free_step free_script k (free_script k)
