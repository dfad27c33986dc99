-- A buffer is made and freed, as scripts. Document 01: "5 allocate or map fails", "18 device address no page multiple, its end above 2^64, or bytes above
-- 2^64 − 4,096", "A buffer mapped at an address refused with 18 is unmapped and freed."
-- Public document: UEFI, PCI I/O Protocol: AllocateBuffer, Map for a common buffer, Unmap,
-- FreeBuffer. It was not at hand.
use Rattle.std.specs.Prelude.{ℕ, ◌*◌, [], eqb}
use Rattle.fields.specs.Outcome.{Outcome, value, refused, pick}
use Rattle.dma.specs.Buffers.{pages_for, accept_at}
use Rattle.dma.specs.declared.Buffer.{Buffer}
use Rattle.pci.specs.Script.{Script, ret, ask, Bus, good, failed, Spot, allocate, mapped, unmap, free}
use Rattle.buffer.specs.declared.Fault.{Fault}
use Rattle.buffer.specs.declared.Fault.TheVariants as f
use Rattle.buffer.specs.declared.Made.{Made}
use Rattle.buffer.specs.declared.Made.TheVariants as m

abbrev pub fault : {A : Type 0} → Fault → Outcome A
fault f.Memory = refused 5 []
fault f.Address = refused 18 []

abbrev pub made : Made → Outcome Buffer
made (m.Ready b) = value b
made (m.Refused x) = fault x

-- go on with a value, or where there is none
abbrev pub by_outcome : {A B : Type 0} → Outcome A → (A → B) → B → B
by_outcome (value a) k z = k a
by_outcome (refused n vs) k z = z

-- unmap, then free; failures are passed over
abbrev pub release : {R : Type 0} → (handle pages : ℕ) → R → Script R
release h n r = ask (unmap h) (λ x. ask (free h n) (λ y. ret r))

-- after the map: failed, the pages are freed, and that is 5; a refused address is 18, before another size is looked at, which is 5
abbrev pub on_map : (handle pages : ℕ) → Bus Spot → Script Made
on_map h n failed = ask (free h n) (λ x. ret (m.Refused f.Memory))
on_map h n (good s) =
    by_outcome (accept_at s.address n)
    (λ u.
    pick (eqb s.bytes (n * 4096)) (ret (m.Ready (record { handle = h; dev = s.address; pages = n }))) (release h n (m.Refused f.Memory)))
    (release h n (m.Refused f.Address))

abbrev pub mapping : (handle pages : ℕ) → Script Made
mapping h n = ask (mapped h (n * 4096)) (on_map h n)

-- a failed allocation handed over nothing
abbrev pub on_allocate : (pages : ℕ) → Bus ℕ → Script Made
on_allocate n failed = ret (m.Refused f.Memory)
on_allocate n (good h) = mapping h n

abbrev pub allocating : (pages : ℕ) → Script Made
allocating n = ask (allocate n) (on_allocate n)

-- MAKING A BUFFER of so many bytes: too many are 18 before any question
abbrev pub making : (bytes : ℕ) → Script Made
making bytes = by_outcome (pages_for bytes) allocating (ret (m.Refused f.Address))

-- FREEING A BUFFER
abbrev pub freeing : (handle pages : ℕ) → Script (Unit {0})
freeing h n = release h n tt
