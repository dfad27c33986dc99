-- The reset, as a script. Document 01, fw: "Reset: at most 10,001 semaphore and 2,000 vendor reads", and the rest as the Rust's `reset` has it.
-- Public documents: PCI Local Bus, the header of 16 dwords with the command register at 0x04, and
-- the capability list from 0x34 on; in it, by PCI Express, the capability 0x10 with two control
-- words. Neither was at hand; the numbers are those of Linux's pci_regs.h. ConnectX-3 Programmer's
-- Reference Manual, semaphore and reset register: not at hand, the Rust's.
-- Where PCI Local Bus says otherwise than the Rust: docs/DIFFERENCES.md.
use Rattle.std.specs.Prelude.{ℕ, zero, suc, ◌+◌, ◌-◌, ◌*◌, ◌/◌, ◌%◌, Bool, false, not, List, [], get_or, set, replicate, eqb, ltb}
use Rattle.std.proofs.Math.Option.{Option, some, none}
use Rattle.fields.specs.Outcome.{Outcome, value, refused, number_of, pick}
use Rattle.pci.specs.Script.{Script, ret, ask, Bus, good, failed, config_read16, config_read32, config_write16, config_write32, read, write, stall}
use Rattle.reset.specs.declared.ResetEnd.{ResetEnd}
use Rattle.reset.specs.declared.ResetEnd.TheVariants as e
use Rattle.reset.specs.declared.Control.{Control}
use Rattle.reset.specs.declared.Control.TheVariants as c

-- "3 reset fails", whatever part of it did
abbrev pub ended : ResetEnd → Outcome (Unit {0})
ended e.Good = value tt
ended e.Save = refused 3 []
ended (e.Semaphore v) = refused 3 []
ended e.Write = refused 3 []
ended e.Vendor = refused 3 []

-- no refusal
abbrev pub is_good : ResetEnd → Bool
is_good r = eqb (number_of (ended r)) 0

-- go on with what the call gave; where the call failed, `bad` is left
abbrev pub either : {A : Type 0} → Script ResetEnd → (A → Script ResetEnd) → Bus A → Script ResetEnd
either bad k (good a) = k a
either bad k failed = bad

-- of sixteen things, the number of the one after which n are left
abbrev pub dword_at : ℕ → ℕ
dword_at n = 15 - n

-- Restore. All dwords but 0x04 in order, and 0x04 last: the number of the dword after which n are left. (proofs/Laws.antt lists them.)
abbrev pub restored_at : ℕ → ℕ
restored_at n = pick (eqb n 0) 1 (pick (ltb n 15) (16 - n) 0)

-- n config dwords are left to write; failures are passed over
unfoldable pub restore : (n : ℕ) → List ℕ → Script ResetEnd
restore zero dwords = ret e.Good
restore (suc n) dwords = ask (config_write32 (restored_at n * 4) (get_or dwords (restored_at n) 0)) (λ r. restore n dwords)

-- the control words first, if they were read
abbrev pub restore_control : Control → Script ResetEnd → Script ResetEnd
restore_control c.Absent next = next
restore_control (c.Saved at device link) next = ask (config_write16 (at + 0x08) device) (λ r. ask (config_write16 (at + 0x10) link) (λ s. next))

-- Vendor. A good read other than 0xffff; "at most .. 2,000 vendor reads", each of the others followed by a stall of 1,000 µs
abbrev pub is_there : Bus ℕ → Bool
is_there (good v) = not (eqb v 0xffff)
is_there failed = false

unfoldable pub vendor : (reads : ℕ) → Script ResetEnd → Script ResetEnd
vendor zero next = ret e.Vendor
vendor (suc n) next = ask (config_read16 0) (λ r. pick (is_there r) next (ask (stall 1000) (λ s. vendor n next)))

abbrev pub afterwards : List ℕ → Control → Script ResetEnd
afterwards dwords control = vendor 2000 (restore_control control (restore 16 dwords))

-- The reset itself: 1 is written, then a second of rest
abbrev pub settle : List ℕ → Control → Script ResetEnd
settle dwords control = ask (stall 1000000) (λ r. afterwards dwords control)

abbrev pub written : List ℕ → Control → Script ResetEnd
written dwords control = ask (write 0 0xf0010 1) (either (ret e.Write) (λ r. settle dwords control))

-- Semaphore. It is free when it reads 0; "at most 10,001 semaphore .. reads", with a stall of 1,000 µs between two. `more` reads are left after this one
unfoldable pub semaphore : (more : ℕ) → Script ResetEnd → Script ResetEnd
semaphore zero next = ask (read 0 0xf03fc) (either (ret (e.Semaphore 0)) (λ v. pick (eqb v 0) next (ret (e.Semaphore v))))
semaphore (suc n) next =
    ask (read 0 0xf03fc) (either (ret (e.Semaphore 0)) (λ v. pick (eqb v 0) next (ask (stall 1000) (λ s. semaphore n next))))

abbrev pub taking : List ℕ → Control → Script ResetEnd
taking dwords control = semaphore 10000 (written dwords control)

-- Control words. Of the capability at c those at c + 8 and c + 0x10; if either read fails, neither is restored
abbrev pub link_control : List ℕ → (at device : ℕ) → Script ResetEnd
link_control dwords at device =
    ask (config_read16 (at + 0x10)) (either (taking dwords c.Absent) (λ link. taking dwords (c.Saved at device link)))

abbrev pub control : List ℕ → Option ℕ → Script ResetEnd
control dwords none = taking dwords c.Absent
control dwords (some at) = ask (config_read16 (at + 0x08)) (either (taking dwords c.Absent) (λ device. link_control dwords at device))

-- Capability. Pointers have their two low bits cleared
abbrev pub pointer : ℕ → ℕ
pointer byte = byte / 4 * 4

-- the header at a place: the capability's id below, the pointer to the next above
abbrev pub header : (at : ℕ) → (next : ℕ → Script ResetEnd) → (found : Option ℕ → Script ResetEnd) → Script ResetEnd
header at next found =
    ask (config_read16 at) (either (found none) (λ v. pick (eqb (v % 0x100) 0x10) (found (some at)) (next (pointer (v / 0x100)))))

-- at most n headers; pointer 0 ends the list
unfoldable pub walk : (n at : ℕ) → (found : Option ℕ → Script ResetEnd) → Script ResetEnd
walk zero at found = found none
walk (suc n) at found = pick (eqb at 0) (found none) (header at (λ p. walk n p found) found)

abbrev pub capability : List ℕ → Script ResetEnd
capability dwords = ask (config_read32 0x34) (either (control dwords none) (λ v. walk 48 (pointer (v % 0x100)) (control dwords)))

-- Save. n config dwords are left to read, in order; the first failure ends the reset
unfoldable pub save : (n : ℕ) → List ℕ → Script ResetEnd
save zero dwords = capability dwords
save (suc n) dwords = ask (config_read32 (dword_at n * 4)) (either (ret e.Save) (λ v. save n (set dwords (dword_at n) v)))

-- THE RESET
abbrev pub reset : Script ResetEnd
reset = save 16 (replicate 16 0)
