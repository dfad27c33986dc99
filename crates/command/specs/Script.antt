-- One command, as a script: document 01, hcr. Register values are the registers' own; `inbox` is what the fences copy to the device.
-- Public document: ConnectX-3 Programmer's Reference Manual, how a command is posted and its end
-- seen. It was not at hand.
use Rattle.std.specs.Prelude.{ℕ, zero, suc, ◌+◌, ◌*◌, ◌/◌, ◌%◌, ◌^◌, Bool, not, List, [], ◌∷◌, eqb}
use Rattle.fields.specs.Outcome.{Outcome, value, refused, pick}
use Rattle.hcr.specs.Words.{register, go_word, pending_in, status_in, stall_of, waited_of}
use Rattle.hcr.specs.declared.Post.{Post}
use Rattle.pci.specs.Script.{Script, ret, ask, Bus, good, failed, read, write, stall, fence}
use Rattle.command.specs.declared.Catas.{Catas}
use Rattle.command.specs.declared.Catas.TheVariants.{Known, Unknown}
use Rattle.command.specs.declared.CmdResult.{CmdResult}
use Rattle.command.specs.declared.CmdResult.TheVariants as r
use Rattle.command.specs.declared.CmdEnd.{CmdEnd}

-- how many stalls a Timeout has waited: 60,000,000 µs (laws `timeout_waited`, `no_sooner`)
abbrev pub STALLS : ℕ
STALLS = 600990

abbrev pub ending : Bool → CmdResult → CmdEnd
ending t x = record { result = x; toggle = t }

-- "Every command's answer gives the microseconds waited": 6 (status, µs), 7 (µs), 8 (0 µs), 9 (µs); the immediate of a good one
abbrev pub result_of : CmdResult → Outcome ℕ
result_of (r.Done imm us) = value imm
result_of (r.Status s us) = refused 6 (s ∷ us ∷ [])
result_of (r.Timeout us) = refused 7 (us ∷ [])
result_of r.Busy = refused 8 (0 ∷ [])
result_of (r.Bus us) = refused 9 (us ∷ [])

abbrev pub micros_of : CmdResult → ℕ
micros_of (r.Done imm us) = us
micros_of (r.Status s us) = us
micros_of (r.Timeout us) = us
micros_of r.Busy = 0
micros_of (r.Bus us) = us

-- go on with what was read or written, or end: the bus failed
abbrev pub on_read : CmdEnd → (ℕ → Script CmdEnd) → Bus ℕ → Script CmdEnd
on_read e k (good v) = k v
on_read e k failed = ret e

abbrev pub on_write : CmdEnd → Script CmdEnd → Bus (Unit {0}) → Script CmdEnd
on_write e k (good x) = k
on_write e k failed = ret e

abbrev pub reading : ℕ → CmdEnd → (ℕ → Script CmdEnd) → Script CmdEnd
reading off e k = ask (read 0 (register off)) (on_read e k)

-- "A Timeout, unless silent, reads the catastrophic buffer once if known"; its outcome is passed over
abbrev pub timed_out : Catas → CmdEnd → Script CmdEnd
timed_out (Known bar off) e = ask (read bar off) (λ x. ret e)
timed_out Unknown e = ret e

-- the words of the writes before the last, at 0x00, 0x04, .. 0x14
abbrev pub words : Post → List ℕ
words p = (p.in_param / 2 ^ 32) ∷ (p.in_param % 2 ^ 32) ∷ p.in_mod ∷ (p.out_param / 2 ^ 32) ∷ (p.out_param % 2 ^ 32) ∷ 0xffff0000 ∷ []

module _ (catas : Catas) (inbox : List ℕ) where
  -- the immediate: high half, then low half
  unfoldable pub low : Bool → (us high : ℕ) → Script CmdEnd
  low t us h = reading 0x10 (ending t (r.Bus us)) (λ l. ret (ending t (r.Done (h * 2 ^ 32 + l) us)))

  unfoldable pub immediate : Bool → (us : ℕ) → Script CmdEnd
  immediate t us = reading 0x0c (ending t (r.Bus us)) (low t us)

  -- the status is that of a second read
  unfoldable pub judged : Bool → (us : ℕ) → Script CmdEnd
  judged t us = reading 0x18 (ending t (r.Bus us)) (λ v. pick (eqb (status_in v) 0) (immediate t us) (ret (ending t (r.Status (status_in v) us))))

  unfoldable pub verdict : Bool → (us : ℕ) → Script CmdEnd
  verdict t us = ask (fence inbox) (λ x. judged t us)

  -- "Wait: 1,000 stalls of 1 µs, then 100 µs each; Timeout when still pending with 60,000,000 µs or more waited": after n stalls, with so many left
  unfoldable pub poll : Bool → (n left : ℕ) → Script CmdEnd
  poll t n zero = reading 0x18 (ending t (r.Bus (waited_of n))) (λ v. pick (pending_in v t) (timed_out catas (ending t (r.Timeout (waited_of n)))) (verdict t (waited_of n)))
  poll t n (suc left) =
      reading 0x18 (ending t (r.Bus (waited_of n))) (λ v. pick (pending_in v t) (ask (stall (stall_of n)) (λ x. poll t (suc n) left)) (verdict t (waited_of n)))

  unfoldable pub write_all : Bool → (off : ℕ) → List ℕ → Script CmdEnd → Script CmdEnd
  write_all t off [] k = k
  write_all t off (v ∷ vs) k = ask (write 0 (register off) v) (on_write (ending t (r.Bus 0)) (write_all t (off + 4) vs k))

  -- "then 0x18; the toggle flips only after that last write succeeds"
  unfoldable pub start : Bool → Post → Script CmdEnd
  start t p = ask (write 0 (register 0x18) (go_word t p.op_mod p.op)) (on_write (ending t (r.Bus 0)) (poll (not t) 0 STALLS))

  unfoldable pub fenced : Bool → Post → Script CmdEnd
  fenced t p = ask (fence inbox) (λ x. start t p)

  -- "Pending before posting is Busy, with no write."
  unfoldable pub command : Bool → Post → Script CmdEnd
  command t p = reading 0x18 (ending t (r.Bus 0)) (λ v. pick (pending_in v t) (ret (ending t r.Busy)) (write_all t 0x00 (words p) (fenced t p)))
