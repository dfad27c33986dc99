-- What was put into words is read back from them.
use Prim.Native.Nat.{◌<◌}
use mathlib.Core.Path.{◌≡◌, refl, ap}
use native.Mathlib.Nat.{mod-eq_of_lt}
use native.Mathlib.Omega.{arith}
use lib.Dec.{lit<}
use Rattle.words.specs.Words.{at}
use Rattle.words.proofs.Laws.{Words, words_at, bit_back, bit_small}
use Rattle.words_task.specs.Coding.{catas_words}
use Rattle.words_task.proofs.Trip.{catas_back, catas_small}
use Rattle.words_books.specs.Coding.{refusal_words, refusal_of, failure_words, failure_of, closing_words, closing_of, slot_words, slot_of, wire_words, wire_of, ledger_words, ledger_of}
use Rattle.words_books.specs.Fits.{RefusalFits, FailureFits, ClosingFits, SlotFits, WireFits, LedgerFits}
use Rattle.pci.specs.declared.Refusal.{Refusal}
use Rattle.pci.specs.declared.Refusal.TheVariants as rv
use Rattle.session.specs.declared.Failure.{Failure}
use Rattle.session.specs.declared.Failure.TheVariants as fv
use Rattle.session.specs.declared.Closing.{Closing}
use Rattle.session.specs.declared.Closing.TheVariants as cv
use Rattle.session.specs.declared.Slot.{Slot}
use Rattle.session.specs.declared.Wire.{Wire}
use Rattle.words_books.specs.declared.Ledger.{Ledger}

pub refusal_back : (v : Refusal) → RefusalFits v → refusal_of (at (refusal_words v) 0) (at (refusal_words v) 1) (at (refusal_words v) 2) ≡ v
refusal_back rv.Attributes f = refl
refusal_back rv.Owner f = refl
refusal_back rv.Reset f = refl
refusal_back rv.Bar f = refl
refusal_back rv.Memory f = refl
refusal_back (rv.Status x y) f = simp (mod-eq_of_lt f.0)
refusal_back (rv.Timeout x) f = refl
refusal_back rv.Busy f = refl
refusal_back (rv.Bus x) f = refl
refusal_back rv.NotPrimary f = refl
refusal_back (rv.Revision x) f = simp (mod-eq_of_lt f)
refusal_back (rv.MinPage x) f = simp (mod-eq_of_lt f)
refusal_back (rv.Ports x) f = simp (mod-eq_of_lt f)
refusal_back (rv.Uar x) f = simp (mod-eq_of_lt f)
refusal_back (rv.UarArea x) f = refl
refusal_back (rv.Entry x) f = refl
refusal_back (rv.Total x) f = refl
refusal_back rv.Address f = refl
refusal_back rv.Full f = refl
refusal_back rv.Wrong f = refl
refusal_back rv.Short f = refl
refusal_back rv.Opcode f = refl
refusal_back rv.Undo f = refl
refusal_back rv.List f = refl

pub refusal_small : (v : Refusal) → RefusalFits v → Words (refusal_words v)
unfolding Words
refusal_small rv.Attributes f = (lit< tt, (lit< tt, (lit< tt, tt)))
refusal_small rv.Owner f = (lit< tt, (lit< tt, (lit< tt, tt)))
refusal_small rv.Reset f = (lit< tt, (lit< tt, (lit< tt, tt)))
refusal_small rv.Bar f = (lit< tt, (lit< tt, (lit< tt, tt)))
refusal_small rv.Memory f = (lit< tt, (lit< tt, (lit< tt, tt)))
refusal_small (rv.Status x y) f = (lit< tt, (omega (arith, f.0), (f.1, tt)))
refusal_small (rv.Timeout x) f = (lit< tt, (f, (lit< tt, tt)))
refusal_small rv.Busy f = (lit< tt, (lit< tt, (lit< tt, tt)))
refusal_small (rv.Bus x) f = (lit< tt, (f, (lit< tt, tt)))
refusal_small rv.NotPrimary f = (lit< tt, (lit< tt, (lit< tt, tt)))
refusal_small (rv.Revision x) f = (lit< tt, (omega (arith, f), (lit< tt, tt)))
refusal_small (rv.MinPage x) f = (lit< tt, (omega (arith, f), (lit< tt, tt)))
refusal_small (rv.Ports x) f = (lit< tt, (omega (arith, f), (lit< tt, tt)))
refusal_small (rv.Uar x) f = (lit< tt, (omega (arith, f), (lit< tt, tt)))
refusal_small (rv.UarArea x) f = (lit< tt, (f, (lit< tt, tt)))
refusal_small (rv.Entry x) f = (lit< tt, (f, (lit< tt, tt)))
refusal_small (rv.Total x) f = (lit< tt, (f, (lit< tt, tt)))
refusal_small rv.Address f = (lit< tt, (lit< tt, (lit< tt, tt)))
refusal_small rv.Full f = (lit< tt, (lit< tt, (lit< tt, tt)))
refusal_small rv.Wrong f = (lit< tt, (lit< tt, (lit< tt, tt)))
refusal_small rv.Short f = (lit< tt, (lit< tt, (lit< tt, tt)))
refusal_small rv.Opcode f = (lit< tt, (lit< tt, (lit< tt, tt)))
refusal_small rv.Undo f = (lit< tt, (lit< tt, (lit< tt, tt)))
refusal_small rv.List f = (lit< tt, (lit< tt, (lit< tt, tt)))

pub failure_back : (v : Failure) → FailureFits v → failure_of (at (failure_words v) 0) (at (failure_words v) 1) (at (failure_words v) 2) (at (failure_words v) 3) ≡ v
failure_back fv.Nothing f = refl
failure_back (fv.By x) f = ap fv.By (refusal_back x f)

pub failure_small : (v : Failure) → FailureFits v → Words (failure_words v)
unfolding Words
failure_small fv.Nothing f = (lit< tt, (lit< tt, (lit< tt, (lit< tt, tt))))
failure_small (fv.By x) f = (lit< tt, (words_at (refusal_words x) (refusal_small x f) 0, (words_at (refusal_words x) (refusal_small x f) 1, (words_at (refusal_words x) (refusal_small x f) 2, tt))))

pub closing_back : (v : Closing) → ClosingFits v → closing_of (at (closing_words v) 0) ≡ v
closing_back cv.Clean f = refl
closing_back cv.Reset f = refl
closing_back cv.Kept f = refl

pub closing_small : (v : Closing) → ClosingFits v → Words (closing_words v)
unfolding Words
closing_small cv.Clean f = (lit< tt, tt)
closing_small cv.Reset f = (lit< tt, tt)
closing_small cv.Kept f = (lit< tt, tt)

pub slot_back : (v : Slot) → slot_of (slot_words v) ≡ v
slot_back v = simp (bit_back v.mapped)

pub slot_small : (v : Slot) → SlotFits v → Words (slot_words v)
unfolding Words
slot_small v f = (f.runs, (f.virt, (f.handle, (f.dev, (f.pages, (bit_small v.mapped, tt))))))

pub wire_back : (v : Wire) → WireFits v → wire_of (at (wire_words v) 0) (at (wire_words v) 1) (at (wire_words v) 2) (at (wire_words v) 3) (at (wire_words v) 4) (at (wire_words v) 5) (at (wire_words v) 6) ≡ v
wire_back v f = simp (
  bit_back v.toggle,
  bit_back v.running,
  bit_back v.broken,
  bit_back v.silent,
  catas_back v.catas f.catas,
)

pub wire_small : (v : Wire) → WireFits v → Words (wire_words v)
unfolding Words
wire_small v f = (bit_small v.toggle, (bit_small v.running, (bit_small v.broken, (bit_small v.silent, (words_at (catas_words v.catas) (catas_small v.catas f.catas) 0, (words_at (catas_words v.catas) (catas_small v.catas f.catas) 1, (words_at (catas_words v.catas) (catas_small v.catas f.catas) 2, tt)))))))

pub ledger_back : (v : Ledger) → LedgerFits v → ledger_of (ledger_words v) ≡ v
ledger_back v f = simp (
  bit_back v.started,
  wire_back v.wire f.wire,
  failure_back v.failure f.failure,
  closing_back v.closing f.closing,
)

pub ledger_small : (v : Ledger) → LedgerFits v → Words (ledger_words v)
unfolding Words
ledger_small v f = (f.ranges, (f.lends, (bit_small v.started, (f.original, (words_at (wire_words v.wire) (wire_small v.wire f.wire) 0, (words_at (wire_words v.wire) (wire_small v.wire f.wire) 1, (words_at (wire_words v.wire) (wire_small v.wire f.wire) 2, (words_at (wire_words v.wire) (wire_small v.wire f.wire) 3, (words_at (wire_words v.wire) (wire_small v.wire f.wire) 4, (words_at (wire_words v.wire) (wire_small v.wire f.wire) 5, (words_at (wire_words v.wire) (wire_small v.wire f.wire) 6, (words_at (failure_words v.failure) (failure_small v.failure f.failure) 0, (words_at (failure_words v.failure) (failure_small v.failure f.failure) 1, (words_at (failure_words v.failure) (failure_small v.failure f.failure) 2, (words_at (failure_words v.failure) (failure_small v.failure f.failure) 3, (words_at (closing_words v.closing) (closing_small v.closing f.closing) 0, tt))))))))))))))))
