-- A value of its type fits, part by part of the books: each number is below the bound of its width. How what the language says of a value is read: words/proofs/Typed.antt.
use mathlib.Core.List.{List}
use mir.Val.{Val}
use denote.Laws.{Is}
use Rattle.words_task.proofs.Typed.{catas_typed}
use Rattle.pci.specs.declared.Refusal.{Refusal}
use Rattle.session.specs.declared.Failure.{Failure}
use Rattle.session.specs.declared.Closing.{Closing}
use Rattle.session.specs.declared.Slot.{Slot}
use Rattle.session.specs.declared.Wire.{Wire}
use Rattle.pci.specs.declared.Refusal.TheVariants as refusal
use Rattle.session.specs.declared.Failure.TheVariants as failure
use Rattle.session.specs.declared.Closing.TheVariants as closing
use Rattle.pci.specs.contracts.Refusal.{the_row as refusal-row}
use Rattle.session.specs.contracts.Failure.{the_row as failure-row}
use Rattle.session.specs.contracts.Closing.{the_row as closing-row}
use Rattle.session.specs.contracts.Slot.{the_row as slot_row}
use Rattle.session.specs.contracts.Wire.{the_row as wire-row}
use Rattle.words_books.specs.Fits.{RefusalFits, FailureFits, ClosingFits, SlotFits, WireFits}

pub refusal_typed : (v : Refusal) (vs : List Val) → Is refusal-row v vs → RefusalFits v
refusal_typed refusal.Attributes vs h = tt
refusal_typed refusal.Owner vs h = tt
refusal_typed refusal.Reset vs h = tt
refusal_typed refusal.Bar vs h = tt
refusal_typed refusal.Memory vs h = tt
refusal_typed (refusal.Status x y) vs h = (h.1.1.1.1.0.1, h.1.1.1.1.1.0.1)
refusal_typed (refusal.Timeout x) vs h = h.1.1.1.1.0.1
refusal_typed refusal.Busy vs h = tt
refusal_typed (refusal.Bus x) vs h = h.1.1.1.1.0.1
refusal_typed refusal.NotPrimary vs h = tt
refusal_typed (refusal.Revision x) vs h = h.1.1.1.1.0.1
refusal_typed (refusal.MinPage x) vs h = h.1.1.1.1.0.1
refusal_typed (refusal.Ports x) vs h = h.1.1.1.1.0.1
refusal_typed (refusal.Uar x) vs h = h.1.1.1.1.0.1
refusal_typed (refusal.UarArea x) vs h = h.1.1.1.1.0.1
refusal_typed (refusal.Entry x) vs h = h.1.1.1.1.0.1
refusal_typed (refusal.Total x) vs h = h.1.1.1.1.0.1
refusal_typed refusal.Address vs h = tt
refusal_typed refusal.Full vs h = tt
refusal_typed refusal.Wrong vs h = tt
refusal_typed refusal.Short vs h = tt
refusal_typed refusal.Opcode vs h = tt
refusal_typed refusal.Undo vs h = tt
refusal_typed refusal.List vs h = tt

pub failure_typed : (v : Failure) (vs : List Val) → Is failure-row v vs → FailureFits v
failure_typed failure.Nothing vs h = tt
failure_typed (failure.By x) vs h = refusal_typed x _ h.1.1.1.1.0

pub closing_typed : (v : Closing) (vs : List Val) → Is closing-row v vs → ClosingFits v
closing_typed closing.Clean vs h = tt
closing_typed closing.Reset vs h = tt
closing_typed closing.Kept vs h = tt

pub slot_typed : (v : Slot) (vs : List Val) → Is slot_row v vs → SlotFits v
slot_typed v vs h = record {
  runs = h.1.1.0.1;
  virt = h.1.1.1.0.1;
  handle = h.1.1.1.1.0.1;
  dev = h.1.1.1.1.1.0.1;
  pages = h.1.1.1.1.1.1.0.1;
}

pub wire_typed : (v : Wire) (vs : List Val) → Is wire-row v vs → WireFits v
wire_typed v vs h = record {
  catas = catas_typed v.catas _ h.1.1.1.1.1.1.0;
}
