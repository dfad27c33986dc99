-- Each number is one of its type, and each array has its length.
use Rattle.std.specs.Prelude.{◌^◌, ◌<◌}
use Rattle.words_task.specs.Fits.{CatasFits}
use Rattle.pci.specs.declared.Refusal.{Refusal}
use Rattle.pci.specs.declared.Refusal.TheVariants as rv
use Rattle.session.specs.declared.Failure.{Failure}
use Rattle.session.specs.declared.Failure.TheVariants as fv
use Rattle.session.specs.declared.Closing.{Closing}
use Rattle.session.specs.declared.Closing.TheVariants as cv
use Rattle.session.specs.declared.Slot.{Slot}
use Rattle.session.specs.declared.Wire.{Wire}
use Rattle.words_books.specs.declared.Ledger.{Ledger}

abbrev pub RefusalFits : Refusal → Type 0
RefusalFits rv.Attributes = Unit {0}
RefusalFits rv.Owner = Unit {0}
RefusalFits rv.Reset = Unit {0}
RefusalFits rv.Bar = Unit {0}
RefusalFits rv.Memory = Unit {0}
RefusalFits (rv.Status x y) = (x < 2 ^ 8) × (y < 2 ^ 64)
RefusalFits (rv.Timeout x) = x < 2 ^ 64
RefusalFits rv.Busy = Unit {0}
RefusalFits (rv.Bus x) = x < 2 ^ 64
RefusalFits rv.NotPrimary = Unit {0}
RefusalFits (rv.Revision x) = x < 2 ^ 16
RefusalFits (rv.MinPage x) = x < 2 ^ 8
RefusalFits (rv.Ports x) = x < 2 ^ 8
RefusalFits (rv.Uar x) = x < 2 ^ 8
RefusalFits (rv.UarArea x) = x < 2 ^ 64
RefusalFits (rv.Entry x) = x < 2 ^ 64
RefusalFits (rv.Total x) = x < 2 ^ 64
RefusalFits rv.Address = Unit {0}
RefusalFits rv.Full = Unit {0}
RefusalFits rv.Wrong = Unit {0}
RefusalFits rv.Short = Unit {0}
RefusalFits rv.Opcode = Unit {0}
RefusalFits rv.Undo = Unit {0}
RefusalFits rv.List = Unit {0}

abbrev pub FailureFits : Failure → Type 0
FailureFits fv.Nothing = Unit {0}
FailureFits (fv.By x) = RefusalFits x

abbrev pub ClosingFits : Closing → Type 0
ClosingFits cv.Clean = Unit {0}
ClosingFits cv.Reset = Unit {0}
ClosingFits cv.Kept = Unit {0}

pub record SlotFits (v : Slot) : Type 0 where
  pub runs : v.runs < 2 ^ 64
  pub virt : v.virt < 2 ^ 64
  pub handle : v.handle < 2 ^ 64
  pub dev : v.dev < 2 ^ 64
  pub pages : v.pages < 2 ^ 64

pub record WireFits (v : Wire) : Type 0 where
  pub catas : CatasFits v.catas

pub record LedgerFits (v : Ledger) : Type 0 where
  pub ranges : v.ranges < 2 ^ 64
  pub lends : v.lends < 2 ^ 64
  pub original : v.original < 2 ^ 64
  pub wire : WireFits v.wire
  pub failure : FailureFits v.failure
  pub closing : ClosingFits v.closing
