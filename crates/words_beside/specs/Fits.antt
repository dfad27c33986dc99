-- Each number is one of its type, and each array has its length.
use Rattle.std.specs.Prelude.{◌^◌, ◌<◌, ◌≡◌, length, Option, Some, None}
use Rattle.words.specs.Words.{Below}
use Rattle.reset.specs.declared.Phase.{Phase}
use Rattle.reset.specs.declared.Phase.TheVariants as rpv
use Rattle.reset.specs.declared.Control.{Control}
use Rattle.reset.specs.declared.Control.TheVariants as cv
use Rattle.reset.specs.declared.Reset.{Reset}
use Rattle.bars.specs.declared.BarRange.{BarRange}
use Rattle.bars.specs.declared.Candidate.{Candidate}
use Rattle.bars.specs.declared.Asking.{Asking}
use Rattle.bars.specs.declared.Asking.TheVariants as av
use Rattle.bars.specs.declared.Choice.{Choice}
use Rattle.uar.specs.declared.BarPhase.{BarPhase}
use Rattle.uar.specs.declared.BarPhase.TheVariants as bpv
use Rattle.uar.specs.declared.FindBar.{FindBar}

abbrev pub ResetPhaseFits : Phase → Type 0
ResetPhaseFits (rpv.Saving x) = x < 2 ^ 8
ResetPhaseFits rpv.Pointer = Unit {0}
ResetPhaseFits (rpv.Header x y) = (x < 2 ^ 8) × (y < 2 ^ 8)
ResetPhaseFits (rpv.Device x) = x < 2 ^ 8
ResetPhaseFits (rpv.Link x y) = (x < 2 ^ 8) × (y < 2 ^ 16)
ResetPhaseFits (rpv.Semaphore x) = x < 2 ^ 16
ResetPhaseFits (rpv.Hold x) = x < 2 ^ 16
ResetPhaseFits rpv.Writing = Unit {0}
ResetPhaseFits rpv.Settle = Unit {0}
ResetPhaseFits (rpv.Vendor x) = x < 2 ^ 16
ResetPhaseFits (rpv.Gone x) = x < 2 ^ 16
ResetPhaseFits (rpv.BackDevice x y z) = (x < 2 ^ 8) × (y < 2 ^ 16) × (z < 2 ^ 16)
ResetPhaseFits (rpv.BackLink x y) = (x < 2 ^ 8) × (y < 2 ^ 16)
ResetPhaseFits (rpv.Back x) = x < 2 ^ 8

abbrev pub ControlFits : Control → Type 0
ControlFits cv.Absent = Unit {0}
ControlFits (cv.Saved x y z) = (x < 2 ^ 8) × (y < 2 ^ 16) × (z < 2 ^ 16)

pub record ResetFits (v : Reset) : Type 0 where
  pub phase : ResetPhaseFits v.phase
  pub control : ControlFits v.control
  pub dwords : (length v.dwords ≡ 16) × Below (2 ^ 32) v.dwords

abbrev pub RangeFits : Option BarRange → Type 0
RangeFits (Some x) = (x.base < 2 ^ 64) × (x.length < 2 ^ 64)
RangeFits None = Unit {0}

pub record CandidateFits (v : Candidate) : Type 0 where
  pub index : v.index < 2 ^ 8
  pub answer : RangeFits v.answer

abbrev pub AskingFits : Asking → Type 0
AskingFits av.First = Unit {0}
AskingFits av.Second = Unit {0}
AskingFits (av.Other x) = x < 2 ^ 8

pub record ChoiceFits (v : Choice) : Type 0 where
  pub base : v.base < 2 ^ 64
  pub first : CandidateFits v.first
  pub second : CandidateFits v.second
  pub asking : AskingFits v.asking

abbrev pub BarPhaseFits : BarPhase → Type 0
BarPhaseFits (bpv.Reading x) = x < 2 ^ 8
BarPhaseFits (bpv.Choosing x) = ChoiceFits x

pub record FindFits (v : FindBar) : Type 0 where
  pub phase : BarPhaseFits v.phase
  pub dwords : (length v.dwords ≡ 6) × Below (2 ^ 32) v.dwords
