-- A value of its type fits, part by part of the reset and the search for the UAR BAR: each number is below the bound of its width. How what the language says of a value is read: words/proofs/Typed.antt.
use Rattle.std.specs.Prelude.{Option, Some, None}
use mathlib.Core.List.{List}
use mir.Syntax.{w32}
use mir.Val.{Val}
use denote.Laws.{Is}
use Rattle.words.proofs.Typed.{array_below}
use Rattle.reset.specs.declared.Phase.{Phase}
use Rattle.reset.specs.declared.Control.{Control}
use Rattle.reset.specs.declared.Reset.{Reset}
use Rattle.bars.specs.declared.BarRange.{BarRange}
use Rattle.bars.specs.declared.Candidate.{Candidate}
use Rattle.bars.specs.declared.Asking.{Asking}
use Rattle.bars.specs.declared.Choice.{Choice}
use Rattle.uar.specs.declared.BarPhase.{BarPhase}
use Rattle.uar.specs.declared.FindBar.{FindBar}
use Rattle.reset.specs.declared.Phase.TheVariants as reset-phase
use Rattle.reset.specs.declared.Control.TheVariants as control
use Rattle.bars.specs.declared.Asking.TheVariants as asking
use Rattle.uar.specs.declared.BarPhase.TheVariants as bar-phase
use Rattle.reset.specs.contracts.Phase.{the_row as reset-phase-row}
use Rattle.reset.specs.contracts.Control.{the_row as control-row}
use Rattle.reset.specs.contracts.Reset.{the_row as reset-row}
use Rattle.std.specs.contracts.option.Option.{the_field as option-of, the_type as option-type}
use Rattle.bars.specs.contracts.BarRange.{the_row as range-row}
use Rattle.bars.specs.contracts.Candidate.{the_row as candidate-row}
use Rattle.bars.specs.contracts.Asking.{the_row as asking-row}
use Rattle.bars.specs.contracts.Choice.{the_row as choice-row}
use Rattle.uar.specs.contracts.BarPhase.{the_row as bar-phase-row}
use Rattle.uar.specs.contracts.FindBar.{the_row as find-row}
use Rattle.words_beside.specs.Fits.{ResetPhaseFits, ControlFits, ResetFits, RangeFits, CandidateFits, AskingFits, ChoiceFits, BarPhaseFits, FindFits}

pub reset_phase_typed : (v : Phase) (vs : List Val) → Is reset-phase-row v vs → ResetPhaseFits v
reset_phase_typed (reset-phase.Saving x) vs h = h.1.1.1.1.0.1
reset_phase_typed reset-phase.Pointer vs h = tt
reset_phase_typed (reset-phase.Header x y) vs h = (h.1.1.1.1.0.1, h.1.1.1.1.1.0.1)
reset_phase_typed (reset-phase.Device x) vs h = h.1.1.1.1.0.1
reset_phase_typed (reset-phase.Link x y) vs h = (h.1.1.1.1.0.1, h.1.1.1.1.1.0.1)
reset_phase_typed (reset-phase.Semaphore x) vs h = h.1.1.1.1.0.1
reset_phase_typed (reset-phase.Hold x) vs h = h.1.1.1.1.0.1
reset_phase_typed reset-phase.Writing vs h = tt
reset_phase_typed reset-phase.Settle vs h = tt
reset_phase_typed (reset-phase.Vendor x) vs h = h.1.1.1.1.0.1
reset_phase_typed (reset-phase.Gone x) vs h = h.1.1.1.1.0.1
reset_phase_typed (reset-phase.BackDevice x y z) vs h = (h.1.1.1.1.0.1, h.1.1.1.1.1.0.1, h.1.1.1.1.1.1.0.1)
reset_phase_typed (reset-phase.BackLink x y) vs h = (h.1.1.1.1.0.1, h.1.1.1.1.1.0.1)
reset_phase_typed (reset-phase.Back x) vs h = h.1.1.1.1.0.1

pub control_typed : (v : Control) (vs : List Val) → Is control-row v vs → ControlFits v
control_typed control.Absent vs h = tt
control_typed (control.Saved x y z) vs h = (h.1.1.1.1.0.1, h.1.1.1.1.1.0.1, h.1.1.1.1.1.1.0.1)

pub reset_typed : (v : Reset) (vs : List Val) → Is reset-row v vs → ResetFits v
reset_typed v vs h = record {
  phase = reset_phase_typed v.phase _ h.1.1.0;
  dwords = array_below w32 16 v.dwords _ h.1.1.1.0;
  control = control_typed v.control _ h.1.1.1.1.0;
}

pub range_typed : (v : Option BarRange) (vs : List Val) → Is (option-of range-row).row ((option-type range-row).to v) vs → RangeFits v
range_typed (Some x) vs h = (h.1.1.1.1.0.1.1.0.1, h.1.1.1.1.0.1.1.1.0.1)
range_typed None vs h = tt

pub candidate_typed : (v : Candidate) (vs : List Val) → Is candidate-row v vs → CandidateFits v
candidate_typed v vs h = record {
  index = h.1.1.0.1;
  answer = range_typed v.answer _ h.1.1.1.0;
}

pub asking_typed : (v : Asking) (vs : List Val) → Is asking-row v vs → AskingFits v
asking_typed asking.First vs h = tt
asking_typed asking.Second vs h = tt
asking_typed (asking.Other x) vs h = h.1.1.1.1.0.1

pub choice_typed : (v : Choice) (vs : List Val) → Is choice-row v vs → ChoiceFits v
choice_typed v vs h = record {
  base = h.1.1.0.1;
  first = candidate_typed v.first _ h.1.1.1.0;
  second = candidate_typed v.second _ h.1.1.1.1.0;
  asking = asking_typed v.asking _ h.1.1.1.1.1.0;
}

pub bar_phase_typed : (v : BarPhase) (vs : List Val) → Is bar-phase-row v vs → BarPhaseFits v
bar_phase_typed (bar-phase.Reading x) vs h = h.1.1.1.1.0.1
bar_phase_typed (bar-phase.Choosing x) vs h = choice_typed x _ h.1.1.1.1.0

pub find_typed : (v : FindBar) (vs : List Val) → Is find-row v vs → FindFits v
find_typed v vs h = record {
  phase = bar_phase_typed v.phase _ h.1.1.0;
  dwords = array_below w32 6 v.dwords _ h.1.1.1.0;
}
