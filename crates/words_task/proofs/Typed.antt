-- A value of its type fits, part by part of the task: each number is below the bound of its width. How what the language says of a value is read: words/proofs/Typed.antt.
use mathlib.Core.List.{List}
use mir.Val.{Val}
use denote.Laws.{Is}
use Rattle.buffer.specs.declared.Fault.{Fault}
use Rattle.command.specs.declared.Catas.{Catas}
use Rattle.command.specs.declared.Phase.{Phase}
use Rattle.command.specs.declared.Cmd.{Cmd}
use Rattle.tasks.specs.declared.Attr.{Attr}
use Rattle.tasks.specs.declared.Claim.{Claim}
use Rattle.buffer.specs.declared.MakePhase.{MakePhase}
use Rattle.buffer.specs.declared.Making.{Making}
use Rattle.buffer.specs.declared.FreePhase.{FreePhase}
use Rattle.buffer.specs.declared.Freeing.{Freeing}
use Rattle.tasks.specs.declared.Parting.{Parting}
use Rattle.work.specs.declared.Task.{Task}
use Rattle.buffer.specs.declared.Fault.TheVariants as fault
use Rattle.command.specs.declared.Catas.TheVariants as catas
use Rattle.command.specs.declared.Phase.TheVariants as phase
use Rattle.tasks.specs.declared.Attr.TheVariants as attr
use Rattle.tasks.specs.declared.Claim.TheVariants as claim
use Rattle.buffer.specs.declared.MakePhase.TheVariants as make-phase
use Rattle.buffer.specs.declared.FreePhase.TheVariants as free-phase
use Rattle.tasks.specs.declared.Parting.TheVariants as parting
use Rattle.work.specs.declared.Task.TheVariants as task
use Rattle.buffer.specs.contracts.Fault.{the_row as fault-row}
use Rattle.command.specs.contracts.Catas.{the_row as catas-row}
use Rattle.command.specs.contracts.Phase.{the_row as phase-row}
use Rattle.command.specs.contracts.Cmd.{the_row as cmd-row}
use Rattle.tasks.specs.contracts.Attr.{the_row as attr-row}
use Rattle.tasks.specs.contracts.Claim.{the_row as claim-row}
use Rattle.buffer.specs.contracts.MakePhase.{the_row as make-phase-row}
use Rattle.buffer.specs.contracts.Making.{the_row as making-row}
use Rattle.buffer.specs.contracts.FreePhase.{the_row as free-phase-row}
use Rattle.buffer.specs.contracts.Freeing.{the_row as freeing-row}
use Rattle.tasks.specs.contracts.Parting.{the_row as parting-row}
use Rattle.work.specs.contracts.Task.{the_row as task-row}
use Rattle.words_task.specs.Fits.{FaultFits, CatasFits, PhaseFits, CmdFits, AttrFits, ClaimFits, MakePhaseFits, MakingFits, FreePhaseFits, FreeingFits, PartingFits, TaskFits}

pub fault_typed : (v : Fault) (vs : List Val) → Is fault-row v vs → FaultFits v
fault_typed fault.Memory vs h = tt
fault_typed fault.Address vs h = tt

pub catas_typed : (v : Catas) (vs : List Val) → Is catas-row v vs → CatasFits v
catas_typed (catas.Known x y) vs h = (h.1.1.1.1.0.1, h.1.1.1.1.1.0.1)
catas_typed catas.Unknown vs h = tt

pub phase_typed : (v : Phase) (vs : List Val) → Is phase-row v vs → PhaseFits v
phase_typed phase.First vs h = tt
phase_typed (phase.Writing x) vs h = h.1.1.1.1.0.1
phase_typed phase.Fence vs h = tt
phase_typed phase.Go vs h = tt
phase_typed phase.Poll vs h = tt
phase_typed phase.Wait vs h = tt
phase_typed phase.Fenced vs h = tt
phase_typed phase.Status vs h = tt
phase_typed phase.High vs h = tt
phase_typed (phase.Low x) vs h = h.1.1.1.1.0.1
phase_typed phase.Catas vs h = tt

pub cmd_typed : (v : Cmd) (vs : List Val) → Is cmd-row v vs → CmdFits v
cmd_typed v vs h = record {
  phase = phase_typed v.phase _ h.1.1.0;
  op = h.1.1.1.0.1.1.0.1;
  op_mod = h.1.1.1.0.1.1.1.0.1;
  in_mod = h.1.1.1.0.1.1.1.1.0.1;
  in_param = h.1.1.1.0.1.1.1.1.1.0.1;
  out_param = h.1.1.1.0.1.1.1.1.1.1.0.1;
  stalls = h.1.1.1.1.1.0.1;
  catas = catas_typed v.catas _ h.1.1.1.1.1.1.0;
}

pub attr_typed : (v : Attr) (vs : List Val) → Is attr-row v vs → AttrFits v
attr_typed attr.Get vs h = tt
attr_typed (attr.Supported x) vs h = h.1.1.1.1.0.1
attr_typed (attr.Enable x y) vs h = (h.1.1.1.1.0.1, h.1.1.1.1.1.0.1)

pub claim_typed : (v : Claim) (vs : List Val) → Is claim-row v vs → ClaimFits v
claim_typed claim.Command vs h = tt
claim_typed (claim.Write x) vs h = h.1.1.1.1.0.1
claim_typed claim.Owner vs h = tt

pub make_phase_typed : (v : MakePhase) (vs : List Val) → Is make-phase-row v vs → MakePhaseFits v
make_phase_typed make-phase.Allocate vs h = tt
make_phase_typed (make-phase.Map x) vs h = h.1.1.1.1.0.1
make_phase_typed (make-phase.Unmap x y) vs h = (h.1.1.1.1.0.1, fault_typed y _ h.1.1.1.1.1.0)
make_phase_typed (make-phase.Free x y) vs h = (h.1.1.1.1.0.1, fault_typed y _ h.1.1.1.1.1.0)

pub making_typed : (v : Making) (vs : List Val) → Is making-row v vs → MakingFits v
making_typed v vs h = record {
  bytes = h.1.1.0.1;
  phase = make_phase_typed v.phase _ h.1.1.1.0;
}

pub free_phase_typed : (v : FreePhase) (vs : List Val) → Is free-phase-row v vs → FreePhaseFits v
free_phase_typed free-phase.Unmap vs h = tt
free_phase_typed free-phase.Free vs h = tt

pub freeing_typed : (v : Freeing) (vs : List Val) → Is freeing-row v vs → FreeingFits v
freeing_typed v vs h = record {
  handle = h.1.1.0.1;
  pages = h.1.1.1.0.1;
  phase = free_phase_typed v.phase _ h.1.1.1.1.0;
}

pub parting_typed : (v : Parting) (vs : List Val) → Is parting-row v vs → PartingFits v
parting_typed parting.Disown vs h = tt
parting_typed parting.Settle vs h = tt
parting_typed (parting.Restore x) vs h = h.1.1.1.1.0.1
parting_typed parting.Owner vs h = tt
parting_typed parting.Command vs h = tt
parting_typed (parting.Write x) vs h = h.1.1.1.1.0.1

pub task_typed : (v : Task) (vs : List Val) → Is task-row v vs → TaskFits v
task_typed task.Rest vs h = tt
task_typed (task.Attr x) vs h = attr_typed x _ h.1.1.1.1.0
task_typed (task.Claim x) vs h = claim_typed x _ h.1.1.1.1.0
task_typed task.Reset vs h = tt
task_typed task.Bar vs h = tt
task_typed (task.Make x) vs h = making_typed x _ h.1.1.1.1.0
task_typed (task.Free x) vs h = freeing_typed x _ h.1.1.1.1.0
task_typed task.Look vs h = tt
task_typed (task.Cmd x) vs h = cmd_typed x _ h.1.1.1.1.0
task_typed (task.Part x) vs h = parting_typed x _ h.1.1.1.1.0
