-- Each number is one of its type, and each array has its length.
use Rattle.std.specs.Prelude.{◌^◌, ◌<◌}
use Rattle.buffer.specs.declared.Fault.{Fault}
use Rattle.buffer.specs.declared.Fault.TheVariants as fv
use Rattle.command.specs.declared.Catas.{Catas}
use Rattle.command.specs.declared.Catas.TheVariants as cv
use Rattle.command.specs.declared.Phase.{Phase}
use Rattle.command.specs.declared.Phase.TheVariants as pv
use Rattle.command.specs.declared.Cmd.{Cmd}
use Rattle.tasks.specs.declared.Attr.{Attr}
use Rattle.tasks.specs.declared.Attr.TheVariants as av
use Rattle.tasks.specs.declared.Claim.{Claim}
use Rattle.tasks.specs.declared.Claim.TheVariants as cv2
use Rattle.buffer.specs.declared.MakePhase.{MakePhase}
use Rattle.buffer.specs.declared.MakePhase.TheVariants as mpv
use Rattle.buffer.specs.declared.Making.{Making}
use Rattle.buffer.specs.declared.FreePhase.{FreePhase}
use Rattle.buffer.specs.declared.FreePhase.TheVariants as fpv
use Rattle.buffer.specs.declared.Freeing.{Freeing}
use Rattle.tasks.specs.declared.Parting.{Parting}
use Rattle.tasks.specs.declared.Parting.TheVariants as pv2
use Rattle.work.specs.declared.Task.{Task}
use Rattle.work.specs.declared.Task.TheVariants as tv

abbrev pub FaultFits : Fault → Type 0
FaultFits fv.Memory = Unit {0}
FaultFits fv.Address = Unit {0}

abbrev pub CatasFits : Catas → Type 0
CatasFits (cv.Known x y) = (x < 2 ^ 8) × (y < 2 ^ 64)
CatasFits cv.Unknown = Unit {0}

abbrev pub PhaseFits : Phase → Type 0
PhaseFits pv.First = Unit {0}
PhaseFits (pv.Writing x) = x < 2 ^ 8
PhaseFits pv.Fence = Unit {0}
PhaseFits pv.Go = Unit {0}
PhaseFits pv.Poll = Unit {0}
PhaseFits pv.Wait = Unit {0}
PhaseFits pv.Fenced = Unit {0}
PhaseFits pv.Status = Unit {0}
PhaseFits pv.High = Unit {0}
PhaseFits (pv.Low x) = x < 2 ^ 32
PhaseFits pv.Catas = Unit {0}

pub record CmdFits (v : Cmd) : Type 0 where
  pub phase : PhaseFits v.phase
  pub op : v.post.op < 2 ^ 16
  pub op_mod : v.post.op_mod < 2 ^ 8
  pub in_mod : v.post.in_mod < 2 ^ 32
  pub in_param : v.post.in_param < 2 ^ 64
  pub out_param : v.post.out_param < 2 ^ 64
  pub stalls : v.stalls < 2 ^ 32
  pub catas : CatasFits v.catas

abbrev pub AttrFits : Attr → Type 0
AttrFits av.Get = Unit {0}
AttrFits (av.Supported x) = x < 2 ^ 64
AttrFits (av.Enable x y) = (x < 2 ^ 64) × (y < 2 ^ 64)

abbrev pub ClaimFits : Claim → Type 0
ClaimFits cv2.Command = Unit {0}
ClaimFits (cv2.Write x) = x < 2 ^ 16
ClaimFits cv2.Owner = Unit {0}

abbrev pub MakePhaseFits : MakePhase → Type 0
MakePhaseFits mpv.Allocate = Unit {0}
MakePhaseFits (mpv.Map x) = x < 2 ^ 64
MakePhaseFits (mpv.Unmap x y) = (x < 2 ^ 64) × (FaultFits y)
MakePhaseFits (mpv.Free x y) = (x < 2 ^ 64) × (FaultFits y)

pub record MakingFits (v : Making) : Type 0 where
  pub bytes : v.bytes < 2 ^ 64
  pub phase : MakePhaseFits v.phase

abbrev pub FreePhaseFits : FreePhase → Type 0
FreePhaseFits fpv.Unmap = Unit {0}
FreePhaseFits fpv.Free = Unit {0}

pub record FreeingFits (v : Freeing) : Type 0 where
  pub handle : v.handle < 2 ^ 64
  pub pages : v.pages < 2 ^ 64
  pub phase : FreePhaseFits v.phase

abbrev pub PartingFits : Parting → Type 0
PartingFits pv2.Disown = Unit {0}
PartingFits pv2.Settle = Unit {0}
PartingFits (pv2.Restore x) = x < 2 ^ 64
PartingFits pv2.Owner = Unit {0}
PartingFits pv2.Command = Unit {0}
PartingFits (pv2.Write x) = x < 2 ^ 16

abbrev pub TaskFits : Task → Type 0
TaskFits tv.Rest = Unit {0}
TaskFits (tv.Attr x) = AttrFits x
TaskFits (tv.Claim x) = ClaimFits x
TaskFits tv.Reset = Unit {0}
TaskFits tv.Bar = Unit {0}
TaskFits (tv.Make x) = MakingFits x
TaskFits (tv.Free x) = FreeingFits x
TaskFits tv.Look = Unit {0}
TaskFits (tv.Cmd x) = CmdFits x
TaskFits (tv.Part x) = PartingFits x
