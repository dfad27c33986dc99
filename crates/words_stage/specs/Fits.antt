-- Each number is one of its type, and each array has its length.
use Rattle.std.specs.Prelude.{ℕ, ◌^◌, ◌<◌, Option, Some, None}
use Rattle.words_books.specs.Fits.{RefusalFits}
use Rattle.dma.specs.declared.Cutter.{Cutter}
use Rattle.session.specs.declared.Area.{Area}
use Rattle.session.specs.declared.Area.TheVariants as av
use Rattle.session.specs.declared.Prepare.{Prepare}
use Rattle.session.specs.declared.Prepare.TheVariants as pv
use Rattle.session.specs.declared.Boot.{Boot}
use Rattle.session.specs.declared.Boot.TheVariants as bv
use Rattle.session.specs.declared.Close.{Close}
use Rattle.session.specs.declared.Close.TheVariants as cv
use Rattle.session.specs.declared.Form.{Form}
use Rattle.session.specs.declared.Form.TheVariants as fv
use Rattle.session.specs.declared.Client.{Client}
use Rattle.session.specs.declared.Client.TheVariants as lv
use Rattle.session.specs.declared.Gave.{Gave}
use Rattle.session.specs.declared.Gave.TheVariants as gv
use Rattle.session.specs.declared.Stage.{Stage}
use Rattle.session.specs.declared.Stage.TheVariants as sv

abbrev pub VirtFits : Option ℕ → Type 0
VirtFits (Some x) = x < 2 ^ 64
VirtFits None = Unit {0}

pub record CutterFits (v : Cutter) : Type 0 where
  pub virt : VirtFits v.virt
  pub phys : v.phys < 2 ^ 64
  pub left : v.left < 2 ^ 64

abbrev pub AreaFits : Area → Type 0
AreaFits av.Fa = Unit {0}
AreaFits av.Aux = Unit {0}
AreaFits (av.Range x) = x < 2 ^ 64

abbrev pub PrepareFits : Prepare → Type 0
PrepareFits pv.Attributes = Unit {0}
PrepareFits pv.Claim = Unit {0}
PrepareFits pv.Reset = Unit {0}
PrepareFits pv.Bar = Unit {0}
PrepareFits pv.Inbox = Unit {0}
PrepareFits pv.Outbox = Unit {0}
PrepareFits pv.Look = Unit {0}

abbrev pub BootFits : Boot → Type 0
BootFits bv.QueryFw = Unit {0}
BootFits (bv.Make x) = AreaFits x
BootFits (bv.Map x y) = (AreaFits x) × (CutterFits y)
BootFits bv.RunFw = Unit {0}
BootFits bv.ModStat = Unit {0}
BootFits bv.DevCap = Unit {0}
BootFits (bv.Port x) = x < 2 ^ 8
BootFits bv.IcmSize = Unit {0}
BootFits bv.InitHca = Unit {0}
BootFits bv.Func = Unit {0}
BootFits bv.Adapter = Unit {0}

abbrev pub CloseFits : Close → Type 0
CloseFits (cv.Undo x) = x < 2 ^ 32
CloseFits cv.CloseHca = Unit {0}
CloseFits (cv.Unmap x) = x < 2 ^ 64
CloseFits cv.UnmapAux = Unit {0}
CloseFits cv.UnmapFa = Unit {0}
CloseFits cv.Quiesce = Unit {0}
CloseFits cv.Reset = Unit {0}
CloseFits (cv.Free x) = x < 2 ^ 64
CloseFits cv.Release = Unit {0}
CloseFits cv.Restore = Unit {0}

abbrev pub FormFits : Form → Type 0
FormFits fv.Imm = Unit {0}
FormFits fv.WithIn = Unit {0}
FormFits fv.WithOut = Unit {0}
FormFits fv.InImm = Unit {0}
FormFits fv.InOut = Unit {0}

abbrev pub ClientFits : Client → Type 0
ClientFits (lv.Command x) = FormFits x
ClientFits (lv.Lend x) = x < 2 ^ 64
ClientFits (lv.UndoTo x y) = (x < 2 ^ 64) × (y < 2 ^ 32)

abbrev pub GaveFits : Gave → Type 0
GaveFits gv.Nothing = Unit {0}
GaveFits (gv.Command x y) = (x < 2 ^ 64) × (y < 2 ^ 64)
GaveFits (gv.Lent x) = x < 2 ^ 64
GaveFits (gv.Failed x) = RefusalFits x

abbrev pub StageFits : Stage → Type 0
StageFits sv.Fresh = Unit {0}
StageFits (sv.Open x) = GaveFits x
StageFits sv.Ended = Unit {0}
StageFits (sv.Prepare x) = PrepareFits x
StageFits (sv.Boot x) = BootFits x
StageFits (sv.Client x) = ClientFits x
StageFits (sv.Close x) = CloseFits x
