-- A value of its type fits, part by part of the stage: each number is below the bound of its width. How what the language says of a value is read: words/proofs/Typed.antt.
use Rattle.std.specs.Prelude.{ℕ, Option, Some, None}
use mathlib.Core.List.{List}
use mir.Val.{Val}
use denote.Laws.{Is}
use Rattle.std.specs.Borrow.{u64}
use Rattle.words_books.proofs.Typed.{refusal_typed}
use Rattle.dma.specs.declared.Cutter.{Cutter}
use Rattle.session.specs.declared.Area.{Area}
use Rattle.session.specs.declared.Prepare.{Prepare}
use Rattle.session.specs.declared.Boot.{Boot}
use Rattle.session.specs.declared.Close.{Close}
use Rattle.session.specs.declared.Form.{Form}
use Rattle.session.specs.declared.Client.{Client}
use Rattle.session.specs.declared.Gave.{Gave}
use Rattle.session.specs.declared.Stage.{Stage}
use Rattle.session.specs.declared.Area.TheVariants as area
use Rattle.session.specs.declared.Prepare.TheVariants as prepare
use Rattle.session.specs.declared.Boot.TheVariants as boot
use Rattle.session.specs.declared.Close.TheVariants as close
use Rattle.session.specs.declared.Form.TheVariants as form
use Rattle.session.specs.declared.Client.TheVariants as client
use Rattle.session.specs.declared.Gave.TheVariants as gave
use Rattle.session.specs.declared.Stage.TheVariants as stage
use Rattle.std.specs.contracts.option.Option as option
use Rattle.dma.specs.contracts.Cutter.{the_row as cutter-row}
use Rattle.session.specs.contracts.Area.{the_row as area-row}
use Rattle.session.specs.contracts.Prepare.{the_row as prepare-row}
use Rattle.session.specs.contracts.Boot.{the_row as boot-row}
use Rattle.session.specs.contracts.Close.{the_row as close_row}
use Rattle.session.specs.contracts.Form.{the_row as form-row}
use Rattle.session.specs.contracts.Client.{the_row as client-row}
use Rattle.session.specs.contracts.Gave.{the_row as gave-row}
use Rattle.session.specs.contracts.Stage.{the_row as stage-row}
use Rattle.words_stage.specs.Fits.{VirtFits, CutterFits, AreaFits, PrepareFits, BootFits, CloseFits, FormFits, ClientFits, GaveFits, StageFits}

pub virt_typed : (v : Option ℕ) (vs : List Val) → Is (option.the_row u64) v vs → VirtFits v
virt_typed (Some x) vs h = h.1.1.1.1.0.1
virt_typed None vs h = tt

pub cutter_typed : (v : Cutter) (vs : List Val) → Is cutter-row v vs → CutterFits v
cutter_typed v vs h = record {
  virt = virt_typed v.virt _ h.1.1.0;
  phys = h.1.1.1.0.1;
  left = h.1.1.1.1.0.1;
}

pub area_typed : (v : Area) (vs : List Val) → Is area-row v vs → AreaFits v
area_typed area.Fa vs h = tt
area_typed area.Aux vs h = tt
area_typed (area.Range x) vs h = h.1.1.1.1.0.1

pub prepare_typed : (v : Prepare) (vs : List Val) → Is prepare-row v vs → PrepareFits v
prepare_typed prepare.Attributes vs h = tt
prepare_typed prepare.Claim vs h = tt
prepare_typed prepare.Reset vs h = tt
prepare_typed prepare.Bar vs h = tt
prepare_typed prepare.Inbox vs h = tt
prepare_typed prepare.Outbox vs h = tt
prepare_typed prepare.Look vs h = tt

pub boot_typed : (v : Boot) (vs : List Val) → Is boot-row v vs → BootFits v
boot_typed boot.QueryFw vs h = tt
boot_typed (boot.Make x) vs h = area_typed x _ h.1.1.1.1.0
boot_typed (boot.Map x y) vs h = (area_typed x _ h.1.1.1.1.0, cutter_typed y _ h.1.1.1.1.1.0)
boot_typed boot.RunFw vs h = tt
boot_typed boot.ModStat vs h = tt
boot_typed boot.DevCap vs h = tt
boot_typed (boot.Port x) vs h = h.1.1.1.1.0.1
boot_typed boot.IcmSize vs h = tt
boot_typed boot.InitHca vs h = tt
boot_typed boot.Func vs h = tt
boot_typed boot.Adapter vs h = tt

pub close_typed : (v : Close) (vs : List Val) → Is close_row v vs → CloseFits v
close_typed (close.Undo x) vs h = h.1.1.1.1.0.1
close_typed close.CloseHca vs h = tt
close_typed (close.Unmap x) vs h = h.1.1.1.1.0.1
close_typed close.UnmapAux vs h = tt
close_typed close.UnmapFa vs h = tt
close_typed close.Quiesce vs h = tt
close_typed close.Reset vs h = tt
close_typed (close.Free x) vs h = h.1.1.1.1.0.1
close_typed close.Release vs h = tt
close_typed close.Restore vs h = tt

pub form_typed : (v : Form) (vs : List Val) → Is form-row v vs → FormFits v
form_typed form.Imm vs h = tt
form_typed form.WithIn vs h = tt
form_typed form.WithOut vs h = tt
form_typed form.InImm vs h = tt
form_typed form.InOut vs h = tt

pub client_typed : (v : Client) (vs : List Val) → Is client-row v vs → ClientFits v
client_typed (client.Command x) vs h = form_typed x _ h.1.1.1.1.0
client_typed (client.Lend x) vs h = h.1.1.1.1.0.1
client_typed (client.UndoTo x y) vs h = (h.1.1.1.1.0.1, h.1.1.1.1.1.0.1)

pub gave_typed : (v : Gave) (vs : List Val) → Is gave-row v vs → GaveFits v
gave_typed gave.Nothing vs h = tt
gave_typed (gave.Command x y) vs h = (h.1.1.1.1.0.1, h.1.1.1.1.1.0.1)
gave_typed (gave.Lent x) vs h = h.1.1.1.1.0.1
gave_typed (gave.Failed x) vs h = refusal_typed x _ h.1.1.1.1.0

pub stage_typed : (v : Stage) (vs : List Val) → Is stage-row v vs → StageFits v
stage_typed stage.Fresh vs h = tt
stage_typed (stage.Open x) vs h = gave_typed x _ h.1.1.1.1.0
stage_typed stage.Ended vs h = tt
stage_typed (stage.Prepare x) vs h = prepare_typed x _ h.1.1.1.1.0
stage_typed (stage.Boot x) vs h = boot_typed x _ h.1.1.1.1.0
stage_typed (stage.Client x) vs h = client_typed x _ h.1.1.1.1.0
stage_typed (stage.Close x) vs h = close_typed x _ h.1.1.1.1.0
