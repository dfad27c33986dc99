-- What was put into words is read back from them.
use Rattle.std.specs.Prelude.{ℕ, Option, Some, None}
use Prim.Native.Nat.{◌<◌}
use mathlib.Core.Path.{◌≡◌, refl, ap}
use native.Mathlib.Nat.{mod-eq_of_lt}
use native.Mathlib.Omega.{arith}
use lib.ListN.{length}
use lib.Dec.{lit<}
use Rattle.words.specs.Places.{STAGE}
use Rattle.words.specs.Words.{at}
use Rattle.words.proofs.Laws.{Words, words_at}
use Rattle.words_books.specs.Coding.{refusal_words}
use Rattle.words_books.proofs.Trip.{refusal_back, refusal_small}
use Rattle.words_stage.specs.Coding.{virt_words, virt_of, cutter_words, cutter_of, area_words, area_of, prepare_words, prepare_of, boot_words, boot_of, close_words, close_of, form_words, form_of, client_words, client_of, gave_words, gave_of, stage_words, stage_of}
use Rattle.words_stage.specs.Fits.{VirtFits, CutterFits, AreaFits, PrepareFits, BootFits, CloseFits, FormFits, ClientFits, GaveFits, StageFits}
use Rattle.dma.specs.declared.Cutter.{Cutter}
use Rattle.session.specs.declared.Area.{Area}
use Rattle.session.specs.declared.Area.TheVariants as av
use Rattle.session.specs.declared.Prepare.{Prepare}
use Rattle.session.specs.declared.Prepare.TheVariants as pv
use Rattle.session.specs.declared.Boot.{Boot}
use Rattle.session.specs.declared.Boot.TheVariants as bv
use Rattle.session.specs.declared.Close.{Close}
use Rattle.session.specs.declared.Close.TheVariants as cv
use Rattle.session.specs.declared.Form.{Form}
use Rattle.session.specs.declared.Form.TheVariants as fv
use Rattle.session.specs.declared.Client.{Client}
use Rattle.session.specs.declared.Client.TheVariants as lv
use Rattle.session.specs.declared.Gave.{Gave}
use Rattle.session.specs.declared.Gave.TheVariants as gv
use Rattle.session.specs.declared.Stage.{Stage}
use Rattle.session.specs.declared.Stage.TheVariants as sv

pub virt_back : (v : Option ℕ) → VirtFits v → virt_of (at (virt_words v) 0) (at (virt_words v) 1) ≡ v
virt_back (Some x) f = refl
virt_back None f = refl

pub virt_small : (v : Option ℕ) → VirtFits v → Words (virt_words v)
unfolding Words
virt_small (Some x) f = (lit< tt, (f, tt))
virt_small None f = (lit< tt, (lit< tt, tt))

pub cutter_back : (v : Cutter) → CutterFits v → cutter_of (at (cutter_words v) 0) (at (cutter_words v) 1) (at (cutter_words v) 2) (at (cutter_words v) 3) ≡ v
cutter_back v f = simp (virt_back v.virt f.virt)

pub cutter_small : (v : Cutter) → CutterFits v → Words (cutter_words v)
unfolding Words
cutter_small v f = (words_at (virt_words v.virt) (virt_small v.virt f.virt) 0, (words_at (virt_words v.virt) (virt_small v.virt f.virt) 1, (f.phys, (f.left, tt))))

pub area_back : (v : Area) → AreaFits v → area_of (at (area_words v) 0) (at (area_words v) 1) ≡ v
area_back av.Fa f = refl
area_back av.Aux f = refl
area_back (av.Range x) f = refl

pub area_small : (v : Area) → AreaFits v → Words (area_words v)
unfolding Words
area_small av.Fa f = (lit< tt, (lit< tt, tt))
area_small av.Aux f = (lit< tt, (lit< tt, tt))
area_small (av.Range x) f = (lit< tt, (f, tt))

pub prepare_back : (v : Prepare) → PrepareFits v → prepare_of (at (prepare_words v) 0) ≡ v
prepare_back pv.Attributes f = refl
prepare_back pv.Claim f = refl
prepare_back pv.Reset f = refl
prepare_back pv.Bar f = refl
prepare_back pv.Inbox f = refl
prepare_back pv.Outbox f = refl
prepare_back pv.Look f = refl

pub prepare_small : (v : Prepare) → PrepareFits v → Words (prepare_words v)
unfolding Words
prepare_small pv.Attributes f = (lit< tt, tt)
prepare_small pv.Claim f = (lit< tt, tt)
prepare_small pv.Reset f = (lit< tt, tt)
prepare_small pv.Bar f = (lit< tt, tt)
prepare_small pv.Inbox f = (lit< tt, tt)
prepare_small pv.Outbox f = (lit< tt, tt)
prepare_small pv.Look f = (lit< tt, tt)

pub boot_back : (v : Boot) → BootFits v → boot_of (at (boot_words v) 0) (at (boot_words v) 1) (at (boot_words v) 2) (at (boot_words v) 3) (at (boot_words v) 4) (at (boot_words v) 5) (at (boot_words v) 6) ≡ v
boot_back bv.QueryFw f = refl
boot_back (bv.Make x) f = ap bv.Make (area_back x f)
boot_back (bv.Map x y) f = simp (area_back x f.0, cutter_back y f.1)
boot_back bv.RunFw f = refl
boot_back bv.ModStat f = refl
boot_back bv.DevCap f = refl
boot_back (bv.Port x) f = simp (mod-eq_of_lt f)
boot_back bv.IcmSize f = refl
boot_back bv.InitHca f = refl
boot_back bv.Func f = refl
boot_back bv.Adapter f = refl

pub boot_small : (v : Boot) → BootFits v → Words (boot_words v)
unfolding Words
boot_small bv.QueryFw f = (lit< tt, (lit< tt, (lit< tt, (lit< tt, (lit< tt, (lit< tt, (lit< tt, tt)))))))
boot_small (bv.Make x) f = (lit< tt, (words_at (area_words x) (area_small x f) 0, (words_at (area_words x) (area_small x f) 1, (lit< tt, (lit< tt, (lit< tt, (lit< tt, tt)))))))
boot_small (bv.Map x y) f = (lit< tt, (words_at (area_words x) (area_small x f.0) 0, (words_at (area_words x) (area_small x f.0) 1, (words_at (cutter_words y) (cutter_small y f.1) 0, (words_at (cutter_words y) (cutter_small y f.1) 1, (words_at (cutter_words y) (cutter_small y f.1) 2, (words_at (cutter_words y) (cutter_small y f.1) 3, tt)))))))
boot_small bv.RunFw f = (lit< tt, (lit< tt, (lit< tt, (lit< tt, (lit< tt, (lit< tt, (lit< tt, tt)))))))
boot_small bv.ModStat f = (lit< tt, (lit< tt, (lit< tt, (lit< tt, (lit< tt, (lit< tt, (lit< tt, tt)))))))
boot_small bv.DevCap f = (lit< tt, (lit< tt, (lit< tt, (lit< tt, (lit< tt, (lit< tt, (lit< tt, tt)))))))
boot_small (bv.Port x) f = (lit< tt, (omega (arith, f), (lit< tt, (lit< tt, (lit< tt, (lit< tt, (lit< tt, tt)))))))
boot_small bv.IcmSize f = (lit< tt, (lit< tt, (lit< tt, (lit< tt, (lit< tt, (lit< tt, (lit< tt, tt)))))))
boot_small bv.InitHca f = (lit< tt, (lit< tt, (lit< tt, (lit< tt, (lit< tt, (lit< tt, (lit< tt, tt)))))))
boot_small bv.Func f = (lit< tt, (lit< tt, (lit< tt, (lit< tt, (lit< tt, (lit< tt, (lit< tt, tt)))))))
boot_small bv.Adapter f = (lit< tt, (lit< tt, (lit< tt, (lit< tt, (lit< tt, (lit< tt, (lit< tt, tt)))))))

pub close_back : (v : Close) → CloseFits v → close_of (at (close_words v) 0) (at (close_words v) 1) ≡ v
close_back (cv.Undo x) f = simp (mod-eq_of_lt f)
close_back cv.CloseHca f = refl
close_back (cv.Unmap x) f = refl
close_back cv.UnmapAux f = refl
close_back cv.UnmapFa f = refl
close_back cv.Quiesce f = refl
close_back cv.Reset f = refl
close_back (cv.Free x) f = refl
close_back cv.Release f = refl
close_back cv.Restore f = refl

pub close_small : (v : Close) → CloseFits v → Words (close_words v)
unfolding Words
close_small (cv.Undo x) f = (lit< tt, (omega (arith, f), tt))
close_small cv.CloseHca f = (lit< tt, (lit< tt, tt))
close_small (cv.Unmap x) f = (lit< tt, (f, tt))
close_small cv.UnmapAux f = (lit< tt, (lit< tt, tt))
close_small cv.UnmapFa f = (lit< tt, (lit< tt, tt))
close_small cv.Quiesce f = (lit< tt, (lit< tt, tt))
close_small cv.Reset f = (lit< tt, (lit< tt, tt))
close_small (cv.Free x) f = (lit< tt, (f, tt))
close_small cv.Release f = (lit< tt, (lit< tt, tt))
close_small cv.Restore f = (lit< tt, (lit< tt, tt))

pub form_back : (v : Form) → FormFits v → form_of (at (form_words v) 0) ≡ v
form_back fv.Imm f = refl
form_back fv.WithIn f = refl
form_back fv.WithOut f = refl
form_back fv.InImm f = refl
form_back fv.InOut f = refl

pub form_small : (v : Form) → FormFits v → Words (form_words v)
unfolding Words
form_small fv.Imm f = (lit< tt, tt)
form_small fv.WithIn f = (lit< tt, tt)
form_small fv.WithOut f = (lit< tt, tt)
form_small fv.InImm f = (lit< tt, tt)
form_small fv.InOut f = (lit< tt, tt)

pub client_back : (v : Client) → ClientFits v → client_of (at (client_words v) 0) (at (client_words v) 1) (at (client_words v) 2) ≡ v
client_back (lv.Command x) f = ap lv.Command (form_back x f)
client_back (lv.Lend x) f = refl
client_back (lv.UndoTo x y) f = simp (mod-eq_of_lt f.1)

pub client_small : (v : Client) → ClientFits v → Words (client_words v)
unfolding Words
client_small (lv.Command x) f = (lit< tt, (words_at (form_words x) (form_small x f) 0, (lit< tt, tt)))
client_small (lv.Lend x) f = (lit< tt, (f, (lit< tt, tt)))
client_small (lv.UndoTo x y) f = (lit< tt, (f.0, (omega (arith, f.1), tt)))

pub gave_back : (v : Gave) → GaveFits v → gave_of (at (gave_words v) 0) (at (gave_words v) 1) (at (gave_words v) 2) (at (gave_words v) 3) ≡ v
gave_back gv.Nothing f = refl
gave_back (gv.Command x y) f = refl
gave_back (gv.Lent x) f = refl
gave_back (gv.Failed x) f = ap gv.Failed (refusal_back x f)

pub gave_small : (v : Gave) → GaveFits v → Words (gave_words v)
unfolding Words
gave_small gv.Nothing f = (lit< tt, (lit< tt, (lit< tt, (lit< tt, tt))))
gave_small (gv.Command x y) f = (lit< tt, (f.0, (f.1, (lit< tt, tt))))
gave_small (gv.Lent x) f = (lit< tt, (f, (lit< tt, (lit< tt, tt))))
gave_small (gv.Failed x) f = (lit< tt, (words_at (refusal_words x) (refusal_small x f) 0, (words_at (refusal_words x) (refusal_small x f) 1, (words_at (refusal_words x) (refusal_small x f) 2, tt))))

pub stage_back : (v : Stage) → StageFits v → stage_of (stage_words v) ≡ v
stage_back sv.Fresh f = refl
stage_back (sv.Open x) f = ap sv.Open (gave_back x f)
stage_back sv.Ended f = refl
stage_back (sv.Prepare x) f = ap sv.Prepare (prepare_back x f)
stage_back (sv.Boot x) f = ap sv.Boot (boot_back x f)
stage_back (sv.Client x) f = ap sv.Client (client_back x f)
stage_back (sv.Close x) f = ap sv.Close (close_back x f)

pub stage_small : (v : Stage) → StageFits v → Words (stage_words v)
unfolding Words
stage_small sv.Fresh f = (lit< tt, (lit< tt, (lit< tt, (lit< tt, (lit< tt, (lit< tt, (lit< tt, (lit< tt, tt))))))))
stage_small (sv.Open x) f = (lit< tt, (words_at (gave_words x) (gave_small x f) 0, (words_at (gave_words x) (gave_small x f) 1, (words_at (gave_words x) (gave_small x f) 2, (words_at (gave_words x) (gave_small x f) 3, (lit< tt, (lit< tt, (lit< tt, tt))))))))
stage_small sv.Ended f = (lit< tt, (lit< tt, (lit< tt, (lit< tt, (lit< tt, (lit< tt, (lit< tt, (lit< tt, tt))))))))
stage_small (sv.Prepare x) f = (lit< tt, (words_at (prepare_words x) (prepare_small x f) 0, (lit< tt, (lit< tt, (lit< tt, (lit< tt, (lit< tt, (lit< tt, tt))))))))
stage_small (sv.Boot x) f = (lit< tt, (words_at (boot_words x) (boot_small x f) 0, (words_at (boot_words x) (boot_small x f) 1, (words_at (boot_words x) (boot_small x f) 2, (words_at (boot_words x) (boot_small x f) 3, (words_at (boot_words x) (boot_small x f) 4, (words_at (boot_words x) (boot_small x f) 5, (words_at (boot_words x) (boot_small x f) 6, tt))))))))
stage_small (sv.Client x) f = (lit< tt, (words_at (client_words x) (client_small x f) 0, (words_at (client_words x) (client_small x f) 1, (words_at (client_words x) (client_small x f) 2, (lit< tt, (lit< tt, (lit< tt, (lit< tt, tt))))))))
stage_small (sv.Close x) f = (lit< tt, (words_at (close_words x) (close_small x f) 0, (words_at (close_words x) (close_small x f) 1, (lit< tt, (lit< tt, (lit< tt, (lit< tt, (lit< tt, tt))))))))

pub stage_length : (v : Stage) → length (stage_words v) ≡ STAGE
stage_length sv.Fresh = refl
stage_length (sv.Open x) = refl
stage_length sv.Ended = refl
stage_length (sv.Prepare x) = refl
stage_length (sv.Boot x) = refl
stage_length (sv.Client x) = refl
stage_length (sv.Close x) = refl
