-- How far a session has come, as words: its number in the order of the enum, then what it carries.
use Rattle.std.specs.Prelude.{ℕ, ◌%◌, List, [], ◌∷◌, eqb, Option, Some, None}
use Rattle.fields.specs.Outcome.{pick}
use Rattle.words.specs.Words.{at}
use Rattle.words_books.specs.Coding.{refusal_words, refusal_of}
use Rattle.dma.specs.declared.Cutter.{Cutter}
use Rattle.session.specs.declared.Area.{Area}
use Rattle.session.specs.declared.Area.TheVariants as av
use Rattle.session.specs.declared.Prepare.{Prepare}
use Rattle.session.specs.declared.Prepare.TheVariants as pv
use Rattle.session.specs.declared.Boot.{Boot}
use Rattle.session.specs.declared.Boot.TheVariants as bv
use Rattle.session.specs.declared.Close.{Close}
use Rattle.session.specs.declared.Close.TheVariants as cv
use Rattle.session.specs.declared.Form.{Form}
use Rattle.session.specs.declared.Form.TheVariants as fv
use Rattle.session.specs.declared.Client.{Client}
use Rattle.session.specs.declared.Client.TheVariants as lv
use Rattle.session.specs.declared.Gave.{Gave}
use Rattle.session.specs.declared.Gave.TheVariants as gv
use Rattle.session.specs.declared.Stage.{Stage}
use Rattle.session.specs.declared.Stage.TheVariants as sv

-- a card address, or none
abbrev pub virt_words : Option ℕ → List ℕ
virt_words (Some x) = 0 ∷ x ∷ []
virt_words None = 1 ∷ 0 ∷ []

abbrev pub virt_of : (tag a : ℕ) → Option ℕ
virt_of tag a =
    pick (eqb tag 1) None (
    Some a)

-- a range that is still to be cut
abbrev pub cutter_words : Cutter → List ℕ
cutter_words v = at (virt_words v.virt) 0 ∷ at (virt_words v.virt) 1 ∷ v.phys ∷ v.left ∷ []

abbrev pub cutter_of : (a b d e : ℕ) → Cutter
cutter_of a b d e = record {
  virt = virt_of a b;
  phys = d;
  left = e;
}

-- what a buffer is for
abbrev pub area_words : Area → List ℕ
area_words av.Fa = 0 ∷ 0 ∷ []
area_words av.Aux = 1 ∷ 0 ∷ []
area_words (av.Range x) = 2 ∷ x ∷ []

abbrev pub area_of : (tag a : ℕ) → Area
area_of tag a =
    pick (eqb tag 1) av.Aux (
    pick (eqb tag 2) (av.Range a) (
    av.Fa))

-- what a task is for, before the first command
abbrev pub prepare_words : Prepare → List ℕ
prepare_words pv.Attributes = 0 ∷ []
prepare_words pv.Claim = 1 ∷ []
prepare_words pv.Reset = 2 ∷ []
prepare_words pv.Bar = 3 ∷ []
prepare_words pv.Inbox = 4 ∷ []
prepare_words pv.Outbox = 5 ∷ []
prepare_words pv.Look = 6 ∷ []

abbrev pub prepare_of : (tag : ℕ) → Prepare
prepare_of tag =
    pick (eqb tag 1) pv.Claim (
    pick (eqb tag 2) pv.Reset (
    pick (eqb tag 3) pv.Bar (
    pick (eqb tag 4) pv.Inbox (
    pick (eqb tag 5) pv.Outbox (
    pick (eqb tag 6) pv.Look (
    pv.Attributes))))))

-- what a task is for, in bring-up
abbrev pub boot_words : Boot → List ℕ
boot_words bv.QueryFw = 0 ∷ 0 ∷ 0 ∷ 0 ∷ 0 ∷ 0 ∷ 0 ∷ []
boot_words (bv.Make x) = 1 ∷ at (area_words x) 0 ∷ at (area_words x) 1 ∷ 0 ∷ 0 ∷ 0 ∷ 0 ∷ []
boot_words (bv.Map x y) = 2 ∷ at (area_words x) 0 ∷ at (area_words x) 1 ∷ at (cutter_words y) 0 ∷ at (cutter_words y) 1 ∷ at (cutter_words y) 2 ∷ at (cutter_words y) 3 ∷ []
boot_words bv.RunFw = 3 ∷ 0 ∷ 0 ∷ 0 ∷ 0 ∷ 0 ∷ 0 ∷ []
boot_words bv.ModStat = 4 ∷ 0 ∷ 0 ∷ 0 ∷ 0 ∷ 0 ∷ 0 ∷ []
boot_words bv.DevCap = 5 ∷ 0 ∷ 0 ∷ 0 ∷ 0 ∷ 0 ∷ 0 ∷ []
boot_words (bv.Port x) = 6 ∷ x ∷ 0 ∷ 0 ∷ 0 ∷ 0 ∷ 0 ∷ []
boot_words bv.IcmSize = 7 ∷ 0 ∷ 0 ∷ 0 ∷ 0 ∷ 0 ∷ 0 ∷ []
boot_words bv.InitHca = 8 ∷ 0 ∷ 0 ∷ 0 ∷ 0 ∷ 0 ∷ 0 ∷ []
boot_words bv.Func = 9 ∷ 0 ∷ 0 ∷ 0 ∷ 0 ∷ 0 ∷ 0 ∷ []
boot_words bv.Adapter = 10 ∷ 0 ∷ 0 ∷ 0 ∷ 0 ∷ 0 ∷ 0 ∷ []

abbrev pub boot_of : (tag a b d e f g : ℕ) → Boot
boot_of tag a b d e f g =
    pick (eqb tag 1) (bv.Make (area_of a b)) (
    pick (eqb tag 2) (bv.Map (area_of a b) (cutter_of d e f g)) (
    pick (eqb tag 3) bv.RunFw (
    pick (eqb tag 4) bv.ModStat (
    pick (eqb tag 5) bv.DevCap (
    pick (eqb tag 6) (bv.Port (a % 256)) (
    pick (eqb tag 7) bv.IcmSize (
    pick (eqb tag 8) bv.InitHca (
    pick (eqb tag 9) bv.Func (
    pick (eqb tag 10) bv.Adapter (
    bv.QueryFw))))))))))

-- what a task is for, in a closing
abbrev pub close_words : Close → List ℕ
close_words (cv.Undo x) = 0 ∷ x ∷ []
close_words cv.CloseHca = 1 ∷ 0 ∷ []
close_words (cv.Unmap x) = 2 ∷ x ∷ []
close_words cv.UnmapAux = 3 ∷ 0 ∷ []
close_words cv.UnmapFa = 4 ∷ 0 ∷ []
close_words cv.Quiesce = 5 ∷ 0 ∷ []
close_words cv.Reset = 6 ∷ 0 ∷ []
close_words (cv.Free x) = 7 ∷ x ∷ []
close_words cv.Release = 8 ∷ 0 ∷ []
close_words cv.Restore = 9 ∷ 0 ∷ []

abbrev pub close_of : (tag a : ℕ) → Close
close_of tag a =
    pick (eqb tag 1) cv.CloseHca (
    pick (eqb tag 2) (cv.Unmap a) (
    pick (eqb tag 3) cv.UnmapAux (
    pick (eqb tag 4) cv.UnmapFa (
    pick (eqb tag 5) cv.Quiesce (
    pick (eqb tag 6) cv.Reset (
    pick (eqb tag 7) (cv.Free a) (
    pick (eqb tag 8) cv.Release (
    pick (eqb tag 9) cv.Restore (
    cv.Undo (a % 4294967296))))))))))

-- the form of a client's command
abbrev pub form_words : Form → List ℕ
form_words fv.Imm = 0 ∷ []
form_words fv.WithIn = 1 ∷ []
form_words fv.WithOut = 2 ∷ []
form_words fv.InImm = 3 ∷ []
form_words fv.InOut = 4 ∷ []

abbrev pub form_of : (tag : ℕ) → Form
form_of tag =
    pick (eqb tag 1) fv.WithIn (
    pick (eqb tag 2) fv.WithOut (
    pick (eqb tag 3) fv.InImm (
    pick (eqb tag 4) fv.InOut (
    fv.Imm))))

-- what a task is for, in a client's call
abbrev pub client_words : Client → List ℕ
client_words (lv.Command x) = 0 ∷ at (form_words x) 0 ∷ 0 ∷ []
client_words (lv.Lend x) = 1 ∷ x ∷ 0 ∷ []
client_words (lv.UndoTo x y) = 2 ∷ x ∷ y ∷ []

abbrev pub client_of : (tag a b : ℕ) → Client
client_of tag a b =
    pick (eqb tag 1) (lv.Lend a) (
    pick (eqb tag 2) (lv.UndoTo a (b % 4294967296)) (
    lv.Command (form_of a)))

-- what the last call on an open session gave
abbrev pub gave_words : Gave → List ℕ
gave_words gv.Nothing = 0 ∷ 0 ∷ 0 ∷ 0 ∷ []
gave_words (gv.Command x y) = 1 ∷ x ∷ y ∷ 0 ∷ []
gave_words (gv.Lent x) = 2 ∷ x ∷ 0 ∷ 0 ∷ []
gave_words (gv.Failed x) = 3 ∷ at (refusal_words x) 0 ∷ at (refusal_words x) 1 ∷ at (refusal_words x) 2 ∷ []

abbrev pub gave_of : (tag a b d : ℕ) → Gave
gave_of tag a b d =
    pick (eqb tag 1) (gv.Command a b) (
    pick (eqb tag 2) (gv.Lent a) (
    pick (eqb tag 3) (gv.Failed (refusal_of a b d)) (
    gv.Nothing)))

-- how far the session has come
abbrev pub stage_words : Stage → List ℕ
stage_words sv.Fresh = 0 ∷ 0 ∷ 0 ∷ 0 ∷ 0 ∷ 0 ∷ 0 ∷ 0 ∷ []
stage_words (sv.Open x) = 1 ∷ at (gave_words x) 0 ∷ at (gave_words x) 1 ∷ at (gave_words x) 2 ∷ at (gave_words x) 3 ∷ 0 ∷ 0 ∷ 0 ∷ []
stage_words sv.Ended = 2 ∷ 0 ∷ 0 ∷ 0 ∷ 0 ∷ 0 ∷ 0 ∷ 0 ∷ []
stage_words (sv.Prepare x) = 3 ∷ at (prepare_words x) 0 ∷ 0 ∷ 0 ∷ 0 ∷ 0 ∷ 0 ∷ 0 ∷ []
stage_words (sv.Boot x) = 4 ∷ at (boot_words x) 0 ∷ at (boot_words x) 1 ∷ at (boot_words x) 2 ∷ at (boot_words x) 3 ∷ at (boot_words x) 4 ∷ at (boot_words x) 5 ∷ at (boot_words x) 6 ∷ []
stage_words (sv.Client x) = 5 ∷ at (client_words x) 0 ∷ at (client_words x) 1 ∷ at (client_words x) 2 ∷ 0 ∷ 0 ∷ 0 ∷ 0 ∷ []
stage_words (sv.Close x) = 6 ∷ at (close_words x) 0 ∷ at (close_words x) 1 ∷ 0 ∷ 0 ∷ 0 ∷ 0 ∷ 0 ∷ []

abbrev pub stage_of : List ℕ → Stage
stage_of w =
    pick (eqb (at w 0) 1) (sv.Open (gave_of (at w 1) (at w 2) (at w 3) (at w 4))) (
    pick (eqb (at w 0) 2) sv.Ended (
    pick (eqb (at w 0) 3) (sv.Prepare (prepare_of (at w 1))) (
    pick (eqb (at w 0) 4) (sv.Boot (boot_of (at w 1) (at w 2) (at w 3) (at w 4) (at w 5) (at w 6) (at w 7))) (
    pick (eqb (at w 0) 5) (sv.Client (client_of (at w 1) (at w 2) (at w 3))) (
    pick (eqb (at w 0) 6) (sv.Close (close_of (at w 1) (at w 2))) (
    sv.Fresh))))))
