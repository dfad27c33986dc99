-- What was put into words is read back from them.
use Rattle.std.specs.Prelude.{Option, Some, None}
use mathlib.Core.Path.{◌≡◌, refl, ap}
use native.Mathlib.Nat.{mod-eq_of_lt}
use native.Mathlib.Omega.{arith}
use lib.Dec.{lit<}
use Rattle.words.specs.Words.{at, cut}
use Rattle.words.proofs.Laws.{Words, words_at, cut_back}
use Rattle.words_beside.specs.Coding.{reset_phase_words, reset_phase_of, control_words, control_of, reset_words, reset_of, range_words, range_of, candidate_words, candidate_of, asking_words, asking_of, choice_words, choice_of, bar_phase_words, bar_phase_of, find_words, find_of}
use Rattle.words_beside.specs.Fits.{ResetPhaseFits, ControlFits, ResetFits, RangeFits, CandidateFits, AskingFits, ChoiceFits, BarPhaseFits, FindFits}
use Rattle.reset.specs.declared.Phase.{Phase}
use Rattle.reset.specs.declared.Phase.TheVariants as rpv
use Rattle.reset.specs.declared.Control.{Control}
use Rattle.reset.specs.declared.Control.TheVariants as cv
use Rattle.reset.specs.declared.Reset.{Reset}
use Rattle.bars.specs.declared.BarRange.{BarRange}
use Rattle.bars.specs.declared.Candidate.{Candidate}
use Rattle.bars.specs.declared.Asking.{Asking}
use Rattle.bars.specs.declared.Asking.TheVariants as av
use Rattle.bars.specs.declared.Choice.{Choice}
use Rattle.uar.specs.declared.BarPhase.{BarPhase}
use Rattle.uar.specs.declared.BarPhase.TheVariants as bpv
use Rattle.uar.specs.declared.FindBar.{FindBar}

pub reset_phase_back : (v : Phase) → ResetPhaseFits v → reset_phase_of (at (reset_phase_words v) 0) (at (reset_phase_words v) 1) (at (reset_phase_words v) 2) (at (reset_phase_words v) 3) ≡ v
reset_phase_back (rpv.Saving x) f = simp (mod-eq_of_lt f)
reset_phase_back rpv.Pointer f = refl
reset_phase_back (rpv.Header x y) f = simp (mod-eq_of_lt f.0, mod-eq_of_lt f.1)
reset_phase_back (rpv.Device x) f = simp (mod-eq_of_lt f)
reset_phase_back (rpv.Link x y) f = simp (mod-eq_of_lt f.0, mod-eq_of_lt f.1)
reset_phase_back (rpv.Semaphore x) f = simp (mod-eq_of_lt f)
reset_phase_back (rpv.Hold x) f = simp (mod-eq_of_lt f)
reset_phase_back rpv.Writing f = refl
reset_phase_back rpv.Settle f = refl
reset_phase_back (rpv.Vendor x) f = simp (mod-eq_of_lt f)
reset_phase_back (rpv.Gone x) f = simp (mod-eq_of_lt f)
reset_phase_back (rpv.BackDevice x y z) f = simp (mod-eq_of_lt f.0, mod-eq_of_lt f.1, mod-eq_of_lt f.2)
reset_phase_back (rpv.BackLink x y) f = simp (mod-eq_of_lt f.0, mod-eq_of_lt f.1)
reset_phase_back (rpv.Back x) f = simp (mod-eq_of_lt f)

pub reset_phase_small : (v : Phase) → ResetPhaseFits v → Words (reset_phase_words v)
unfolding Words
reset_phase_small (rpv.Saving x) f = (lit< tt, (omega (arith, f), (lit< tt, (lit< tt, tt))))
reset_phase_small rpv.Pointer f = (lit< tt, (lit< tt, (lit< tt, (lit< tt, tt))))
reset_phase_small (rpv.Header x y) f = (lit< tt, (omega (arith, f.0), (omega (arith, f.1), (lit< tt, tt))))
reset_phase_small (rpv.Device x) f = (lit< tt, (omega (arith, f), (lit< tt, (lit< tt, tt))))
reset_phase_small (rpv.Link x y) f = (lit< tt, (omega (arith, f.0), (omega (arith, f.1), (lit< tt, tt))))
reset_phase_small (rpv.Semaphore x) f = (lit< tt, (omega (arith, f), (lit< tt, (lit< tt, tt))))
reset_phase_small (rpv.Hold x) f = (lit< tt, (omega (arith, f), (lit< tt, (lit< tt, tt))))
reset_phase_small rpv.Writing f = (lit< tt, (lit< tt, (lit< tt, (lit< tt, tt))))
reset_phase_small rpv.Settle f = (lit< tt, (lit< tt, (lit< tt, (lit< tt, tt))))
reset_phase_small (rpv.Vendor x) f = (lit< tt, (omega (arith, f), (lit< tt, (lit< tt, tt))))
reset_phase_small (rpv.Gone x) f = (lit< tt, (omega (arith, f), (lit< tt, (lit< tt, tt))))
reset_phase_small (rpv.BackDevice x y z) f = (lit< tt, (omega (arith, f.0), (omega (arith, f.1), (omega (arith, f.2), tt))))
reset_phase_small (rpv.BackLink x y) f = (lit< tt, (omega (arith, f.0), (omega (arith, f.1), (lit< tt, tt))))
reset_phase_small (rpv.Back x) f = (lit< tt, (omega (arith, f), (lit< tt, (lit< tt, tt))))

pub control_back : (v : Control) → ControlFits v → control_of (at (control_words v) 0) (at (control_words v) 1) (at (control_words v) 2) (at (control_words v) 3) ≡ v
control_back cv.Absent f = refl
control_back (cv.Saved x y z) f = simp (mod-eq_of_lt f.0, mod-eq_of_lt f.1, mod-eq_of_lt f.2)

pub control_small : (v : Control) → ControlFits v → Words (control_words v)
unfolding Words
control_small cv.Absent f = (lit< tt, (lit< tt, (lit< tt, (lit< tt, tt))))
control_small (cv.Saved x y z) f = (lit< tt, (omega (arith, f.0), (omega (arith, f.1), (omega (arith, f.2), tt))))

pub reset_back : (v : Reset) → ResetFits v → reset_of (reset_words v) ≡ v
unfolding cut
reset_back v f = simp (
  reset_phase_back v.phase f.phase,
  control_back v.control f.control,
  cut_back 4294967296 v.dwords f.dwords.0 f.dwords.1,
)

pub reset_small : (v : Reset) → ResetFits v → Words (reset_words v)
unfolding Words
reset_small v f = (words_at (reset_phase_words v.phase) (reset_phase_small v.phase f.phase) 0, (words_at (reset_phase_words v.phase) (reset_phase_small v.phase f.phase) 1, (words_at (reset_phase_words v.phase) (reset_phase_small v.phase f.phase) 2, (words_at (reset_phase_words v.phase) (reset_phase_small v.phase f.phase) 3, (words_at (control_words v.control) (control_small v.control f.control) 0, (words_at (control_words v.control) (control_small v.control f.control) 1, (words_at (control_words v.control) (control_small v.control f.control) 2, (words_at (control_words v.control) (control_small v.control f.control) 3, (omega (arith, f.dwords.1 0), (omega (arith, f.dwords.1 1), (omega (arith, f.dwords.1 2), (omega (arith, f.dwords.1 3), (omega (arith, f.dwords.1 4), (omega (arith, f.dwords.1 5), (omega (arith, f.dwords.1 6), (omega (arith, f.dwords.1 7), (omega (arith, f.dwords.1 8), (omega (arith, f.dwords.1 9), (omega (arith, f.dwords.1 10), (omega (arith, f.dwords.1 11), (omega (arith, f.dwords.1 12), (omega (arith, f.dwords.1 13), (omega (arith, f.dwords.1 14), (omega (arith, f.dwords.1 15), tt))))))))))))))))))))))))

pub range_back : (v : Option BarRange) → RangeFits v → range_of (at (range_words v) 0) (at (range_words v) 1) (at (range_words v) 2) ≡ v
range_back (Some x) f = refl
range_back None f = refl

pub range_small : (v : Option BarRange) → RangeFits v → Words (range_words v)
unfolding Words
range_small (Some x) f = (lit< tt, (f.0, (f.1, tt)))
range_small None f = (lit< tt, (lit< tt, (lit< tt, tt)))

pub candidate_back : (v : Candidate) → CandidateFits v → candidate_of (at (candidate_words v) 0) (at (candidate_words v) 1) (at (candidate_words v) 2) (at (candidate_words v) 3) ≡ v
candidate_back v f = simp (
  mod-eq_of_lt f.index,
  range_back v.answer f.answer,
)

pub candidate_small : (v : Candidate) → CandidateFits v → Words (candidate_words v)
unfolding Words
candidate_small v f = (omega (arith, f.index), (words_at (range_words v.answer) (range_small v.answer f.answer) 0, (words_at (range_words v.answer) (range_small v.answer f.answer) 1, (words_at (range_words v.answer) (range_small v.answer f.answer) 2, tt))))

pub asking_back : (v : Asking) → AskingFits v → asking_of (at (asking_words v) 0) (at (asking_words v) 1) ≡ v
asking_back av.First f = refl
asking_back av.Second f = refl
asking_back (av.Other x) f = simp (mod-eq_of_lt f)

pub asking_small : (v : Asking) → AskingFits v → Words (asking_words v)
unfolding Words
asking_small av.First f = (lit< tt, (lit< tt, tt))
asking_small av.Second f = (lit< tt, (lit< tt, tt))
asking_small (av.Other x) f = (lit< tt, (omega (arith, f), tt))

pub choice_back : (v : Choice) → ChoiceFits v → choice_of (at (choice_words v) 0) (at (choice_words v) 1) (at (choice_words v) 2) (at (choice_words v) 3) (at (choice_words v) 4) (at (choice_words v) 5) (at (choice_words v) 6) (at (choice_words v) 7) (at (choice_words v) 8) (at (choice_words v) 9) (at (choice_words v) 10) ≡ v
choice_back v f = simp (
  candidate_back v.first f.first,
  candidate_back v.second f.second,
  asking_back v.asking f.asking,
)

pub choice_small : (v : Choice) → ChoiceFits v → Words (choice_words v)
unfolding Words
choice_small v f = (f.base, (words_at (candidate_words v.first) (candidate_small v.first f.first) 0, (words_at (candidate_words v.first) (candidate_small v.first f.first) 1, (words_at (candidate_words v.first) (candidate_small v.first f.first) 2, (words_at (candidate_words v.first) (candidate_small v.first f.first) 3, (words_at (candidate_words v.second) (candidate_small v.second f.second) 0, (words_at (candidate_words v.second) (candidate_small v.second f.second) 1, (words_at (candidate_words v.second) (candidate_small v.second f.second) 2, (words_at (candidate_words v.second) (candidate_small v.second f.second) 3, (words_at (asking_words v.asking) (asking_small v.asking f.asking) 0, (words_at (asking_words v.asking) (asking_small v.asking f.asking) 1, tt)))))))))))

pub bar_phase_back : (v : BarPhase) → BarPhaseFits v → bar_phase_of (at (bar_phase_words v) 0) (at (bar_phase_words v) 1) (at (bar_phase_words v) 2) (at (bar_phase_words v) 3) (at (bar_phase_words v) 4) (at (bar_phase_words v) 5) (at (bar_phase_words v) 6) (at (bar_phase_words v) 7) (at (bar_phase_words v) 8) (at (bar_phase_words v) 9) (at (bar_phase_words v) 10) (at (bar_phase_words v) 11) ≡ v
bar_phase_back (bpv.Reading x) f = simp (mod-eq_of_lt f)
bar_phase_back (bpv.Choosing x) f = ap bpv.Choosing (choice_back x f)

pub bar_phase_small : (v : BarPhase) → BarPhaseFits v → Words (bar_phase_words v)
unfolding Words
bar_phase_small (bpv.Reading x) f = (lit< tt, (omega (arith, f), (lit< tt, (lit< tt, (lit< tt, (lit< tt, (lit< tt, (lit< tt, (lit< tt, (lit< tt, (lit< tt, (lit< tt, tt))))))))))))
bar_phase_small (bpv.Choosing x) f = (lit< tt, (words_at (choice_words x) (choice_small x f) 0, (words_at (choice_words x) (choice_small x f) 1, (words_at (choice_words x) (choice_small x f) 2, (words_at (choice_words x) (choice_small x f) 3, (words_at (choice_words x) (choice_small x f) 4, (words_at (choice_words x) (choice_small x f) 5, (words_at (choice_words x) (choice_small x f) 6, (words_at (choice_words x) (choice_small x f) 7, (words_at (choice_words x) (choice_small x f) 8, (words_at (choice_words x) (choice_small x f) 9, (words_at (choice_words x) (choice_small x f) 10, tt))))))))))))

pub find_back : (v : FindBar) → FindFits v → find_of (find_words v) ≡ v
unfolding cut
find_back v f = simp (
  bar_phase_back v.phase f.phase,
  cut_back 4294967296 v.dwords f.dwords.0 f.dwords.1,
)

pub find_small : (v : FindBar) → FindFits v → Words (find_words v)
unfolding Words
find_small v f = (words_at (bar_phase_words v.phase) (bar_phase_small v.phase f.phase) 0, (words_at (bar_phase_words v.phase) (bar_phase_small v.phase f.phase) 1, (words_at (bar_phase_words v.phase) (bar_phase_small v.phase f.phase) 2, (words_at (bar_phase_words v.phase) (bar_phase_small v.phase f.phase) 3, (words_at (bar_phase_words v.phase) (bar_phase_small v.phase f.phase) 4, (words_at (bar_phase_words v.phase) (bar_phase_small v.phase f.phase) 5, (words_at (bar_phase_words v.phase) (bar_phase_small v.phase f.phase) 6, (words_at (bar_phase_words v.phase) (bar_phase_small v.phase f.phase) 7, (words_at (bar_phase_words v.phase) (bar_phase_small v.phase f.phase) 8, (words_at (bar_phase_words v.phase) (bar_phase_small v.phase f.phase) 9, (words_at (bar_phase_words v.phase) (bar_phase_small v.phase f.phase) 10, (words_at (bar_phase_words v.phase) (bar_phase_small v.phase f.phase) 11, (omega (arith, f.dwords.1 0), (omega (arith, f.dwords.1 1), (omega (arith, f.dwords.1 2), (omega (arith, f.dwords.1 3), (omega (arith, f.dwords.1 4), (omega (arith, f.dwords.1 5), tt))))))))))))))))))
