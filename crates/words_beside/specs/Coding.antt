-- A reset, and a search for the UAR BAR, as words.
use Rattle.std.specs.Prelude.{ℕ, ◌%◌, List, [], ◌∷◌, eqb, Option, Some, None}
use Rattle.fields.specs.Outcome.{pick}
use Rattle.words.specs.Words.{at}
use Rattle.reset.specs.declared.Phase.{Phase}
use Rattle.reset.specs.declared.Phase.TheVariants as rpv
use Rattle.reset.specs.declared.Control.{Control}
use Rattle.reset.specs.declared.Control.TheVariants as cv
use Rattle.reset.specs.declared.Reset.{Reset}
use Rattle.bars.specs.declared.BarRange.{BarRange}
use Rattle.bars.specs.declared.Candidate.{Candidate}
use Rattle.bars.specs.declared.Asking.{Asking}
use Rattle.bars.specs.declared.Asking.TheVariants as av
use Rattle.bars.specs.declared.Choice.{Choice}
use Rattle.uar.specs.declared.BarPhase.{BarPhase}
use Rattle.uar.specs.declared.BarPhase.TheVariants as bpv
use Rattle.uar.specs.declared.FindBar.{FindBar}

-- the open question of a reset
abbrev pub reset_phase_words : Phase → List ℕ
reset_phase_words (rpv.Saving x) = 0 ∷ x ∷ 0 ∷ 0 ∷ []
reset_phase_words rpv.Pointer = 1 ∷ 0 ∷ 0 ∷ 0 ∷ []
reset_phase_words (rpv.Header x y) = 2 ∷ x ∷ y ∷ 0 ∷ []
reset_phase_words (rpv.Device x) = 3 ∷ x ∷ 0 ∷ 0 ∷ []
reset_phase_words (rpv.Link x y) = 4 ∷ x ∷ y ∷ 0 ∷ []
reset_phase_words (rpv.Semaphore x) = 5 ∷ x ∷ 0 ∷ 0 ∷ []
reset_phase_words (rpv.Hold x) = 6 ∷ x ∷ 0 ∷ 0 ∷ []
reset_phase_words rpv.Writing = 7 ∷ 0 ∷ 0 ∷ 0 ∷ []
reset_phase_words rpv.Settle = 8 ∷ 0 ∷ 0 ∷ 0 ∷ []
reset_phase_words (rpv.Vendor x) = 9 ∷ x ∷ 0 ∷ 0 ∷ []
reset_phase_words (rpv.Gone x) = 10 ∷ x ∷ 0 ∷ 0 ∷ []
reset_phase_words (rpv.BackDevice x y z) = 11 ∷ x ∷ y ∷ z ∷ []
reset_phase_words (rpv.BackLink x y) = 12 ∷ x ∷ y ∷ 0 ∷ []
reset_phase_words (rpv.Back x) = 13 ∷ x ∷ 0 ∷ 0 ∷ []

abbrev pub reset_phase_of : (tag a b d : ℕ) → Phase
reset_phase_of tag a b d =
    pick (eqb tag 1) rpv.Pointer (
    pick (eqb tag 2) (rpv.Header (a % 256) (b % 256)) (
    pick (eqb tag 3) (rpv.Device (a % 256)) (
    pick (eqb tag 4) (rpv.Link (a % 256) (b % 65536)) (
    pick (eqb tag 5) (rpv.Semaphore (a % 65536)) (
    pick (eqb tag 6) (rpv.Hold (a % 65536)) (
    pick (eqb tag 7) rpv.Writing (
    pick (eqb tag 8) rpv.Settle (
    pick (eqb tag 9) (rpv.Vendor (a % 65536)) (
    pick (eqb tag 10) (rpv.Gone (a % 65536)) (
    pick (eqb tag 11) (rpv.BackDevice (a % 256) (b % 65536) (d % 65536)) (
    pick (eqb tag 12) (rpv.BackLink (a % 256) (b % 65536)) (
    pick (eqb tag 13) (rpv.Back (a % 256)) (
    rpv.Saving (a % 256))))))))))))))

-- the control words
abbrev pub control_words : Control → List ℕ
control_words cv.Absent = 0 ∷ 0 ∷ 0 ∷ 0 ∷ []
control_words (cv.Saved x y z) = 1 ∷ x ∷ y ∷ z ∷ []

abbrev pub control_of : (tag a b d : ℕ) → Control
control_of tag a b d =
    pick (eqb tag 1) (cv.Saved (a % 256) (b % 65536) (d % 65536)) (
    cv.Absent)

-- a reset: its open question, the control words, and the saved dwords
abbrev pub reset_words : Reset → List ℕ
reset_words v = at (reset_phase_words v.phase) 0 ∷ at (reset_phase_words v.phase) 1 ∷ at (reset_phase_words v.phase) 2 ∷ at (reset_phase_words v.phase) 3 ∷ at (control_words v.control) 0 ∷ at (control_words v.control) 1 ∷ at (control_words v.control) 2 ∷ at (control_words v.control) 3 ∷ at v.dwords 0 ∷ at v.dwords 1 ∷ at v.dwords 2 ∷ at v.dwords 3 ∷ at v.dwords 4 ∷ at v.dwords 5 ∷ at v.dwords 6 ∷ at v.dwords 7 ∷ at v.dwords 8 ∷ at v.dwords 9 ∷ at v.dwords 10 ∷ at v.dwords 11 ∷ at v.dwords 12 ∷ at v.dwords 13 ∷ at v.dwords 14 ∷ at v.dwords 15 ∷ []

abbrev pub reset_of : List ℕ → Reset
reset_of w = record {
  phase = reset_phase_of (at w 0) (at w 1) (at w 2) (at w 3);
  control = control_of (at w 4) (at w 5) (at w 6) (at w 7);
  dwords = at w 8 % 4294967296 ∷ at w 9 % 4294967296 ∷ at w 10 % 4294967296 ∷ at w 11 % 4294967296 ∷ at w 12 % 4294967296 ∷ at w 13 % 4294967296 ∷ at w 14 % 4294967296 ∷ at w 15 % 4294967296 ∷ at w 16 % 4294967296 ∷ at w 17 % 4294967296 ∷ at w 18 % 4294967296 ∷ at w 19 % 4294967296 ∷ at w 20 % 4294967296 ∷ at w 21 % 4294967296 ∷ at w 22 % 4294967296 ∷ at w 23 % 4294967296 ∷ [];
}

-- what was said about an index
abbrev pub range_words : Option BarRange → List ℕ
range_words (Some x) = 0 ∷ x.base ∷ x.length ∷ []
range_words None = 1 ∷ 0 ∷ 0 ∷ []

abbrev pub range_of : (tag a b : ℕ) → Option BarRange
range_of tag a b =
    pick (eqb tag 1) None (
    Some (record { base = a; length = b }))

abbrev pub candidate_words : Candidate → List ℕ
candidate_words v = v.index ∷ at (range_words v.answer) 0 ∷ at (range_words v.answer) 1 ∷ at (range_words v.answer) 2 ∷ []

abbrev pub candidate_of : (a b d e : ℕ) → Candidate
candidate_of a b d e = record {
  index = a % 256;
  answer = range_of b d e;
}

-- the open question of a choice
abbrev pub asking_words : Asking → List ℕ
asking_words av.First = 0 ∷ 0 ∷ []
asking_words av.Second = 1 ∷ 0 ∷ []
asking_words (av.Other x) = 2 ∷ x ∷ []

abbrev pub asking_of : (tag a : ℕ) → Asking
asking_of tag a =
    pick (eqb tag 1) av.Second (
    pick (eqb tag 2) (av.Other (a % 256)) (
    av.First))

abbrev pub choice_words : Choice → List ℕ
choice_words v = v.base ∷ at (candidate_words v.first) 0 ∷ at (candidate_words v.first) 1 ∷ at (candidate_words v.first) 2 ∷ at (candidate_words v.first) 3 ∷ at (candidate_words v.second) 0 ∷ at (candidate_words v.second) 1 ∷ at (candidate_words v.second) 2 ∷ at (candidate_words v.second) 3 ∷ at (asking_words v.asking) 0 ∷ at (asking_words v.asking) 1 ∷ []

abbrev pub choice_of : (a b d e f g h i j k l : ℕ) → Choice
choice_of a b d e f g h i j k l = record {
  base = a;
  first = candidate_of b d e f;
  second = candidate_of g h i j;
  asking = asking_of k l;
}

-- the open question of a search
abbrev pub bar_phase_words : BarPhase → List ℕ
bar_phase_words (bpv.Reading x) = 0 ∷ x ∷ 0 ∷ 0 ∷ 0 ∷ 0 ∷ 0 ∷ 0 ∷ 0 ∷ 0 ∷ 0 ∷ 0 ∷ []
bar_phase_words (bpv.Choosing x) = 1 ∷ at (choice_words x) 0 ∷ at (choice_words x) 1 ∷ at (choice_words x) 2 ∷ at (choice_words x) 3 ∷ at (choice_words x) 4 ∷ at (choice_words x) 5 ∷ at (choice_words x) 6 ∷ at (choice_words x) 7 ∷ at (choice_words x) 8 ∷ at (choice_words x) 9 ∷ at (choice_words x) 10 ∷ []

abbrev pub bar_phase_of : (tag a b d e f g h i j k l : ℕ) → BarPhase
bar_phase_of tag a b d e f g h i j k l =
    pick (eqb tag 1) (bpv.Choosing (choice_of a b d e f g h i j k l)) (
    bpv.Reading (a % 256))

-- a search for the UAR BAR: its open question, and the dwords that were read
abbrev pub find_words : FindBar → List ℕ
find_words v = at (bar_phase_words v.phase) 0 ∷ at (bar_phase_words v.phase) 1 ∷ at (bar_phase_words v.phase) 2 ∷ at (bar_phase_words v.phase) 3 ∷ at (bar_phase_words v.phase) 4 ∷ at (bar_phase_words v.phase) 5 ∷ at (bar_phase_words v.phase) 6 ∷ at (bar_phase_words v.phase) 7 ∷ at (bar_phase_words v.phase) 8 ∷ at (bar_phase_words v.phase) 9 ∷ at (bar_phase_words v.phase) 10 ∷ at (bar_phase_words v.phase) 11 ∷ at v.dwords 0 ∷ at v.dwords 1 ∷ at v.dwords 2 ∷ at v.dwords 3 ∷ at v.dwords 4 ∷ at v.dwords 5 ∷ []

abbrev pub find_of : List ℕ → FindBar
find_of w = record {
  phase = bar_phase_of (at w 0) (at w 1) (at w 2) (at w 3) (at w 4) (at w 5) (at w 6) (at w 7) (at w 8) (at w 9) (at w 10) (at w 11);
  dwords = at w 12 % 4294967296 ∷ at w 13 % 4294967296 ∷ at w 14 % 4294967296 ∷ at w 15 % 4294967296 ∷ at w 16 % 4294967296 ∷ at w 17 % 4294967296 ∷ [];
}
