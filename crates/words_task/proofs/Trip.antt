-- What was put into words is read back from them.
use mathlib.Core.Path.{◌≡◌, refl, ap}
use native.Mathlib.Nat.{mod-eq_of_lt}
use native.Mathlib.Omega.{arith}
use lib.ListN.{length}
use lib.Dec.{lit<}
use Rattle.words.specs.Places.{TASK}
use Rattle.words.specs.Words.{at}
use Rattle.words.proofs.Laws.{Words, words_at, bit_back, bit_small}
use Rattle.words_task.specs.Coding.{fault_words, fault_of, catas_words, catas_of, phase_words, phase_of, cmd_words, cmd_of, attr_words, attr_of, claim_words, claim_of, make_phase_words, make_phase_of, making_words, making_of, free_phase_words, free_phase_of, freeing_words, freeing_of, parting_words, parting_of, task_words, task_of}
use Rattle.words_task.specs.Fits.{FaultFits, CatasFits, PhaseFits, CmdFits, AttrFits, ClaimFits, MakePhaseFits, MakingFits, FreePhaseFits, FreeingFits, PartingFits, TaskFits}
use Rattle.buffer.specs.declared.Fault.{Fault}
use Rattle.buffer.specs.declared.Fault.TheVariants as fv
use Rattle.command.specs.declared.Catas.{Catas}
use Rattle.command.specs.declared.Catas.TheVariants as cv
use Rattle.command.specs.declared.Phase.{Phase}
use Rattle.command.specs.declared.Phase.TheVariants as pv
use Rattle.command.specs.declared.Cmd.{Cmd}
use Rattle.tasks.specs.declared.Attr.{Attr}
use Rattle.tasks.specs.declared.Attr.TheVariants as av
use Rattle.tasks.specs.declared.Claim.{Claim}
use Rattle.tasks.specs.declared.Claim.TheVariants as cv2
use Rattle.buffer.specs.declared.MakePhase.{MakePhase}
use Rattle.buffer.specs.declared.MakePhase.TheVariants as mpv
use Rattle.buffer.specs.declared.Making.{Making}
use Rattle.buffer.specs.declared.FreePhase.{FreePhase}
use Rattle.buffer.specs.declared.FreePhase.TheVariants as fpv
use Rattle.buffer.specs.declared.Freeing.{Freeing}
use Rattle.tasks.specs.declared.Parting.{Parting}
use Rattle.tasks.specs.declared.Parting.TheVariants as pv2
use Rattle.work.specs.declared.Task.{Task}
use Rattle.work.specs.declared.Task.TheVariants as tv

pub fault_back : (v : Fault) → FaultFits v → fault_of (at (fault_words v) 0) ≡ v
fault_back fv.Memory f = refl
fault_back fv.Address f = refl

pub fault_small : (v : Fault) → FaultFits v → Words (fault_words v)
unfolding Words
fault_small fv.Memory f = (lit< tt, tt)
fault_small fv.Address f = (lit< tt, tt)

pub catas_back : (v : Catas) → CatasFits v → catas_of (at (catas_words v) 0) (at (catas_words v) 1) (at (catas_words v) 2) ≡ v
catas_back (cv.Known x y) f = simp (mod-eq_of_lt f.0)
catas_back cv.Unknown f = refl

pub catas_small : (v : Catas) → CatasFits v → Words (catas_words v)
unfolding Words
catas_small (cv.Known x y) f = (lit< tt, (omega (arith, f.0), (f.1, tt)))
catas_small cv.Unknown f = (lit< tt, (lit< tt, (lit< tt, tt)))

pub phase_back : (v : Phase) → PhaseFits v → phase_of (at (phase_words v) 0) (at (phase_words v) 1) ≡ v
phase_back pv.First f = refl
phase_back (pv.Writing x) f = simp (mod-eq_of_lt f)
phase_back pv.Fence f = refl
phase_back pv.Go f = refl
phase_back pv.Poll f = refl
phase_back pv.Wait f = refl
phase_back pv.Fenced f = refl
phase_back pv.Status f = refl
phase_back pv.High f = refl
phase_back (pv.Low x) f = simp (mod-eq_of_lt f)
phase_back pv.Catas f = refl

pub phase_small : (v : Phase) → PhaseFits v → Words (phase_words v)
unfolding Words
phase_small pv.First f = (lit< tt, (lit< tt, tt))
phase_small (pv.Writing x) f = (lit< tt, (omega (arith, f), tt))
phase_small pv.Fence f = (lit< tt, (lit< tt, tt))
phase_small pv.Go f = (lit< tt, (lit< tt, tt))
phase_small pv.Poll f = (lit< tt, (lit< tt, tt))
phase_small pv.Wait f = (lit< tt, (lit< tt, tt))
phase_small pv.Fenced f = (lit< tt, (lit< tt, tt))
phase_small pv.Status f = (lit< tt, (lit< tt, tt))
phase_small pv.High f = (lit< tt, (lit< tt, tt))
phase_small (pv.Low x) f = (lit< tt, (omega (arith, f), tt))
phase_small pv.Catas f = (lit< tt, (lit< tt, tt))

pub cmd_back : (v : Cmd) → CmdFits v → cmd_of (cmd_words v) ≡ v
cmd_back v f = simp (
  phase_back v.phase f.phase,
  mod-eq_of_lt f.op,
  mod-eq_of_lt f.op_mod,
  mod-eq_of_lt f.in_mod,
  bit_back v.toggle,
  mod-eq_of_lt f.stalls,
  catas_back v.catas f.catas,
)

pub cmd_small : (v : Cmd) → CmdFits v → Words (cmd_words v)
unfolding Words
cmd_small v f = (lit< tt, (words_at (phase_words v.phase) (phase_small v.phase f.phase) 0, (words_at (phase_words v.phase) (phase_small v.phase f.phase) 1, (omega (arith, f.op), (omega (arith, f.op_mod), (omega (arith, f.in_mod), (f.in_param, (f.out_param, (bit_small v.toggle, (omega (arith, f.stalls), (words_at (catas_words v.catas) (catas_small v.catas f.catas) 0, (words_at (catas_words v.catas) (catas_small v.catas f.catas) 1, (words_at (catas_words v.catas) (catas_small v.catas f.catas) 2, tt)))))))))))))

pub attr_back : (v : Attr) → AttrFits v → attr_of (at (attr_words v) 0) (at (attr_words v) 1) (at (attr_words v) 2) ≡ v
attr_back av.Get f = refl
attr_back (av.Supported x) f = refl
attr_back (av.Enable x y) f = refl

pub attr_small : (v : Attr) → AttrFits v → Words (attr_words v)
unfolding Words
attr_small av.Get f = (lit< tt, (lit< tt, (lit< tt, tt)))
attr_small (av.Supported x) f = (lit< tt, (f, (lit< tt, tt)))
attr_small (av.Enable x y) f = (lit< tt, (f.0, (f.1, tt)))

pub claim_back : (v : Claim) → ClaimFits v → claim_of (at (claim_words v) 0) (at (claim_words v) 1) ≡ v
claim_back cv2.Command f = refl
claim_back (cv2.Write x) f = simp (mod-eq_of_lt f)
claim_back cv2.Owner f = refl

pub claim_small : (v : Claim) → ClaimFits v → Words (claim_words v)
unfolding Words
claim_small cv2.Command f = (lit< tt, (lit< tt, tt))
claim_small (cv2.Write x) f = (lit< tt, (omega (arith, f), tt))
claim_small cv2.Owner f = (lit< tt, (lit< tt, tt))

pub make_phase_back : (v : MakePhase) → MakePhaseFits v → make_phase_of (at (make_phase_words v) 0) (at (make_phase_words v) 1) (at (make_phase_words v) 2) ≡ v
make_phase_back mpv.Allocate f = refl
make_phase_back (mpv.Map x) f = refl
make_phase_back (mpv.Unmap x y) f = simp (fault_back y f.1)
make_phase_back (mpv.Free x y) f = simp (fault_back y f.1)

pub make_phase_small : (v : MakePhase) → MakePhaseFits v → Words (make_phase_words v)
unfolding Words
make_phase_small mpv.Allocate f = (lit< tt, (lit< tt, (lit< tt, tt)))
make_phase_small (mpv.Map x) f = (lit< tt, (f, (lit< tt, tt)))
make_phase_small (mpv.Unmap x y) f = (lit< tt, (f.0, (words_at (fault_words y) (fault_small y f.1) 0, tt)))
make_phase_small (mpv.Free x y) f = (lit< tt, (f.0, (words_at (fault_words y) (fault_small y f.1) 0, tt)))

pub making_back : (v : Making) → MakingFits v → making_of (at (making_words v) 0) (at (making_words v) 1) (at (making_words v) 2) (at (making_words v) 3) ≡ v
making_back v f = simp (make_phase_back v.phase f.phase)

pub making_small : (v : Making) → MakingFits v → Words (making_words v)
unfolding Words
making_small v f = (f.bytes, (words_at (make_phase_words v.phase) (make_phase_small v.phase f.phase) 0, (words_at (make_phase_words v.phase) (make_phase_small v.phase f.phase) 1, (words_at (make_phase_words v.phase) (make_phase_small v.phase f.phase) 2, tt))))

pub free_phase_back : (v : FreePhase) → FreePhaseFits v → free_phase_of (at (free_phase_words v) 0) ≡ v
free_phase_back fpv.Unmap f = refl
free_phase_back fpv.Free f = refl

pub free_phase_small : (v : FreePhase) → FreePhaseFits v → Words (free_phase_words v)
unfolding Words
free_phase_small fpv.Unmap f = (lit< tt, tt)
free_phase_small fpv.Free f = (lit< tt, tt)

pub freeing_back : (v : Freeing) → FreeingFits v → freeing_of (at (freeing_words v) 0) (at (freeing_words v) 1) (at (freeing_words v) 2) ≡ v
freeing_back v f = simp (free_phase_back v.phase f.phase)

pub freeing_small : (v : Freeing) → FreeingFits v → Words (freeing_words v)
unfolding Words
freeing_small v f = (f.handle, (f.pages, (words_at (free_phase_words v.phase) (free_phase_small v.phase f.phase) 0, tt)))

pub parting_back : (v : Parting) → PartingFits v → parting_of (at (parting_words v) 0) (at (parting_words v) 1) ≡ v
parting_back pv2.Disown f = refl
parting_back pv2.Settle f = refl
parting_back (pv2.Restore x) f = refl
parting_back pv2.Owner f = refl
parting_back pv2.Command f = refl
parting_back (pv2.Write x) f = simp (mod-eq_of_lt f)

pub parting_small : (v : Parting) → PartingFits v → Words (parting_words v)
unfolding Words
parting_small pv2.Disown f = (lit< tt, (lit< tt, tt))
parting_small pv2.Settle f = (lit< tt, (lit< tt, tt))
parting_small (pv2.Restore x) f = (lit< tt, (f, tt))
parting_small pv2.Owner f = (lit< tt, (lit< tt, tt))
parting_small pv2.Command f = (lit< tt, (lit< tt, tt))
parting_small (pv2.Write x) f = (lit< tt, (omega (arith, f), tt))

pub task_back : (v : Task) → TaskFits v → task_of (task_words v) ≡ v
task_back tv.Rest f = refl
task_back (tv.Attr x) f = ap tv.Attr (attr_back x f)
task_back (tv.Claim x) f = ap tv.Claim (claim_back x f)
task_back tv.Reset f = refl
task_back tv.Bar f = refl
task_back (tv.Make x) f = ap tv.Make (making_back x f)
task_back (tv.Free x) f = ap tv.Free (freeing_back x f)
task_back tv.Look f = refl
task_back (tv.Cmd x) f = ap tv.Cmd (cmd_back x f)
task_back (tv.Part x) f = ap tv.Part (parting_back x f)

pub task_small : (v : Task) → TaskFits v → Words (task_words v)
unfolding Words
task_small tv.Rest f = (lit< tt, (lit< tt, (lit< tt, (lit< tt, (lit< tt, (lit< tt, (lit< tt, (lit< tt, (lit< tt, (lit< tt, (lit< tt, (lit< tt, (lit< tt, tt)))))))))))))
task_small (tv.Attr x) f = (lit< tt, (words_at (attr_words x) (attr_small x f) 0, (words_at (attr_words x) (attr_small x f) 1, (words_at (attr_words x) (attr_small x f) 2, (lit< tt, (lit< tt, (lit< tt, (lit< tt, (lit< tt, (lit< tt, (lit< tt, (lit< tt, (lit< tt, tt)))))))))))))
task_small (tv.Claim x) f = (lit< tt, (words_at (claim_words x) (claim_small x f) 0, (words_at (claim_words x) (claim_small x f) 1, (lit< tt, (lit< tt, (lit< tt, (lit< tt, (lit< tt, (lit< tt, (lit< tt, (lit< tt, (lit< tt, (lit< tt, tt)))))))))))))
task_small tv.Reset f = (lit< tt, (lit< tt, (lit< tt, (lit< tt, (lit< tt, (lit< tt, (lit< tt, (lit< tt, (lit< tt, (lit< tt, (lit< tt, (lit< tt, (lit< tt, tt)))))))))))))
task_small tv.Bar f = (lit< tt, (lit< tt, (lit< tt, (lit< tt, (lit< tt, (lit< tt, (lit< tt, (lit< tt, (lit< tt, (lit< tt, (lit< tt, (lit< tt, (lit< tt, tt)))))))))))))
task_small (tv.Make x) f = (lit< tt, (words_at (making_words x) (making_small x f) 0, (words_at (making_words x) (making_small x f) 1, (words_at (making_words x) (making_small x f) 2, (words_at (making_words x) (making_small x f) 3, (lit< tt, (lit< tt, (lit< tt, (lit< tt, (lit< tt, (lit< tt, (lit< tt, (lit< tt, tt)))))))))))))
task_small (tv.Free x) f = (lit< tt, (words_at (freeing_words x) (freeing_small x f) 0, (words_at (freeing_words x) (freeing_small x f) 1, (words_at (freeing_words x) (freeing_small x f) 2, (lit< tt, (lit< tt, (lit< tt, (lit< tt, (lit< tt, (lit< tt, (lit< tt, (lit< tt, (lit< tt, tt)))))))))))))
task_small tv.Look f = (lit< tt, (lit< tt, (lit< tt, (lit< tt, (lit< tt, (lit< tt, (lit< tt, (lit< tt, (lit< tt, (lit< tt, (lit< tt, (lit< tt, (lit< tt, tt)))))))))))))
task_small (tv.Cmd x) f = cmd_small x f
task_small (tv.Part x) f = (lit< tt, (words_at (parting_words x) (parting_small x f) 0, (words_at (parting_words x) (parting_small x f) 1, (lit< tt, (lit< tt, (lit< tt, (lit< tt, (lit< tt, (lit< tt, (lit< tt, (lit< tt, (lit< tt, (lit< tt, tt)))))))))))))

pub task_length : (v : Task) → length (task_words v) ≡ TASK
task_length tv.Rest = refl
task_length (tv.Attr x) = refl
task_length (tv.Claim x) = refl
task_length tv.Reset = refl
task_length tv.Bar = refl
task_length (tv.Make x) = refl
task_length (tv.Free x) = refl
task_length tv.Look = refl
task_length (tv.Cmd x) = refl
task_length (tv.Part x) = refl
