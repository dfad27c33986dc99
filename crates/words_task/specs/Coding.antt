-- The task under way as words.
use Rattle.std.specs.Prelude.{ℕ, ◌%◌, List, [], ◌∷◌, eqb}
use Rattle.fields.specs.Outcome.{pick}
use Rattle.words.specs.Words.{at, bit_of}
use Rattle.buffer.specs.declared.Fault.{Fault}
use Rattle.buffer.specs.declared.Fault.TheVariants as fv
use Rattle.command.specs.declared.Catas.{Catas}
use Rattle.command.specs.declared.Catas.TheVariants as cv
use Rattle.command.specs.declared.Phase.{Phase}
use Rattle.command.specs.declared.Phase.TheVariants as pv
use Rattle.command.specs.declared.Cmd.{Cmd}
use Rattle.tasks.specs.declared.Attr.{Attr}
use Rattle.tasks.specs.declared.Attr.TheVariants as av
use Rattle.tasks.specs.declared.Claim.{Claim}
use Rattle.tasks.specs.declared.Claim.TheVariants as cv2
use Rattle.buffer.specs.declared.MakePhase.{MakePhase}
use Rattle.buffer.specs.declared.MakePhase.TheVariants as mpv
use Rattle.buffer.specs.declared.Making.{Making}
use Rattle.buffer.specs.declared.FreePhase.{FreePhase}
use Rattle.buffer.specs.declared.FreePhase.TheVariants as fpv
use Rattle.buffer.specs.declared.Freeing.{Freeing}
use Rattle.tasks.specs.declared.Parting.{Parting}
use Rattle.tasks.specs.declared.Parting.TheVariants as pv2
use Rattle.work.specs.declared.Task.{Task}
use Rattle.work.specs.declared.Task.TheVariants as tv

-- why there is no buffer
abbrev pub fault_words : Fault → List ℕ
fault_words fv.Memory = 0 ∷ []
fault_words fv.Address = 1 ∷ []

abbrev pub fault_of : (tag : ℕ) → Fault
fault_of tag =
    pick (eqb tag 1) fv.Address (
    fv.Memory)

-- where the catastrophic error buffer is
abbrev pub catas_words : Catas → List ℕ
catas_words (cv.Known x y) = 0 ∷ x ∷ y ∷ []
catas_words cv.Unknown = 1 ∷ 0 ∷ 0 ∷ []

abbrev pub catas_of : (tag a b : ℕ) → Catas
catas_of tag a b =
    pick (eqb tag 1) cv.Unknown (
    cv.Known (a % 256) b)

-- the open question of a command
abbrev pub phase_words : Phase → List ℕ
phase_words pv.First = 0 ∷ 0 ∷ []
phase_words (pv.Writing x) = 1 ∷ x ∷ []
phase_words pv.Fence = 2 ∷ 0 ∷ []
phase_words pv.Go = 3 ∷ 0 ∷ []
phase_words pv.Poll = 4 ∷ 0 ∷ []
phase_words pv.Wait = 5 ∷ 0 ∷ []
phase_words pv.Fenced = 6 ∷ 0 ∷ []
phase_words pv.Status = 7 ∷ 0 ∷ []
phase_words pv.High = 8 ∷ 0 ∷ []
phase_words (pv.Low x) = 9 ∷ x ∷ []
phase_words pv.Catas = 10 ∷ 0 ∷ []

abbrev pub phase_of : (tag a : ℕ) → Phase
phase_of tag a =
    pick (eqb tag 1) (pv.Writing (a % 256)) (
    pick (eqb tag 2) pv.Fence (
    pick (eqb tag 3) pv.Go (
    pick (eqb tag 4) pv.Poll (
    pick (eqb tag 5) pv.Wait (
    pick (eqb tag 6) pv.Fenced (
    pick (eqb tag 7) pv.Status (
    pick (eqb tag 8) pv.High (
    pick (eqb tag 9) (pv.Low (a % 4294967296)) (
    pick (eqb tag 10) pv.Catas (
    pv.First))))))))))

-- a command, with the number of its task
abbrev pub cmd_words : Cmd → List ℕ
cmd_words v = 8 ∷ at (phase_words v.phase) 0 ∷ at (phase_words v.phase) 1 ∷ v.post.op ∷ v.post.op_mod ∷ v.post.in_mod ∷ v.post.in_param ∷ v.post.out_param ∷ bit_of v.toggle ∷ v.stalls ∷ at (catas_words v.catas) 0 ∷ at (catas_words v.catas) 1 ∷ at (catas_words v.catas) 2 ∷ []

abbrev pub cmd_of : List ℕ → Cmd
cmd_of w = record {
  phase = phase_of (at w 1) (at w 2);
  post = record { op = at w 3 % 65536; op_mod = at w 4 % 256; in_mod = at w 5 % 4294967296; in_param = at w 6; out_param = at w 7 };
  toggle = eqb (at w 8) 1;
  stalls = at w 9 % 4294967296;
  catas = catas_of (at w 10) (at w 11) (at w 12);
}

-- the attributes
abbrev pub attr_words : Attr → List ℕ
attr_words av.Get = 0 ∷ 0 ∷ 0 ∷ []
attr_words (av.Supported x) = 1 ∷ x ∷ 0 ∷ []
attr_words (av.Enable x y) = 2 ∷ x ∷ y ∷ []

abbrev pub attr_of : (tag a b : ℕ) → Attr
attr_of tag a b =
    pick (eqb tag 1) (av.Supported a) (
    pick (eqb tag 2) (av.Enable a b) (
    av.Get))

-- a claim
abbrev pub claim_words : Claim → List ℕ
claim_words cv2.Command = 0 ∷ 0 ∷ []
claim_words (cv2.Write x) = 1 ∷ x ∷ []
claim_words cv2.Owner = 2 ∷ 0 ∷ []

abbrev pub claim_of : (tag a : ℕ) → Claim
claim_of tag a =
    pick (eqb tag 1) (cv2.Write (a % 65536)) (
    pick (eqb tag 2) cv2.Owner (
    cv2.Command))

-- a buffer that is being made
abbrev pub make_phase_words : MakePhase → List ℕ
make_phase_words mpv.Allocate = 0 ∷ 0 ∷ 0 ∷ []
make_phase_words (mpv.Map x) = 1 ∷ x ∷ 0 ∷ []
make_phase_words (mpv.Unmap x y) = 2 ∷ x ∷ at (fault_words y) 0 ∷ []
make_phase_words (mpv.Free x y) = 3 ∷ x ∷ at (fault_words y) 0 ∷ []

abbrev pub make_phase_of : (tag a b : ℕ) → MakePhase
make_phase_of tag a b =
    pick (eqb tag 1) (mpv.Map a) (
    pick (eqb tag 2) (mpv.Unmap a (fault_of b)) (
    pick (eqb tag 3) (mpv.Free a (fault_of b)) (
    mpv.Allocate)))

abbrev pub making_words : Making → List ℕ
making_words v = v.bytes ∷ at (make_phase_words v.phase) 0 ∷ at (make_phase_words v.phase) 1 ∷ at (make_phase_words v.phase) 2 ∷ []

abbrev pub making_of : (a b d e : ℕ) → Making
making_of a b d e = record {
  bytes = a;
  phase = make_phase_of b d e;
}

-- a buffer that is being freed
abbrev pub free_phase_words : FreePhase → List ℕ
free_phase_words fpv.Unmap = 0 ∷ []
free_phase_words fpv.Free = 1 ∷ []

abbrev pub free_phase_of : (tag : ℕ) → FreePhase
free_phase_of tag =
    pick (eqb tag 1) fpv.Free (
    fpv.Unmap)

abbrev pub freeing_words : Freeing → List ℕ
freeing_words v = v.handle ∷ v.pages ∷ at (free_phase_words v.phase) 0 ∷ []

abbrev pub freeing_of : (a b d : ℕ) → Freeing
freeing_of a b d = record {
  handle = a;
  pages = b;
  phase = free_phase_of d;
}

-- a parting
abbrev pub parting_words : Parting → List ℕ
parting_words pv2.Disown = 0 ∷ 0 ∷ []
parting_words pv2.Settle = 1 ∷ 0 ∷ []
parting_words (pv2.Restore x) = 2 ∷ x ∷ []
parting_words pv2.Owner = 3 ∷ 0 ∷ []
parting_words pv2.Command = 4 ∷ 0 ∷ []
parting_words (pv2.Write x) = 5 ∷ x ∷ []

abbrev pub parting_of : (tag a : ℕ) → Parting
parting_of tag a =
    pick (eqb tag 1) pv2.Settle (
    pick (eqb tag 2) (pv2.Restore a) (
    pick (eqb tag 3) pv2.Owner (
    pick (eqb tag 4) pv2.Command (
    pick (eqb tag 5) (pv2.Write (a % 65536)) (
    pv2.Disown)))))

-- the task under way: its number, and what it carries. A command is looked for first, since it is polled
abbrev pub task_words : Task → List ℕ
task_words tv.Rest = 0 ∷ 0 ∷ 0 ∷ 0 ∷ 0 ∷ 0 ∷ 0 ∷ 0 ∷ 0 ∷ 0 ∷ 0 ∷ 0 ∷ 0 ∷ []
task_words (tv.Attr x) = 1 ∷ at (attr_words x) 0 ∷ at (attr_words x) 1 ∷ at (attr_words x) 2 ∷ 0 ∷ 0 ∷ 0 ∷ 0 ∷ 0 ∷ 0 ∷ 0 ∷ 0 ∷ 0 ∷ []
task_words (tv.Claim x) = 2 ∷ at (claim_words x) 0 ∷ at (claim_words x) 1 ∷ 0 ∷ 0 ∷ 0 ∷ 0 ∷ 0 ∷ 0 ∷ 0 ∷ 0 ∷ 0 ∷ 0 ∷ []
task_words tv.Reset = 3 ∷ 0 ∷ 0 ∷ 0 ∷ 0 ∷ 0 ∷ 0 ∷ 0 ∷ 0 ∷ 0 ∷ 0 ∷ 0 ∷ 0 ∷ []
task_words tv.Bar = 4 ∷ 0 ∷ 0 ∷ 0 ∷ 0 ∷ 0 ∷ 0 ∷ 0 ∷ 0 ∷ 0 ∷ 0 ∷ 0 ∷ 0 ∷ []
task_words (tv.Make x) = 5 ∷ at (making_words x) 0 ∷ at (making_words x) 1 ∷ at (making_words x) 2 ∷ at (making_words x) 3 ∷ 0 ∷ 0 ∷ 0 ∷ 0 ∷ 0 ∷ 0 ∷ 0 ∷ 0 ∷ []
task_words (tv.Free x) = 6 ∷ at (freeing_words x) 0 ∷ at (freeing_words x) 1 ∷ at (freeing_words x) 2 ∷ 0 ∷ 0 ∷ 0 ∷ 0 ∷ 0 ∷ 0 ∷ 0 ∷ 0 ∷ 0 ∷ []
task_words tv.Look = 7 ∷ 0 ∷ 0 ∷ 0 ∷ 0 ∷ 0 ∷ 0 ∷ 0 ∷ 0 ∷ 0 ∷ 0 ∷ 0 ∷ 0 ∷ []
task_words (tv.Cmd x) = cmd_words x
task_words (tv.Part x) = 9 ∷ at (parting_words x) 0 ∷ at (parting_words x) 1 ∷ 0 ∷ 0 ∷ 0 ∷ 0 ∷ 0 ∷ 0 ∷ 0 ∷ 0 ∷ 0 ∷ 0 ∷ []

abbrev pub task_of : List ℕ → Task
task_of w =
    pick (eqb (at w 0) 8) (tv.Cmd (cmd_of w)) (
    pick (eqb (at w 0) 1) (tv.Attr (attr_of (at w 1) (at w 2) (at w 3))) (
    pick (eqb (at w 0) 2) (tv.Claim (claim_of (at w 1) (at w 2))) (
    pick (eqb (at w 0) 3) tv.Reset (
    pick (eqb (at w 0) 4) tv.Bar (
    pick (eqb (at w 0) 5) (tv.Make (making_of (at w 1) (at w 2) (at w 3) (at w 4))) (
    pick (eqb (at w 0) 6) (tv.Free (freeing_of (at w 1) (at w 2) (at w 3))) (
    pick (eqb (at w 0) 7) tv.Look (
    pick (eqb (at w 0) 9) (tv.Part (parting_of (at w 1) (at w 2))) (
    tv.Rest)))))))))
