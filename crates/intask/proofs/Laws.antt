-- A task that is neither a reset nor the search for the UAR BAR looks at neither.
use Rattle.std.specs.Prelude.{Option, Some, None}
use Prim.Native.Nat.{ℕ}
use mathlib.Core.Bool.{Bool, true, false}
use mathlib.Core.Path.{◌≡◌, refl, ap}
use mathlib.Core.List.{List}
use native.Mathlib.Omega.{arith}
use Rattle.std.specs.Prelude.{Result, Ok, Err}
use Rattle.fields.specs.Outcome.{pick}
use Rattle.pci.specs.Views.{dword_of}
use Rattle.pci.specs.declared.Answer.{Answer}
use Rattle.pci.specs.declared.NoReply.{NoReply}
use Rattle.pci.specs.declared.NoReply.TheVariants.{Failed, Wrong}
use Rattle.command.specs.Machine.{cmd_step_of}
use Rattle.command.specs.declared.CmdStep.{CmdStep}
use Rattle.command.specs.declared.CmdStep.TheVariants as cs
use Rattle.buffer.specs.Steps.{make_step_of, free_step_of}
use Rattle.buffer.specs.declared.MakeStep.{MakeStep}
use Rattle.buffer.specs.declared.MakeStep.TheVariants as ms
use Rattle.buffer.specs.declared.FreeStep.{FreeStep}
use Rattle.buffer.specs.declared.FreeStep.TheVariants as fs
use Rattle.tasks.specs.Attributes.{attr_step_of}
use Rattle.tasks.specs.declared.AttrStep.{AttrStep}
use Rattle.tasks.specs.declared.AttrStep.TheVariants as ats
use Rattle.tasks.specs.Claim.{claim_step_of}
use Rattle.tasks.specs.declared.ClaimStep.{ClaimStep}
use Rattle.tasks.specs.declared.ClaimStep.TheVariants as ls
use Rattle.tasks.specs.Parting.{part_step_of}
use Rattle.tasks.specs.declared.PartingStep.{PartingStep}
use Rattle.tasks.specs.declared.PartingStep.TheVariants as ps
use Rattle.reset.specs.Steps.{reset_step_of}
use Rattle.reset.specs.declared.Reset.{Reset}
use Rattle.reset.specs.declared.Ending.{Ending as ResetEnding}
use Rattle.reset.specs.declared.Ending.TheVariants as rg
use Rattle.uar.specs.Steps.{bar_step_of}
use Rattle.uar.specs.Uar.{Found}
use Rattle.uar.specs.declared.FindBar.{FindBar}
use Rattle.work.specs.Work.{working, work_asks, work_step_of, attr_work, claim_work, make_work, free_work, cmd_work, part_work, look_step, reset_on, bar_on}
use Rattle.work.specs.declared.Task.{Task}
use Rattle.work.specs.declared.Task.TheVariants as t
use Rattle.work.specs.declared.Work.{Work}
use Rattle.work.specs.declared.WorkStep.{WorkStep}
use Rattle.intask.specs.InTask.{going_of, beside_in}

abbrev pub is_plain : Task → Bool
is_plain t.Rest = true
is_plain (t.Attr y) = true
is_plain (t.Claim y) = true
is_plain t.Reset = false
is_plain t.Bar = false
is_plain (t.Make y) = true
is_plain (t.Free y) = true
is_plain t.Look = true
is_plain (t.Cmd y) = true
is_plain (t.Part y) = true

pub not_so : false ≡ true → ⊥
not_so h = let z : ◌≡◌ {A = ℕ} 0 1 = ap (λ (x : Bool). pick x 1 0) h in omega arith

attr_same : (w u : Work) (x : AttrStep) → going_of (attr_work w x) ≡ going_of (attr_work u x)
attr_same w u (ats.More k) = refl
attr_same w u (ats.Ended x) = refl

claim_same : (w u : Work) (x : ClaimStep) → going_of (claim_work w x) ≡ going_of (claim_work u x)
claim_same w u (ls.More k) = refl
claim_same w u (ls.Ended x) = refl

make_same : (w u : Work) (x : MakeStep) → going_of (make_work w x) ≡ going_of (make_work u x)
make_same w u (ms.More k) = refl
make_same w u (ms.Ended x) = refl

free_same : (w u : Work) (x : FreeStep) → going_of (free_work w x) ≡ going_of (free_work u x)
free_same w u (fs.More k) = refl
free_same w u fs.Freed = refl

cmd_same : (w u : Work) (x : CmdStep) → going_of (cmd_work w x) ≡ going_of (cmd_work u x)
cmd_same w u (cs.More k) = refl
cmd_same w u (cs.Ended x) = refl

part_same : (w u : Work) (x : PartingStep) → going_of (part_work w x) ≡ going_of (part_work u x)
part_same w u (ps.More k) = refl
part_same w u ps.Ended = refl

look_same : (w u : Work) (x : Result ℕ NoReply) → going_of (look_step w x) ≡ going_of (look_step u x)
look_same w u (Ok v) = refl
look_same w u (Err Failed) = refl
look_same w u (Err Wrong) = refl

pub plain_asks : (k : Task) (r v : Reset) (f g : FindBar) → is_plain k ≡ true → work_asks (working k r f) ≡ work_asks (working k v g)
plain_asks t.Rest r v f g h = refl
plain_asks (t.Attr y) r v f g h = refl
plain_asks (t.Claim y) r v f g h = refl
plain_asks t.Reset r v f g h = absurd (not_so h)
plain_asks t.Bar r v f g h = absurd (not_so h)
plain_asks (t.Make y) r v f g h = refl
plain_asks (t.Free y) r v f g h = refl
plain_asks t.Look r v f g h = refl
plain_asks (t.Cmd y) r v f g h = refl
plain_asks (t.Part y) r v f g h = refl

pub plain_steps : (k : Task) (r v : Reset) (f g : FindBar) (a : Answer) (bs : List ℕ) → is_plain k ≡ true
    → going_of (work_step_of (working k r f) a bs) ≡ going_of (work_step_of (working k v g) a bs)
plain_steps t.Rest r v f g a bs h = refl
plain_steps (t.Attr y) r v f g a bs h = attr_same (working (t.Attr y) r f) (working (t.Attr y) v g) (attr_step_of y a)
plain_steps (t.Claim y) r v f g a bs h = claim_same (working (t.Claim y) r f) (working (t.Claim y) v g) (claim_step_of y a)
plain_steps t.Reset r v f g a bs h = absurd (not_so h)
plain_steps t.Bar r v f g a bs h = absurd (not_so h)
plain_steps (t.Make y) r v f g a bs h = make_same (working (t.Make y) r f) (working (t.Make y) v g) (make_step_of y a)
plain_steps (t.Free y) r v f g a bs h = free_same (working (t.Free y) r f) (working (t.Free y) v g) (free_step_of y a)
plain_steps t.Look r v f g a bs h = look_same (working t.Look r f) (working t.Look v g) (dword_of a)
plain_steps (t.Cmd y) r v f g a bs h = cmd_same (working (t.Cmd y) r f) (working (t.Cmd y) v g) (cmd_step_of y a)
plain_steps (t.Part y) r v f g a bs h = part_same (working (t.Part y) r f) (working (t.Part y) v g) (part_step_of y a)

pub plain_beside : (k : Task) (s : WorkStep) (xs : List ℕ) → is_plain k ≡ true → xs ≡ beside_in k s xs
plain_beside t.Rest s xs h = refl
plain_beside (t.Attr y) s xs h = refl
plain_beside (t.Claim y) s xs h = refl
plain_beside t.Reset s xs h = absurd (not_so h)
plain_beside t.Bar s xs h = absurd (not_so h)
plain_beside (t.Make y) s xs h = refl
plain_beside (t.Free y) s xs h = refl
plain_beside t.Look s xs h = refl
plain_beside (t.Cmd y) s xs h = refl
plain_beside (t.Part y) s xs h = refl

-- a reset does not look at the search, nor the search at the reset
reset_on_lem : (f g : FindBar) (r v : Reset) (xs : List ℕ) (e : ResetEnding)
    → (going_of (reset_on (working t.Reset r f) v e) ≡ going_of (reset_on (working t.Reset r g) v e))
    × (beside_in t.Reset (reset_on (working t.Reset r f) v e) xs ≡ beside_in t.Reset (reset_on (working t.Reset r g) v e) xs)
reset_on_lem f g r v xs rg.Going = (refl, refl)
reset_on_lem f g r v xs (rg.Ended x) = (refl, refl)

pub reset_steps_lem : (r : Reset) (f g : FindBar) (a : Answer) (bs xs : List ℕ)
    → (going_of (work_step_of (working t.Reset r f) a bs) ≡ going_of (work_step_of (working t.Reset r g) a bs))
    × (beside_in t.Reset (work_step_of (working t.Reset r f) a bs) xs ≡ beside_in t.Reset (work_step_of (working t.Reset r g) a bs) xs)
reset_steps_lem r f g a bs xs = reset_on_lem f g r (reset_step_of r a).reset xs (reset_step_of r a).ending

bar_on_lem : (r v : Reset) (f g : FindBar) (xs : List ℕ) (e : Option Found)
    → (going_of (bar_on (working t.Bar r f) g e) ≡ going_of (bar_on (working t.Bar v f) g e))
    × (beside_in t.Bar (bar_on (working t.Bar r f) g e) xs ≡ beside_in t.Bar (bar_on (working t.Bar v f) g e) xs)
bar_on_lem r v f g xs None = (refl, refl)
bar_on_lem r v f g xs (Some x) = (refl, refl)

pub bar_steps : (r v : Reset) (f : FindBar) (a : Answer) (bs xs : List ℕ)
    → (going_of (work_step_of (working t.Bar r f) a bs) ≡ going_of (work_step_of (working t.Bar v f) a bs))
    × (beside_in t.Bar (work_step_of (working t.Bar r f) a bs) xs ≡ beside_in t.Bar (work_step_of (working t.Bar v f) a bs) xs)
bar_steps r v f a bs xs = bar_on_lem r v f (bar_step_of f a bs).find xs (bar_step_of f a bs).ending
