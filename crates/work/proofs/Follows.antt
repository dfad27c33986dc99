-- Every task that is under way follows its script: each task's own law, within the machine of all tasks.
use Rattle.std.specs.Prelude.{Option, Some, None}
use Prim.Native.Nat.{ℕ}
use mathlib.Core.Bool.{Bool, true, false}
use mathlib.Core.List.{List}
use mathlib.Core.Path.{◌≡◌, refl, subst}
use Rattle.pci.specs.Machine.{Next, Follows}
use Rattle.pci.proofs.Cases.{register_case}
use Rattle.pci.proofs.Within.{within, wrapped}
use Rattle.pci.specs.declared.Answer.{Answer}
use Rattle.command.specs.Machine.{cmd_asks, cmd_step_of, cmd_script, next}
use Rattle.command.proofs.Follow.{cmd_follows}
use Rattle.command.specs.declared.Cmd.{Cmd}
use Rattle.command.specs.declared.CmdStep.{CmdStep}
use Rattle.command.specs.declared.CmdStep.TheVariants as cs
use Rattle.command.specs.declared.CmdEnd.{CmdEnd}
use Rattle.reset.specs.Steps.{reset_asks, reset_step_of, reset_step, reset_script, next_of}
use Rattle.reset.proofs.Follows.{reset_follows}
use Rattle.reset.specs.declared.Reset.{Reset}
use Rattle.reset.specs.declared.Ending.{Ending as ResetEnding}
use Rattle.reset.specs.declared.Ending.TheVariants as rg
use Rattle.buffer.specs.Steps.{make_asks, make_step_of, make_step, make_script, make_next, free_asks, free_step_of, free_step, free_script, free_next}
use Rattle.buffer.proofs.Follows.{make_follows, free_follows}
use Rattle.buffer.specs.declared.Making.{Making}
use Rattle.buffer.specs.declared.MakeStep.{MakeStep}
use Rattle.buffer.specs.declared.MakeStep.TheVariants as ms
use Rattle.buffer.specs.declared.Freeing.{Freeing}
use Rattle.buffer.specs.declared.FreeStep.{FreeStep}
use Rattle.buffer.specs.declared.FreeStep.TheVariants as fs
use Rattle.tasks.specs.Attributes.{attr_asks, attr_step_of, attr_step, attr_script, attr_next}
use Rattle.tasks.proofs.Follows.{attr_follows, claim_follows, part_follows}
use Rattle.tasks.specs.declared.Attr.{Attr}
use Rattle.tasks.specs.declared.AttrStep.{AttrStep}
use Rattle.tasks.specs.declared.AttrStep.TheVariants as ats
use Rattle.tasks.specs.Claim.{claim_asks, claim_step_of, claim_step, claim_script, claim_next}
use Rattle.tasks.specs.declared.Claim.{Claim}
use Rattle.tasks.specs.declared.ClaimStep.{ClaimStep}
use Rattle.tasks.specs.declared.ClaimStep.TheVariants as ls
use Rattle.tasks.specs.Parting.{part_asks, part_step_of, part_step, part_script, part_next}
use Rattle.tasks.specs.declared.Parting.{Parting}
use Rattle.tasks.specs.declared.PartingStep.{PartingStep}
use Rattle.tasks.specs.declared.PartingStep.TheVariants as ps
use Rattle.uar.specs.Steps.{bar_asks, bar_step_of, bar_step, bar_script}
use Rattle.uar.specs.Steps as u
use Rattle.uar.proofs.Follows.{bar_follows}
use Rattle.uar.specs.declared.FindBar.{FindBar}
use Rattle.uar.specs.Uar.{Found}
use Rattle.work.specs.Work.{working, work_asks, work_step, work_script, leads, attr_work, claim_work, make_work, free_work, cmd_work, part_work, look_step, reset_on, bar_on, is_resting, WorkFollows}
use Rattle.work.specs.declared.Task.{Task}
use Rattle.work.specs.declared.Task.TheVariants as t
use Rattle.work.specs.declared.Work.{Work}
use Rattle.work.specs.declared.End.{End}
use Rattle.work.specs.declared.End.TheVariants as e
use Rattle.work.specs.declared.WorkStep.{WorkStep}

abbrev Holds : Bool → Type 0
Holds true = Unit {0}
Holds false = ⊥

abbrev led : WorkStep → Next Work End
led x = leads x.work x.ending

module _ (inbox : List ℕ) (r : Reset) (f : FindBar) where
  abbrev at : Task → Work
  at k = working k r f

  attr_led : (k : Attr) (x : AttrStep) → led (attr_work (at (t.Attr k)) x) ≡ wrapped attr_asks attr_step attr_script work_asks work_step (work_script inbox) (λ j. at (t.Attr j)) (λ v. e.Attr v) (attr_next x)
  attr_led k (ats.More j) = refl
  attr_led k (ats.Ended v) = refl

  claim_led : (k : Claim) (x : ClaimStep) → led (claim_work (at (t.Claim k)) x) ≡ wrapped claim_asks claim_step claim_script work_asks work_step (work_script inbox) (λ j. at (t.Claim j)) (λ v. e.Claim v) (claim_next x)
  claim_led k (ls.More j) = refl
  claim_led k (ls.Ended v) = refl

  make_led : (k : Making) (x : MakeStep) → led (make_work (at (t.Make k)) x) ≡ wrapped make_asks make_step make_script work_asks work_step (work_script inbox) (λ j. at (t.Make j)) (λ v. e.Made v) (make_next x)
  make_led k (ms.More j) = refl
  make_led k (ms.Ended v) = refl

  free_led : (k : Freeing) (x : FreeStep) → led (free_work (at (t.Free k)) x) ≡ wrapped free_asks free_step free_script work_asks work_step (work_script inbox) (λ j. at (t.Free j)) (λ v. e.Freed) (free_next x)
  free_led k (fs.More j) = refl
  free_led k fs.Freed = refl

  part_led : (k : Parting) (x : PartingStep) → led (part_work (at (t.Part k)) x) ≡ wrapped part_asks part_step part_script work_asks work_step (work_script inbox) (λ j. at (t.Part j)) (λ v. e.Parted) (part_next x)
  part_led k (ps.More j) = refl
  part_led k ps.Ended = refl

  abbrev cmd_step : Cmd → Answer → List ℕ → Next Cmd CmdEnd
  cmd_step c a bytes = next (cmd_step_of c a)

  cmd_led : (k : Cmd) (x : CmdStep) → led (cmd_work (at (t.Cmd k)) x) ≡ wrapped cmd_asks cmd_step (cmd_script inbox) work_asks work_step (work_script inbox) (λ j. at (t.Cmd j)) (λ v. e.Cmd v) (next x)
  cmd_led k (cs.More j) = refl
  cmd_led k (cs.Ended v) = refl

  reset_led_lem : (s : Reset) (g : ResetEnding) → led (reset_on (at t.Reset) s g) ≡ wrapped reset_asks reset_step reset_script work_asks work_step (work_script inbox) (λ j. working t.Reset j f) (λ v. e.Reset v) (next_of (record { reset = s; ending = g }))
  reset_led_lem s rg.Going = refl
  reset_led_lem s (rg.Ended v) = refl

  bar_led_lem : (s : FindBar) (g : Option Found) → led (bar_on (at t.Bar) s g) ≡ wrapped bar_asks bar_step bar_script work_asks work_step (work_script inbox) (λ j. working t.Bar r j) (λ v. e.Bar v) (u.next_of (record { find = s; ending = g }))
  bar_led_lem s None = refl
  bar_led_lem s (Some v) = refl

  at_task : (k : Task) → is_resting k ≡ false → Follows work_asks work_step (work_script inbox) (at k) (work_script inbox (at k))
  at_task t.Rest h = absurd (subst Holds h tt)
  at_task (t.Attr k) h =
      within attr_asks attr_step attr_script work_asks work_step (work_script inbox) (λ j. at (t.Attr j)) (λ v. e.Attr v) (λ j. refl) k refl (λ a bytes. attr_led k (attr_step_of k a)) (attr_script k) (attr_follows k)
  at_task (t.Claim k) h =
      within claim_asks claim_step claim_script work_asks work_step (work_script inbox) (λ j. at (t.Claim j)) (λ v. e.Claim v) (λ j. refl) k refl (λ a bytes. claim_led k (claim_step_of k a)) (claim_script k) (claim_follows k)
  at_task t.Reset h =
      within reset_asks reset_step reset_script work_asks work_step (work_script inbox) (λ j. working t.Reset j f) (λ v. e.Reset v) (λ j. refl) r refl
      (λ a bytes. reset_led_lem (reset_step_of r a).reset (reset_step_of r a).ending) (reset_script r) (reset_follows r)
  at_task t.Bar h =
      within bar_asks bar_step bar_script work_asks work_step (work_script inbox) (λ j. working t.Bar r j) (λ v. e.Bar v) (λ j. refl) f refl
      (λ a bytes. bar_led_lem (bar_step_of f a bytes).find (bar_step_of f a bytes).ending) (bar_script f) (bar_follows f)
  at_task (t.Make k) h =
      within make_asks make_step make_script work_asks work_step (work_script inbox) (λ j. at (t.Make j)) (λ v. e.Made v) (λ j. refl) k refl (λ a bytes. make_led k (make_step_of k a)) (make_script k) (make_follows k)
  at_task (t.Free k) h =
      within free_asks free_step free_script work_asks work_step (work_script inbox) (λ j. at (t.Free j)) (λ v. e.Freed) (λ j. refl) k refl (λ a bytes. free_led k (free_step_of k a)) (free_script k) (free_follows k)
  at_task t.Look h = (refl, register_case work_asks work_step (work_script inbox) (at t.Look) (λ x. led (look_step (at t.Look) x)) _ (λ v. refl) refl refl)
  at_task (t.Cmd k) h =
      within cmd_asks cmd_step (cmd_script inbox) work_asks work_step (work_script inbox) (λ j. at (t.Cmd j)) (λ v. e.Cmd v) (λ j. refl) k refl (λ a bytes. cmd_led k (cmd_step_of k a)) (cmd_script inbox k) (cmd_follows inbox k)
  at_task (t.Part k) h =
      within part_asks part_step part_script work_asks work_step (work_script inbox) (λ j. at (t.Part j)) (λ v. e.Parted) (λ j. refl) k refl (λ a bytes. part_led k (part_step_of k a)) (part_script k) (part_follows k)

pub work_follows : WorkFollows
work_follows inbox w h = at_task inbox w.reset w.find w.task h
