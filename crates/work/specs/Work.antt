-- The tasks of a session as one machine: the question of each, what an answer makes of it, and the script that is left.
use Rattle.std.specs.Prelude.{ℕ, Bool, true, false, List, ◌≡◌, Option, Some, None, Result, Ok, Err}
use Rattle.hcr.specs.Words.{register, first_toggle, swap_of}
use Rattle.pci.specs.Views.{dword_of}
use Rattle.pci.specs.Script.{Script, ret, ask, ◌>>=◌, Bus, good, failed, read}
use Rattle.pci.specs.Machine.{Next, Follows}
use Rattle.pci.specs.Machine as m
use Rattle.pci.specs.declared.Question.{Question}
use Rattle.pci.specs.declared.Question.TheVariants as q
use Rattle.pci.specs.declared.Answer.{Answer}
use Rattle.pci.specs.declared.NoReply.{NoReply}
use Rattle.pci.specs.declared.NoReply.TheVariants.{Failed, Wrong}
use Rattle.command.specs.Machine.{cmd_asks, cmd_step_of, cmd_script}
use Rattle.command.specs.declared.CmdStep.{CmdStep}
use Rattle.command.specs.declared.CmdStep.TheVariants as cs
use Rattle.reset.specs.Steps.{started, reset_asks, reset_step_of, reset_script}
use Rattle.reset.specs.declared.Ending.{Ending as ResetEnding}
use Rattle.reset.specs.declared.Ending.TheVariants as rg
use Rattle.reset.specs.declared.Reset.{Reset}
use Rattle.buffer.specs.Steps.{make_asks, make_step_of, make_script, free_asks, free_step_of, free_script}
use Rattle.buffer.specs.declared.MakeStep.{MakeStep}
use Rattle.buffer.specs.declared.MakeStep.TheVariants as ms
use Rattle.buffer.specs.declared.FreeStep.{FreeStep}
use Rattle.buffer.specs.declared.FreeStep.TheVariants as fs
use Rattle.tasks.specs.Attributes.{attr_asks, attr_step_of, attr_script}
use Rattle.tasks.specs.declared.AttrStep.{AttrStep}
use Rattle.tasks.specs.declared.AttrStep.TheVariants as ats
use Rattle.tasks.specs.Claim.{claim_asks, claim_step_of, claim_script}
use Rattle.tasks.specs.declared.ClaimStep.{ClaimStep}
use Rattle.tasks.specs.declared.ClaimStep.TheVariants as ls
use Rattle.tasks.specs.Parting.{part_asks, part_step_of, part_script}
use Rattle.tasks.specs.declared.PartingStep.{PartingStep}
use Rattle.tasks.specs.declared.PartingStep.TheVariants as ps
use Rattle.uar.specs.Steps.{bar_asks, bar_step_of, bar_script}
use Rattle.uar.specs.Steps as u
use Rattle.uar.specs.Uar.{Found}
use Rattle.uar.specs.declared.FindBar.{FindBar}
use Rattle.work.specs.declared.Task.{Task}
use Rattle.work.specs.declared.Task.TheVariants as t
use Rattle.work.specs.declared.Work.{Work}
use Rattle.work.specs.declared.End.{End}
use Rattle.work.specs.declared.End.TheVariants as e
use Rattle.work.specs.declared.Ending.{Ending}
use Rattle.work.specs.declared.Ending.TheVariants as g
use Rattle.work.specs.declared.WorkStep.{WorkStep}

abbrev pub working : Task → Reset → FindBar → Work
working k r f = record { task = k; reset = r; find = f }

abbrev pub resting : Work
resting = working t.Rest started u.started

-- THE QUESTIONS
abbrev pub task_asks : Reset → FindBar → Task → Question
task_asks r f t.Rest = q.Finished
task_asks r f (t.Attr k) = attr_asks k
task_asks r f (t.Claim k) = claim_asks k
task_asks r f t.Reset = reset_asks r
task_asks r f t.Bar = bar_asks f
task_asks r f (t.Make k) = make_asks k
task_asks r f (t.Free k) = free_asks k
task_asks r f t.Look = q.RegRead 0 (register 0x18)
task_asks r f (t.Cmd k) = cmd_asks k
task_asks r f (t.Part k) = part_asks k

abbrev pub work_asks : Work → Question
work_asks w = task_asks w.reset w.find w.task

-- THE STEPS: the task goes on, or nothing is under way any more
abbrev pub on_task : Work → Task → WorkStep
on_task w k = record { work = working k w.reset w.find; ending = g.Going }

abbrev pub end_task : Work → End → WorkStep
end_task w x = record { work = working t.Rest w.reset w.find; ending = g.Ended x }

abbrev pub attr_work : Work → AttrStep → WorkStep
attr_work w (ats.More k) = on_task w (t.Attr k)
attr_work w (ats.Ended x) = end_task w (e.Attr x)

abbrev pub claim_work : Work → ClaimStep → WorkStep
claim_work w (ls.More k) = on_task w (t.Claim k)
claim_work w (ls.Ended x) = end_task w (e.Claim x)

abbrev pub make_work : Work → MakeStep → WorkStep
make_work w (ms.More k) = on_task w (t.Make k)
make_work w (ms.Ended x) = end_task w (e.Made x)

abbrev pub free_work : Work → FreeStep → WorkStep
free_work w (fs.More k) = on_task w (t.Free k)
free_work w fs.Freed = end_task w e.Freed

abbrev pub cmd_work : Work → CmdStep → WorkStep
cmd_work w (cs.More k) = on_task w (t.Cmd k)
cmd_work w (cs.Ended x) = end_task w (e.Cmd x)

abbrev pub part_work : Work → PartingStep → WorkStep
part_work w (ps.More k) = on_task w (t.Part k)
part_work w ps.Ended = end_task w e.Parted

abbrev pub look_step : Work → Result ℕ NoReply → WorkStep
look_step w (Ok v) = end_task w (e.Looked (first_toggle (swap_of v)))
look_step w (Err Failed) = end_task w (e.Looked true)
look_step w (Err Wrong) = on_task w t.Look

abbrev pub reset_on : Work → Reset → ResetEnding → WorkStep
reset_on w r rg.Going = record { work = working t.Reset r w.find; ending = g.Going }
reset_on w r (rg.Ended x) = record { work = working t.Rest r w.find; ending = g.Ended (e.Reset x) }

abbrev pub reset_work : Work → Answer → WorkStep
reset_work w a = reset_on w (reset_step_of w.reset a).reset (reset_step_of w.reset a).ending

abbrev pub bar_on : Work → FindBar → Option Found → WorkStep
bar_on w f None = record { work = working t.Bar w.reset f; ending = g.Going }
bar_on w f (Some x) = record { work = working t.Rest w.reset f; ending = g.Ended (e.Bar x) }

abbrev pub bar_work : Work → Answer → List ℕ → WorkStep
bar_work w a bytes = bar_on w (bar_step_of w.find a bytes).find (bar_step_of w.find a bytes).ending

abbrev pub task_step : Work → Answer → List ℕ → Task → WorkStep
task_step w a bytes t.Rest = on_task w t.Rest
task_step w a bytes (t.Attr k) = attr_work w (attr_step_of k a)
task_step w a bytes (t.Claim k) = claim_work w (claim_step_of k a)
task_step w a bytes t.Reset = reset_work w a
task_step w a bytes t.Bar = bar_work w a bytes
task_step w a bytes (t.Make k) = make_work w (make_step_of k a)
task_step w a bytes (t.Free k) = free_work w (free_step_of k a)
task_step w a bytes t.Look = look_step w (dword_of a)
task_step w a bytes (t.Cmd k) = cmd_work w (cmd_step_of k a)
task_step w a bytes (t.Part k) = part_work w (part_step_of k a)

abbrev pub work_step_of : Work → Answer → List ℕ → WorkStep
work_step_of w a bytes = task_step w a bytes w.task

abbrev pub leads : Work → Ending → Next Work End
leads w g.Going = m.more w
leads w (g.Ended x) = m.ended x

abbrev pub work_step : Work → Answer → List ℕ → Next Work End
work_step w a bytes = leads (work_step_of w a bytes).work (work_step_of w a bytes).ending

-- THE SCRIPTS. The first look: "Start: toggle 1; if readable with GO clear, the opposite of T"
abbrev pub toggle_from : Bus ℕ → Bool
toggle_from (good v) = first_toggle v
toggle_from failed = true

abbrev pub looking : Script Bool
looking = ask (read 0 (register 0x18)) (λ r. ret (toggle_from r))

-- what is left of a task; `inbox` is what the fences of a command copy to the device. Nothing is left where nothing is under way
abbrev pub task_script : List ℕ → Reset → FindBar → Task → Script End
task_script inbox r f t.Rest = ret e.Parted
task_script inbox r f (t.Attr k) = attr_script k >>= (λ x. ret (e.Attr x))
task_script inbox r f (t.Claim k) = claim_script k >>= (λ x. ret (e.Claim x))
task_script inbox r f t.Reset = reset_script r >>= (λ x. ret (e.Reset x))
task_script inbox r f t.Bar = bar_script f >>= (λ x. ret (e.Bar x))
task_script inbox r f (t.Make k) = make_script k >>= (λ x. ret (e.Made x))
task_script inbox r f (t.Free k) = free_script k >>= (λ x. ret e.Freed)
task_script inbox r f t.Look = looking >>= (λ x. ret (e.Looked x))
task_script inbox r f (t.Cmd k) = cmd_script inbox k >>= (λ x. ret (e.Cmd x))
task_script inbox r f (t.Part k) = part_script k >>= (λ x. ret e.Parted)

abbrev pub work_script : List ℕ → Work → Script End
work_script inbox w = task_script inbox w.reset w.find w.task

abbrev pub is_resting : Task → Bool
is_resting t.Rest = true
is_resting (t.Attr k) = false
is_resting (t.Claim k) = false
is_resting t.Reset = false
is_resting t.Bar = false
is_resting (t.Make k) = false
is_resting (t.Free k) = false
is_resting t.Look = false
is_resting (t.Cmd k) = false
is_resting (t.Part k) = false

-- Every task that is under way asks what its script asks, goes on as the script does after any reply, and stays as it is at an answer of a wrong kind.
abbrev pub WorkFollows : Type 0
WorkFollows = (inbox : List ℕ) (w : Work) → is_resting w.task ≡ false → Follows work_asks work_step (work_script inbox) w (work_script inbox w)
