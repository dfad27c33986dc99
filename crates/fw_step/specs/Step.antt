-- AN ANSWER TO THE TASK under way: what it makes of the task, and of what stands behind the head.
use Rattle.std.specs.Prelude.{ℕ, List}
use Rattle.fields.specs.Outcome.{pick}
use Rattle.pci.specs.Views.{granted_of}
use Rattle.pci.specs.declared.Answer.{Answer}
use Rattle.pci.specs.declared.Question.{Question}
use Rattle.work.specs.Work.{work_step_of}
use Rattle.session.specs.Core.{Behind, behind}
use Rattle.session.specs.declared.Session.{Session}
use Rattle.session.specs.declared.Stage.{Stage}
use Rattle.fw_plan.specs.Calls.{is_allocate, is_granted, wipe_by, wipe_of, booked_of}
use Rattle.fw_plan.specs.declared.Wipe.{Wipe}
use Rattle.fw_plan.specs.declared.Wipe.TheVariants as v
use Rattle.fw_step.specs.declared.Took.{Took}

-- `wipe_of` by the stage and the open question
abbrev pub wipe_at : Stage → Question → Answer → Wipe
wipe_at st q a = pick (is_allocate q) (pick (is_granted (granted_of a)) (wipe_by st) v.Neither) v.Neither

abbrev pub took_of : Session → Answer → (resource : List ℕ) → Took
took_of x a r = record { task = (work_step_of x.work a r).work.task; ending = (work_step_of x.work a r).ending; wipe = wipe_of x a }

-- the reset and the search as the step leaves them, and the slots that the answer books
abbrev pub behind_after : Session → Answer → (resource : List ℕ) → Behind → Behind
behind_after x a r b =
    behind (work_step_of x.work a r).work.reset (work_step_of x.work a r).work.find b.cap b.port1 b.port2
    (booked_of x a).books.lists.slots
