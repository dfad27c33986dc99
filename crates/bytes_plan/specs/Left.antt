-- WHAT A CALL AND AN ANSWER LEAVE of the bytes of a session. An answer inside a task writes the task's own words, and the one slot that it books; the end of a task also
-- writes the head, and what a reply leaves behind it. Every other byte is as it was.
use Rattle.std.specs.Prelude.{ℕ, List}
use Rattle.words_session.specs.Image.{core_of, put_head, put_task, encoded_in}
use Rattle.pci.specs.declared.Answer.{Answer}
use Rattle.work.specs.Work.{work_step_of}
use Rattle.work.specs.declared.Ending.{Ending}
use Rattle.work.specs.declared.Ending.TheVariants as e
use Rattle.session.specs.Session.{fresh}
use Rattle.session.specs.declared.Session.{Session}
use Rattle.behind.specs.Behind.{noted_in, begun_in}
use Rattle.intask.specs.InTask.{beside_in}
use Rattle.booking.specs.Booking.{slot_left}
use Rattle.calls_plan.specs.declared.Call.{Call}
use Rattle.calls_plan.specs.declared.Call.TheVariants as k
use Rattle.opening.specs.Notes.{note_in}

-- AN ANSWER to the session x, which is then z
abbrev pub stepped_in : Session → Answer → (resource : List ℕ) → List ℕ → List ℕ
stepped_in x a r s = beside_in x.work.task (work_step_of x.work a r) (slot_left x a s)

-- a plan begins: the head, and a reset or a search that begins with it
abbrev pub headed_in : Session → List ℕ → List ℕ
headed_in z s = put_head (core_of z) (begun_in z.stage z.work.task s)

abbrev pub left_in : Session → Session → (outbox : List ℕ) → Ending → List ℕ → List ℕ
left_in x z o e.Going s = put_task z.work.task s
left_in x z o (e.Ended y) s = headed_in z (noted_in (note_in x y o) x.info.uar.size o s)

abbrev pub answer_left : Session → Answer → (resource outbox : List ℕ) → Session → List ℕ → List ℕ
answer_left x a r o z s = left_in x z o (work_step_of x.work a r).ending (stepped_in x a r s)

-- A CALL whose session is then z; an opening begins on a fresh one
abbrev pub cleared_in : Call → List ℕ → List ℕ
cleared_in k.Open s = encoded_in s fresh
cleared_in (k.Command y) s = s
cleared_in (k.Lend bytes) s = s
cleared_in (k.UndoTo mark r) s = s
cleared_in k.Quiesce s = s
cleared_in k.Close s = s

abbrev pub call_left : Call → Session → List ℕ → List ℕ
call_left c z s = headed_in z (cleared_in c s)
