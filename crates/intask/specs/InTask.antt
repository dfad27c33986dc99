-- THE TASK UNDER WAY in the bytes of a session: its question, and what an answer makes of it. The reset and the search for the UAR BAR stand behind the head, and
-- step in their own words.
use Rattle.std.specs.Prelude.{ℕ, List}
use Rattle.words.specs.Places.{reset_at, find_at}
use Rattle.words_beside.specs.Coding.{reset_words, find_words}
use Rattle.behind.specs.Behind.{behind_in, put_part}
use Rattle.session.specs.Core.{Behind, behind}
use Rattle.pci.specs.declared.Answer.{Answer}
use Rattle.work.specs.Work.{working, work_step_of}
use Rattle.work.specs.declared.Task.{Task}
use Rattle.work.specs.declared.Task.TheVariants as t
use Rattle.work.specs.declared.Work.{Work}
use Rattle.work.specs.declared.WorkStep.{WorkStep}
use Rattle.intask.specs.declared.Going.{Going}

-- the work that the bytes hold, where this is its task
abbrev pub work_in : Task → List ℕ → Work
work_in k xs = working k (behind_in xs).reset (behind_in xs).find

-- of a step: the task and how it ended
abbrev pub going_of : WorkStep → Going
going_of s = record { task = s.work.task; ending = s.ending }

-- and the bytes: a reset's words, or a search's, where the task was one
abbrev pub beside_in : Task → WorkStep → List ℕ → List ℕ
beside_in t.Rest s xs = xs
beside_in (t.Attr y) s xs = xs
beside_in (t.Claim y) s xs = xs
beside_in t.Reset s xs = put_part reset_at (reset_words s.work.reset) xs
beside_in t.Bar s xs = put_part find_at (find_words s.work.find) xs
beside_in (t.Make y) s xs = xs
beside_in (t.Free y) s xs = xs
beside_in t.Look s xs = xs
beside_in (t.Cmd y) s xs = xs
beside_in (t.Part y) s xs = xs

-- WHAT STANDS BEHIND THE HEAD then: the reset and the search as the step leaves them
abbrev pub beside_of : WorkStep → Behind → Behind
beside_of s b = behind s.work.reset s.work.find b.cap b.port1 b.port2 b.slots

-- as an answer to this task leaves it, of these bytes
abbrev pub stepped_in : Task → Answer → (resource : List ℕ) → List ℕ → Behind
stepped_in k a bs xs = beside_of (work_step_of (work_in k xs) a bs) (behind_in xs)
