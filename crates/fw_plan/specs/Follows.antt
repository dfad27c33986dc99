-- What it is for a session to follow the course of a call: the statement that ties the code to document 01's order of bus calls.
use Rattle.std.specs.Prelude.{ℕ, Bool, true, false, List, ◌≡◌}
use Rattle.pci.specs.Script.{shown, reply_of}
use Rattle.pci.specs.Machine.{Right}
use Rattle.pci.specs.declared.Question.TheVariants as q
use Rattle.pci.specs.declared.Answer.{Answer}
use Rattle.session.specs.Course.{Course, ret, ask, Here, here, Lent, left, Rest, rest_of}
use Rattle.session.specs.declared.Stage.{Stage}
use Rattle.session.specs.declared.Stage.TheVariants as g
use Rattle.session.specs.declared.Session.{Session}
use Rattle.closing_plan.specs.Plan.{close_course}
use Rattle.client_plan.specs.Plan.{client_course}
use Rattle.opening_plan.specs.Plan.{boot_course, prepare_course}
use Rattle.fw_plan.specs.Calls.{asks_of, step_of, step_in, step_out}

-- THE COURSE that is left in a session: of the call that its stage names, from the task that is under way on
abbrev pub course_at : Stage → Session → Here → Course Rest
course_at g.Fresh s h = ret (left h) (rest_of s)
course_at (g.Open y) s h = ret (left h) (rest_of s)
course_at g.Ended s h = ret (left h) (rest_of s)
course_at (g.Prepare y) s h = prepare_course y s h
course_at (g.Boot y) s h = boot_course y s h
course_at (g.Client y) s h = client_course y s h
course_at (g.Close y) s h = close_course y s h

abbrev pub course_of : Session → Here → Course Rest
course_of s h = course_at s.stage s h

-- a call is running in this stage
abbrev pub is_running : Stage → Bool
is_running g.Fresh = false
is_running (g.Open y) = false
is_running g.Ended = false
is_running (g.Prepare y) = true
is_running (g.Boot y) = true
is_running (g.Client y) = true
is_running (g.Close y) = true

-- where the session stands after a step: the mailboxes and the undo list as it left them
abbrev pub here_after : Session → Answer → (resource : List ℕ) → Here → Lent → Here
here_after s a r h l =
    here (step_in s a r h.inbox l.outbox l.undo) (step_out s a r l.outbox l.undo)
    (record { count = (step_of s a r h.inbox l.outbox l.undo).undo; op = l.undo.op; op_mod = l.undo.op_mod; in_mod = l.undo.in_mod; in_param = l.undo.in_param })

-- the session shows the course's question and has left the mailboxes and the undo list as the course says; after a reply of the right kind, with whatever outbox
-- and undo list are lent beside it, the course that is left is the course's continuation
abbrev pub Follows : Session → Here → Course Rest → Type 0
Follows s h (ret l y) = (asks_of s ≡ q.Finished) × (l ≡ left h) × (y ≡ rest_of s)
Follows s h (ask y l k) =
    (asks_of s ≡ shown y) × (l ≡ left h)
    × ((a : Answer) (resource : List ℕ) (m : Lent)
    → Right (reply_of y a resource) (λ r. course_of (step_of s a resource h.inbox m.outbox m.undo).session (here_after s a resource h m) ≡ k r m) (Unit {0}))
