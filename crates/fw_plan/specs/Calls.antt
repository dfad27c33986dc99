-- An answer: what it leaves of the session, the mailboxes and the undo list, and when it is refused.
use Rattle.std.specs.Prelude.{ℕ, Bool, true, false, ◌&&◌, List, eqb, leb, length, Result, Ok, Err}
use Rattle.fields.specs.Outcome.{pick}
use Rattle.dma.specs.PageList.{listed_of, filled_at}
use Rattle.dma.specs.declared.Cutter.{Cutter}
use Rattle.init.specs.declared.InitHca.{InitHca}
use Rattle.init.specs.Init.{filled_by, fields_of, init_of, mod_stat_cfg}
use Rattle.pci.specs.Views.{granted_of, mapped_of}
use Rattle.pci.specs.Suits.{suits_of}
use Rattle.pci.specs.declared.Question.{Question}
use Rattle.pci.specs.declared.Question.TheVariants as q
use Rattle.pci.specs.declared.Answer.{Answer}
use Rattle.pci.specs.declared.NoReply.{NoReply}
use Rattle.pci.specs.declared.Refusal.{Refusal}
use Rattle.pci.specs.declared.Refusal.TheVariants as x
use Rattle.work.specs.Work.{work_asks, work_step_of}
use Rattle.work.specs.declared.End.{End}
use Rattle.work.specs.declared.Ending.{Ending}
use Rattle.work.specs.declared.Ending.TheVariants as e
use Rattle.work.specs.declared.Work.{Work}
use Rattle.session.specs.Session.{session, bookkeeps, planned, slot_at, bare, mapped_at, unmapped_from, puts, taken_off, INBOX, OUTBOX}
use Rattle.session.specs.Course.{blank, Place, neither, inbox, outbox, slot}
use Rattle.session.specs.declared.Books.{Books}
use Rattle.session.specs.declared.Top.{Top}
use Rattle.session.specs.declared.Info.{Info}
use Rattle.session.specs.declared.Stage.{Stage}
use Rattle.session.specs.declared.Stage.TheVariants as g
use Rattle.session.specs.declared.Prepare.{Prepare}
use Rattle.session.specs.declared.Prepare.TheVariants as p
use Rattle.session.specs.declared.Failure.{Failure}
use Rattle.session.specs.declared.Failure.TheVariants as f
use Rattle.session.specs.declared.Fill.{Fill}
use Rattle.session.specs.declared.Fill.TheVariants as w
use Rattle.session.specs.declared.Session.{Session}
use Rattle.session.specs.declared.Planned.{Planned}
use Rattle.closing_plan.specs.Plan.{close_plan}
use Rattle.closing_plan.specs.Plan as kl
use Rattle.client_plan.specs.Plan.{client_plan}
use Rattle.client_plan.specs.Plan as kc
use Rattle.opening_plan.specs.Values.{layout_in}
use Rattle.opening_plan.specs.Plan.{boot_plan, prepare_plan, lists, box_of, place_boot}
use Rattle.session.specs.declared.Closing.{Closing}
use Rattle.fw_plan.specs.declared.Outcome.{Outcome}
use Rattle.fw_plan.specs.declared.Outcome.TheVariants as u
use Rattle.fw_plan.specs.declared.Turn.{Turn}
use Rattle.fw_plan.specs.declared.Wipe.{Wipe}
use Rattle.fw_plan.specs.declared.Wipe.TheVariants as v

-- THE QUESTION that is open
abbrev pub asks_of : Session → Question
asks_of s = work_asks s.work

-- WHAT IS WRITTEN before the next question: the session, and both mailboxes
abbrev pub init_in : Info → InitHca
init_in n = init_of n.cap (layout_in n).rows

abbrev pub init_box : Session → List ℕ → List ℕ
init_box s i = filled_by i (fields_of (init_in s.info))

abbrev pub stat_box : List ℕ → List ℕ
stat_box i = filled_by i mod_stat_cfg

abbrev pub out_box : List ℕ → List ℕ
out_box o = blank o

abbrev pub list_in : Cutter → List ℕ → List ℕ
list_in c i = filled_at 63 256 c i

-- where the inbox has not 4,096 bytes, no list is written; 21 came before
abbrev pub filled_list : Cutter → Session → List ℕ → Session
filled_list c s i = pick (eqb (length i) 4096) (lists s (listed_of 63 256 c)) s

abbrev pub filled : Fill → Session → List ℕ → Session
filled w.Nothing s i = s
filled w.Outbox s i = s
filled (w.List c) s i = filled_list c s i
filled w.ModStat s i = s
filled w.InitHca s i = s

abbrev pub filled_in : Fill → Session → List ℕ → List ℕ
filled_in w.Nothing s i = i
filled_in w.Outbox s i = i
filled_in (w.List c) s i = list_in c i
filled_in w.ModStat s i = stat_box i
filled_in w.InitHca s i = init_box s i

abbrev pub filled_out : Fill → List ℕ → List ℕ
filled_out w.Nothing o = o
filled_out w.Outbox o = out_box o
filled_out (w.List c) o = o
filled_out w.ModStat o = o
filled_out w.InitHca o = o

-- WHAT FOLLOWS when a task has ended, by what it was for
abbrev pub stays_plan : Session → ℕ → Planned
stays_plan s u = planned s w.Nothing u

abbrev pub plan_at : Session → End → List ℕ → Top → Stage → Planned
plan_at s y out top g.Fresh = stays_plan s top.count
plan_at s y out top (g.Open z) = stays_plan s top.count
plan_at s y out top g.Ended = stays_plan s top.count
plan_at s y out top (g.Prepare z) = prepare_plan s z y top
plan_at s y out top (g.Boot z) = boot_plan s z y out top
plan_at s y out top (g.Client z) = client_plan s z y top
plan_at s y out top (g.Close z) = close_plan s z y top

abbrev pub plan_of : Session → End → List ℕ → Top → Planned
plan_of s y out top = plan_at s y out top s.stage

-- A MAILBOX IS ZEROED "when their buffers are allocated": in the step that takes the good answer to the allocation
abbrev pub wipe_prepare : Prepare → Wipe
wipe_prepare p.Inbox = v.Inbox
wipe_prepare p.Outbox = v.Outbox
wipe_prepare _ = v.Neither

abbrev pub wipe_by : Stage → Wipe
wipe_by (g.Prepare z) = wipe_prepare z
wipe_by _ = v.Neither

abbrev pub is_allocate : Question → Bool
is_allocate (q.Allocate n) = true
is_allocate _ = false

abbrev pub is_granted : Result ℕ NoReply → Bool
is_granted (Ok y) = true
is_granted (Err _) = false

abbrev pub wipe_of : Session → Answer → Wipe
wipe_of s a = pick (is_allocate (asks_of s)) (pick (is_granted (granted_of a)) (wipe_by s.stage) v.Neither) v.Neither

abbrev pub wiped_in : Wipe → List ℕ → List ℕ
wiped_in v.Neither i = i
wiped_in v.Inbox i = blank i
wiped_in v.Outbox i = i

abbrev pub wiped_out : Wipe → List ℕ → List ℕ
wiped_out v.Neither o = o
wiped_out v.Inbox o = o
wiped_out v.Outbox o = blank o

-- THE SLOT that the task under way is for, by the stage alone: no step puts down or takes off anything in another
abbrev pub place_at : Stage → Info → Place
place_at g.Fresh n = neither
place_at (g.Open z) n = neither
place_at g.Ended n = neither
place_at (g.Prepare z) n = box_of z
place_at (g.Boot z) n = place_boot z n
place_at (g.Client z) n = kc.place_in z
place_at (g.Close z) n = kl.place_in z

abbrev pub wants : Session → Place
wants s = place_at s.stage s.info

-- WHAT AN ANSWER DOES TO THE BOOKS: `booked` of the question and the reply
abbrev pub granted_books : (i virt pages : ℕ) → Result ℕ NoReply → Books → Books
granted_books i v n (Ok k) b = puts i (bare v k n) b
granted_books i v n (Err _) b = b

abbrev pub mapped_books : (i : ℕ) → Result (ℕ × ℕ) NoReply → Books → Books
mapped_books i (Ok (address, bytes)) b = puts i (mapped_at (slot_at b.lists.slots i) address) b
mapped_books i (Err _) b = b

abbrev pub answers_by : (i virt : ℕ) → Question → Answer → Books → Books
answers_by i w (q.Allocate n) a b = granted_books i w n (granted_of a) b
answers_by i w (q.Map k n) a b = mapped_books i (mapped_of a) b
answers_by i w (q.Unmap k) a b = puts i (unmapped_from (slot_at b.lists.slots i)) b
answers_by i w (q.Free k n) a b = taken_off i b
answers_by i w _ a b = b

abbrev pub booked_by : Place → Question → Answer → Books → Books
booked_by neither y a b = b
booked_by inbox y a b = answers_by INBOX 0 y a b
booked_by outbox y a b = answers_by OUTBOX 0 y a b
booked_by (slot i w) y a b = answers_by i w y a b

abbrev pub booked_of : Session → Answer → Session
booked_of s a = bookkeeps s (booked_by (wants s) (asks_of s) a s.books)

-- A TURN: good, with the question that is now open; or refused, with everything as it was
abbrev pub turn_of : Session → ℕ → Turn
turn_of s u = record { session = s; refusal = f.Nothing; question = asks_of s; undo = u }

abbrev pub refused_of : Session → Refusal → ℕ → Turn
refused_of s y u = record { session = s; refusal = f.By y; question = asks_of s; undo = u }

-- a plan begun
abbrev pub begun_of : Planned → List ℕ → Turn
begun_of y i = turn_of (filled y.fill y.session i) y.undo

abbrev pub begun_in : Planned → List ℕ → List ℕ
begun_in y i = filled_in y.fill y.session i

abbrev pub begun_out : Planned → List ℕ → List ℕ
begun_out y o = filled_out y.fill o

-- THE STEP that takes an answer of the right kind
abbrev pub with_work : Session → Work → Session
with_work s y = session s.stage y s.books s.info s.failure s.closing

abbrev pub ended_of : Session → End → List ℕ → List ℕ → Top → Turn
ended_of s y i o top = begun_of (plan_of s y o top) i

abbrev pub ended_in : Session → End → List ℕ → List ℕ → Top → List ℕ
ended_in s y i o top = begun_in (plan_of s y o top) i

abbrev pub ended_out : Session → End → List ℕ → Top → List ℕ
ended_out s y o top = begun_out (plan_of s y o top) o

abbrev pub step_turn : Session → Answer → Work → List ℕ → List ℕ → Top → Ending → Turn
step_turn s a y i o top e.Going = turn_of (with_work s y) top.count
step_turn s a y i o top (e.Ended z) = ended_of (with_work s y) z i o top

abbrev pub step_box_in : Session → Answer → Work → List ℕ → List ℕ → Top → Ending → List ℕ
step_box_in s a y i o top e.Going = wiped_in (wipe_of s a) i
step_box_in s a y i o top (e.Ended z) = ended_in (with_work s y) z i o top

abbrev pub step_box_out : Session → Answer → Work → List ℕ → Top → Ending → List ℕ
step_box_out s a y o top e.Going = wiped_out (wipe_of s a) o
step_box_out s a y o top (e.Ended z) = ended_out (with_work s y) z o top

unfoldable pub step_of : Session → Answer → (resource inbox outbox : List ℕ) → Top → Turn
step_of s a r i o top = step_turn (booked_of s a) a (work_step_of s.work a r).work i o top (work_step_of s.work a r).ending

unfoldable pub step_in : Session → Answer → (resource inbox outbox : List ℕ) → Top → List ℕ
step_in s a r i o top = step_box_in (booked_of s a) a (work_step_of s.work a r).work i o top (work_step_of s.work a r).ending

unfoldable pub step_out : Session → Answer → (resource outbox : List ℕ) → Top → List ℕ
step_out s a r o top = step_box_out (booked_of s a) a (work_step_of s.work a r).work o top (work_step_of s.work a r).ending

-- WHEN A CALL IS REFUSED. "20 answer of the wrong kind, or call at the wrong time", then "21 slice too short, or mailbox not 4,096 bytes". A struct whose counts
-- are above its arrays is no session, and no call has its time there
abbrev pub is_session : Session → Bool
is_session s = leb s.books.lists.ranges 14 && leb s.books.lists.lends 64

abbrev pub is_lent : (inbox outbox : List ℕ) → Top → Bool
is_lent i o top = eqb (length i) 4096 && (eqb (length o) 4096 && leb top.count 256)

abbrev pub answerable : Session → Answer → Bool
answerable s a = is_session s && suits_of (asks_of s) a

abbrev pub in_time : {A : Type 0} → Bool → Bool → A → A → A → A
in_time time room good short wrong = pick time (pick room good short) wrong

-- ANSWER
abbrev pub answer_of : Session → Answer → (resource inbox outbox : List ℕ) → Top → Turn
answer_of s a r i o top =
    in_time (answerable s a) (is_lent i o top) (step_of s a r i o top) (refused_of s x.Short top.count) (refused_of s x.Wrong top.count)

abbrev pub answer_in : Session → Answer → (resource inbox outbox : List ℕ) → Top → List ℕ
answer_in s a r i o top = in_time (answerable s a) (is_lent i o top) (step_in s a r i o top) i i

abbrev pub answer_out : Session → Answer → (resource inbox outbox : List ℕ) → Top → List ℕ
answer_out s a r i o top = in_time (answerable s a) (is_lent i o top) (step_out s a r o top) o o

-- THE OUTCOME: "An opening fails by the first other failure, returned after closing has run, with closing's result beside it"
abbrev pub ended_as : Failure → Closing → Outcome
ended_as f.Nothing c = u.Closed c
ended_as (f.By y) c = u.Failed y c

abbrev pub outcome_at : Failure → Closing → Stage → Outcome
outcome_at y c g.Fresh = u.Fresh
outcome_at y c (g.Open z) = u.Opened z
outcome_at y c g.Ended = ended_as y c
outcome_at y c (g.Prepare z) = u.Running
outcome_at y c (g.Boot z) = u.Running
outcome_at y c (g.Client z) = u.Running
outcome_at y c (g.Close z) = u.Running

abbrev pub outcome_of : Session → Outcome
outcome_of s = outcome_at s.failure s.closing s.stage
