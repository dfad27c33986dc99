-- A CALL BEGINS with the whole course before it.
use Prim.Native.Nat.{ℕ, suc}
use mathlib.Core.Bool.{Bool, true, false}
use mathlib.Core.List.{List, [], ◌∷◌}
use mathlib.Core.Path.{◌≡◌, refl, ap, ◌∙◌}
use lib.ListN.{length, length-replicate}
use Rattle.fields.specs.Outcome.{pick}
use Rattle.command.specs.declared.CmdResult.{CmdResult}
use Rattle.session.specs.Session.{fresh, sends_of, planned}
use Rattle.session.specs.Course.{Course, Here, here, blank, sends, Rest}
use Rattle.session.specs.declared.Books.{Books}
use Rattle.session.specs.declared.Stage.TheVariants as g
use Rattle.session.specs.declared.Fill.TheVariants as w
use Rattle.session.specs.declared.Session.{Session}
use Rattle.session.specs.declared.Client.TheVariants as ku
use Rattle.session.specs.Failures.{broken_by}
use Rattle.closing_plan.proofs.Lands as lc
use Rattle.client_plan.specs.Client.{takes_input, gives_output, over, input_in, gave_by, gives, commanding, post_of}
use Rattle.client_plan.specs.Plan.{client_course, command_plan}
use Rattle.client_plan.specs.declared.Request.{Request}
use Rattle.client_plan.proofs.Lands as cl
use Rattle.opening_plan.specs.Plan.{prepare_course, boot_course}
use Rattle.opening_plan.proofs.Lands.{leads, wrote, open_lands}
use Rattle.fw_plan.specs.Follows.{course_of}
use Rattle.fw_plan.proofs.Landed.{counted, begun_leads}
use Rattle.calls_plan.specs.Calls.{ready_in, without_failure, plan_for, course_for, begun_turn, begun_inbox, begun_outbox}
use Rattle.calls_plan.specs.declared.Call.{Call}
use Rattle.calls_plan.specs.declared.Call.TheVariants as k

length_over : (y s : List ℕ) → length (over y s) ≡ length s
unfolding over
length_over [] s = refl
length_over (y ∷ ys) [] = refl
length_over (y ∷ ys) (x ∷ xs) = ap suc (length_over ys xs)

pub length_input : (b : Bool) (y i : List ℕ) → length (pick b (over y (blank i)) i) ≡ length i
length_input true y i = length_over y (blank i) ∙ length-replicate (length i) 0
length_input false y i = refl

pub length_ready : (c : Call) (y i : List ℕ) → length (ready_in c y i) ≡ length i
length_ready k.Open y i = refl
length_ready (k.Command z) y i = length_input (takes_input z.form) y i
length_ready (k.Lend bytes) y i = refl
length_ready (k.UndoTo mark r) y i = refl
length_ready k.Quiesce y i = refl
length_ready k.Close y i = refl

-- a command begins: its mailboxes are ready
module _ (s : Session) (z : Request) (y : List ℕ) (h : Here) where
  abbrev ended : CmdResult → Books → Here → Course Rest
  ended a d j = gives s.info s.failure s.closing (gave_by z.form a) (broken_by a d) j

  sent : (j : Here) → client_course (ku.Command z.form) (sends_of s (g.Client (ku.Command z.form)) (post_of s.books z)) j ≡ sends s.books (post_of s.books z) ended j
  sent j = cl.send_leads prepare_course boot_course wrote s (ku.Command z.form) (post_of s.books z) ended refl (λ a d j. refl) j

  command_leads : leads (command_plan s z h.undo.count) (here (input_in z.form y h.inbox) h.outbox h.undo) ≡ commanding s.info s.failure s.closing z y s.books h
  unfolding command_plan commanding
  command_leads = by-output (gives_output z.form)
    where
      by-output : (b : Bool) → leads (planned (sends_of s (g.Client (ku.Command z.form)) (post_of s.books z)) (pick b w.Outbox w.Nothing) h.undo.count) (here (input_in z.form y h.inbox) h.outbox h.undo)
          ≡ sends s.books (post_of s.books z) ended (here (input_in z.form y h.inbox) (pick b (blank h.outbox) h.outbox) h.undo)
      by-output true = sent (here (input_in z.form y h.inbox) (blank h.outbox) h.undo)
      by-output false = sent (here (input_in z.form y h.inbox) h.outbox h.undo)

-- where the call is ready
abbrev pub ready_at : Call → (input : List ℕ) → Here → Here
ready_at c y h = here (ready_in c y h.inbox) h.outbox h.undo

plan_leads : (c : Call) (s : Session) (y : List ℕ) (h : Here) → leads (plan_for s c h.undo) (ready_at c y h) ≡ course_for c s y h
plan_leads k.Open s y h = open_lands fresh h
plan_leads (k.Command z) s y h = command_leads s z y h
plan_leads (k.Lend bytes) s y h = cl.lend-leads prepare_course boot_course wrote s h bytes
plan_leads (k.UndoTo mark r) s y h = cl.undo_to_leads prepare_course boot_course wrote s mark h
plan_leads k.Quiesce s y h = lc.quiesce-leads prepare_course boot_course client_course wrote s h
plan_leads k.Close s y h = lc.stop-leads prepare_course boot_course client_course wrote (without_failure s) h

-- where the call stands once it has begun
abbrev pub begun_at : Call → Session → (input : List ℕ) → Here → Here
begun_at c s y h =
    here (begun_inbox s c y h.inbox h.undo) (begun_outbox s c h.outbox h.undo) (counted h.undo (begun_turn s c y h.inbox h.undo).undo)

-- THE LAW: what is left in the session that a call has begun is the call's course
pub begins : (c : Call) (s : Session) (y : List ℕ) (h : Here) → length h.inbox ≡ 4096
    → course_of (begun_turn s c y h.inbox h.undo).session (begun_at c s y h) ≡ course_for c s y h
unfolding begun_turn begun_inbox begun_outbox
begins c s y h l = begun_leads (plan_for s c h.undo) (ready_at c y h) (length_ready c y h.inbox ∙ l) ∙ plan_leads c s y h
