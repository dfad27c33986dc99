-- AN ANSWER WAS TAKEN by the task under way: it goes on, or it has ended.
use Prim.Native.Nat.{ℕ, ◌≤◌}
use mathlib.Core.Path.{◌≡◌, refl, ap, sym, subst, ◌∙◌}
use mathlib.Core.List.{List}
use lib.ListN.{length}
use Rattle.std.specs.Prelude.{Result, Ok, Err}
use Rattle.fields.specs.Outcome.{value}
use Rattle.pci.specs.Views.{granted_of, mapped_of}
use Rattle.pci.specs.declared.Answer.{Answer}
use Rattle.pci.specs.declared.NoReply.{NoReply}
use Rattle.pci.specs.declared.Question.{Question}
use Rattle.pci.specs.declared.Question.TheVariants as q
use Rattle.words.specs.Places.{state_bytes}
use Rattle.words_session.specs.Image.{put_task, decode_of}
use Rattle.words_laws.specs.Kept.{Rewritten, Rewrites}
use Rattle.work.specs.Work.{work_step_of}
use Rattle.work.specs.declared.End.{End}
use Rattle.work.specs.declared.Ending.{Ending}
use Rattle.work.specs.declared.Ending.TheVariants as e
use Rattle.work.specs.declared.Task.{Task}
use Rattle.work.specs.declared.Work.{Work}
use Rattle.session.specs.Session.{session, books}
use Rattle.session.specs.Course.{Place, neither, inbox, outbox, slot}
use Rattle.session.specs.Core.{Behind, full, start_of}
use Rattle.session.specs.declared.Books.{Books}
use Rattle.session.specs.declared.Core.{Core}
use Rattle.session.specs.declared.Session.{Session}
use Rattle.session.specs.declared.Top.{Top}
use Rattle.behind.specs.Behind.{behind_in}
use Rattle.fw_plan.specs.Calls.{wants, asks_of, granted_books, mapped_books, answers_by, booked_by, booked_of, with_work, turn_of, ended_of, ended_in, ended_out, wipe_of, wiped_in, wiped_out, step_turn, step_box_in, step_box_out, step_of, step_in, step_out}
use Rattle.bytes_plan.specs.Left.{stepped_in, left_in, answer_left}
use Rattle.abi.specs.Kept.{Keeps, Writes, Steps}
use Rattle.fw_begin.specs.Begins.{said_of}
use Rattle.fw_begin.specs.declared.Said.{Said}
use Rattle.fw_step.specs.Step.{took_of, behind_after}
use Rattle.fw_step.specs.declared.Took.{Took}

-- WHAT AN ANSWER BOOKS changes the slots alone
abbrev slots_only : Books → Books → Books
slots_only b d = books b.wire (record { slots = d.lists.slots; ranges = b.lists.ranges; lends = b.lists.lends }) b.started b.original

granted_only : (i w n : ℕ) (y : Result ℕ NoReply) (b : Books) → granted_books i w n y b ≡ slots_only b (granted_books i w n y b)
granted_only i w n (Ok k) b = refl
granted_only i w n (Err _) b = refl

mapped_only : (i : ℕ) (y : Result (ℕ × ℕ) NoReply) (b : Books) → mapped_books i y b ≡ slots_only b (mapped_books i y b)
mapped_only i (Ok (x, n)) b = refl
mapped_only i (Err _) b = refl

answers_only : (i w : ℕ) (y : Question) (a : Answer) (b : Books) → answers_by i w y a b ≡ slots_only b (answers_by i w y a b)
answers_only i w (q.ConfigRead16 o) a b = refl
answers_only i w (q.ConfigRead32 o) a b = refl
answers_only i w (q.ConfigWrite16 o y) a b = refl
answers_only i w (q.ConfigWrite32 o y) a b = refl
answers_only i w (q.RegRead k o) a b = refl
answers_only i w (q.RegWrite k o y) a b = refl
answers_only i w (q.Attributes o y) a b = refl
answers_only i w (q.Resource k) a b = refl
answers_only i w (q.Stall u) a b = refl
answers_only i w (q.Allocate n) a b = granted_only i w n (granted_of a) b
answers_only i w (q.Map k n) a b = mapped_only i (mapped_of a) b
answers_only i w (q.Unmap k) a b = refl
answers_only i w (q.Free k n) a b = refl
answers_only i w q.Fence a b = refl
answers_only i w q.Finished a b = refl

booked_only : (p : Place) (y : Question) (a : Answer) (b : Books) → booked_by p y a b ≡ slots_only b (booked_by p y a b)
booked_only neither y a b = refl
booked_only inbox y a b = answers_only 80 0 y a b
booked_only outbox y a b = answers_only 81 0 y a b
booked_only (slot i w) y a b = answers_only i w y a b

module _ (s : Core) (a : Answer) (r i o : List ℕ) (top : Top) (xs ys : List ℕ) (k : Took) (room : state_bytes ≤ length xs) (took : k ≡ took_of (full s (behind_in xs)) a r)
    (wrote : ys ≡ stepped_in (full s (behind_in xs)) a r xs) (rewrote : Rewrites xs ys (behind_after (full s (behind_in xs)) a r (behind_in xs))) where
  abbrev x : Session
  x = full s (behind_in xs)

  abbrev after : Work
  after = (work_step_of x.work a r).work

  abbrev stepped : Session
  stepped = with_work (booked_of x a) after

  -- the session that the bytes stand for then
  booked_full : full (start_of s s.stage after.task) (behind_after x a r (behind_in xs)) ≡ stepped
  booked_full = sym (ap (λ (b : Books). session s.stage after b x.info s.failure s.closing) (booked_only (wants x) (asks_of x) a x.books))

  task_is : k.task ≡ after.task
  task_is = ap (λ (y : Took). y.task) took

  session_is : full (start_of s s.stage k.task) (behind_in ys) ≡ stepped
  session_is =
      ap (λ (y : Task). full (start_of s s.stage y) (behind_in ys)) task_is ∙ ap (full (start_of s s.stage after.task)) (rewrote room).reads ∙ booked_full

  ending_is : (z : Ending) → k.ending ≡ z → (work_step_of x.work a r).ending ≡ z
  ending_is z e = sym (ap (λ (y : Took). y.ending) took) ∙ e

  -- where the bytes held x, they hold it with what was written behind the head
  then_holds : decode_of xs ≡ value x → decode_of ys ≡ value (full s (behind_in ys))
  then_holds d = (rewrote room).holds s d ∙ ap (λ (b : Behind). value (full s b)) (sym (rewrote room).reads)

  -- IT GOES ON
  module _ (going : k.ending ≡ e.Going) where
    step-going : step_of x a r i o top ≡ turn_of stepped top.count
    unfolding step_of
    step-going = ap (step_turn (booked_of x a) a after i o top) (ending_is e.Going going)

    pub going-said : (z : Said) → z ≡ said_of (turn_of (full (start_of s s.stage k.task) (behind_in ys)) top.count) → z ≡ said_of (step_of x a r i o top)
    going-said z hz = hz ∙ ap (λ (y : Session). said_of (turn_of y top.count)) session_is ∙ ap said_of (sym step-going)

    wipe-is : k.wipe ≡ wipe_of (booked_of x a) a
    wipe-is = ap (λ (y : Took). y.wipe) took

    pub going-inbox : (zs : List ℕ) → zs ≡ wiped_in k.wipe i → zs ≡ step_in x a r i o top
    unfolding step_in
    going-inbox zs hz = hz ∙ ap (λ w. wiped_in w i) wipe-is ∙ sym (ap (step_box_in (booked_of x a) a after i o top) (ending_is e.Going going))

    pub going-outbox : (zs : List ℕ) → zs ≡ wiped_out k.wipe o → zs ≡ step_out x a r o top
    unfolding step_out
    going-outbox zs hz = hz ∙ ap (λ w. wiped_out w o) wipe-is ∙ sym (ap (step_box_out (booked_of x a) a after o top) (ending_is e.Going going))

    pub going-left : (zs : List ℕ) → zs ≡ put_task k.task ys → zs ≡ answer_left x a r o (step_of x a r i o top).session xs
    going-left zs hz =
        hz ∙ ap (λ (y : Task). put_task y ys) task_is ∙ ap (put_task after.task) wrote
        ∙ ap (λ (y : Session). put_task y.work.task (stepped_in x a r xs)) (sym (ap (λ t. t.session) step-going))
        ∙ sym (ap (λ (y : Ending). left_in x (step_of x a r i o top).session o y (stepped_in x a r xs)) (ending_is e.Going going))

    pub going_steps : (zs : List ℕ) → Keeps ys zs (full s (behind_in ys)) (full (start_of s s.stage k.task) (behind_in ys)) → Steps xs zs x (step_of x a r i o top).session
    unfolding Keeps Steps
    going_steps zs h n d = h (then_holds d) ∙ ap value (session_is ∙ sym (ap (λ t. t.session) step-going))

  -- IT HAS ENDED
  module _ (y : End) (v : Core) (ended : k.ending ≡ e.Ended y) (starts : v ≡ start_of s s.stage k.task) where
    step-ended : step_of x a r i o top ≡ ended_of stepped y i o top
    unfolding step_of
    step-ended = ap (step_turn (booked_of x a) a after i o top) (ending_is (e.Ended y) ended)

    abbrev now_of : Core → Session
    now_of c = full c (behind_in ys)

    abbrev now-is : Session
    now-is = now_of (start_of s s.stage k.task)

    turn_is : ended_of now-is y i o top ≡ step_of x a r i o top
    turn_is = ap (λ (z : Session). ended_of z y i o top) session_is ∙ sym step-ended

    pub ended-said : (z : Said) → z ≡ said_of (ended_of (now_of v) y i o top) → z ≡ said_of (step_of x a r i o top)
    ended-said z hz = hz ∙ ap (λ (c : Core). said_of (ended_of (now_of c) y i o top)) starts ∙ ap said_of turn_is

    pub ended-inbox : (zs : List ℕ) → zs ≡ ended_in (now_of v) y i o top → zs ≡ step_in x a r i o top
    unfolding step_in
    ended-inbox zs hz = hz ∙ ap (λ (c : Core). ended_in (now_of c) y i o top) starts ∙ ap (λ (z : Session). ended_in z y i o top) session_is ∙ sym (ap (step_box_in (booked_of x a) a after i o top) (ending_is (e.Ended y) ended))

    pub ended-outbox : (zs : List ℕ) → zs ≡ ended_out (now_of v) y o top → zs ≡ step_out x a r o top
    unfolding step_out
    ended-outbox zs hz = hz ∙ ap (λ (c : Core). ended_out (now_of c) y o top) starts ∙ ap (λ (z : Session). ended_out z y o top) session_is ∙ sym (ap (step_box_out (booked_of x a) a after o top) (ending_is (e.Ended y) ended))

    pub ended-left : (zs : List ℕ) → zs ≡ left_in (now_of v) (ended_of (now_of v) y i o top).session o (e.Ended y) ys → zs ≡ answer_left x a r o (step_of x a r i o top).session xs
    ended-left zs hz =
        hz ∙ ap (λ (c : Core). left_in (now_of c) (ended_of (now_of c) y i o top).session o (e.Ended y) ys) starts ∙ ap (λ t. left_in x t.session o (e.Ended y) ys) turn_is ∙ ap (left_in x (step_of x a r i o top).session o (e.Ended y)) wrote
        ∙ sym (ap (λ (z : Ending). left_in x (step_of x a r i o top).session o z (stepped_in x a r xs)) (ending_is (e.Ended y) ended))

    pub ended-steps : (zs : List ℕ) → Writes ys zs (ended_of (now_of v) y i o top).session → Steps xs zs x (step_of x a r i o top).session
    unfolding Keeps Steps Writes
    ended-steps zs h n d =
        subst (λ t. Writes ys zs t.session) turn_is (subst (λ (c : Core). Writes ys zs (ended_of (now_of c) y i o top).session) starts h) s n (then_holds d)
