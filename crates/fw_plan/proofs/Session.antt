-- THE SESSION FOLLOWS THE COURSE of its call: the task under way follows its script, and where it ends the plan leads where the course goes on.
use Prim.Native.Nat.{ℕ, ◌/◌}
use mathlib.Core.Bool.{Bool, true, false}
use mathlib.Core.List.{List}
use mathlib.Core.Option.{Option, some, none}
use mathlib.Core.Path.{◌≡◌, refl, ap, sym, subst, ◌∙◌}
use lib.Dec.{ltb}
use lib.ListN.{length}
use Rattle.std.specs.Prelude.{Result, Ok, Err}
use Rattle.fields.specs.Outcome.{pick}
use Rattle.pci.specs.Script.{Script, ◌>>=◌, Ask, Reply, shown, reply_of, as_bus, as_spot, config_read16, config_read32, config_write16, config_write32, read, write, attributes, resource, stall, allocate, mapped, unmap, free, fence}
use Rattle.pci.specs.Script as sc
use Rattle.pci.specs.Views.{granted_of, mapped_of}
use Rattle.pci.specs.Machine.{Right, rest}
use Rattle.pci.specs.Machine as pm
use Rattle.pci.proofs.Within.{right_map}
use Rattle.pci.specs.declared.Question.{Question}
use Rattle.pci.specs.declared.Question.TheVariants as q
use Rattle.pci.specs.declared.NoReply.{NoReply}
use Rattle.pci.specs.declared.NoReply.TheVariants.{Failed, Wrong}
use Rattle.pci.specs.declared.Answer.{Answer}
use Rattle.pci.specs.declared.Answer.TheVariants as an
use Rattle.hcr.specs.declared.Post.{Post}
use Rattle.command.specs.Machine.{cmd_asks}
use Rattle.command.specs.declared.Catas.{Catas}
use Rattle.command.specs.declared.Phase.{Phase}
use Rattle.command.specs.declared.Phase.TheVariants as ph
use Rattle.reset.specs.Steps as rs
use Rattle.reset.specs.declared.Reset.{Reset}
use Rattle.reset.specs.declared.Phase.{Phase as ResetPhase}
use Rattle.reset.specs.declared.Phase.TheVariants as rp
use Rattle.buffer.specs.Buffer.{on_allocate}
use Rattle.buffer.specs.Steps.{free_asks_at}
use Rattle.buffer.specs.declared.Fault.TheVariants as ft
use Rattle.buffer.specs.declared.Made.TheVariants as md
use Rattle.buffer.specs.declared.MakePhase.{MakePhase}
use Rattle.buffer.specs.declared.MakePhase.TheVariants as mp
use Rattle.buffer.specs.declared.FreePhase.{FreePhase}
use Rattle.buffer.specs.declared.FreePhase.TheVariants as fp
use Rattle.tasks.specs.Attributes.{attr_asks}
use Rattle.tasks.specs.declared.Attr.{Attr}
use Rattle.tasks.specs.declared.Attr.TheVariants as ta
use Rattle.tasks.specs.Claim.{claim_asks}
use Rattle.tasks.specs.declared.Claim.{Claim}
use Rattle.tasks.specs.declared.Claim.TheVariants as tc
use Rattle.tasks.specs.Parting.{part_asks}
use Rattle.tasks.specs.declared.Parting.{Parting}
use Rattle.tasks.specs.declared.Parting.TheVariants as tp
use Rattle.uar.specs.Steps as us
use Rattle.uar.specs.declared.FindBar.{FindBar}
use Rattle.uar.specs.declared.BarPhase.{BarPhase}
use Rattle.uar.specs.declared.BarPhase.TheVariants as up
use Rattle.work.specs.declared.Task.{Task}
use Rattle.work.specs.declared.Task.TheVariants as t
use Rattle.work.specs.declared.End.TheVariants as en
use Rattle.work.specs.Work.{work_asks, work_step, work_step_of, work_script, is_resting}
use Rattle.work.specs.Work as wk
use Rattle.work.proofs.Follows.{work_follows}
use Rattle.work.specs.declared.Work.{Work}
use Rattle.work.specs.declared.End.{End}
use Rattle.work.specs.declared.Ending.{Ending}
use Rattle.work.specs.declared.Ending.TheVariants as e
use Rattle.session.specs.Course.{Course, Here, here, Lent, lent, Place, neither, inbox, outbox, slot, touched, zeroed, books_by, booked, run, Rest}
use Rattle.session.specs.Session.{bookkeeps, puts, bare, INBOX, OUTBOX}
use Rattle.session.specs.declared.Books.{Books}
use Rattle.session.specs.declared.Info.{Info}
use Rattle.session.specs.declared.Failure.{Failure}
use Rattle.session.specs.declared.Closing.{Closing}
use Rattle.session.specs.declared.Stage.{Stage}
use Rattle.session.specs.declared.Stage.TheVariants as g
use Rattle.session.specs.declared.Area.TheVariants as ar
use Rattle.session.specs.declared.Close.{Close}
use Rattle.session.specs.declared.Close.TheVariants as co
use Rattle.session.specs.declared.Boot.{Boot}
use Rattle.session.specs.declared.Boot.TheVariants as bo
use Rattle.session.specs.declared.Prepare.{Prepare}
use Rattle.session.specs.declared.Prepare.TheVariants as p
use Rattle.session.specs.declared.Session.{Session}
use Rattle.closing_plan.specs.Plan.{close_course, after_close}
use Rattle.closing_plan.specs.Plan as kl
use Rattle.client_plan.specs.Plan.{client_course, after_client}
use Rattle.client_plan.specs.Plan as kp
use Rattle.session.specs.declared.Client.{Client}
use Rattle.session.specs.declared.Client.TheVariants as cu
use Rattle.opening_plan.specs.Plan.{boot_course, prepare_course, after_boot, after_prepare, box_of, place_boot}
use Rattle.opening_plan.proofs.Lands.{leads}
use Rattle.fw_plan.specs.Calls.{asks_of, step_of, step_in, step_out, step_turn, step_box_in, step_box_out, with_work, wipe_of, wipe_by, wipe_prepare, is_allocate, is_granted, plan_of, begun_of, begun_in, begun_out, wants, booked_by, answers_by, granted_books, mapped_books}
use Rattle.fw_plan.specs.declared.Wipe.{Wipe}
use Rattle.fw_plan.specs.declared.Wipe.TheVariants as v
use Rattle.fw_plan.specs.Follows.{course_of, course_at, is_running, here_after, Follows}
use Rattle.fw_plan.proofs.Landed.{begun_leads, counted, at, boot_course_lem, client_course_lem, close_course_lem, prepare_course_lem, boot_plan_lem, client_plan_lem, close_plan_lem, prepare_plan_lem, NoBox, touched_none}

abbrev Holds : Bool → Type 0
Holds true = Unit {0}
Holds false = ⊥

-- Between two calls nothing is asked, and nothing changes.
by_rest : (st : Stage) (s : Session) (h : Here) → is_running st ≡ false → asks_of s ≡ q.Finished → Follows s h (course_at st s h)
by_rest g.Fresh s h r a = (a, refl, refl)
by_rest (g.Open y) s h r a = (a, refl, refl)
by_rest g.Ended s h r a = (a, refl, refl)
by_rest (g.Prepare y) s h r a = absurd (subst Holds r tt)
by_rest (g.Boot y) s h r a = absurd (subst Holds r tt)
by_rest (g.Client y) s h r a = absurd (subst Holds r tt)
by_rest (g.Close y) s h r a = absurd (subst Holds r tt)

pub rests : (s : Session) (h : Here) → is_running s.stage ≡ false → asks_of s ≡ q.Finished → Follows s h (course_of s h)
rests s h r a = by_rest s.stage s h r a

-- WHAT AN ANSWER DOES TO THE BOOKS is what its reply does
right_both : {A : Type 0} (x : Option A) (f g : A → Type 0) (y z : Type 0) → Right x f y → Right x g z → Right x (λ a. f a × g a) (y × z)
right_both none f g y z p q = (p, q)
right_both (some a) f g y z p q = (p, q)

right_any : {A : Type 0} (x : Option A) (f : A → Type 0) → ((a : A) → f a) → Right x f (Unit {0})
right_any none f h = tt
right_any (some a) f h = h a

granted_right : (i w n : ℕ) (r : Result ℕ NoReply) (b : Books) → Right (as_bus r) (λ z. granted_books i w n r b ≡ books_by i w (allocate n) z b) (Unit {0})
granted_right i w n (Ok k) b = refl
granted_right i w n (Err Failed) b = refl
granted_right i w n (Err Wrong) b = tt

mapped_right : (i w k n : ℕ) (r : Result (ℕ × ℕ) NoReply) (b : Books) → Right (as_spot r) (λ z. mapped_books i r b ≡ books_by i w (mapped k n) z b) (Unit {0})
mapped_right i w k n (Ok (x, y)) b = refl
mapped_right i w k n (Err Failed) b = refl
mapped_right i w k n (Err Wrong) b = tt

answers_right : (i w : ℕ) (y : Ask) (a : Answer) (res : List ℕ) (b : Books) → Right (reply_of y a res) (λ r. answers_by i w (shown y) a b ≡ books_by i w y r b) (Unit {0})
answers_right i w (config_read16 o) a res b = right_any (reply_of (config_read16 o) a res) _ (λ r. refl)
answers_right i w (config_read32 o) a res b = right_any (reply_of (config_read32 o) a res) _ (λ r. refl)
answers_right i w (config_write16 o v) a res b = right_any (reply_of (config_write16 o v) a res) _ (λ r. refl)
answers_right i w (config_write32 o v) a res b = right_any (reply_of (config_write32 o v) a res) _ (λ r. refl)
answers_right i w (read k o) a res b = right_any (reply_of (read k o) a res) _ (λ r. refl)
answers_right i w (write k o v) a res b = right_any (reply_of (write k o v) a res) _ (λ r. refl)
answers_right i w (attributes o v) a res b = right_any (reply_of (attributes o v) a res) _ (λ r. refl)
answers_right i w (resource k) a res b = right_any (reply_of (resource k) a res) _ (λ r. refl)
answers_right i w (stall u) a res b = right_any (reply_of (stall u) a res) _ (λ r. refl)
answers_right i w (allocate n) a res b = granted_right i w n (granted_of a) b
answers_right i w (mapped k n) a res b = mapped_right i w k n (mapped_of a) b
answers_right i w (unmap k) a res b = right_any (reply_of (unmap k) a res) _ (λ r. refl)
answers_right i w (free k n) a res b = right_any (reply_of (free k n) a res) _ (λ r. refl)
answers_right i w (fence j) a res b = right_any (reply_of (fence j) a res) _ (λ r. refl)

pub booked_right : (p : Place) (y : Ask) (a : Answer) (res : List ℕ) (b : Books) → Right (reply_of y a res) (λ r. booked_by p (shown y) a b ≡ booked p y r b) (Unit {0})
booked_right neither y a res b = right_any (reply_of y a res) _ (λ r. refl)
booked_right inbox y a res b = answers_right INBOX 0 y a res b
booked_right outbox y a res b = answers_right OUTBOX 0 y a res b
booked_right (slot i w) y a res b = answers_right i w y a res b

-- A task that zeroes no mailbox. `K` is what follows the task
module _ (s : Session) (p : Place) (mine : wants s ≡ p) (K : End → Books → Here → Course Rest) (same : (u : Work) (d : Books) (h : Here) → course_of (with_work (bookkeeps s d) u) h ≡ run p (work_script h.inbox u) K d h) (lands : (u : Work) (d : Books) (y : End) (h : Here) → leads (plan_of (with_work (bookkeeps s d) u) y h.outbox h.undo) h ≡ K y d h) (quiet : (a : Answer) → wipe_of s a ≡ v.Neither) (still : (y : Ask) → asks_of s ≡ shown y → (r : Reply y) (h : Here) → touched p y r h ≡ h) where
  module _ (h : Here) (l : length h.inbox ≡ 4096) where
    -- after an answer: the task goes on, or the plan has begun the next
    by_ending : (a : Answer) (m : Lent) (u : Work) (d : Books) (n : Ending) (t : Script End) → rest work_asks work_step (work_script h.inbox) (wk.leads u n) ≡ t
        → course_of (step_turn (bookkeeps s d) a u h.inbox m.outbox m.undo n).session
        (here (step_box_in (bookkeeps s d) a u h.inbox m.outbox m.undo n) (step_box_out (bookkeeps s d) a u m.outbox m.undo n) (counted m.undo (step_turn (bookkeeps s d) a u h.inbox m.outbox m.undo n).undo))
        ≡ run p t K d (lent h m)
    by_ending a m u d e.Going t x = rw (quiet a) (same u d (lent h m) ∙ ap (λ (x : Script End). run p x K d (lent h m)) x)
    by_ending a m u d (e.Ended y) t x = begun_leads (plan_of (with_work (bookkeeps s d) u) y m.outbox m.undo) (lent h m) l ∙ (lands u d y (lent h m) ∙ ap (λ (x : Script End). run p x K d (lent h m)) x)

    landed : (a : Answer) (res : List ℕ) (m : Lent) (t : Script End) → rest work_asks work_step (work_script h.inbox) (work_step s.work a res) ≡ t
        → course_of (step_of s a res h.inbox m.outbox m.undo).session (here_after s a res h m) ≡ run p t K (booked_by (wants s) (asks_of s) a s.books) (lent h m)
    unfolding step_of step_in step_out
    landed a res m t x = by_ending a m (work_step_of s.work a res).work (booked_by (wants s) (asks_of s) a s.books) (work_step_of s.work a res).ending t x

    by-script : (t : Script End) → pm.Follows work_asks work_step (work_script h.inbox) s.work t → Follows s h (run p t K s.books h)
    by-script (sc.ret y) f = absurd f
    by-script (sc.ask y k) f = (
      f.0,
      refl,
      λ a res m. right_map (reply_of y a res) _ _ _ _
          (λ r x. landed a res m (k r) x.0
          ∙ ap (λ (d : Books). run p (k r) K d (lent h m)) (ap (λ (z : Place). booked_by z (asks_of s) a s.books) mine ∙ ap (λ (z : Question). booked_by p z a s.books) f.0 ∙ x.1)
          ∙ sym (ap (λ (j : Here). run p (k r) K (booked p y r s.books) j) (still y f.0 r (lent h m))))
          (λ x. tt) (right_both (reply_of y a res) _ _ _ _ (f.1 a res) (booked_right p y a res s.books)),
    )

    pub task-follows : is_resting s.work.task ≡ false → Follows s h (run p (work_script h.inbox s.work) K s.books h)
    task-follows busy = by-script (work_script h.inbox s.work) (work_follows h.inbox s.work busy)

pick_same : {A : Type 0} (b : Bool) (x : A) → pick b x x ≡ x
pick_same true x = refl
pick_same false x = refl

neither_quiet : (s : Session) (a : Answer) → wipe_by s.stage ≡ v.Neither → wipe_of s a ≡ v.Neither
neither_quiet s a d = rw d (ap (λ (x : Wipe). pick (is_allocate (asks_of s)) x v.Neither) (pick_same (is_granted (granted_of a)) v.Neither) ∙ pick_same (is_allocate (asks_of s)) v.Neither)

-- only where pages are asked for is a mailbox zeroed
touched_not : (b : Place) (y : Ask) → is_allocate (shown y) ≡ false → (r : Reply y) (h : Here) → touched b y r h ≡ h
touched_not b (config_read16 o) d r h = refl
touched_not b (config_read32 o) d r h = refl
touched_not b (config_write16 o x) d r h = refl
touched_not b (config_write32 o x) d r h = refl
touched_not b (read k o) d r h = refl
touched_not b (write k o x) d r h = refl
touched_not b (attributes o x) d r h = refl
touched_not b (resource k) d r h = refl
touched_not b (stall x) d r h = refl
touched_not b (allocate n) d r h = absurd (subst Holds d tt)
touched_not b (mapped k n) d r h = refl
touched_not b (unmap k) d r h = refl
touched_not b (free k n) d r h = refl
touched_not b (fence i) d r h = refl

-- a stage whose buffers are for neither mailbox
boot_none : (st : Boot) (n : Info) → NoBox (place_boot st n)
boot_none bo.QueryFw n = tt
boot_none (bo.Make ar.Fa) n = tt
boot_none (bo.Make ar.Aux) n = tt
boot_none (bo.Make (ar.Range i)) n = tt
boot_none (bo.Map a z) n = tt
boot_none bo.RunFw n = tt
boot_none bo.ModStat n = tt
boot_none bo.DevCap n = tt
boot_none (bo.Port i) n = tt
boot_none bo.IcmSize n = tt
boot_none bo.InitHca n = tt
boot_none bo.Func n = tt
boot_none bo.Adapter n = tt

close_none : (st : Close) → NoBox (kl.place_in st)
close_none (co.Undo m) = tt
close_none co.CloseHca = tt
close_none (co.Unmap i) = tt
close_none co.UnmapAux = tt
close_none co.UnmapFa = tt
close_none co.Quiesce = tt
close_none co.Reset = tt
close_none (co.Free i) = tt
close_none co.Release = tt
close_none co.Restore = tt

lend_none : (t : Bool) (i : ℕ) → NoBox (pick t (slot i 0) neither)
lend_none true i = tt
lend_none false i = tt

client_none : (st : Client) → NoBox (kp.place_in st)
client_none (cu.Command y) = tt
client_none (cu.Lend i) = lend_none (ltb i 64) i
client_none (cu.UndoTo m k) = tt

module _ (b : Books) (n : Info) (f : Failure) (c : Closing) (u : Work) (h : Here) (l : length h.inbox ≡ 4096) (busy : is_resting u.task ≡ false) where
  boot_follows : (st : Boot) → Follows (at n f c (g.Boot st) u b) h (course_of (at n f c (g.Boot st) u b) h)
  unfolding boot_course
  boot_follows st =
      task-follows (at n f c (g.Boot st) u b) (place_boot st n) refl (λ y d j. after_boot st (at n f c (g.Boot st) u d) y j) (λ x d j. boot_course_lem n f c st x u d j) (λ x d y j. boot_plan_lem n f c st x u d y j)
      (λ a. neither_quiet (at n f c (g.Boot st) u b) a refl) (λ y d r j. touched_none (place_boot st n) (boot_none st n) y r j) h l busy

  close_follows : (st : Close) → Follows (at n f c (g.Close st) u b) h (course_of (at n f c (g.Close st) u b) h)
  unfolding close_course
  close_follows st =
      task-follows (at n f c (g.Close st) u b) (kl.place_in st) refl (λ y d j. after_close st (at n f c (g.Close st) u d) y j) (λ x d j. close_course_lem n f c st x u d j) (λ x d y j. close_plan_lem n f c st x u d y j)
      (λ a. neither_quiet (at n f c (g.Close st) u b) a refl) (λ y d r j. touched_none (kl.place_in st) (close_none st) y r j) h l busy

  client_follows : (st : Client) → Follows (at n f c (g.Client st) u b) h (course_of (at n f c (g.Client st) u b) h)
  unfolding client_course
  client_follows st =
      task-follows (at n f c (g.Client st) u b) (kp.place_in st) refl (λ y d j. after_client st (at n f c (g.Client st) u d) y j) (λ x d j. client_course_lem n f c st x u d j) (λ x d y j. client_plan_lem n f c st x u d y j)
      (λ a. neither_quiet (at n f c (g.Client st) u b) a refl) (λ y d r j. touched_none (kp.place_in st) (client_none st) y r j) h l busy

  prepare_neither : (st : Prepare) → wipe_prepare st ≡ v.Neither → box_of st ≡ neither → Follows (at n f c (g.Prepare st) u b) h (course_of (at n f c (g.Prepare st) u b) h)
  unfolding prepare_course
  prepare_neither st d x =
      task-follows (at n f c (g.Prepare st) u b) (box_of st) refl (λ y d j. after_prepare st (at n f c (g.Prepare st) u d) y j) (λ y d j. prepare_course_lem n f c st y u d j) (λ y d z j. prepare_plan_lem n f c st y u d z j)
      (λ a. neither_quiet (at n f c (g.Prepare st) u b) a d) (λ y e r j. touched_none (box_of st) (subst NoBox (sym x) tt) y r j) h l busy

  -- no pages are asked for
  prepare_still : (st : Prepare) → is_allocate (work_asks u) ≡ false → Follows (at n f c (g.Prepare st) u b) h (course_of (at n f c (g.Prepare st) u b) h)
  unfolding prepare_course
  prepare_still st d =
      task-follows (at n f c (g.Prepare st) u b) (box_of st) refl (λ y d j. after_prepare st (at n f c (g.Prepare st) u d) y j) (λ y d j. prepare_course_lem n f c st y u d j) (λ y d z j. prepare_plan_lem n f c st y u d z j)
      (λ a. rw d refl) (λ y e r j. touched_not (box_of st) y (ap is_allocate (sym e) ∙ d) r j) h l busy

-- ONLY A BUFFER'S MAKING ASKS FOR PAGES, with its first question
cmd_not : (f : Phase) (x : Post) (g : Bool) (n : ℕ) (k : Catas) → is_allocate (cmd_asks (record { phase = f; post = x; toggle = g; stalls = n; catas = k })) ≡ false
unfolding cmd_asks
cmd_not ph.First x g n k = refl
cmd_not (ph.Writing i) x g n k = refl
cmd_not ph.Fence x g n k = refl
cmd_not ph.Go x g n k = refl
cmd_not ph.Poll x g n k = refl
cmd_not ph.Wait x g n k = refl
cmd_not ph.Fenced x g n k = refl
cmd_not ph.Status x g n k = refl
cmd_not ph.High x g n k = refl
cmd_not (ph.Low i) x g n k = refl
cmd_not ph.Catas x g n k = refl

attr_not : (k : Attr) → is_allocate (attr_asks k) ≡ false
attr_not ta.Get = refl
attr_not (ta.Supported x) = refl
attr_not (ta.Enable x y) = refl

claim_not : (k : Claim) → is_allocate (claim_asks k) ≡ false
claim_not tc.Command = refl
claim_not (tc.Write x) = refl
claim_not tc.Owner = refl

part_not : (k : Parting) → is_allocate (part_asks k) ≡ false
part_not tp.Disown = refl
part_not tp.Settle = refl
part_not (tp.Restore x) = refl
part_not tp.Owner = refl
part_not tp.Command = refl
part_not (tp.Write x) = refl

reset_not : (ds : List ℕ) (k : ResetPhase) → is_allocate (rs.asks_at ds k) ≡ false
reset_not ds (rp.Saving n) = refl
reset_not ds rp.Pointer = refl
reset_not ds (rp.Header n x) = refl
reset_not ds (rp.Device x) = refl
reset_not ds (rp.Link x y) = refl
reset_not ds (rp.Semaphore n) = refl
reset_not ds (rp.Hold n) = refl
reset_not ds rp.Writing = refl
reset_not ds rp.Settle = refl
reset_not ds (rp.Vendor n) = refl
reset_not ds (rp.Gone n) = refl
reset_not ds (rp.BackDevice x y z) = refl
reset_not ds (rp.BackLink x y) = refl
reset_not ds (rp.Back n) = refl

bar_not : (k : BarPhase) → is_allocate (us.asks_at k) ≡ false
bar_not (up.Reading n) = refl
bar_not (up.Choosing x) = refl

free_not : (k : FreePhase) (x n : ℕ) → is_allocate (free_asks_at x n k) ≡ false
free_not fp.Unmap x n = refl
free_not fp.Free x n = refl

-- THE TWO STAGES whose buffers are the mailboxes: the mailbox is zeroed in the step that takes the good answer to the allocation
module _ (b : Books) (n : Info) (f : Failure) (c : Closing) (r : Reset) (d : FindBar) (h : Here) (l : length h.inbox ≡ 4096) where
  abbrev box : Prepare → Task → Session
  box st k = at n f c (g.Prepare st) (wk.working k r d) b

  abbrev first : (bytes : ℕ) → Task
  first i = t.Make (record { bytes = i; phase = mp.Allocate })

  abbrev Goal : Prepare → Task → Type 0
  Goal st k = Follows (box st k) h (course_of (box st k) h)

  -- the answer to the allocation
  abbrev Answered : Prepare → (bytes : ℕ) → Answer → List ℕ → Lent → Type 0
  Answered st i a res m =
      Right (reply_of (allocate (i / 4096)) a res)
      (λ x. course_of (step_of (box st (first i)) a res h.inbox m.outbox m.undo).session (here_after (box st (first i)) a res h m)
      ≡ run (box_of st) (on_allocate (i / 4096) x >>= (λ y. sc.ret (en.Made y))) (λ y d j. after_prepare st (bookkeeps (box st (first i)) d) y j) (booked (box_of st) (allocate (i / 4096)) x b) (touched (box_of st) (allocate (i / 4096)) x (lent h m)))
      (Unit {0})

  failed_leads : (st : Prepare) (i : ℕ) (m : Lent) → course_of (begun_of (plan_of (box st t.Rest) (en.Made (md.Refused ft.Memory)) m.outbox m.undo) h.inbox).session
      (here (begun_in (plan_of (box st t.Rest) (en.Made (md.Refused ft.Memory)) m.outbox m.undo) h.inbox) (begun_out (plan_of (box st t.Rest) (en.Made (md.Refused ft.Memory)) m.outbox m.undo) m.outbox) (counted m.undo (plan_of (box st t.Rest) (en.Made (md.Refused ft.Memory)) m.outbox m.undo).undo))
      ≡ after_prepare st (box st (first i)) (en.Made (md.Refused ft.Memory)) (lent h m)
  failed_leads st i m =
      begun_leads (plan_of (box st t.Rest) (en.Made (md.Refused ft.Memory)) m.outbox m.undo) (lent h m) l
      ∙ prepare_plan_lem n f c st (wk.working t.Rest r d) (wk.working (first i) r d) b (en.Made (md.Refused ft.Memory)) (lent h m)

  inbox_answered : (i : ℕ) (a : Answer) (res : List ℕ) (m : Lent) → Answered p.Inbox i a res m
  unfolding step_of step_in step_out
  inbox_answered i (an.Word x) res m = tt
  inbox_answered i (an.Dword x) res m = tt
  inbox_answered i (an.Qword x) res m = tt
  inbox_answered i an.Done res m = tt
  inbox_answered i an.Failed res m = failed_leads p.Inbox i m
  inbox_answered i (an.Handle x) res m = prepare_course_lem n f c p.Inbox (wk.working (t.Make (record { bytes = i; phase = mp.Map x })) r d) (wk.working (first i) r d) (puts INBOX (bare 0 x (i / 4096)) b) (zeroed inbox (lent h m))
  inbox_answered i (an.Mapped x y) res m = tt
  inbox_answered i an.List res m = tt

  outbox_answered : (i : ℕ) (a : Answer) (res : List ℕ) (m : Lent) → Answered p.Outbox i a res m
  unfolding step_of step_in step_out
  outbox_answered i (an.Word x) res m = tt
  outbox_answered i (an.Dword x) res m = tt
  outbox_answered i (an.Qword x) res m = tt
  outbox_answered i an.Done res m = tt
  outbox_answered i an.Failed res m = failed_leads p.Outbox i m
  outbox_answered i (an.Handle x) res m = prepare_course_lem n f c p.Outbox (wk.working (t.Make (record { bytes = i; phase = mp.Map x })) r d) (wk.working (first i) r d) (puts OUTBOX (bare 0 x (i / 4096)) b) (zeroed outbox (lent h m))
  outbox_answered i (an.Mapped x y) res m = tt
  outbox_answered i an.List res m = tt

  first_follows : (st : Prepare) (i : ℕ) → ((a : Answer) (res : List ℕ) (m : Lent) → Answered st i a res m) → Goal st (first i)
  unfolding prepare_course
  first_follows st i k = (refl, refl, k)

  -- by the task that is under way
  module _ (st : Prepare) (opens : (i : ℕ) → Goal st (first i)) where
    make_follows : (x : MakePhase) (i : ℕ) → Goal st (t.Make (record { bytes = i; phase = x }))
    make_follows mp.Allocate i = opens i
    make_follows (mp.Map k) i = prepare_still b n f c _ h l refl st refl
    make_follows (mp.Unmap k z) i = prepare_still b n f c _ h l refl st refl
    make_follows (mp.Free k z) i = prepare_still b n f c _ h l refl st refl

    box_follows : (k : Task) → is_resting k ≡ false → Goal st k
    box_follows t.Rest busy = absurd (subst Holds busy tt)
    box_follows (t.Attr k) busy = prepare_still b n f c _ h l refl st (attr_not k)
    box_follows (t.Claim k) busy = prepare_still b n f c _ h l refl st (claim_not k)
    box_follows t.Reset busy = prepare_still b n f c _ h l refl st (reset_not r.dwords r.phase)
    box_follows t.Bar busy = prepare_still b n f c _ h l refl st (bar_not d.phase)
    box_follows (t.Make k) busy = make_follows k.phase k.bytes
    box_follows (t.Free k) busy = prepare_still b n f c _ h l refl st (free_not k.phase k.handle k.pages)
    box_follows t.Look busy = prepare_still b n f c _ h l refl st refl
    box_follows (t.Cmd k) busy = prepare_still b n f c _ h l refl st (cmd_not k.phase k.post k.toggle k.stalls k.catas)
    box_follows (t.Part k) busy = prepare_still b n f c _ h l refl st (part_not k)

  prepare_follows : (st : Prepare) (k : Task) → is_resting k ≡ false → Goal st k
  prepare_follows p.Attributes k busy = prepare_neither b n f c _ h l busy p.Attributes refl refl
  prepare_follows p.Claim k busy = prepare_neither b n f c _ h l busy p.Claim refl refl
  prepare_follows p.Reset k busy = prepare_neither b n f c _ h l busy p.Reset refl refl
  prepare_follows p.Bar k busy = prepare_neither b n f c _ h l busy p.Bar refl refl
  prepare_follows p.Inbox k busy = box_follows p.Inbox (λ i. first_follows p.Inbox i (inbox_answered i)) k busy
  prepare_follows p.Outbox k busy = box_follows p.Outbox (λ i. first_follows p.Outbox i (outbox_answered i)) k busy
  prepare_follows p.Look k busy = prepare_neither b n f c _ h l busy p.Look refl refl

by_stage : (st : Stage) (b : Books) (n : Info) (f : Failure) (c : Closing) (u : Work) (h : Here) → length h.inbox ≡ 4096 → is_running st ≡ true → is_resting u.task ≡ false
    → Follows (at n f c st u b) h (course_of (at n f c st u b) h)
by_stage g.Fresh b n f c u h l r busy = absurd (subst Holds (sym r) tt)
by_stage (g.Open y) b n f c u h l r busy = absurd (subst Holds (sym r) tt)
by_stage g.Ended b n f c u h l r busy = absurd (subst Holds (sym r) tt)
by_stage (g.Prepare st) b n f c u h l r busy = prepare_follows b n f c u.reset u.find h l st u.task busy
by_stage (g.Boot st) b n f c u h l r busy = boot_follows b n f c u h l busy st
by_stage (g.Client st) b n f c u h l r busy = client_follows b n f c u h l busy st
by_stage (g.Close st) b n f c u h l r busy = close_follows b n f c u h l busy st

-- THE THEOREM: every session in which a call is running and a task is under way follows the course of its call, from whatever state
pub session_follows : (s : Session) (h : Here) → length h.inbox ≡ 4096 → is_running s.stage ≡ true → is_resting s.work.task ≡ false → Follows s h (course_of s h)
session_follows s h l r busy = by_stage s.stage s.books s.info s.failure s.closing s.work h l r busy
