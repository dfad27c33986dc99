-- Where a plan is begun the course goes on as the plan's laws say.
use Prim.Native.Nat.{ℕ}
use mathlib.Core.List.{List}
use mathlib.Core.Path.{◌≡◌, refl, ap, ◌∙◌}
use borrow.Author.Tests.{eq-eqb}
use lib.ListN.{length}
use Rattle.dma.specs.PageList.{listed_of, filled_at}
use Rattle.dma.specs.declared.Cutter.{Cutter}
use Rattle.pci.specs.Script.{Ask, Reply, good, failed, config_read16, config_read32, config_write16, config_write32, read, write, attributes, resource, stall, allocate, mapped, unmap, free, fence}
use Rattle.work.specs.Work.{work_script}
use Rattle.work.specs.declared.Work.{Work}
use Rattle.work.specs.declared.End.{End}
use Rattle.session.specs.Session.{session, planned}
use Rattle.session.specs.Course.{Here, here, Place, neither, inbox, outbox, slot, zeroed, touched, run}
use Rattle.session.proofs.Courses.{run_same}
use Rattle.session.specs.declared.Top.{Top}
use Rattle.session.specs.declared.Books.{Books}
use Rattle.session.specs.declared.Info.{Info}
use Rattle.session.specs.declared.Failure.{Failure}
use Rattle.session.specs.declared.Closing.{Closing}
use Rattle.session.specs.declared.Stage.{Stage}
use Rattle.session.specs.declared.Stage.TheVariants as g
use Rattle.session.specs.declared.Close.{Close}
use Rattle.session.specs.declared.Close.TheVariants as kc
use Rattle.session.specs.declared.Client.{Client}
use Rattle.session.specs.declared.Client.TheVariants as ku
use Rattle.session.specs.declared.Boot.{Boot}
use Rattle.session.specs.declared.Boot.TheVariants as k
use Rattle.session.specs.declared.Prepare.{Prepare}
use Rattle.session.specs.declared.Prepare.TheVariants as p
use Rattle.session.specs.declared.Fill.{Fill}
use Rattle.session.specs.declared.Fill.TheVariants as w
use Rattle.session.specs.declared.Session.{Session}
use Rattle.session.specs.declared.Planned.{Planned}
use Rattle.closing_plan.specs.Plan.{close_course, after_close}
use Rattle.closing_plan.specs.Plan as kl
use Rattle.closing_plan.proofs.Lands as z
use Rattle.client_plan.specs.Plan.{client_course, after_client}
use Rattle.client_plan.specs.Plan as kp
use Rattle.client_plan.proofs.Lands as cl
use Rattle.opening_plan.specs.Plan.{boot_course, prepare_course, after_boot, after_prepare, box_of, place_boot, lists}
use Rattle.opening_plan.proofs.Lands.{wrote, leads, boot_lands, prepare_lands}
use Rattle.fw_plan.specs.Calls.{begun_of, begun_in, begun_out, plan_of, with_work, filled_list}
use Rattle.fw_plan.specs.Follows.{course_of, course_at}

-- the undo list with another count
abbrev pub counted : Top → ℕ → Top
counted u n = record { count = n; op = u.op; op_mod = u.op_mod; in_mod = u.in_mod; in_param = u.in_param }

pub same_course : (st : Stage) (s : Session) (h : Here) → course_at st s h ≡ z.means prepare_course boot_course client_course st s h
same_course g.Fresh s h = refl
same_course (g.Open y) s h = refl
same_course g.Ended s h = refl
same_course (g.Prepare y) s h = refl
same_course (g.Boot y) s h = refl
same_course (g.Client y) s h = refl
same_course (g.Close y) s h = refl

list_begun : (c : Cutter) (s : Session) (i : List ℕ) → length i ≡ 4096 → filled_list c s i ≡ lists s (listed_of 63 256 c)
list_begun c s i l = rw (eq-eqb (length i) 4096 l) refl

-- a plan that is begun leads where its laws say; the inbox has 4,096 bytes
begun_by : (x : Fill) (s : Session) (n : ℕ) (h : Here) → length h.inbox ≡ 4096
    → course_of (begun_of (planned s x n) h.inbox).session (here (begun_in (planned s x n) h.inbox) (begun_out (planned s x n) h.outbox) (counted h.undo n)) ≡ leads (planned s x n) h
begun_by w.Nothing s n h l = same_course s.stage s _
begun_by w.Outbox s n h l = same_course s.stage s _
begun_by (w.List c) s n h l =
    ap (λ (t : Session). course_of t (here (filled_at 63 256 c h.inbox) h.outbox (counted h.undo n))) (list_begun c s h.inbox l)
    ∙ same_course (lists s (listed_of 63 256 c)).stage (lists s (listed_of 63 256 c)) _
begun_by w.ModStat s n h l = same_course s.stage s _
begun_by w.InitHca s n h l = same_course s.stage s _

pub begun_leads : (y : Planned) (h : Here) → length h.inbox ≡ 4096
    → course_of (begun_of y h.inbox).session (here (begun_in y h.inbox) (begun_out y h.outbox) (counted h.undo y.undo)) ≡ leads y h
begun_leads y h l = begun_by y.fill y.session y.undo h l

-- what follows a task does not hang on the task
boot_same : (st : Boot) (s : Session) (v : Work) (y : End) (h : Here) → after_boot st (with_work s v) y h ≡ after_boot st s y h
boot_same k.QueryFw s v y h = refl
boot_same (k.Make a) s v y h = refl
boot_same (k.Map a c) s v y h = refl
boot_same k.RunFw s v y h = refl
boot_same k.ModStat s v y h = refl
boot_same k.DevCap s v y h = refl
boot_same (k.Port n) s v y h = refl
boot_same k.IcmSize s v y h = refl
boot_same k.InitHca s v y h = refl
boot_same k.Func s v y h = refl
boot_same k.Adapter s v y h = refl

close_same : (st : Close) (s : Session) (v : Work) (y : End) (h : Here) → after_close st (with_work s v) y h ≡ after_close st s y h
close_same (kc.Undo n) s v y h = refl
close_same kc.CloseHca s v y h = refl
close_same (kc.Unmap i) s v y h = refl
close_same kc.UnmapAux s v y h = refl
close_same kc.UnmapFa s v y h = refl
close_same kc.Quiesce s v y h = refl
close_same kc.Reset s v y h = refl
close_same (kc.Free i) s v y h = refl
close_same kc.Release s v y h = refl
close_same kc.Restore s v y h = refl

client_same : (st : Client) (s : Session) (v : Work) (y : End) (h : Here) → after_client st (with_work s v) y h ≡ after_client st s y h
client_same (ku.Command o) s v y h = refl
client_same (ku.Lend i) s v y h = refl
client_same (ku.UndoTo n m) s v y h = refl

prepare_same : (st : Prepare) (s : Session) (v : Work) (y : End) (h : Here) → after_prepare st (with_work s v) y h ≡ after_prepare st s y h
prepare_same p.Attributes s v y h = refl
prepare_same p.Claim s v y h = refl
prepare_same p.Reset s v y h = refl
prepare_same p.Bar s v y h = refl
prepare_same p.Inbox s v y h = refl
prepare_same p.Outbox s v y h = refl
prepare_same p.Look s v y h = refl

module _ (n : Info) (f : Failure) (c : Closing) where
  abbrev pub at : Stage → Work → Books → Session
  at st v b = session st v b n f c

  pub boot_course_lem : (st : Boot) (v u : Work) (b : Books) (h : Here) → course_of (at (g.Boot st) v b) h ≡ run (place_boot st n) (work_script h.inbox v) (λ y d j. after_boot st (at (g.Boot st) u d) y j) b h
  unfolding boot_course
  boot_course_lem st v u b h = run_same (place_boot st n) (work_script h.inbox v) _ _ b h (λ y d j. boot_same st (at (g.Boot st) u d) v y j)

  pub close_course_lem : (st : Close) (v u : Work) (b : Books) (h : Here) → course_of (at (g.Close st) v b) h ≡ run (kl.place_in st) (work_script h.inbox v) (λ y d j. after_close st (at (g.Close st) u d) y j) b h
  unfolding close_course
  close_course_lem st v u b h = run_same (kl.place_in st) (work_script h.inbox v) _ _ b h (λ y d j. close_same st (at (g.Close st) u d) v y j)

  pub client_course_lem : (st : Client) (v u : Work) (b : Books) (h : Here) → course_of (at (g.Client st) v b) h ≡ run (kp.place_in st) (work_script h.inbox v) (λ y d j. after_client st (at (g.Client st) u d) y j) b h
  unfolding client_course
  client_course_lem st v u b h = run_same (kp.place_in st) (work_script h.inbox v) _ _ b h (λ y d j. client_same st (at (g.Client st) u d) v y j)

  pub prepare_course_lem : (st : Prepare) (v u : Work) (b : Books) (h : Here) → course_of (at (g.Prepare st) v b) h ≡ run (box_of st) (work_script h.inbox v) (λ y d j. after_prepare st (at (g.Prepare st) u d) y j) b h
  unfolding prepare_course
  prepare_course_lem st v u b h = run_same (box_of st) (work_script h.inbox v) _ _ b h (λ y d j. prepare_same st (at (g.Prepare st) u d) v y j)

  pub boot_plan_lem : (st : Boot) (v u : Work) (b : Books) (y : End) (h : Here) → leads (plan_of (at (g.Boot st) v b) y h.outbox h.undo) h ≡ after_boot st (at (g.Boot st) u b) y h
  boot_plan_lem st v u b y h = boot_lands st (at (g.Boot st) v b) y h ∙ boot_same st (at (g.Boot st) u b) v y h

  pub close_plan_lem : (st : Close) (v u : Work) (b : Books) (y : End) (h : Here) → leads (plan_of (at (g.Close st) v b) y h.outbox h.undo) h ≡ after_close st (at (g.Close st) u b) y h
  close_plan_lem st v u b y h = z.close-lands prepare_course boot_course client_course wrote st (at (g.Close st) v b) y h ∙ close_same st (at (g.Close st) u b) v y h

  pub client_plan_lem : (st : Client) (v u : Work) (b : Books) (y : End) (h : Here) → leads (plan_of (at (g.Client st) v b) y h.outbox h.undo) h ≡ after_client st (at (g.Client st) u b) y h
  client_plan_lem st v u b y h = cl.client_lands prepare_course boot_course wrote st (at (g.Client st) v b) y h ∙ client_same st (at (g.Client st) u b) v y h

  pub prepare_plan_lem : (st : Prepare) (v u : Work) (b : Books) (y : End) (h : Here) → leads (plan_of (at (g.Prepare st) v b) y h.outbox h.undo) h ≡ after_prepare st (at (g.Prepare st) u b) y h
  prepare_plan_lem st v u b y h = prepare_lands st (at (g.Prepare st) v b) y h ∙ prepare_same st (at (g.Prepare st) u b) v y h

-- no mailbox is zeroed where a buffer is for none
abbrev pub NoBox : Place → Type 0
NoBox neither = Unit {0}
NoBox inbox = ⊥
NoBox outbox = ⊥
NoBox (slot i v) = Unit {0}

zeroed_none : (b : Place) → NoBox b → (h : Here) → zeroed b h ≡ h
zeroed_none neither e h = refl
zeroed_none inbox e h = absurd e
zeroed_none outbox e h = absurd e
zeroed_none (slot i v) e h = refl

pub touched_none : (b : Place) → NoBox b → (q : Ask) (r : Reply q) (h : Here) → touched b q r h ≡ h
touched_none b e (config_read16 o) r h = refl
touched_none b e (config_read32 o) r h = refl
touched_none b e (config_write16 o v) r h = refl
touched_none b e (config_write32 o v) r h = refl
touched_none b e (read k o) r h = refl
touched_none b e (write k o v) r h = refl
touched_none b e (attributes o v) r h = refl
touched_none b e (resource k) r h = refl
touched_none b e (stall u) r h = refl
touched_none b e (allocate n) (good v) h = zeroed_none b e h
touched_none b e (allocate n) failed h = refl
touched_none b e (mapped k n) r h = refl
touched_none b e (unmap k) r h = refl
touched_none b e (free k n) r h = refl
touched_none b e (fence i) r h = refl
