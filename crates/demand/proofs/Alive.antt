-- What the machine's plans keep, so that it goes on: the lists are within their arrays, and where a call runs a task is under way.
use Rattle.std.specs.Prelude.{Option, Some, None, Ok, Err}
use Prim.Native.Nat.{ℕ, zero, suc, ◌-◌}
use mathlib.Core.Bool.{Bool, true, false, false≢true}
use mathlib.Core.List.{List}
use mathlib.Core.Path.{◌≡◌, refl, sym, ◌∙◌, subst}
use lib.Dec.{eqb, ltb, leb}
use borrow.Author.Tests.{eq-eqb, leb-true, le-leb}
use lib.ListN.{length}
use Rattle.std.specs.Prelude.{Result, Ok, Err}
use Rattle.fields.specs.Outcome.{Outcome, value, refused, pick}
use Rattle.dma.specs.Buffers.{pages_for}
use Rattle.dma.specs.PageList.{listed_of}
use Rattle.dma.specs.declared.Buffer.{Buffer}
use Rattle.dma.specs.declared.Cutter.{Cutter}
use Rattle.hcr.specs.Words.{is_reserved}
use Rattle.pci.specs.declared.Refusal.{Refusal}
use Rattle.pci.specs.declared.Answer.{Answer}
use Rattle.pci.specs.Views.{dword_of}
use Rattle.pci.specs.declared.NoReply.{NoReply}
use Rattle.pci.specs.declared.NoReply.TheVariants.{Failed, Wrong}
use Rattle.command.specs.Machine.{cmd_step_of}
use Rattle.command.specs.declared.CmdResult.{CmdResult}
use Rattle.command.specs.declared.CmdStep.{CmdStep}
use Rattle.command.specs.declared.CmdStep.TheVariants as cs
use Rattle.reset.specs.Reset.{is_good}
use Rattle.reset.specs.Steps.{reset_step_of}
use Rattle.reset.specs.declared.Reset.{Reset}
use Rattle.reset.specs.declared.Ending.{Ending as ResetEnding}
use Rattle.reset.specs.declared.Ending.TheVariants as rg
use Rattle.buffer.specs.Buffer.{by_outcome}
use Rattle.buffer.specs.Steps.{make_step_of, free_step_of}
use Rattle.buffer.specs.declared.Made.{Made}
use Rattle.buffer.specs.declared.Made.TheVariants as m
use Rattle.buffer.specs.declared.MakeStep.{MakeStep}
use Rattle.buffer.specs.declared.MakeStep.TheVariants as mks
use Rattle.buffer.specs.declared.FreeStep.{FreeStep}
use Rattle.buffer.specs.declared.FreeStep.TheVariants as fs
use Rattle.tasks.specs.Parting.{part_step_of}
use Rattle.tasks.specs.declared.PartingStep.{PartingStep}
use Rattle.tasks.specs.declared.PartingStep.TheVariants as ps
use Rattle.tasks.specs.declared.Attributes.{Attributes}
use Rattle.tasks.specs.declared.Attributes.TheVariants as at
use Rattle.tasks.specs.Attributes.{attr_step_of}
use Rattle.tasks.specs.declared.AttrStep.{AttrStep}
use Rattle.tasks.specs.declared.AttrStep.TheVariants as ats
use Rattle.tasks.specs.Claim.{claim_step_of}
use Rattle.tasks.specs.declared.ClaimStep.{ClaimStep}
use Rattle.tasks.specs.declared.ClaimStep.TheVariants as ls
use Rattle.tasks.specs.declared.Claimed.{Claimed}
use Rattle.tasks.specs.declared.Claimed.TheVariants as l
use Rattle.uar.specs.Steps.{bar_step_of}
use Rattle.uar.specs.declared.FindBar.{FindBar}
use Rattle.uar.specs.Uar.{Found}
use Rattle.uar.specs.declared.NotFound.TheVariants as u
use Rattle.reply.specs.declared.DevCap.{DevCap}
use Rattle.reply.specs.declared.FwInfo.{FwInfo}
use Rattle.reply.specs.declared.FuncInfo.{FuncInfo}
use Rattle.reply.specs.declared.PortInfo.{PortInfo}
use Rattle.reply.specs.Capability.{capability_of}
use Rattle.reply.specs.Replies.{query_fw_of, query_port_of, query_func_of}
use Rattle.layout.specs.Counts.{profile_of}
use Rattle.layout.specs.declared.Layout.{Layout}
use Rattle.work.specs.Work.{work_step_of, task_step, attr_work, claim_work, bar_on, make_work, free_work, look_step, cmd_work, part_work, reset_on}
use Rattle.work.specs.declared.Task.{Task}
use Rattle.work.specs.declared.Task.TheVariants as t
use Rattle.work.specs.declared.Work.{Work}
use Rattle.work.specs.declared.End.{End}
use Rattle.work.specs.declared.Ending.{Ending}
use Rattle.work.specs.declared.Ending.TheVariants as e
use Rattle.session.specs.Failures.{made_in, needs_reset, fault_of}
use Rattle.session.specs.Session.{session, starts, took_of, silenced_of, bookkeeps, informs, slot_at, is_held, fa_of, aux_of}
use Rattle.session.specs.declared.Top.{Top}
use Rattle.session.specs.declared.Books.{Books}
use Rattle.session.specs.declared.Info.{Info}
use Rattle.session.specs.declared.Area.{Area}
use Rattle.session.specs.declared.Area.TheVariants as a
use Rattle.session.specs.declared.Stage.{Stage}
use Rattle.session.specs.declared.Stage.TheVariants as g
use Rattle.session.specs.declared.Prepare.{Prepare}
use Rattle.session.specs.declared.Prepare.TheVariants as p
use Rattle.session.specs.declared.Boot.{Boot}
use Rattle.session.specs.declared.Boot.TheVariants as b
use Rattle.session.specs.declared.Client.{Client}
use Rattle.session.specs.declared.Client.TheVariants as kc
use Rattle.session.specs.declared.Close.{Close}
use Rattle.session.specs.declared.Close.TheVariants as k
use Rattle.session.specs.declared.Failure.{Failure}
use Rattle.session.specs.declared.Closing.{Closing}
use Rattle.session.specs.declared.Closing.TheVariants as c
use Rattle.session.specs.declared.Fill.TheVariants as w
use Rattle.session.specs.declared.Session.{Session}
use Rattle.session.specs.declared.Planned.{Planned}
use Rattle.closing_plan.specs.Closing.{is_done, UNDOS}
use Rattle.closing_plan.specs.Plan.{cmd_in, reset_in, frees_plan, failed_plan, stopped_plan, unmap_fa_plan, unmap_aux_plan, unmap_plan, close_hca_plan, undo_send, undo_plan, stop_plan, quiesce_plan, closes_of, close_plan_at, close_plan}
use Rattle.client_plan.specs.Client.{gives_output}
use Rattle.client_plan.specs.Plan as cl
use Rattle.client_plan.specs.Plan.{command_plan, lend_plan, lend_ended, client_plan_at, client_plan}
use Rattle.client_plan.specs.declared.Request.{Request}
use Rattle.opening_plan.specs.Values.{enters, with_catas, with_revision, with_cap, with_port, now_started}
use Rattle.opening_plan.specs.Opening.{ports_of}
use Rattle.opening_plan.specs.Plan as n
use Rattle.opening_plan.specs.Plan.{attr_in, claim_in, bar_in, fail_plan, fail_by_plan, func_plan, make_plan, next_range, mapped_plan, map_plan, area_plan, layout_plan, port_plan, fw_replied, cap_replied, port_replied, func_replied, boot_plan_at, boot_plan, prepare_plan_at, prepare_plan, lists}
use Rattle.work.specs.Work.{is_resting}
use Rattle.fw_plan.specs.Follows.{is_running}
use Rattle.fw_plan.specs.Calls.{booked_of, is_session, with_work, filled, step_turn, step_of}
use Rattle.calls_plan.specs.Calls.{without_failure, ready_in, plan_for, begun_turn}
use Rattle.calls_plan.specs.declared.Call.{Call}
use Rattle.calls_plan.specs.declared.Call.TheVariants as kn
use Rattle.calls_plan.specs.Counts.{Counted}
use Rattle.calls_plan.proofs.Begins.{length_ready}
use Rattle.calls_plan.proofs.Counts.{step_counted, begun_counted}
use Rattle.card.proofs.Bools.{and_left, and_right, and_true}

-- the lists are within their arrays
abbrev pub Sized : Session → Type 0
Sized s = is_session s ≡ true

-- where a call runs a task is under way
abbrev pub Busy : Stage → Task → Type 0
Busy g.Fresh x = Unit {0}
Busy (g.Open y) x = Unit {0}
Busy g.Ended x = Unit {0}
Busy (g.Prepare y) x = is_resting x ≡ false
Busy (g.Boot y) x = is_resting x ≡ false
Busy (g.Client y) x = is_resting x ≡ false
Busy (g.Close y) x = is_resting x ≡ false

abbrev Working : Session → Type 0
Working s = Busy s.stage s.work.task

abbrev pub Alive : Session → Type 0
Alive s = Sized s × Working s

sized : (s : Session) → Counted s.books.lists → Sized s
sized s h = and_true (leb s.books.lists.ranges 14) (leb s.books.lists.lends 64) (le-leb _ 14 h.0) (le-leb _ 64 h.1)

pub counted : (s : Session) → Sized s → Counted s.books.lists
counted s ok = (
  leb-true s.books.lists.ranges 14 (and_left (leb s.books.lists.ranges 14) (leb s.books.lists.lends 64) ok),
  leb-true s.books.lists.lends 64 (and_right (leb s.books.lists.ranges 14) (leb s.books.lists.lends 64) ok),
)

-- A TASK THAT GOES ON is under way
abbrev IsGoing : Ending → Type 0
IsGoing e.Going = Unit {0}
IsGoing (e.Ended x) = ⊥

attr_going : (v : Work) (x : AttrStep) → IsGoing (attr_work v x).ending → is_resting (attr_work v x).work.task ≡ false
attr_going v (ats.More x) q = refl
attr_going v (ats.Ended x) q = absurd q

claim_going : (v : Work) (x : ClaimStep) → IsGoing (claim_work v x).ending → is_resting (claim_work v x).work.task ≡ false
claim_going v (ls.More x) q = refl
claim_going v (ls.Ended x) q = absurd q

make_going : (v : Work) (x : MakeStep) → IsGoing (make_work v x).ending → is_resting (make_work v x).work.task ≡ false
make_going v (mks.More x) q = refl
make_going v (mks.Ended x) q = absurd q

free_going : (v : Work) (x : FreeStep) → IsGoing (free_work v x).ending → is_resting (free_work v x).work.task ≡ false
free_going v (fs.More x) q = refl
free_going v fs.Freed q = absurd q

reset_going : (v : Work) (x : Reset) (y : ResetEnding) → IsGoing (reset_on v x y).ending → is_resting (reset_on v x y).work.task ≡ false
reset_going v x rg.Going q = refl
reset_going v x (rg.Ended z) q = absurd q

bar_going : (v : Work) (x : FindBar) (y : Option Found) → IsGoing (bar_on v x y).ending → is_resting (bar_on v x y).work.task ≡ false
bar_going v x None q = refl
bar_going v x (Some z) q = absurd q

look_going : (v : Work) (x : Result ℕ NoReply) → IsGoing (look_step v x).ending → is_resting (look_step v x).work.task ≡ false
look_going v (Ok x) q = absurd q
look_going v (Err Failed) q = absurd q
look_going v (Err Wrong) q = refl

cmd_going : (v : Work) (x : CmdStep) → IsGoing (cmd_work v x).ending → is_resting (cmd_work v x).work.task ≡ false
cmd_going v (cs.More x) q = refl
cmd_going v (cs.Ended x) q = absurd q

part_going : (v : Work) (x : PartingStep) → IsGoing (part_work v x).ending → is_resting (part_work v x).work.task ≡ false
part_going v (ps.More x) q = refl
part_going v ps.Ended q = absurd q

task_goes : (v : Work) (r : Answer) (bytes : List ℕ) (x : Task) → is_resting x ≡ false → IsGoing (task_step v r bytes x).ending → is_resting (task_step v r bytes x).work.task ≡ false
task_goes v r bytes t.Rest h q = absurd (false≢true (sym h))
task_goes v r bytes (t.Attr x) h q = attr_going v (attr_step_of x r) q
task_goes v r bytes (t.Claim x) h q = claim_going v (claim_step_of x r) q
task_goes v r bytes t.Reset h q = reset_going v (reset_step_of v.reset r).reset (reset_step_of v.reset r).ending q
task_goes v r bytes t.Bar h q = bar_going v (bar_step_of v.find r bytes).find (bar_step_of v.find r bytes).ending q
task_goes v r bytes (t.Make x) h q = make_going v (make_step_of x r) q
task_goes v r bytes (t.Free x) h q = free_going v (free_step_of x r) q
task_goes v r bytes t.Look h q = look_going v (dword_of r) q
task_goes v r bytes (t.Cmd x) h q = cmd_going v (cmd_step_of x r) q
task_goes v r bytes (t.Part x) h q = part_going v (part_step_of x r) q

task_going : (v : Work) (r : Answer) (bytes : List ℕ) (x : Task) → is_resting x ≡ false → (task_step v r bytes x).ending ≡ e.Going → is_resting (task_step v r bytes x).work.task ≡ false
task_going v r bytes x h q = task_goes v r bytes x h (subst IsGoing (sym q) tt)

module _ (i : List ℕ) (len : length i ≡ 4096) where
  -- a plan that was begun
  abbrev Begun : Planned → Type 0
  Begun y = Working (filled y.fill y.session i)

  begun_pick : (x : Bool) (y z : Planned) → Begun y → Begun z → Begun (pick x y z)
  begun_pick true y z h d = h
  begun_pick false y z h d = d

  -- CLOSING
  freed : (m j : ℕ) (s : Session) (n : ℕ) → Begun (frees_plan m j s n)
  unfolding frees_plan
  freed zero j s n = refl
  freed (suc m) j s n = begun_pick (is_held (slot_at s.books.lists.slots j)) _ _ refl (freed m (suc j) s n)

  not_done : (s : Session) (n : ℕ) → Begun (failed_plan s n)
  unfolding failed_plan
  not_done s n = begun_pick s.books.wire.silent _ _ refl refl

  stopped : (s : Session) (n : ℕ) → Begun (stopped_plan s n)
  unfolding stopped_plan
  stopped s n =
      begun_pick s.books.wire.silent _ _ refl (begun_pick s.books.wire.running _ _ refl (freed 82 0 (closes_of s c.Clean s.books) n))

  fa_sent : (s : Session) (n : ℕ) → Begun (unmap_fa_plan s n)
  unfolding unmap_fa_plan
  fa_sent s n = begun_pick (is_held (fa_of s.books)) _ _ refl (stopped s n)

  aux_sent : (s : Session) (n : ℕ) → Begun (unmap_aux_plan s n)
  unfolding unmap_aux_plan
  aux_sent s n = begun_pick (is_held (aux_of s.books)) _ _ refl (fa_sent s n)

  unmap_sent : (s : Session) (j n : ℕ) → Begun (unmap_plan s j n)
  unfolding unmap_plan
  unmap_sent s zero n = aux_sent s n
  unmap_sent s (suc j) n = refl

  hca_sent : (s : Session) (n : ℕ) → Begun (close_hca_plan s n)
  unfolding close_hca_plan
  hca_sent s n = begun_pick s.books.started _ _ refl (unmap_sent s s.books.lists.ranges n)

  undo_sent : (s : Session) (j : ℕ) (y : Top) → Begun (undo_send s j y)
  undo_sent s zero y = not_done s y.count
  undo_sent s (suc j) y = begun_pick (is_reserved y.op) _ _ (not_done s y.count) refl

  undo_next : (s : Session) (j : ℕ) (y : Top) → Begun (undo_plan s j y)
  unfolding undo_plan
  undo_next s j y = begun_pick (eqb y.count 0) _ _ (hca_sent s y.count) (undo_sent s j y)

  stop_begun : (s : Session) (y : Top) → Begun (stop_plan s y)
  unfolding stop_plan
  stop_begun s y = begun_pick s.books.wire.broken _ _ refl (undo_next s UNDOS y)

  quiesce_begun : (s : Session) (y : Top) → Begun (quiesce_plan s y)
  unfolding quiesce_plan
  quiesce_begun s y = begun_pick s.books.wire.broken _ _ refl (undo_next (silenced_of s) UNDOS y)

  close_begun : (s : Session) (y : End) (top : Top) (st : Close) → Begun (close_plan_at s y top st)
  close_begun s y top (k.Undo j) = begun_pick (is_done (cmd_in y).result) _ _ (undo_next (took_of s (cmd_in y)) j top) (not_done (took_of s (cmd_in y)) top.count)
  close_begun s y top k.CloseHca = begun_pick (is_done (cmd_in y).result) _ _ (unmap_sent (took_of s (cmd_in y)) s.books.lists.ranges top.count) (not_done (took_of s (cmd_in y)) top.count)
  close_begun s y top (k.Unmap j) = begun_pick (is_done (cmd_in y).result) _ _ (unmap_sent (took_of s (cmd_in y)) j top.count) (not_done (took_of s (cmd_in y)) top.count)
  close_begun s y top k.UnmapAux = begun_pick (is_done (cmd_in y).result) _ _ (fa_sent (took_of s (cmd_in y)) top.count) (not_done (took_of s (cmd_in y)) top.count)
  close_begun s y top k.UnmapFa = begun_pick (is_done (cmd_in y).result) _ _ (stopped (took_of s (cmd_in y)) top.count) (not_done (took_of s (cmd_in y)) top.count)
  close_begun s y top k.Quiesce = tt
  close_begun s y top k.Reset = begun_pick (is_good (reset_in y)) _ _ (freed 82 0 (closes_of s c.Reset s.books) top.count) refl
  close_begun s y top (k.Free j) = freed (81 - j) (suc j) s top.count
  close_begun s y top k.Release = refl
  close_begun s y top k.Restore = tt

  -- A CLIENT'S CALL
  outcome : (v : Outcome ℕ) (y : ℕ → Planned) (z : Planned) → ((j : ℕ) → Begun (y j)) → Begun z → Begun (by_outcome v y z)
  outcome (value j) y z h d = h j
  outcome (refused j vs) y z h d = d

  out_filled : (b : Bool) (s : Session) → Working s → Working (filled (pick b w.Outbox w.Nothing) s i)
  out_filled true s h = h
  out_filled false s h = h

  command_begun : (s : Session) (y : Request) (n : ℕ) → Begun (command_plan s y n)
  unfolding command_plan
  command_begun s y n = out_filled (gives_output y.form) _ refl

  lend_begun : (s : Session) (bytes n : ℕ) → Begun (lend_plan s bytes n)
  unfolding lend_plan
  lend_begun s bytes n = outcome (pages_for bytes) _ _ (λ j. refl) tt

  lend_ended_lem : (s : Session) (j : ℕ) (y : Made) (n : ℕ) → Begun (lend_ended s j y n)
  lend_ended_lem s j (m.Ready y) n = tt
  lend_ended_lem s j (m.Refused y) n = tt

  client_undo : (s : Session) (mark j : ℕ) (y : Top) → Begun (cl.undo_send s mark j y)
  client_undo s mark zero y = tt
  client_undo s mark (suc j) y = begun_pick (is_reserved y.op) _ _ tt refl

  undo_begun : (s : Session) (mark j : ℕ) (y : Top) → Begun (cl.undo_plan s mark j y)
  unfolding cl.undo_plan
  undo_begun s mark j y = begun_pick (leb y.count mark) _ _ tt (begun_pick s.books.wire.broken _ _ tt (client_undo s mark j y))

  client_begun : (s : Session) (y : End) (top : Top) (st : Client) → Begun (client_plan_at s y top st)
  client_begun s y top (kc.Command x) = tt
  client_begun s y top (kc.Lend j) = lend_ended_lem s j (made_in y) top.count
  client_begun s y top (kc.UndoTo mark j) = begun_pick (is_done (cmd_in y).result) _ _ (undo_begun (took_of s (cmd_in y)) mark j top) tt

  -- OPENING
  failed : (s : Session) (y : Refusal) (top : Top) → Begun (fail_plan s y top)
  unfolding fail_plan
  failed s y top = stop_begun (n.with_failure s y) top

  failed_by : (s : Session) (y : CmdResult) (top : Top) → Begun (fail_by_plan s y top)
  unfolding fail_by_plan
  failed_by s y top = failed _ _ top

  made : (s : Session) (x : Area) (bytes : ℕ) (top : Top) → Begun (make_plan s x bytes top)
  unfolding make_plan
  made s x bytes top = outcome (pages_for bytes) _ _ (λ j. refl) (failed s _ top)

  func : (s : Session) (top : Top) → Begun (func_plan s top)
  unfolding func_plan
  func s top = begun_pick (eqb s.info.cap.num_sys_eqs 0) _ _ refl refl

  range : (s : Session) (j : ℕ) (top : Top) → Begun (next_range s j top)
  unfolding next_range
  range s j top = begun_pick (ltb j 13) _ _ (made s _ _ top) refl

  mapped : (s : Session) (x : Area) (top : Top) → Begun (mapped_plan s x top)
  unfolding mapped_plan
  mapped s a.Fa top = refl
  mapped s a.Aux top = made s _ _ top
  mapped s (a.Range j) top = range s j top

  -- a page list is written, and its command posted
  listed : (s : Session) (x : Area) (y : Cutter) → (q : Bool) → q ≡ true
      → Working (pick q (lists (starts s (g.Boot (b.Map x y)) t.Rest) (listed_of 63 256 y)) (starts s (g.Boot (b.Map x y)) t.Rest))
  listed s x y true e = refl
  listed s x y false e = absurd (false≢true e)

  map_next : (s : Session) (x : Area) (y : Cutter) (top : Top) → Begun (map_plan s x y top)
  unfolding map_plan
  map_next s x y top = begun_pick (eqb y.left 0) _ _ (mapped s x top) (listed s x y (eqb (length i) 4096) (eq-eqb (length i) 4096 len))

  area : (s : Session) (x : Area) (y : Made) (top : Top) → Begun (area_plan s x y top)
  area s x (m.Ready y) top = map_next (bookkeeps s (enters x s.books)) x _ top
  area s x (m.Refused y) top = failed s _ top

  layout : (s : Session) (y : Outcome Layout) (top : Top) → Begun (layout_plan s y top)
  unfolding layout_plan
  layout s (value y) top = refl
  layout s (refused j vs) top = failed s _ top

  port : (s : Session) (j : ℕ) (top : Top) → Begun (port_plan s j top)
  unfolding port_plan
  port s j top = begun_pick (ltb j (ports_of s.info)) _ _ refl (layout s (profile_of s.info.cap) top)

  fw_replied_lem : (s : Session) (y : Outcome FwInfo) (z : FwInfo) (top : Top) → Begun (fw_replied s y z top)
  unfolding fw_replied
  fw_replied_lem s (value y) z top = made (informs (bookkeeps s (with_catas s.books z)) (with_revision s.info y.rev)) a.Fa _ top
  fw_replied_lem s (refused j vs) z top = failed (bookkeeps s (with_catas s.books z)) _ top

  cap_replied_lem : (s : Session) (y : Outcome DevCap) (top : Top) → Begun (cap_replied s y top)
  unfolding cap_replied
  cap_replied_lem s (value y) top = port (informs s (with_cap s.info y)) 0 top
  cap_replied_lem s (refused j vs) top = failed s _ top

  port_replied_lem : (s : Session) (j : ℕ) (y : Outcome PortInfo) (top : Top) → Begun (port_replied s j y top)
  unfolding port_replied
  port_replied_lem s j (value y) top = port (informs s (with_port s.info j y)) j top
  port_replied_lem s j (refused d vs) top = failed s _ top

  func_replied_lem : (s : Session) (y : Outcome FuncInfo) (top : Top) → Begun (func_replied s y top)
  unfolding func_replied
  func_replied_lem s (value y) top = refl
  func_replied_lem s (refused j vs) top = failed s _ top

  boot_begun : (s : Session) (y : End) (out : List ℕ) (top : Top) (st : Boot) → Begun (boot_plan_at s y out top st)
  boot_begun s y out top b.QueryFw =
      begun_pick (is_done (cmd_in y).result) _ _ (fw_replied_lem (took_of s (cmd_in y)) (query_fw_of out s.info.uar.index) _ top)
      (failed _ _ top)
  boot_begun s y out top (b.Make x) = area s x (made_in y) top
  boot_begun s y out top (b.Map x z) = begun_pick (is_done (cmd_in y).result) _ _ (map_next (took_of s (cmd_in y)) x z top) (failed_by (took_of s (cmd_in y)) (cmd_in y).result top)
  boot_begun s y out top b.RunFw = begun_pick (is_done (cmd_in y).result) _ _ refl (failed_by (took_of s (cmd_in y)) (cmd_in y).result top)
  boot_begun s y out top b.ModStat = begun_pick (needs_reset (cmd_in y).result) _ _ (failed_by (took_of s (cmd_in y)) (cmd_in y).result top) refl
  boot_begun s y out top b.DevCap =
      begun_pick (is_done (cmd_in y).result) _ _ (cap_replied_lem (took_of s (cmd_in y)) (capability_of out s.info.uar.size) top) (failed_by (took_of s (cmd_in y)) (cmd_in y).result top)
  boot_begun s y out top (b.Port j) =
      begun_pick (is_done (cmd_in y).result) _ _ (port_replied_lem (took_of s (cmd_in y)) j (query_port_of out j) top) (failed_by (took_of s (cmd_in y)) (cmd_in y).result top)
  boot_begun s y out top b.IcmSize = begun_pick (is_done (cmd_in y).result) _ _ (made (took_of s (cmd_in y)) a.Aux _ top) (failed_by (took_of s (cmd_in y)) (cmd_in y).result top)
  boot_begun s y out top b.InitHca =
      begun_pick (is_done (cmd_in y).result) _ _ (func (bookkeeps (took_of s (cmd_in y)) (now_started (took_of s (cmd_in y)).books)) top) (failed_by (took_of s (cmd_in y)) (cmd_in y).result top)
  boot_begun s y out top b.Func = begun_pick (is_done (cmd_in y).result) _ _ (func_replied_lem (took_of s (cmd_in y)) (query_func_of out) top) (failed_by (took_of s (cmd_in y)) (cmd_in y).result top)
  boot_begun s y out top b.Adapter = tt

  attr : (s : Session) (y : Attributes) (top : Top) → Begun (n.attr_plan s y top)
  attr s (at.Enabled v) top = refl
  attr s at.Refused top = tt

  claimed : (s : Session) (y : Claimed) (top : Top) → Begun (n.claim_plan s y top)
  claimed s l.Good top = refl
  claimed s l.Refused top = refl

  bar : (s : Session) (y : Found) (top : Top) → Begun (n.bar_plan s y top)
  bar s (Ok y) top = refl
  bar s (Err u.Refused) top = refl
  bar s (Err u.BadList) top = refl

  in_made : (s : Session) (y : Made) (top : Top) → Begun (n.inbox_plan s y top)
  in_made s (m.Ready y) top = refl
  in_made s (m.Refused y) top = refl

  out_made : (s : Session) (y : Made) (top : Top) → Begun (n.outbox_plan s y top)
  out_made s (m.Ready y) top = refl
  out_made s (m.Refused y) top = freed 82 0 (n.gives_up s (fault_of y) s.books) top.count

  prepare_begun : (s : Session) (y : End) (top : Top) (st : Prepare) → Begun (prepare_plan_at s y top st)
  prepare_begun s y top p.Attributes = attr s (attr_in y) top
  prepare_begun s y top p.Claim = claimed s (claim_in y) top
  prepare_begun s y top p.Reset = begun_pick (is_good (reset_in y)) _ _ refl refl
  prepare_begun s y top p.Bar = bar s (bar_in y) top
  prepare_begun s y top p.Inbox = in_made s (made_in y) top
  prepare_begun s y top p.Outbox = out_made s (made_in y) top
  prepare_begun s y top p.Look = refl

  -- A STEP
  going : (v : Work) (r : Answer) (bytes : List ℕ) → is_resting v.task ≡ false → (work_step_of v r bytes).ending ≡ e.Going → is_resting (work_step_of v r bytes).work.task ≡ false
  going v r bytes h q = task_going v r bytes v.task h q

  module _ (d : Books) (j : Info) (f : Failure) (z : Closing) (v : Work) (r : Answer) (bytes out : List ℕ) (top : Top) where
    abbrev was : Stage → Session
    was st = session st v d j f z

    by-prepare : (st : Prepare) (x : Work) (n : Ending) → (n ≡ e.Going → is_resting x.task ≡ false) → Working (step_turn (was (g.Prepare st)) r x i out top n).session
    unfolding prepare_plan
    by-prepare st x e.Going h = h refl
    by-prepare st x (e.Ended y) h = prepare_begun (with_work (was (g.Prepare st)) x) y top st

    by-boot : (st : Boot) (x : Work) (n : Ending) → (n ≡ e.Going → is_resting x.task ≡ false) → Working (step_turn (was (g.Boot st)) r x i out top n).session
    unfolding boot_plan
    by-boot st x e.Going h = h refl
    by-boot st x (e.Ended y) h = boot_begun (with_work (was (g.Boot st)) x) y out top st

    by-client : (st : Client) (x : Work) (n : Ending) → (n ≡ e.Going → is_resting x.task ≡ false) → Working (step_turn (was (g.Client st)) r x i out top n).session
    unfolding client_plan
    by-client st x e.Going h = h refl
    by-client st x (e.Ended y) h = client_begun (with_work (was (g.Client st)) x) y top st

    by-close : (st : Close) (x : Work) (n : Ending) → (n ≡ e.Going → is_resting x.task ≡ false) → Working (step_turn (was (g.Close st)) r x i out top n).session
    unfolding close_plan
    by-close st x e.Going h = h refl
    by-close st x (e.Ended y) h = close_begun (with_work (was (g.Close st)) x) y top st

    by_stage : (st : Stage) → is_running st ≡ true → is_resting v.task ≡ false → Working (step_turn (was st) r (work_step_of v r bytes).work i out top (work_step_of v r bytes).ending).session
    by_stage g.Fresh q h = absurd (false≢true q)
    by_stage (g.Open y) q h = absurd (false≢true q)
    by_stage g.Ended q h = absurd (false≢true q)
    by_stage (g.Prepare st) q h = by-prepare st (work_step_of v r bytes).work (work_step_of v r bytes).ending (going v r bytes h)
    by_stage (g.Boot st) q h = by-boot st (work_step_of v r bytes).work (work_step_of v r bytes).ending (going v r bytes h)
    by_stage (g.Client st) q h = by-client st (work_step_of v r bytes).work (work_step_of v r bytes).ending (going v r bytes h)
    by_stage (g.Close st) q h = by-close st (work_step_of v r bytes).work (work_step_of v r bytes).ending (going v r bytes h)

  step_busy : (s : Session) (r : Answer) (bytes out : List ℕ) (top : Top) → is_running s.stage ≡ true → is_resting s.work.task ≡ false → Working (step_of s r bytes i out top).session
  unfolding step_of
  step_busy s r bytes out top q h = by_stage (booked_of s r).books s.info s.failure s.closing s.work r bytes out top s.stage q h

  -- A CALL BEGINS
  call_begun : (s : Session) (y : Call) (top : Top) → Begun (plan_for s y top)
  call_begun s kn.Open top = refl
  call_begun s (kn.Command y) top = command_begun s y top.count
  call_begun s (kn.Lend bytes) top = lend_begun s bytes top.count
  call_begun s (kn.UndoTo mark y) top = undo_begun s mark UNDOS top
  call_begun s kn.Quiesce top = quiesce_begun s top
  call_begun s kn.Close top = stop_begun (without_failure s) top

-- BOTH: a task is under way, and the counts are within their arrays
pub step_alive : (i : List ℕ) → length i ≡ 4096 → (s : Session) (r : Answer) (bytes out : List ℕ) (top : Top) → is_running s.stage ≡ true → Sized s → is_resting s.work.task ≡ false
    → Alive (step_of s r bytes i out top).session
step_alive i len s r bytes out top q ok h = (sized (step_of s r bytes i out top).session (step_counted s (counted s ok) r bytes i out top), step_busy i len s r bytes out top q h)

pub call_alive : (i : List ℕ) → length i ≡ 4096 → (s : Session) → Sized s → (y : Call) (input : List ℕ) (top : Top) → Alive (begun_turn s y input i top).session
unfolding begun_turn
call_alive i len s ok y input top =
    (sized (begun_turn s y input i top).session (begun_counted s (counted s ok) y input i top), call_begun (ready_in y input i) (length_ready y input i ∙ len) s y top)
