-- No call and no answer brings a count above its array: what is appended is appended where there is room. Every other step leaves the lists, or empties them. And beside it,
-- no call but a quiesce makes a session silent.
use Rattle.std.specs.Prelude.{Ok, Err}
use Prim.Native.Nat.{ℕ, zero, suc, ◌-◌}
use native.Mathlib.Omega.{arith}
use mathlib.Core.Bool.{Bool, true, false}
use mathlib.Core.List.{List}
use mathlib.Core.Path.{◌≡◌, refl}
use lib.Dec.{eqb, leb, ltb}
use lib.ListN.{length}
use borrow.Author.Tests.{ltb-true}
use Rattle.std.specs.Prelude.{Result, Ok, Err}
use Rattle.fields.specs.Outcome.{Outcome, value, refused, pick}
use Rattle.dma.specs.Buffers.{pages_for}
use Rattle.dma.specs.PageList.{listed_of}
use Rattle.dma.specs.declared.Cutter.{Cutter}
use Rattle.dma.specs.declared.Listed.{Listed}
use Rattle.hcr.specs.Words.{is_reserved}
use Rattle.pci.specs.declared.Refusal.{Refusal}
use Rattle.pci.specs.declared.Refusal.TheVariants as x
use Rattle.pci.specs.declared.Answer.{Answer}
use Rattle.pci.specs.declared.Question.{Question}
use Rattle.pci.specs.declared.Question.TheVariants as q
use Rattle.pci.specs.declared.NoReply.{NoReply}
use Rattle.pci.specs.Views.{granted_of, mapped_of}
use Rattle.command.specs.declared.CmdResult.{CmdResult}
use Rattle.reset.specs.Reset.{is_good}
use Rattle.buffer.specs.Buffer.{by_outcome}
use Rattle.buffer.specs.declared.Made.{Made}
use Rattle.buffer.specs.declared.Made.TheVariants as m
use Rattle.tasks.specs.declared.Attributes.{Attributes}
use Rattle.tasks.specs.declared.Attributes.TheVariants as at
use Rattle.tasks.specs.declared.Claimed.{Claimed}
use Rattle.tasks.specs.declared.Claimed.TheVariants as l
use Rattle.uar.specs.Uar.{Found}
use Rattle.uar.specs.declared.NotFound.TheVariants as u
use Rattle.reply.specs.Capability.{capability_of}
use Rattle.reply.specs.Replies.{query_fw_of, fw_held, query_port_of, query_func_of}
use Rattle.reply.specs.declared.DevCap.{DevCap}
use Rattle.reply.specs.declared.FwInfo.{FwInfo}
use Rattle.reply.specs.declared.FuncInfo.{FuncInfo}
use Rattle.reply.specs.declared.PortInfo.{PortInfo}
use Rattle.layout.specs.Counts.{profile_of}
use Rattle.layout.specs.declared.Layout.{Layout}
use Rattle.work.specs.Work.{work_step_of}
use Rattle.work.specs.declared.Work.{Work}
use Rattle.work.specs.declared.End.{End}
use Rattle.work.specs.declared.Ending.{Ending}
use Rattle.work.specs.declared.Ending.TheVariants as e
use Rattle.session.specs.Failures.{broken_by, made_in, needs_reset, fault_of}
use Rattle.session.specs.Session.{took_of, silenced_of, lent_to, slot_at, is_held, fa_of, aux_of, INBOX, OUTBOX}
use Rattle.session.specs.Course.{Place}
use Rattle.session.specs.Course as pl
use Rattle.session.specs.declared.Lists.{Lists}
use Rattle.session.specs.declared.Top.{Top}
use Rattle.session.specs.declared.Books.{Books}
use Rattle.session.specs.declared.Area.{Area}
use Rattle.session.specs.declared.Area.TheVariants as a
use Rattle.session.specs.declared.Stage.{Stage}
use Rattle.session.specs.declared.Stage.TheVariants as g
use Rattle.session.specs.declared.Prepare.{Prepare}
use Rattle.session.specs.declared.Prepare.TheVariants as p
use Rattle.session.specs.declared.Boot.{Boot}
use Rattle.session.specs.declared.Boot.TheVariants as b
use Rattle.session.specs.declared.Client.{Client}
use Rattle.session.specs.declared.Client.TheVariants as kc
use Rattle.session.specs.declared.Close.{Close}
use Rattle.session.specs.declared.Close.TheVariants as k
use Rattle.session.specs.declared.Closing.TheVariants as c
use Rattle.session.specs.declared.Failure.{Failure}
use Rattle.session.specs.declared.Failure.TheVariants as f
use Rattle.session.specs.declared.Fill.{Fill}
use Rattle.session.specs.declared.Fill.TheVariants as w
use Rattle.session.specs.declared.Session.{Session}
use Rattle.session.specs.declared.Planned.{Planned}
use Rattle.closing_plan.specs.Closing.{is_done, UNDOS}
use Rattle.closing_plan.specs.Plan.{cmd_in, reset_in, frees_plan, failed_plan, stopped_plan, unmap_fa_plan, unmap_aux_plan, unmap_plan, close_hca_plan, undo_send, undo_plan, stop_plan, quiesce_plan, closes_of, close_plan_at, close_plan}
use Rattle.client_plan.specs.Plan as cl
use Rattle.client_plan.specs.Plan.{command_plan, lend_plan, lend_ended, client_plan_at, client_plan}
use Rattle.opening_plan.specs.Opening.{ports_of}
use Rattle.opening_plan.specs.Values.{appended, enters}
use Rattle.opening_plan.specs.Plan as n
use Rattle.opening_plan.specs.Plan.{attr_in, claim_in, bar_in, fail_plan, fail_by_plan, func_plan, make_plan, next_range, mapped_plan, map_plan, area_plan, layout_plan, port_plan, fw_replied, cap_replied, port_replied, func_replied, boot_plan_at, boot_plan, prepare_plan_at, prepare_plan, lists_at, lists_boot, lists}
use Rattle.fw_plan.specs.Calls.{asks_of, wants, booked_of, booked_by, answers_by, granted_books, mapped_books, plan_at, filled, with_work, step_turn, step_of, answer_of, answerable, is_lent, refused_of}
use Rattle.fw_plan.specs.declared.Turn.{Turn}
use Rattle.calls_plan.specs.Calls.{without_failure, plan_for, begun_turn, ready_in, unless, barred, callable, lent_for, call_of}
use Rattle.calls_plan.specs.Counts.{Counted}
use Rattle.calls_plan.specs.declared.Call.{Call}
use Rattle.calls_plan.specs.declared.Call.TheVariants as kn

module _ (Q : Type 0) where
  -- the counts, and whether the session is silent: Q is what the second stands under
  abbrev Fact : Books → Type 0
  Fact d = Counted d.lists × (Q → d.wire.silent ≡ false)

  abbrev In : Session → Type 0
  In s = Fact s.books

  abbrev After : Planned → Type 0
  After y = In y.session

  -- ONE MORE of each, where there is room
  either : {A : Type 0} (P : A → Type 0) (t : Bool) (y z : A) → (t ≡ true → P y) → P z → P (pick t y z)
  either P true y z h d = h refl
  either P false y z h d = d

  more_ranges : (l : Lists) → Counted l → Counted (appended l)
  more_ranges l h = either Counted (ltb l.ranges 14) _ l (λ t. let r = ltb-true l.ranges 14 t in (omega arith, h.1)) h

  more_lends : (d : Books) → Fact d → Fact (lent_to d)
  more_lends d h = either Fact (ltb d.lists.lends 64) _ d (λ t. let r = ltb-true d.lists.lends 64 t in ((h.0.0, omega arith), h.1)) h

  entered : (z : Area) (d : Books) → Fact d → Fact (enters z d)
  entered a.Fa d h = h
  entered a.Aux d h = h
  entered (a.Range j) d h = (more_ranges d.lists h.0, h.1)

  by_test : (t : Bool) (y z : Planned) → After y → After z → After (pick t y z)
  by_test t y z h d = either After t y z (λ r. h) d

  by_outcome_lem : (v : Outcome ℕ) (y : ℕ → Planned) (z : Planned) → ((i : ℕ) → After (y i)) → After z → After (by_outcome v y z)
  by_outcome_lem (value i) y z h d = h i
  by_outcome_lem (refused i vs) y z h d = d

  -- CLOSING
  frees_in : (m i : ℕ) (s : Session) → In s → (u : ℕ) → After (frees_plan m i s u)
  unfolding frees_plan
  frees_in zero i s h u = h
  frees_in (suc m) i s h u = by_test (is_held (slot_at s.books.lists.slots i)) _ _ h (frees_in m (suc i) s h u)

  module _ (s : Session) (h : In s) (u : ℕ) where
    failed-in : After (failed_plan s u)
    unfolding failed_plan
    failed-in = by_test s.books.wire.silent _ _ h h

  stopped_in : (s : Session) → In s → (u : ℕ) → After (stopped_plan s u)
  unfolding stopped_plan
  stopped_in s h u = by_test s.books.wire.silent _ _ h (by_test s.books.wire.running _ _ h (frees_in 82 0 (closes_of s c.Clean s.books) h u))

  unmap_fa_in : (s : Session) → In s → (u : ℕ) → After (unmap_fa_plan s u)
  unfolding unmap_fa_plan
  unmap_fa_in s h u = by_test (is_held (fa_of s.books)) _ _ h (stopped_in s h u)

  unmap_aux_in : (s : Session) → In s → (u : ℕ) → After (unmap_aux_plan s u)
  unfolding unmap_aux_plan
  unmap_aux_in s h u = by_test (is_held (aux_of s.books)) _ _ h (unmap_fa_in s h u)

  unmap_in_lem : (s : Session) → In s → (i u : ℕ) → After (unmap_plan s i u)
  unfolding unmap_plan
  unmap_in_lem s h zero u = unmap_aux_in s h u
  unmap_in_lem s h (suc i) u = h

  hca_in : (s : Session) → In s → (u : ℕ) → After (close_hca_plan s u)
  unfolding close_hca_plan
  hca_in s h u = by_test s.books.started _ _ h (unmap_in_lem s h s.books.lists.ranges u)

  sent_in : (s : Session) → In s → (i : ℕ) (y : Top) → After (undo_send s i y)
  sent_in s h zero y = failed-in s h y.count
  sent_in s h (suc i) y = by_test (is_reserved y.op) _ _ (failed-in s h y.count) h

  undo_in : (s : Session) → In s → (i : ℕ) (y : Top) → After (undo_plan s i y)
  unfolding undo_plan
  undo_in s h i y = by_test (eqb y.count 0) _ _ (hca_in s h y.count) (sent_in s h i y)

  stop_in : (s : Session) → In s → (y : Top) → After (stop_plan s y)
  unfolding stop_plan
  stop_in s h y = by_test s.books.wire.broken _ _ h (undo_in s h UNDOS y)

  quiesce_in : (s : Session) → (Q → ⊥) → In s → (y : Top) → After (quiesce_plan s y)
  unfolding quiesce_plan
  quiesce_in s q h y = by_test s.books.wire.broken _ _ (h.0, λ z. absurd (q z)) (undo_in (silenced_of s) (h.0, λ z. absurd (q z)) UNDOS y)

  close_in : (s : Session) → In s → (y : End) (top : Top) (st : Close) → After (close_plan_at s y top st)
  close_in s h y top (k.Undo i) = by_test (is_done (cmd_in y).result) _ _ (undo_in (took_of s (cmd_in y)) h i top) (failed-in (took_of s (cmd_in y)) h top.count)
  close_in s h y top k.CloseHca = by_test (is_done (cmd_in y).result) _ _ (unmap_in_lem (took_of s (cmd_in y)) h s.books.lists.ranges top.count) (failed-in (took_of s (cmd_in y)) h top.count)
  close_in s h y top (k.Unmap i) = by_test (is_done (cmd_in y).result) _ _ (unmap_in_lem (took_of s (cmd_in y)) h i top.count) (failed-in (took_of s (cmd_in y)) h top.count)
  close_in s h y top k.UnmapAux = by_test (is_done (cmd_in y).result) _ _ (unmap_fa_in (took_of s (cmd_in y)) h top.count) (failed-in (took_of s (cmd_in y)) h top.count)
  close_in s h y top k.UnmapFa = by_test (is_done (cmd_in y).result) _ _ (stopped_in (took_of s (cmd_in y)) h top.count) (failed-in (took_of s (cmd_in y)) h top.count)
  close_in s h y top k.Quiesce = h
  close_in s h y top k.Reset = by_test (is_good (reset_in y)) _ _ (frees_in 82 0 (closes_of s c.Reset s.books) h top.count) h
  close_in s h y top (k.Free i) = frees_in (81 - i) (suc i) s h top.count
  close_in s h y top k.Release = h
  close_in s h y top k.Restore = h

  -- A CLIENT'S CALL
  command_in : (s : Session) → In s → (y : _) (u : ℕ) → After (command_plan s y u)
  unfolding command_plan
  command_in s h y u = h

  lend_in : (s : Session) → In s → (bytes u : ℕ) → After (lend_plan s bytes u)
  unfolding lend_plan
  lend_in s h bytes u = by_outcome_lem (pages_for bytes) _ _ (λ i. h) h

  ended_in_lem : (s : Session) → In s → (i : ℕ) (y : Made) (u : ℕ) → After (lend_ended s i y u)
  ended_in_lem s h i (m.Ready y) u = more_lends s.books h
  ended_in_lem s h i (m.Refused y) u = h

  client_sent : (s : Session) → In s → (mark i : ℕ) (y : Top) → After (cl.undo_send s mark i y)
  client_sent s h mark zero y = h
  client_sent s h mark (suc i) y = by_test (is_reserved y.op) _ _ h h

  undo_to_in : (s : Session) → In s → (mark i : ℕ) (y : Top) → After (cl.undo_plan s mark i y)
  unfolding cl.undo_plan
  undo_to_in s h mark i y = by_test (leb y.count mark) _ _ h (by_test s.books.wire.broken _ _ h (client_sent s h mark i y))

  broken_in : (r : CmdResult) (d : Books) → Fact d → Fact (broken_by r d)
  broken_in r d h = either Fact (needs_reset r) _ d (λ t. h) h

  client_in : (s : Session) → In s → (y : End) (top : Top) (st : Client) → After (client_plan_at s y top st)
  client_in s h y top (kc.Command z) = broken_in (cmd_in y).result (took_of s (cmd_in y)).books h
  client_in s h y top (kc.Lend i) = ended_in_lem s h i (made_in y) top.count
  client_in s h y top (kc.UndoTo mark i) = by_test (is_done (cmd_in y).result) _ _ (undo_to_in (took_of s (cmd_in y)) h mark i top) h

  -- OPENING
  fail_in : (s : Session) → In s → (y : Refusal) (top : Top) → After (fail_plan s y top)
  unfolding fail_plan
  fail_in s h y top = stop_in (n.with_failure s y) h top

  fail_by_in : (s : Session) → In s → (y : CmdResult) (top : Top) → After (fail_by_plan s y top)
  unfolding fail_by_plan
  fail_by_in s h y top = fail_in _ (broken_in y s.books h) _ top

  make_in : (s : Session) → In s → (z : Area) (bytes : ℕ) (top : Top) → After (make_plan s z bytes top)
  unfolding make_plan
  make_in s h z bytes top = by_outcome_lem (pages_for bytes) _ _ (λ i. h) (fail_in s h x.Address top)

  func_in : (s : Session) → In s → (top : Top) → After (func_plan s top)
  unfolding func_plan
  func_in s h top = by_test (eqb s.info.cap.num_sys_eqs 0) _ _ h h

  range_in_lem : (s : Session) → In s → (i : ℕ) (top : Top) → After (next_range s i top)
  unfolding next_range
  range_in_lem s h i top = by_test (ltb i 13) _ _ (make_in s h _ _ top) h

  mapped_in : (s : Session) → In s → (z : Area) (top : Top) → After (mapped_plan s z top)
  unfolding mapped_plan
  mapped_in s h a.Fa top = h
  mapped_in s h a.Aux top = make_in s h _ _ top
  mapped_in s h (a.Range i) top = range_in_lem s h i top

  map_in_lem : (s : Session) → In s → (z : Area) (y : Cutter) (top : Top) → After (map_plan s z y top)
  unfolding map_plan
  map_in_lem s h z y top = by_test (eqb y.left 0) _ _ (mapped_in s h z top) h

  area_in : (s : Session) → In s → (z : Area) (y : Made) (top : Top) → After (area_plan s z y top)
  area_in s h z (m.Ready y) top = map_in_lem _ (entered z s.books h) z _ top
  area_in s h z (m.Refused y) top = fail_in s h _ top

  layout_in_lem : (s : Session) → In s → (y : Outcome Layout) (top : Top) → After (layout_plan s y top)
  unfolding layout_plan
  layout_in_lem s h (value y) top = h
  layout_in_lem s h (refused i vs) top = fail_in s h _ top

  port_in_lem : (s : Session) → In s → (i : ℕ) (top : Top) → After (port_plan s i top)
  unfolding port_plan
  port_in_lem s h i top = by_test (ltb i (ports_of s.info)) _ _ h (layout_in_lem s h (profile_of s.info.cap) top)

  fw_in : (s : Session) → In s → (y : Outcome FwInfo) (z : FwInfo) (top : Top) → After (fw_replied s y z top)
  unfolding fw_replied
  fw_in s h (value y) z top = make_in _ h a.Fa _ top
  fw_in s h (refused i vs) z top = fail_in _ h _ top

  cap_in_lem : (s : Session) → In s → (y : Outcome DevCap) (top : Top) → After (cap_replied s y top)
  unfolding cap_replied
  cap_in_lem s h (value y) top = port_in_lem _ h 0 top
  cap_in_lem s h (refused i vs) top = fail_in s h _ top

  replied_in : (s : Session) → In s → (i : ℕ) (y : Outcome PortInfo) (top : Top) → After (port_replied s i y top)
  unfolding port_replied
  replied_in s h i (value y) top = port_in_lem _ h i top
  replied_in s h i (refused j vs) top = fail_in s h _ top

  func_replied_in : (s : Session) → In s → (y : Outcome FuncInfo) (top : Top) → After (func_replied s y top)
  unfolding func_replied
  func_replied_in s h (value y) top = h
  func_replied_in s h (refused i vs) top = fail_in s h _ top

  boot_in : (s : Session) → In s → (y : End) (out : List ℕ) (top : Top) (st : Boot) → After (boot_plan_at s y out top st)
  boot_in s h y out top b.QueryFw = by_test (is_done (cmd_in y).result) _ _ (fw_in _ h (query_fw_of out s.info.uar.index) (fw_held out s.info.uar.index) top) (fail_in _ (broken_in (cmd_in y).result (took_of s (cmd_in y)).books h) _ top)
  boot_in s h y out top (b.Make z) = area_in s h z (made_in y) top
  boot_in s h y out top (b.Map z v) = by_test (is_done (cmd_in y).result) _ _ (map_in_lem _ h z v top) (fail_by_in _ h _ top)
  boot_in s h y out top b.RunFw = by_test (is_done (cmd_in y).result) _ _ h (fail_by_in _ h _ top)
  boot_in s h y out top b.ModStat = by_test (needs_reset (cmd_in y).result) _ _ (fail_by_in _ h _ top) h
  boot_in s h y out top b.DevCap = by_test (is_done (cmd_in y).result) _ _ (cap_in_lem _ h (capability_of out s.info.uar.size) top) (fail_by_in _ h _ top)
  boot_in s h y out top (b.Port i) = by_test (is_done (cmd_in y).result) _ _ (replied_in _ h i (query_port_of out i) top) (fail_by_in _ h _ top)
  boot_in s h y out top b.IcmSize = by_test (is_done (cmd_in y).result) _ _ (make_in _ h a.Aux _ top) (fail_by_in _ h _ top)
  boot_in s h y out top b.InitHca = by_test (is_done (cmd_in y).result) _ _ (func_in _ h top) (fail_by_in _ h _ top)
  boot_in s h y out top b.Func = by_test (is_done (cmd_in y).result) _ _ (func_replied_in _ h (query_func_of out) top) (fail_by_in _ h _ top)
  boot_in s h y out top b.Adapter = h

  attr_in_lem : (s : Session) → In s → (y : Attributes) (top : Top) → After (n.attr_plan s y top)
  attr_in_lem s h (at.Enabled v) top = h
  attr_in_lem s h at.Refused top = h

  claim_in_lem : (s : Session) → In s → (y : Claimed) (top : Top) → After (n.claim_plan s y top)
  claim_in_lem s h l.Good top = h
  claim_in_lem s h l.Refused top = h

  bar_in_lem : (s : Session) → In s → (y : Found) (top : Top) → After (n.bar_plan s y top)
  bar_in_lem s h (Ok y) top = h
  bar_in_lem s h (Err u.Refused) top = h
  bar_in_lem s h (Err u.BadList) top = h

  in_in : (s : Session) → In s → (y : Made) (top : Top) → After (n.inbox_plan s y top)
  in_in s h (m.Ready y) top = h
  in_in s h (m.Refused y) top = h

  out_in : (s : Session) → In s → (y : Made) (top : Top) → After (n.outbox_plan s y top)
  out_in s h (m.Ready y) top = h
  out_in s h (m.Refused y) top = frees_in 82 0 (n.gives_up s (fault_of y) s.books) h top.count

  prepare_in : (s : Session) → In s → (y : End) (top : Top) (st : Prepare) → After (prepare_plan_at s y top st)
  prepare_in s h y top p.Attributes = attr_in_lem s h (attr_in y) top
  prepare_in s h y top p.Claim = claim_in_lem s h (claim_in y) top
  prepare_in s h y top p.Reset = by_test (is_good (reset_in y)) _ _ h h
  prepare_in s h y top p.Bar = bar_in_lem s h (bar_in y) top
  prepare_in s h y top p.Inbox = in_in s h (made_in y) top
  prepare_in s h y top p.Outbox = out_in s h (made_in y) top
  prepare_in s h y top p.Look = h

  -- WHAT IS WRITTEN before the next question leaves the lists
  lists_boot_lem : (s : Session) → In s → (y : Listed) (st : Boot) → In (lists_boot s y st)
  lists_boot_lem s h y b.QueryFw = h
  lists_boot_lem s h y (b.Make v) = h
  lists_boot_lem s h y (b.Map v r) = h
  lists_boot_lem s h y b.RunFw = h
  lists_boot_lem s h y b.ModStat = h
  lists_boot_lem s h y b.DevCap = h
  lists_boot_lem s h y (b.Port v) = h
  lists_boot_lem s h y b.IcmSize = h
  lists_boot_lem s h y b.InitHca = h
  lists_boot_lem s h y b.Func = h
  lists_boot_lem s h y b.Adapter = h

  lists_in : (s : Session) → In s → (y : Listed) (st : Stage) → In (lists_at s y st)
  lists_in s h y g.Fresh = h
  lists_in s h y (g.Open v) = h
  lists_in s h y g.Ended = h
  lists_in s h y (g.Prepare v) = h
  lists_in s h y (g.Boot v) = lists_boot_lem s h y v
  lists_in s h y (g.Client v) = h
  lists_in s h y (g.Close v) = h

  filled_in_lem : (x : Fill) (s : Session) (i : List ℕ) → In s → In (filled x s i)
  filled_in_lem w.Nothing s i h = h
  filled_in_lem w.Outbox s i h = h
  filled_in_lem (w.List v) s i h = either In (eqb (length i) 4096) (lists s (listed_of 63 256 v)) s (λ t. lists_in s h (listed_of 63 256 v) s.stage) h
  filled_in_lem w.ModStat s i h = h
  filled_in_lem w.InitHca s i h = h

  -- A STEP
  plan_in_lem : (s : Session) → In s → (y : End) (out : List ℕ) (top : Top) (st : Stage) → After (plan_at s y out top st)
  unfolding prepare_plan boot_plan client_plan close_plan
  plan_in_lem s h y out top g.Fresh = h
  plan_in_lem s h y out top (g.Open v) = h
  plan_in_lem s h y out top g.Ended = h
  plan_in_lem s h y out top (g.Prepare v) = prepare_in s h y top v
  plan_in_lem s h y out top (g.Boot v) = boot_in s h y out top v
  plan_in_lem s h y out top (g.Client v) = client_in s h y top v
  plan_in_lem s h y out top (g.Close v) = close_in s h y top v

  -- what an answer puts down or takes off leaves both
  answers_in : (j w : ℕ) (y : Question) (v : Answer) (d : Books) → Fact d → Fact (answers_by j w y v d)
  answers_in j w (q.ConfigRead16 o) v d h = h
  answers_in j w (q.ConfigRead32 o) v d h = h
  answers_in j w (q.ConfigWrite16 o y) v d h = h
  answers_in j w (q.ConfigWrite32 o y) v d h = h
  answers_in j w (q.RegRead k o) v d h = h
  answers_in j w (q.RegWrite k o y) v d h = h
  answers_in j w (q.Attributes o y) v d h = h
  answers_in j w (q.Resource k) v d h = h
  answers_in j w (q.Stall u) v d h = h
  answers_in j w (q.Allocate n) v d h = granted (granted_of v)
    where
      granted : (r : Result ℕ NoReply) → Fact (granted_books j w n r d)
      granted (Ok k) = h
      granted (Err _) = h
  answers_in j w (q.Map k n) v d h = mapped (mapped_of v)
    where
      mapped : (r : Result (ℕ × ℕ) NoReply) → Fact (mapped_books j r d)
      mapped (Ok (x, y)) = h
      mapped (Err _) = h
  answers_in j w (q.Unmap k) v d h = h
  answers_in j w (q.Free k n) v d h = h
  answers_in j w q.Fence v d h = h
  answers_in j w q.Finished v d h = h

  booked_in_lem : (z : Place) (y : Question) (v : Answer) (d : Books) → Fact d → Fact (booked_by z y v d)
  booked_in_lem pl.neither y v d h = h
  booked_in_lem pl.inbox y v d h = answers_in INBOX 0 y v d h
  booked_in_lem pl.outbox y v d h = answers_in OUTBOX 0 y v d h
  booked_in_lem (pl.slot i w) y v d h = answers_in i w y v d h

  turn_in_lem : (s : Session) → In s → (v : Answer) (x : Work) (i out : List ℕ) (top : Top) (n : Ending) → In (step_turn s v x i out top n).session
  turn_in_lem s h v x i out top e.Going = h
  turn_in_lem s h v x i out top (e.Ended y) = filled_in_lem (plan_at (with_work s x) y out top s.stage).fill _ i (plan_in_lem (with_work s x) h y out top s.stage)

  pub step_fact : (s : Session) → Fact s.books → (v : Answer) (res i out : List ℕ) (top : Top) → Fact (step_of s v res i out top).session.books
  unfolding step_of
  step_fact s h v res i out top = turn_in_lem (booked_of s v) (booked_in_lem (wants s) (asks_of s) v s.books h) v (work_step_of s.work v res).work i out top (work_step_of s.work v res).ending

  by_turn : (t : Bool) (y z : Turn) → In y.session → In z.session → In (pick t y z).session
  by_turn t y z h d = either (λ (v : Turn). In v.session) t y z (λ r. h) d

  -- AN ANSWER
  answer_fact : (s : Session) (v : Answer) (res i out : List ℕ) (top : Top) → Fact s.books → Fact (answer_of s v res i out top).session.books
  answer_fact s v res i out top h =
      by_turn (answerable s v) _ (refused_of s x.Wrong top.count) (by_turn (is_lent i out top) _ (refused_of s x.Short top.count) (step_fact s h v res i out top) h) h

  -- A CALL
  abbrev pub Loudly : Call → Type 0
  Loudly kn.Open = Unit {0}
  Loudly (kn.Command y) = Unit {0}
  Loudly (kn.Lend bytes) = Unit {0}
  Loudly (kn.UndoTo mark r) = Unit {0}
  Loudly kn.Quiesce = Q → ⊥
  Loudly kn.Close = Unit {0}

  begun_in_lem : (s : Session) → In s → (y : Call) (top : Top) → Loudly y → After (plan_for s y top)
  begun_in_lem s h kn.Open top q = ((omega arith, omega arith), λ z. refl)
  begun_in_lem s h (kn.Command y) top q = command_in s h y top.count
  begun_in_lem s h (kn.Lend bytes) top q = lend_in s h bytes top.count
  begun_in_lem s h (kn.UndoTo mark r) top q = undo_to_in s h mark UNDOS top
  begun_in_lem s h kn.Quiesce top q = quiesce_in s q h top
  begun_in_lem s h kn.Close top q = stop_in (without_failure s) h top

  pub begun_fact : (s : Session) → Fact s.books → (y : Call) (input i : List ℕ) (top : Top) → Loudly y → Fact (begun_turn s y input i top).session.books
  unfolding begun_turn
  begun_fact s h y input i top q = filled_in_lem (plan_for s y top).fill _ (ready_in y input i) (begun_in_lem s h y top q)

  unless_in : (z : Failure) (s : Session) (y : Turn) (u : ℕ) → In y.session → In s → In (unless z y (λ v. refused_of s v u)).session
  unless_in f.Nothing s y u h d = h
  unless_in (f.By v) s y u h d = d

  call_fact : (s : Session) (y : Call) (input i out : List ℕ) (top : Top) → Loudly y → Fact s.books → Fact (call_of s y input i out top).session.books
  call_fact s y input i out top q h =
      by_turn (callable s y) _ (refused_of s x.Wrong top.count)
      (by_turn (lent_for y input i out top) _ (refused_of s x.Short top.count) (unless_in (barred s y) s (begun_turn s y input i top) top.count (begun_fact s h y input i top q) h) h) h

-- THE COUNTS alone
abbrev counted : (s : Session) → Counted s.books.lists → Fact ⊥ s.books
counted s h = (h, λ q. absurd q)

all_loud : (y : Call) → Loudly ⊥ y
all_loud kn.Open = tt
all_loud (kn.Command y) = tt
all_loud (kn.Lend bytes) = tt
all_loud (kn.UndoTo mark r) = tt
all_loud kn.Quiesce = λ q. q
all_loud kn.Close = tt

pub step_counted : (s : Session) → Counted s.books.lists → (v : Answer) (res i out : List ℕ) (top : Top) → Counted (step_of s v res i out top).session.books.lists
step_counted s h v res i out top = (step_fact ⊥ s (counted s h) v res i out top).0

pub answer_counted : (s : Session) (v : Answer) (res i out : List ℕ) (top : Top) → Counted s.books.lists → Counted (answer_of s v res i out top).session.books.lists
answer_counted s v res i out top h = (answer_fact ⊥ s v res i out top (counted s h)).0

pub begun_counted : (s : Session) → Counted s.books.lists → (y : Call) (input i : List ℕ) (top : Top) → Counted (begun_turn s y input i top).session.books.lists
begun_counted s h y input i top = (begun_fact ⊥ s (counted s h) y input i top (all_loud y)).0

pub call_counted : (s : Session) (y : Call) (input i out : List ℕ) (top : Top) → Counted s.books.lists → Counted (call_of s y input i out top).session.books.lists
call_counted s y input i out top h = (call_fact ⊥ s y input i out top (all_loud y) (counted s h)).0
