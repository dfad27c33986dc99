-- What the machine's plans keep: between two calls nothing is under way; a closing has no buffer in hand until it frees, and a closing that frees does not say kept.
use Rattle.std.specs.Prelude.{Option, Some, None, Ok, Err}
use Prim.Native.Nat.{ℕ, zero, suc, ◌-◌}
use mathlib.Core.Bool.{Bool, true, false}
use mathlib.Core.List.{List}
use mathlib.Core.Path.{◌≡◌}
use lib.Dec.{eqb, leb, ltb}
use lib.ListN.{length}
use Rattle.std.specs.Prelude.{Result, Ok, Err}
use Rattle.fields.specs.Outcome.{Outcome, value, refused, pick}
use Rattle.dma.specs.Buffers.{pages_for}
use Rattle.dma.specs.PageList.{listed_of}
use Rattle.dma.specs.declared.Buffer.{Buffer}
use Rattle.dma.specs.declared.Cutter.{Cutter}
use Rattle.dma.specs.declared.Listed.{Listed}
use Rattle.hcr.specs.Words.{is_reserved}
use Rattle.pci.specs.declared.Refusal.{Refusal}
use Rattle.pci.specs.declared.Answer.{Answer}
use Rattle.pci.specs.Views.{dword_of}
use Rattle.pci.specs.declared.NoReply.{NoReply}
use Rattle.pci.specs.declared.NoReply.TheVariants.{Failed, Wrong}
use Rattle.command.specs.Machine.{cmd_step_of}
use Rattle.command.specs.declared.CmdResult.{CmdResult}
use Rattle.command.specs.declared.CmdStep.{CmdStep}
use Rattle.command.specs.declared.CmdStep.TheVariants as cs
use Rattle.reset.specs.Reset.{is_good}
use Rattle.reset.specs.Steps.{reset_step_of}
use Rattle.reset.specs.declared.Reset.{Reset}
use Rattle.reset.specs.declared.ResetEnd.{ResetEnd}
use Rattle.reset.specs.declared.Ending.{Ending as ResetEnding}
use Rattle.reset.specs.declared.Ending.TheVariants as rg
use Rattle.buffer.specs.Buffer.{by_outcome}
use Rattle.buffer.specs.declared.Made.{Made}
use Rattle.buffer.specs.declared.Made.TheVariants as m
use Rattle.buffer.specs.declared.MakePhase.{MakePhase}
use Rattle.buffer.specs.declared.MakePhase.TheVariants as mp
use Rattle.tasks.specs.Parting.{part_step_of}
use Rattle.tasks.specs.declared.PartingStep.{PartingStep}
use Rattle.tasks.specs.declared.PartingStep.TheVariants as ps
use Rattle.tasks.specs.declared.Attributes.{Attributes}
use Rattle.tasks.specs.declared.Attributes.TheVariants as at
use Rattle.tasks.specs.Attributes.{attr_step_of}
use Rattle.tasks.specs.declared.AttrStep.{AttrStep}
use Rattle.tasks.specs.declared.AttrStep.TheVariants as ats
use Rattle.tasks.specs.Claim.{claim_step_of}
use Rattle.tasks.specs.declared.ClaimStep.{ClaimStep}
use Rattle.tasks.specs.declared.ClaimStep.TheVariants as ls
use Rattle.tasks.specs.declared.Claimed.{Claimed}
use Rattle.tasks.specs.declared.Claimed.TheVariants as l
use Rattle.uar.specs.Steps.{bar_step_of}
use Rattle.uar.specs.declared.FindBar.{FindBar}
use Rattle.uar.specs.Uar.{Found}
use Rattle.uar.specs.declared.NotFound.TheVariants as u
use Rattle.reply.specs.declared.DevCap.{DevCap}
use Rattle.reply.specs.declared.FwInfo.{FwInfo}
use Rattle.reply.specs.declared.FuncInfo.{FuncInfo}
use Rattle.reply.specs.declared.PortInfo.{PortInfo}
use Rattle.reply.specs.Capability.{capability_of}
use Rattle.reply.specs.Replies.{query_fw_of, query_port_of, query_func_of}
use Rattle.layout.specs.Counts.{profile_of}
use Rattle.layout.specs.declared.Layout.{Layout}
use Rattle.work.specs.Work.{work_step_of, task_step, attr_work, claim_work, bar_on, look_step, cmd_work, part_work, reset_on}
use Rattle.work.specs.declared.Task.{Task}
use Rattle.work.specs.declared.Task.TheVariants as t
use Rattle.work.specs.declared.Work.{Work}
use Rattle.work.specs.declared.End.{End}
use Rattle.work.specs.declared.Ending.{Ending}
use Rattle.work.specs.declared.Ending.TheVariants as e
use Rattle.session.specs.Failures.{made_in, needs_reset, fault_of}
use Rattle.session.specs.Session.{session, took_of, silenced_of, slot_at, is_held, fa_of, aux_of}
use Rattle.session.specs.declared.Top.{Top}
use Rattle.session.specs.declared.Books.{Books}
use Rattle.session.specs.declared.Info.{Info}
use Rattle.session.specs.declared.Area.{Area}
use Rattle.session.specs.declared.Area.TheVariants as a
use Rattle.session.specs.declared.Stage.{Stage}
use Rattle.session.specs.declared.Stage.TheVariants as g
use Rattle.session.specs.declared.Prepare.{Prepare}
use Rattle.session.specs.declared.Prepare.TheVariants as p
use Rattle.session.specs.declared.Boot.{Boot}
use Rattle.session.specs.declared.Boot.TheVariants as b
use Rattle.session.specs.declared.Client.{Client}
use Rattle.session.specs.declared.Client.TheVariants as kc
use Rattle.session.specs.declared.Close.{Close}
use Rattle.session.specs.declared.Close.TheVariants as k
use Rattle.session.specs.declared.Failure.{Failure}
use Rattle.session.specs.declared.Closing.{Closing}
use Rattle.session.specs.declared.Closing.TheVariants as c
use Rattle.session.specs.declared.Fill.{Fill}
use Rattle.session.specs.declared.Fill.TheVariants as w
use Rattle.session.specs.declared.Session.{Session}
use Rattle.session.specs.declared.Planned.{Planned}
use Rattle.closing_plan.specs.Closing.{is_done, UNDOS}
use Rattle.closing_plan.specs.Plan.{cmd_in, reset_in, frees_plan, failed_plan, stopped_plan, unmap_fa_plan, unmap_aux_plan, unmap_plan, close_hca_plan, undo_send, undo_plan, stop_plan, quiesce_plan, closes_of, was_reset, close_plan_at, close_plan}
use Rattle.client_plan.specs.Plan as cl
use Rattle.client_plan.specs.Plan.{command_plan, lend_plan, lend_ended, client_plan_at, client_plan}
use Rattle.client_plan.specs.declared.Request.{Request}
use Rattle.opening_plan.specs.Opening.{ports_of}
use Rattle.opening_plan.specs.Plan as n
use Rattle.opening_plan.specs.Plan.{attr_in, claim_in, bar_in, fail_plan, fail_by_plan, func_plan, make_plan, next_range, mapped_plan, map_plan, area_plan, layout_plan, port_plan, fw_replied, cap_replied, port_replied, func_replied, boot_plan_at, boot_plan, prepare_plan_at, prepare_plan, lists_at, lists_boot, lists}
use Rattle.fw_plan.specs.Calls.{booked_of, plan_of, with_work, filled, begun_of, step_turn, step_of}
use Rattle.calls_plan.specs.Calls.{without_failure, ready_in, plan_for, begun_turn}
use Rattle.calls_plan.specs.declared.Call.{Call}
use Rattle.calls_plan.specs.declared.Call.TheVariants as kn
use Rattle.card_calls.proofs.Closing.{clean_differs, reset_differs}

-- a task that asks nothing of the host
abbrev pub NoHost : Task → Type 0
NoHost t.Rest = Unit {0}
NoHost (t.Attr x) = Unit {0}
NoHost (t.Claim x) = Unit {0}
NoHost t.Reset = Unit {0}
NoHost t.Bar = Unit {0}
NoHost (t.Make x) = ⊥
NoHost (t.Free x) = ⊥
NoHost t.Look = Unit {0}
NoHost (t.Cmd x) = Unit {0}
NoHost (t.Part x) = Unit {0}

abbrev pub IsRest : Task → Type 0
IsRest t.Rest = Unit {0}
IsRest (t.Attr x) = ⊥
IsRest (t.Claim x) = ⊥
IsRest t.Reset = ⊥
IsRest t.Bar = ⊥
IsRest (t.Make x) = ⊥
IsRest (t.Free x) = ⊥
IsRest t.Look = ⊥
IsRest (t.Cmd x) = ⊥
IsRest (t.Part x) = ⊥

-- a task at its start that asks nothing back of the host
abbrev pub StartsAt : MakePhase → Type 0
StartsAt mp.Allocate = Unit {0}
StartsAt (mp.Map h) = ⊥
StartsAt (mp.Unmap h x) = ⊥
StartsAt (mp.Free h x) = ⊥

abbrev pub Starts : Task → Type 0
Starts t.Rest = Unit {0}
Starts (t.Attr x) = Unit {0}
Starts (t.Claim x) = Unit {0}
Starts t.Reset = Unit {0}
Starts t.Bar = Unit {0}
Starts (t.Make x) = StartsAt x.phase
Starts (t.Free x) = ⊥
Starts t.Look = Unit {0}
Starts (t.Cmd x) = Unit {0}
Starts (t.Part x) = Unit {0}

abbrev pub FitClose : Close → Closing → Task → Type 0
FitClose (k.Undo i) z x = NoHost x
FitClose k.CloseHca z x = NoHost x
FitClose (k.Unmap i) z x = NoHost x
FitClose k.UnmapAux z x = NoHost x
FitClose k.UnmapFa z x = NoHost x
FitClose k.Quiesce z x = NoHost x
FitClose k.Reset z x = NoHost x
FitClose (k.Free i) z x = z ≡ c.Kept → ⊥
FitClose k.Release z x = NoHost x
FitClose k.Restore z x = NoHost x

-- what is so of the host when the closing began, `E`: it stands until a closing frees, and to the end of one that keeps
abbrev pub HeldClose : Close → Closing → Type 0 → Type 0
HeldClose (k.Undo i) z E = E
HeldClose k.CloseHca z E = E
HeldClose (k.Unmap i) z E = E
HeldClose k.UnmapAux z E = E
HeldClose k.UnmapFa z E = E
HeldClose k.Quiesce z E = E
HeldClose k.Reset z E = E
HeldClose (k.Free i) z E = Unit {0}
HeldClose k.Release z E = z ≡ c.Kept → E
HeldClose k.Restore z E = z ≡ c.Kept → E

abbrev pub HeldAt : Stage → Closing → Type 0 → Type 0
HeldAt g.Fresh z E = Unit {0}
HeldAt (g.Open y) z E = Unit {0}
HeldAt g.Ended z E = z ≡ c.Kept → E
HeldAt (g.Prepare y) z E = Unit {0}
HeldAt (g.Boot y) z E = Unit {0}
HeldAt (g.Client y) z E = Unit {0}
HeldAt (g.Close y) z E = HeldClose y z E

-- it stands wherever it is so
held_close : (y : Close) (z : Closing) (E : Type 0) → E → HeldClose y z E
held_close (k.Undo i) z E x = x
held_close k.CloseHca z E x = x
held_close (k.Unmap i) z E x = x
held_close k.UnmapAux z E x = x
held_close k.UnmapFa z E x = x
held_close k.Quiesce z E x = x
held_close k.Reset z E x = x
held_close (k.Free i) z E x = tt
held_close k.Release z E x = λ e. x
held_close k.Restore z E x = λ e. x

pub held_all : (st : Stage) (z : Closing) (E : Type 0) → E → HeldAt st z E
held_all g.Fresh z E x = tt
held_all (g.Open y) z E x = tt
held_all g.Ended z E x = λ e. x
held_all (g.Prepare y) z E x = tt
held_all (g.Boot y) z E x = tt
held_all (g.Client y) z E x = tt
held_all (g.Close y) z E x = held_close y z E x

by_outcome_lem : (P : Planned → Type 0) (v : Outcome ℕ) (y : ℕ → Planned) (z : Planned) → ((i : ℕ) → P (y i)) → P z → P (by_outcome v y z)
by_outcome_lem P (value i) y z h d = h i
by_outcome_lem P (refused i vs) y z h d = d

held_in : (y : Planned) (E : Type 0) → E → HeldAt y.session.stage y.session.closing E
held_in y E x = held_all y.session.stage y.session.closing E x

-- A STEP. A task that asks nothing of the host goes on as one
attr_going : (v : Work) (x : AttrStep) → NoHost (attr_work v x).work.task
attr_going v (ats.More x) = tt
attr_going v (ats.Ended x) = tt

claim_going : (v : Work) (x : ClaimStep) → NoHost (claim_work v x).work.task
claim_going v (ls.More x) = tt
claim_going v (ls.Ended x) = tt

reset_going : (v : Work) (x : Reset) (y : ResetEnding) → NoHost (reset_on v x y).work.task
reset_going v x rg.Going = tt
reset_going v x (rg.Ended z) = tt

bar_going : (v : Work) (x : FindBar) (y : Option Found) → NoHost (bar_on v x y).work.task
bar_going v x None = tt
bar_going v x (Some z) = tt

look_going : (v : Work) (x : Result ℕ NoReply) → NoHost (look_step v x).work.task
look_going v (Ok x) = tt
look_going v (Err Failed) = tt
look_going v (Err Wrong) = tt

cmd_going : (v : Work) (x : CmdStep) → NoHost (cmd_work v x).work.task
cmd_going v (cs.More x) = tt
cmd_going v (cs.Ended x) = tt

part_going : (v : Work) (x : PartingStep) → NoHost (part_work v x).work.task
part_going v (ps.More x) = tt
part_going v ps.Ended = tt

pub task_going : (v : Work) (r : Answer) (bytes : List ℕ) (x : Task) → NoHost x → NoHost (task_step v r bytes x).work.task
task_going v r bytes t.Rest h = tt
task_going v r bytes (t.Attr x) h = attr_going v (attr_step_of x r)
task_going v r bytes (t.Claim x) h = claim_going v (claim_step_of x r)
task_going v r bytes t.Reset h = reset_going v (reset_step_of v.reset r).reset (reset_step_of v.reset r).ending
task_going v r bytes t.Bar h = bar_going v (bar_step_of v.find r bytes).find (bar_step_of v.find r bytes).ending
task_going v r bytes (t.Make x) h = absurd h
task_going v r bytes (t.Free x) h = absurd h
task_going v r bytes t.Look h = look_going v (dword_of r)
task_going v r bytes (t.Cmd x) h = cmd_going v (cmd_step_of x r)
task_going v r bytes (t.Part x) h = part_going v (part_step_of x r)

fit_going : (y : Close) (z : Closing) (x x' : Task) → (NoHost x → NoHost x') → FitClose y z x → FitClose y z x'
fit_going (k.Undo i) z x x' f h = f h
fit_going k.CloseHca z x x' f h = f h
fit_going (k.Unmap i) z x x' f h = f h
fit_going k.UnmapAux z x x' f h = f h
fit_going k.UnmapFa z x x' f h = f h
fit_going k.Quiesce z x x' f h = f h
fit_going k.Reset z x x' f h = f h
fit_going (k.Free i) z x x' f h = h
fit_going k.Release z x x' f h = f h
fit_going k.Restore z x x' f h = f h

-- what is known before a step: N in an opening, whose closing has not begun; E in a closing
abbrev pub Known : Stage → Closing → (N E : Type 0) → Type 0
Known g.Fresh z N E = ⊥
Known (g.Open y) z N E = ⊥
Known g.Ended z N E = ⊥
Known (g.Prepare y) z N E = N
Known (g.Boot y) z N E = N
Known (g.Client y) z N E = Unit {0}
Known (g.Close y) z N E = HeldClose y z E

-- E becomes F: where nothing changes, and where the task asks nothing of the host
pub held_map : (st : Stage) (z : Closing) (E F : Type 0) → (E → F) → HeldAt st z E → HeldAt st z F
held_map g.Fresh z E F f h = tt
held_map (g.Open y) z E F f h = tt
held_map g.Ended z E F f h = λ q. f (h q)
held_map (g.Prepare y) z E F f h = tt
held_map (g.Boot y) z E F f h = tt
held_map (g.Client y) z E F f h = tt
held_map (g.Close y) z E F f h = close-map y z E F f h
  where
    close-map : (y : Close) (z : Closing) (E F : Type 0) → (E → F) → HeldClose y z E → HeldClose y z F
    close-map (k.Undo i) z E F f h = f h
    close-map k.CloseHca z E F f h = f h
    close-map (k.Unmap i) z E F f h = f h
    close-map k.UnmapAux z E F f h = f h
    close-map k.UnmapFa z E F f h = f h
    close-map k.Quiesce z E F f h = f h
    close-map k.Reset z E F f h = f h
    close-map (k.Free i) z E F f h = tt
    close-map k.Release z E F f h = λ q. f (h q)
    close-map k.Restore z E F f h = λ q. f (h q)

pub held_step : (y : Close) (z : Closing) (x : Task) (E F : Type 0) → (NoHost x → E → F) → FitClose y z x → HeldClose y z E → HeldClose y z F
held_step (k.Undo i) z x E F f q h = f q h
held_step k.CloseHca z x E F f q h = f q h
held_step (k.Unmap i) z x E F f q h = f q h
held_step k.UnmapAux z x E F f q h = f q h
held_step k.UnmapFa z x E F f q h = f q h
held_step k.Quiesce z x E F f q h = f q h
held_step k.Reset z x E F f q h = f q h
held_step (k.Free i) z x E F f q h = tt
held_step k.Release z x E F f q h = λ r. f q (h r)
held_step k.Restore z x E F f q h = λ r. f q (h r)

-- WHAT THE PLANS KEEP, with facts that must be so: C where a client's call is under way, P and D in an opening, D in a closing; and T of an opening's task
abbrev pub Fit : (C P D : Type 0) → (Task → Type 0) → Stage → Closing → Task → Type 0
Fit C P D T g.Fresh z x = IsRest x
Fit C P D T (g.Open y) z x = IsRest x
Fit C P D T g.Ended z x = IsRest x
Fit C P D T (g.Prepare y) z x = P × D × T x
Fit C P D T (g.Boot y) z x = P × D × T x
Fit C P D T (g.Client y) z x = C
Fit C P D T (g.Close y) z x = D × FitClose y z x

module _ (C P D : Type 0) (T : Task → Type 0) where
  abbrev pub Suited : Session → Type 0
  Suited s = Fit C P D T s.stage s.closing s.work.task

  abbrev Lawful : Planned → Type 0
  Lawful y = Suited y.session

  lawful_pick : (x : Bool) (y z : Planned) → Lawful y → Lawful z → Lawful (pick x y z)
  lawful_pick true y z h k = h
  lawful_pick false y z h k = k

  -- FREEING: the stage frees or parts, and what the closing says stays
  abbrev Frees : Type 0 → Planned → Type 0
  Frees E y = Suited y.session × HeldAt y.session.stage y.session.closing E

  frees_pick : (E : Type 0) (x : Bool) (y z : Planned) → Frees E y → Frees E z → Frees E (pick x y z)
  frees_pick E true y z h k = h
  frees_pick E false y z h k = k

  module _ (on : D) where
    freed : (E : Type 0) (m i : ℕ) (s : Session) → (s.closing ≡ c.Kept → ⊥) → (n : ℕ) → Frees E (frees_plan m i s n)
    unfolding frees_plan
    freed E zero i s free n = ((on, tt), λ e. absurd (free e))
    freed E (suc m) i s free n = frees_pick E (is_held (slot_at s.books.lists.slots i)) _ _ ((on, free), tt) (freed E m (suc i) s free n)

    -- CLOSING
    failed-suited : (s : Session) (n : ℕ) → Lawful (failed_plan s n)
    unfolding failed_plan
    failed-suited s n = lawful_pick s.books.wire.silent _ _ (on, tt) (on, tt)

    stopped-suited : (s : Session) (n : ℕ) → Lawful (stopped_plan s n)
    unfolding stopped_plan
    stopped-suited s n =
        lawful_pick s.books.wire.silent _ _ (on, tt) (lawful_pick s.books.wire.running _ _ (on, tt) (freed (Unit {0}) 82 0 (closes_of s c.Clean s.books) clean_differs n).0)

    fa-suited : (s : Session) (n : ℕ) → Lawful (unmap_fa_plan s n)
    unfolding unmap_fa_plan
    fa-suited s n = lawful_pick (is_held (fa_of s.books)) _ _ (on, tt) (stopped-suited s n)

    aux-suited : (s : Session) (n : ℕ) → Lawful (unmap_aux_plan s n)
    unfolding unmap_aux_plan
    aux-suited s n = lawful_pick (is_held (aux_of s.books)) _ _ (on, tt) (fa-suited s n)

    unmap-suited : (s : Session) (i n : ℕ) → Lawful (unmap_plan s i n)
    unfolding unmap_plan
    unmap-suited s zero n = aux-suited s n
    unmap-suited s (suc i) n = (on, tt)

    hca-suited : (s : Session) (n : ℕ) → Lawful (close_hca_plan s n)
    unfolding close_hca_plan
    hca-suited s n = lawful_pick s.books.started _ _ (on, tt) (unmap-suited s s.books.lists.ranges n)

    undo_sent : (s : Session) (i : ℕ) (y : Top) → Lawful (undo_send s i y)
    undo_sent s zero y = failed-suited s y.count
    undo_sent s (suc i) y = lawful_pick (is_reserved y.op) _ _ (failed-suited s y.count) (on, tt)

    undo-suited : (s : Session) (i : ℕ) (y : Top) → Lawful (undo_plan s i y)
    unfolding undo_plan
    undo-suited s i y = lawful_pick (eqb y.count 0) _ _ (hca-suited s y.count) (undo_sent s i y)

    pub stop-suited : (s : Session) (y : Top) → Lawful (stop_plan s y)
    unfolding stop_plan
    stop-suited s y = lawful_pick s.books.wire.broken _ _ (on, tt) (undo-suited s UNDOS y)

    pub quiesce-suited : (s : Session) (y : Top) → Lawful (quiesce_plan s y)
    unfolding quiesce_plan
    quiesce-suited s y = lawful_pick s.books.wire.broken _ _ (on, tt) (undo-suited (silenced_of s) UNDOS y)

    reset-suited : (s : Session) (x : ResetEnd) (n : ℕ) → Lawful (was_reset s x n)
    reset-suited s x n = lawful_pick (is_good x) _ _ (freed (Unit {0}) 82 0 (closes_of s c.Reset s.books) reset_differs n).0 (on, tt)

    -- a task of a closing has ended
    close-lawful : (E : Type 0) (s : Session) (y : End) (top : Top) (st : Close) (x : Task) → FitClose st s.closing x → HeldClose st s.closing E → Frees E (close_plan_at s y top st)
    close-lawful E s y top (k.Undo i) x h d = (lawful_pick (is_done (cmd_in y).result) _ _ (undo-suited (took_of s (cmd_in y)) i top) (failed-suited (took_of s (cmd_in y)) top.count), held_in (close_plan_at s y top (k.Undo i)) E d)
    close-lawful E s y top k.CloseHca x h d = (lawful_pick (is_done (cmd_in y).result) _ _ (unmap-suited (took_of s (cmd_in y)) s.books.lists.ranges top.count) (failed-suited (took_of s (cmd_in y)) top.count), held_in (close_plan_at s y top k.CloseHca) E d)
    close-lawful E s y top (k.Unmap i) x h d = (lawful_pick (is_done (cmd_in y).result) _ _ (unmap-suited (took_of s (cmd_in y)) i top.count) (failed-suited (took_of s (cmd_in y)) top.count), held_in (close_plan_at s y top (k.Unmap i)) E d)
    close-lawful E s y top k.UnmapAux x h d = (lawful_pick (is_done (cmd_in y).result) _ _ (fa-suited (took_of s (cmd_in y)) top.count) (failed-suited (took_of s (cmd_in y)) top.count), held_in (close_plan_at s y top k.UnmapAux) E d)
    close-lawful E s y top k.UnmapFa x h d = (lawful_pick (is_done (cmd_in y).result) _ _ (stopped-suited (took_of s (cmd_in y)) top.count) (failed-suited (took_of s (cmd_in y)) top.count), held_in (close_plan_at s y top k.UnmapFa) E d)
    close-lawful E s y top k.Quiesce x h d = (tt, tt)
    close-lawful E s y top k.Reset x h d = (reset-suited s (reset_in y) top.count, held_in (close_plan_at s y top k.Reset) E d)
    close-lawful E s y top (k.Free i) x h d = freed E (81 - i) (suc i) s h top.count
    close-lawful E s y top k.Release x h d = ((on, tt), d)
    close-lawful E s y top k.Restore x h d = (tt, d)

  -- A CLIENT'S CALL leads to the open session, or on to another task of the call
  module _ (E : Type 0) (so : C) (s : Session) where
    pub command-begins : (y : Request) (n : ℕ) → Frees E (command_plan s y n)
    unfolding command_plan
    command-begins y n = (so, tt)

    pub lend-begins : (bytes n : ℕ) → Frees E (lend_plan s bytes n)
    unfolding lend_plan
    lend-begins bytes n = by_outcome_lem (Frees E) (pages_for bytes) _ _ (λ i. (so, tt)) (tt, tt)

    lend_ended_lem : (i : ℕ) (y : Made) (n : ℕ) → Frees E (lend_ended s i y n)
    lend_ended_lem i (m.Ready y) n = (tt, tt)
    lend_ended_lem i (m.Refused y) n = (tt, tt)

    client_undo : (mark i : ℕ) (y : Top) → Frees E (cl.undo_send s mark i y)
    client_undo mark zero y = (tt, tt)
    client_undo mark (suc i) y = frees_pick E (is_reserved y.op) _ _ (tt, tt) (so, tt)

    pub undo-begins : (mark i : ℕ) (y : Top) → Frees E (cl.undo_plan s mark i y)
    unfolding cl.undo_plan
    undo-begins mark i y = frees_pick E (leb y.count mark) _ _ (tt, tt) (frees_pick E s.books.wire.broken _ _ (tt, tt) (client_undo mark i y))

  client_lawful : (E : Type 0) → C → (s : Session) (y : End) (top : Top) (st : Client) → Frees E (client_plan_at s y top st)
  client_lawful E so s y top (kc.Command f) = (tt, tt)
  client_lawful E so s y top (kc.Lend i) = lend_ended_lem E so s i (made_in y) top.count
  client_lawful E so s y top (kc.UndoTo mark i) = frees_pick E (is_done (cmd_in y).result) _ _ (undo-begins E so (took_of s (cmd_in y)) mark i top) (tt, tt)

  module _ (op : P × D) (begins : (x : Task) → Starts x → T x) where
    on : (x : Task) → Starts x → P × D × T x
    on x h = (op.0, op.1, begins x h)

    -- OPENING
    fail-suited : (s : Session) (y : Refusal) (top : Top) → Lawful (fail_plan s y top)
    unfolding fail_plan
    fail-suited s y top = stop-suited op.1 (n.with_failure s y) top

    fail-by-suited : (s : Session) (y : CmdResult) (top : Top) → Lawful (fail_by_plan s y top)
    unfolding fail_by_plan
    fail-by-suited s y top = fail-suited _ _ top

    make-suited : (s : Session) (x : Area) (bytes : ℕ) (top : Top) → Lawful (make_plan s x bytes top)
    unfolding make_plan
    make-suited s x bytes top = by_outcome_lem Lawful (pages_for bytes) _ _ (λ i. on _ tt) (fail-suited s _ top)

    func-suited : (s : Session) (top : Top) → Lawful (func_plan s top)
    unfolding func_plan
    func-suited s top = lawful_pick (eqb s.info.cap.num_sys_eqs 0) _ _ (on _ tt) (on _ tt)

    range-suited : (s : Session) (i : ℕ) (top : Top) → Lawful (next_range s i top)
    unfolding next_range
    range-suited s i top = lawful_pick (ltb i 13) _ _ (make-suited s _ _ top) (on _ tt)

    mapped-suited : (s : Session) (x : Area) (top : Top) → Lawful (mapped_plan s x top)
    unfolding mapped_plan
    mapped-suited s a.Fa top = on _ tt
    mapped-suited s a.Aux top = make-suited s _ _ top
    mapped-suited s (a.Range i) top = range-suited s i top

    map-suited : (s : Session) (x : Area) (y : Cutter) (top : Top) → Lawful (map_plan s x y top)
    unfolding map_plan
    map-suited s x y top = lawful_pick (eqb y.left 0) _ _ (mapped-suited s x top) (on _ tt)

    area-suited : (s : Session) (x : Area) (y : Made) (top : Top) → Lawful (area_plan s x y top)
    area-suited s x (m.Ready y) top = map-suited _ x _ top
    area-suited s x (m.Refused y) top = fail-suited s _ top

    layout-suited : (s : Session) (y : Outcome Layout) (top : Top) → Lawful (layout_plan s y top)
    unfolding layout_plan
    layout-suited s (value y) top = on _ tt
    layout-suited s (refused i vs) top = fail-suited s _ top

    port-suited : (s : Session) (i : ℕ) (top : Top) → Lawful (port_plan s i top)
    unfolding port_plan
    port-suited s i top = lawful_pick (ltb i (ports_of s.info)) _ _ (on _ tt) (layout-suited s (profile_of s.info.cap) top)

    fw-suited : (s : Session) (y : Outcome FwInfo) (z : FwInfo) (top : Top) → Lawful (fw_replied s y z top)
    unfolding fw_replied
    fw-suited s (value y) z top = make-suited _ a.Fa _ top
    fw-suited s (refused i vs) z top = fail-suited _ _ top

    cap-suited : (s : Session) (y : Outcome DevCap) (top : Top) → Lawful (cap_replied s y top)
    unfolding cap_replied
    cap-suited s (value y) top = port-suited _ 0 top
    cap-suited s (refused i vs) top = fail-suited s _ top

    replied-suited : (s : Session) (i : ℕ) (y : Outcome PortInfo) (top : Top) → Lawful (port_replied s i y top)
    unfolding port_replied
    replied-suited s i (value y) top = port-suited _ i top
    replied-suited s i (refused j vs) top = fail-suited s _ top

    func_replied_lem : (s : Session) (y : Outcome FuncInfo) (top : Top) → Lawful (func_replied s y top)
    unfolding func_replied
    func_replied_lem s (value y) top = on _ tt
    func_replied_lem s (refused i vs) top = fail-suited s _ top

    boot-suited : (s : Session) (y : End) (out : List ℕ) (top : Top) (st : Boot) → Lawful (boot_plan_at s y out top st)
    boot-suited s y out top b.QueryFw = lawful_pick (is_done (cmd_in y).result) _ _ (fw-suited _ (query_fw_of out s.info.uar.index) _ top) (fail-suited _ _ top)
    boot-suited s y out top (b.Make x) = area-suited s x (made_in y) top
    boot-suited s y out top (b.Map x z) = lawful_pick (is_done (cmd_in y).result) _ _ (map-suited _ x z top) (fail-by-suited _ _ top)
    boot-suited s y out top b.RunFw = lawful_pick (is_done (cmd_in y).result) _ _ (on _ tt) (fail-by-suited _ _ top)
    boot-suited s y out top b.ModStat = lawful_pick (needs_reset (cmd_in y).result) _ _ (fail-by-suited _ _ top) (on _ tt)
    boot-suited s y out top b.DevCap = lawful_pick (is_done (cmd_in y).result) _ _ (cap-suited _ (capability_of out s.info.uar.size) top) (fail-by-suited _ _ top)
    boot-suited s y out top (b.Port i) = lawful_pick (is_done (cmd_in y).result) _ _ (replied-suited _ i (query_port_of out i) top) (fail-by-suited _ _ top)
    boot-suited s y out top b.IcmSize = lawful_pick (is_done (cmd_in y).result) _ _ (make-suited _ a.Aux _ top) (fail-by-suited _ _ top)
    boot-suited s y out top b.InitHca = lawful_pick (is_done (cmd_in y).result) _ _ (func-suited _ top) (fail-by-suited _ _ top)
    boot-suited s y out top b.Func = lawful_pick (is_done (cmd_in y).result) _ _ (func_replied_lem _ (query_func_of out) top) (fail-by-suited _ _ top)
    boot-suited s y out top b.Adapter = tt

    attr-suited : (s : Session) (y : Attributes) (top : Top) → Lawful (n.attr_plan s y top)
    attr-suited s (at.Enabled v) top = on _ tt
    attr-suited s at.Refused top = tt

    claim-suited : (s : Session) (y : Claimed) (top : Top) → Lawful (n.claim_plan s y top)
    claim-suited s l.Good top = on _ tt
    claim-suited s l.Refused top = (op.1, tt)

    bar-suited : (s : Session) (y : Found) (top : Top) → Lawful (n.bar_plan s y top)
    bar-suited s (Ok y) top = on _ tt
    bar-suited s (Err u.Refused) top = (op.1, tt)
    bar-suited s (Err u.BadList) top = (op.1, tt)

    in-suited : (s : Session) (y : Made) (top : Top) → Lawful (n.inbox_plan s y top)
    in-suited s (m.Ready y) top = on _ tt
    in-suited s (m.Refused y) top = (op.1, tt)

    out-suited : (s : Session) (y : Made) (top : Top) → Lawful (n.outbox_plan s y top)
    out-suited s (m.Ready y) top = on _ tt
    out-suited s (m.Refused y) top = (freed op.1 (Unit {0}) 82 0 (n.gives_up s (fault_of y) s.books) clean_differs top.count).0

    prepare-suited : (s : Session) (y : End) (top : Top) (st : Prepare) → Lawful (prepare_plan_at s y top st)
    prepare-suited s y top p.Attributes = attr-suited s (attr_in y) top
    prepare-suited s y top p.Claim = claim-suited s (claim_in y) top
    prepare-suited s y top p.Reset = lawful_pick (is_good (reset_in y)) _ _ (on _ tt) (op.1, tt)
    prepare-suited s y top p.Bar = bar-suited s (bar_in y) top
    prepare-suited s y top p.Inbox = in-suited s (made_in y) top
    prepare-suited s y top p.Outbox = out-suited s (made_in y) top
    prepare-suited s y top p.Look = on _ tt

  -- WHAT IS WRITTEN before the next question changes no stage but a page list's, which posts a command
  lists_boot_lem : ((x y : Task) → Starts y → T x → T y) → (x : Work) (d : Books) (i : Info) (f : Failure) (z : Closing) (y : Listed) (st : Boot) → P × D × T x.task → Suited (lists_boot (session (g.Boot st) x d i f z) y st)
  lists_boot_lem again x d i f z y b.QueryFw op = op
  lists_boot_lem again x d i f z y (b.Make v) op = op
  lists_boot_lem again x d i f z y (b.Map v r) op = (op.0, op.1, again x.task _ tt op.2)
  lists_boot_lem again x d i f z y b.RunFw op = op
  lists_boot_lem again x d i f z y b.ModStat op = op
  lists_boot_lem again x d i f z y b.DevCap op = op
  lists_boot_lem again x d i f z y (b.Port v) op = op
  lists_boot_lem again x d i f z y b.IcmSize op = op
  lists_boot_lem again x d i f z y b.InitHca op = op
  lists_boot_lem again x d i f z y b.Func op = op
  lists_boot_lem again x d i f z y b.Adapter op = op

  -- one more fact that goes with it, E: it stands where it stood
  abbrev pub Both : Type 0 → Session → Type 0
  Both E s = Suited s × HeldAt s.stage s.closing E

  lists_held : (E : Type 0) (x : Work) (d : Books) (i : Info) (f : Failure) (z : Closing) (y : Listed) (st : Boot) → HeldAt (lists_boot (session (g.Boot st) x d i f z) y st).stage (lists_boot (session (g.Boot st) x d i f z) y st).closing E
  lists_held E x d i f z y b.QueryFw = tt
  lists_held E x d i f z y (b.Make v) = tt
  lists_held E x d i f z y (b.Map v r) = tt
  lists_held E x d i f z y b.RunFw = tt
  lists_held E x d i f z y b.ModStat = tt
  lists_held E x d i f z y b.DevCap = tt
  lists_held E x d i f z y (b.Port v) = tt
  lists_held E x d i f z y b.IcmSize = tt
  lists_held E x d i f z y b.InitHca = tt
  lists_held E x d i f z y b.Func = tt
  lists_held E x d i f z y b.Adapter = tt

  module _ (again : (x y : Task) → Starts y → T x → T y) where
    lists-both : (E : Type 0) (st : Stage) (x : Work) (d : Books) (i : Info) (f : Failure) (z : Closing) (y : Listed) → Both E (session st x d i f z) → Both E (lists_at (session st x d i f z) y st)
    lists-both E g.Fresh x d i f z y h = h
    lists-both E (g.Open v) x d i f z y h = h
    lists-both E g.Ended x d i f z y h = h
    lists-both E (g.Prepare v) x d i f z y h = h
    lists-both E (g.Boot v) x d i f z y h = (lists_boot_lem again x d i f z y v h.0, lists_held E x d i f z y v)
    lists-both E (g.Client v) x d i f z y h = h
    lists-both E (g.Close v) x d i f z y h = h

    pick-both : (E : Type 0) (x : Bool) (y z : Session) → Both E y → Both E z → Both E (pick x y z)
    pick-both E true y z h d = h
    pick-both E false y z h d = d

    filled-both : (E : Type 0) (x : Fill) (s : Session) (i : List ℕ) → Both E s → Both E (filled x s i)
    filled-both E w.Nothing s i h = h
    filled-both E w.Outbox s i h = h
    filled-both E (w.List v) s i h =
        pick-both E (eqb (length i) 4096) (lists s (listed_of 63 256 v)) s (lists-both E s.stage s.work s.books s.info s.failure s.closing (listed_of 63 256 v) h) h
    filled-both E w.ModStat s i h = h
    filled-both E w.InitHca s i h = h

    module _ (E : Type 0) (d : Books) (j : Info) (f : Failure) (z : Closing) (v : Work) (r : Answer) (bytes i out : List ℕ) (top : Top) where
      abbrev was : Stage → Session
      was st = session st v d j f z

      ended : (st : Stage) (x : Work) (y : End) → Frees E (plan_of (with_work (was st) x) y out top) → Both E (begun_of (plan_of (with_work (was st) x) y out top) i).session
      ended st x y h = filled-both E (plan_of (with_work (was st) x) y out top).fill (plan_of (with_work (was st) x) y out top).session i h

      module _ (N : Type 0) (so : N → E) (begins : N → (x : Task) → Starts x → T x) where
        by-prepare : (st : Prepare) (x : Work) (n : Ending) → P × D → (N → T x.task) → N → Both E (step_turn (was (g.Prepare st)) r x i out top n).session
        unfolding prepare_plan
        by-prepare st x e.Going op f h = ((op.0, op.1, f h), tt)
        by-prepare st x (e.Ended y) op f h =
            ended (g.Prepare st) x y (prepare-suited op (begins h) (with_work (was (g.Prepare st)) x) y top st, held_in (prepare_plan_at (with_work (was (g.Prepare st)) x) y top st) E (so h))

        by-boot : (st : Boot) (x : Work) (n : Ending) → P × D → (N → T x.task) → N → Both E (step_turn (was (g.Boot st)) r x i out top n).session
        unfolding boot_plan
        by-boot st x e.Going op f h = ((op.0, op.1, f h), tt)
        by-boot st x (e.Ended y) op f h =
            ended (g.Boot st) x y (boot-suited op (begins h) (with_work (was (g.Boot st)) x) y out top st, held_in (boot_plan_at (with_work (was (g.Boot st)) x) y out top st) E (so h))

      by-client : (st : Client) (x : Work) (n : Ending) → C → Both E (step_turn (was (g.Client st)) r x i out top n).session
      unfolding client_plan
      by-client st x e.Going h = (h, tt)
      by-client st x (e.Ended y) h = ended (g.Client st) x y (client_lawful E h (with_work (was (g.Client st)) x) y top st)

      by-close : (st : Close) (x : Work) (n : Ending) → D × FitClose st z v.task → (NoHost v.task → NoHost x.task) → HeldClose st z E → Both E (step_turn (was (g.Close st)) r x i out top n).session
      unfolding close_plan
      by-close st x e.Going q m h = ((q.0, fit_going st z v.task x.task m q.1), h)
      by-close st x (e.Ended y) q m h = ended (g.Close st) x y (close-lawful q.0 E (with_work (was (g.Close st)) x) y top st v.task q.1 h)

      by_stage : (N : Type 0) → (N → E) → (N → (x : Task) → Starts x → T x) → (N → T (work_step_of v r bytes).work.task) → (S : Task → Type 0) (st : Stage) → Fit C P D S st z v.task
          → Known st z N E → Both E (step_turn (was st) r (work_step_of v r bytes).work i out top (work_step_of v r bytes).ending).session
      by_stage N so begins f S g.Fresh q h = absurd h
      by_stage N so begins f S (g.Open y) q h = absurd h
      by_stage N so begins f S g.Ended q h = absurd h
      by_stage N so begins f S (g.Prepare st) q h = by-prepare N so begins st (work_step_of v r bytes).work (work_step_of v r bytes).ending (q.0, q.1) f h
      by_stage N so begins f S (g.Boot st) q h = by-boot N so begins st (work_step_of v r bytes).work (work_step_of v r bytes).ending (q.0, q.1) f h
      by_stage N so begins f S (g.Client st) q h = by-client st (work_step_of v r bytes).work (work_step_of v r bytes).ending q
      by_stage N so begins f S (g.Close st) q h = by-close st (work_step_of v r bytes).work (work_step_of v r bytes).ending q (λ m. task_going v r bytes v.task m) h

    pub step_both : (N E : Type 0) → (N → E) → (N → (x : Task) → Starts x → T x) → (s : Session) (r : Answer) (bytes i out : List ℕ) (top : Top) → (N → T (work_step_of s.work r bytes).work.task) → (S : Task → Type 0)
        → Fit C P D S s.stage s.closing s.work.task → Known s.stage s.closing N E → Both E (step_of s r bytes i out top).session
    unfolding step_of
    step_both N E so begins s r bytes i out top f S q h = by_stage E (booked_of s r).books s.info s.failure s.closing s.work r bytes i out top N so begins f S s.stage q h

    -- A CALL BEGINS: what is needed of it
    abbrev pub Needed : Call → Type 0
    Needed kn.Open = P × D × ((x : Task) → Starts x → T x)
    Needed (kn.Command y) = C
    Needed (kn.Lend bytes) = C
    Needed (kn.UndoTo mark y) = C
    Needed kn.Quiesce = D
    Needed kn.Close = D

    begun-frees : (E : Type 0) (y : Call) (s : Session) (top : Top) → Needed y → E → Frees E (plan_for s y top)
    begun-frees E kn.Open s top h d = ((h.0, h.1, h.2 _ tt), tt)
    begun-frees E (kn.Command y) s top h d = command-begins E h s y top.count
    begun-frees E (kn.Lend bytes) s top h d = lend-begins E h s bytes top.count
    begun-frees E (kn.UndoTo mark y) s top h d = undo-begins E h s mark UNDOS top
    begun-frees E kn.Quiesce s top h d = (quiesce-suited h s top, held_in (quiesce_plan s top) E d)
    begun-frees E kn.Close s top h d = (stop-suited h (without_failure s) top, held_in (stop_plan (without_failure s) top) E d)

    pub begun-both : (E : Type 0) (y : Call) (s : Session) (input i : List ℕ) (top : Top) → Needed y → E → Both E (begun_turn s y input i top).session
    unfolding begun_turn
    begun-both E y s input i top h d = filled-both E (plan_for s y top).fill (plan_for s y top).session (ready_in y input i) (begun-frees E y s top h d)
