-- The plan of an opening: what follows when a task has ended, as a function on the session and on the outbox as it is lent then.
use Rattle.std.specs.Prelude.{ℕ, suc, ◌+◌, ◌*◌, ◌-◌, ◌%◌, ◌^◌, Bool, true, List, eqb, ltb, Ok, Err}
use Rattle.fields.specs.Outcome.{Outcome, value, refused, pick}
use Rattle.dma.specs.Buffers.{pages_for}
use Rattle.dma.specs.declared.Cutter.{Cutter}
use Rattle.dma.specs.declared.Listed.{Listed}
use Rattle.pci.specs.declared.Refusal.{Refusal}
use Rattle.pci.specs.declared.Refusal.TheVariants as x
use Rattle.reply.specs.Capability.{capability_of}
use Rattle.reply.specs.Replies.{query_fw_of, fw_held, query_port_of, query_func_of}
use Rattle.reply.specs.declared.DevCap.{DevCap}
use Rattle.reply.specs.declared.FwInfo.{FwInfo}
use Rattle.reply.specs.declared.FuncInfo.{FuncInfo}
use Rattle.reply.specs.declared.PortInfo.{PortInfo}
use Rattle.layout.specs.Counts.{profile_of}
use Rattle.layout.specs.declared.Layout.{Layout}
use Rattle.command.specs.declared.CmdEnd.{CmdEnd}
use Rattle.command.specs.declared.CmdResult.{CmdResult}
use Rattle.reset.specs.Reset.{is_good}
use Rattle.reset.specs.declared.ResetEnd.{ResetEnd}
use Rattle.buffer.specs.Buffer.{by_outcome}
use Rattle.buffer.specs.declared.Fault.{Fault}
use Rattle.buffer.specs.declared.Made.{Made}
use Rattle.buffer.specs.declared.Made.TheVariants as m
use Rattle.buffer.specs.declared.MakePhase.TheVariants as mp
use Rattle.buffer.specs.declared.MakeStep.{MakeStep}
use Rattle.buffer.specs.declared.MakeStep.TheVariants as ms
use Rattle.tasks.specs.declared.Attr.TheVariants as ta
use Rattle.tasks.specs.declared.Attributes.{Attributes}
use Rattle.tasks.specs.declared.Attributes.TheVariants as at
use Rattle.tasks.specs.declared.Claim.TheVariants as tc
use Rattle.tasks.specs.declared.Claimed.{Claimed}
use Rattle.tasks.specs.declared.Claimed.TheVariants as l
use Rattle.uar.specs.Steps.{started}
use Rattle.uar.specs.Uar.{Found}
use Rattle.uar.specs.declared.NotFound.TheVariants as u
use Rattle.work.specs.Work.{working, work_script}
use Rattle.work.specs.declared.Task.TheVariants as t
use Rattle.work.specs.declared.End.{End}
use Rattle.work.specs.declared.End.TheVariants as e
use Rattle.session.specs.Failures.{broken_by, failure_of, fault_of, immediate_of, made_in, needs_reset}
use Rattle.session.specs.Session.{session, starts, bookkeeps, informs, sends_of, took_of, planned, imm_of, with_in_of, with_out_of}
use Rattle.session.specs.Course.{Course, Here, left, Place, neither, inbox, outbox, run, Rest}
use Rattle.session.specs.declared.Top.{Top}
use Rattle.session.specs.declared.Books.{Books}
use Rattle.session.specs.declared.Info.{Info}
use Rattle.session.specs.declared.Area.{Area}
use Rattle.session.specs.declared.Area.TheVariants as a
use Rattle.session.specs.declared.Prepare.{Prepare}
use Rattle.session.specs.declared.Prepare.TheVariants as p
use Rattle.session.specs.declared.Boot.{Boot}
use Rattle.session.specs.declared.Boot.TheVariants as k
use Rattle.session.specs.declared.Gave.TheVariants as v
use Rattle.session.specs.declared.Stage.{Stage}
use Rattle.session.specs.declared.Stage.TheVariants as g
use Rattle.session.specs.declared.Failure.TheVariants as f
use Rattle.session.specs.declared.Closing.TheVariants as c
use Rattle.session.specs.declared.Fill.{Fill}
use Rattle.session.specs.declared.Fill.TheVariants as w
use Rattle.session.specs.declared.Session.{Session}
use Rattle.session.specs.declared.Planned.{Planned}
use Rattle.closing_plan.specs.Closing.{is_done, parted}
use Rattle.closing_plan.specs.Plan.{cmd_in, reset_in, resets_of, restore_plan, release_plan, stop_plan, frees_plan, took_books}
use Rattle.opening_plan.specs.Values.{refusal_of, fw_failure_of, with_toggle, with_catas, with_original, now_started, range_at, op_for, place_for, enters, cut_in, with_uar, with_revision, with_cap, with_func, with_port}
use Rattle.opening_plan.specs.Opening.{fails, fails_by, on_good, on_value, opened, query_adapter, query_func, mapping, on_made, map_icm, area_for, query_ports, ports_of, query_dev_cap, mod_stat, run_fw, fw_reply, query_fw, look, make_outbox, give_inbox, on_found, find_uar, on_claimed, on_enabled}

-- HOW A TASK HAS ENDED; a task of the plan ends in its own kind, any other counts as failed
abbrev pub attr_in : End → Attributes
attr_in (e.Attr y) = y
attr_in (e.Claim y) = at.Refused
attr_in (e.Reset y) = at.Refused
attr_in (e.Bar y) = at.Refused
attr_in (e.Made y) = at.Refused
attr_in e.Freed = at.Refused
attr_in (e.Looked y) = at.Refused
attr_in (e.Cmd y) = at.Refused
attr_in e.Parted = at.Refused

abbrev pub claim_in : End → Claimed
claim_in (e.Claim y) = y
claim_in (e.Attr y) = l.Refused
claim_in (e.Reset y) = l.Refused
claim_in (e.Bar y) = l.Refused
claim_in (e.Made y) = l.Refused
claim_in e.Freed = l.Refused
claim_in (e.Looked y) = l.Refused
claim_in (e.Cmd y) = l.Refused
claim_in e.Parted = l.Refused

abbrev pub bar_in : End → Found
bar_in (e.Bar y) = y
bar_in (e.Attr y) = (Err u.Refused)
bar_in (e.Claim y) = (Err u.Refused)
bar_in (e.Reset y) = (Err u.Refused)
bar_in (e.Made y) = (Err u.Refused)
bar_in e.Freed = (Err u.Refused)
bar_in (e.Looked y) = (Err u.Refused)
bar_in (e.Cmd y) = (Err u.Refused)
bar_in e.Parted = (Err u.Refused)

abbrev pub toggle_in : End → Bool
toggle_in (e.Looked y) = y
toggle_in (e.Attr y) = true
toggle_in (e.Claim y) = true
toggle_in (e.Reset y) = true
toggle_in (e.Bar y) = true
toggle_in (e.Made y) = true
toggle_in e.Freed = true
toggle_in (e.Cmd y) = true
toggle_in e.Parted = true

-- FAILURES: the session says why, and closing begins; or the card is only given up
abbrev pub with_failure : Session → Refusal → Session
with_failure s y = session s.stage s.work s.books s.info (f.By y) s.closing

unfoldable pub fail_plan : Session → Refusal → Top → Planned
fail_plan s y top = stop_plan (with_failure s y) top

abbrev pub gives_up : Session → Refusal → Books → Session
gives_up s y b = session s.stage s.work b s.info (f.By y) c.Clean

abbrev pub part_plan : Session → Refusal → Books → Top → Planned
part_plan s y b top = release_plan (gives_up s y b) top.count

unfoldable pub fail_by_plan : Session → CmdResult → Top → Planned
fail_by_plan s r top = fail_plan (bookkeeps s (broken_by r s.books)) (failure_of r) top

-- BRING-UP
abbrev pub opened_plan : Session → Top → Planned
opened_plan s top = planned (session (g.Open v.Nothing) (working t.Rest s.work.reset s.work.find) s.books s.info f.Nothing c.Clean) w.Nothing top.count

abbrev pub ask_plan : Session → Boot → (op in_mod : ℕ) → Top → Planned
ask_plan s st op i top = planned (sends_of s (g.Boot st) (with_out_of s.books op i)) w.Outbox top.count

abbrev pub give_plan : Session → Boot → (op : ℕ) → Fill → Top → Planned
give_plan s st op fill top = planned (sends_of s (g.Boot st) (with_in_of s.books op 0)) fill top.count

abbrev pub imm_plan : Session → Boot → (op in_param : ℕ) → Top → Planned
imm_plan s st op y top = planned (sends_of s (g.Boot st) (imm_of op 0 0 y)) w.Nothing top.count

unfoldable pub func_plan : Session → Top → Planned
func_plan s top = pick (eqb s.info.cap.num_sys_eqs 0) (ask_plan s k.Adapter 0x006 0 top) (ask_plan s k.Func 0x056 0 top)

-- the making has begun, or is refused before any question
abbrev pub make_by : Session → Area → MakeStep → Top → Planned
make_by s a (ms.More y) top = planned (starts s (g.Boot (k.Make a)) (t.Make y)) w.Nothing top.count
make_by s a (ms.Ended y) top = fail_plan s x.Address top

unfoldable pub make_plan : Session → Area → (bytes : ℕ) → Top → Planned
make_plan s a bytes top =
    by_outcome (pages_for bytes) (λ n. planned (starts s (g.Boot (k.Make a)) (t.Make (record { bytes = n * 4096; phase = mp.Allocate }))) w.Nothing top.count)
    (fail_plan s x.Address top)

-- range i, and what follows range i
abbrev pub range_plan : Session → (i : ℕ) → Top → Planned
range_plan s i top = make_plan s (a.Range i) (range_at s.info i).bytes top

unfoldable pub next_range : Session → (i : ℕ) → Top → Planned
next_range s i top = pick (ltb i 13) (range_plan s (i + 1) top) (give_plan s k.InitHca 0x007 w.InitHca top)

unfoldable pub mapped_plan : Session → Area → Top → Planned
mapped_plan s a.Fa top = imm_plan s k.RunFw 0xff6 0 top
mapped_plan s a.Aux top = range_plan s 0 top
mapped_plan s (a.Range i) top = next_range s i top

-- the next mailbox of an area, or what follows it
unfoldable pub map_plan : Session → Area → Cutter → Top → Planned
map_plan s a y top = pick (eqb y.left 0) (mapped_plan s a top) (planned (starts s (g.Boot (k.Map a y)) t.Rest) (w.List y) top.count)

abbrev pub area_plan : Session → Area → Made → Top → Planned
area_plan s a (m.Ready y) top = map_plan (bookkeeps s (enters a s.books)) a (cut_in s.info a s.books) top
area_plan s a (m.Refused y) top = fail_plan s (fault_of y) top

unfoldable pub layout_plan : Session → Outcome Layout → Top → Planned
layout_plan s (value y) top = imm_plan s k.IcmSize 0xffd y.total top
layout_plan s (refused i vs) top = fail_plan s (refusal_of i vs) top

-- the port after port n, or the layout
unfoldable pub port_plan : Session → (n : ℕ) → Top → Planned
port_plan s n top = pick (ltb n (ports_of s.info)) (ask_plan s (k.Port (n + 1)) 0x043 (n + 1) top) (layout_plan s (profile_of s.info.cap) top)

-- WHAT FOLLOWS A COMMAND: its result is in the books already
abbrev pub good_plan : Session → CmdEnd → (Session → Planned) → Top → Planned
good_plan s y next top = pick (is_done y.result) (next (took_of s y)) (fail_by_plan (took_of s y) y.result top)

unfoldable pub fw_replied : Session → Outcome FwInfo → FwInfo → Top → Planned
fw_replied s (value y) held top = make_plan (informs (bookkeeps s (with_catas s.books held)) (with_revision s.info y.rev)) a.Fa (y.pages * 4096) top
fw_replied s (refused i vs) held top = fail_plan (bookkeeps s (with_catas s.books held)) (refusal_of i vs) top

unfoldable pub cap_replied : Session → Outcome DevCap → Top → Planned
cap_replied s (value y) top = port_plan (informs s (with_cap s.info y)) 0 top
cap_replied s (refused i vs) top = fail_plan s (refusal_of i vs) top

unfoldable pub port_replied : Session → (n : ℕ) → Outcome PortInfo → Top → Planned
port_replied s n (value y) top = port_plan (informs s (with_port s.info n y)) n top
port_replied s n (refused i vs) top = fail_plan s (refusal_of i vs) top

unfoldable pub func_replied : Session → Outcome FuncInfo → Top → Planned
func_replied s (value y) top = ask_plan (informs s (with_func s.info y)) k.Adapter 0x006 0 top
func_replied s (refused i vs) top = fail_plan s (refusal_of i vs) top

abbrev pub fw_plan : Session → CmdEnd → List ℕ → Top → Planned
fw_plan s y out top =
    pick (is_done y.result) (fw_replied (took_of s y) (query_fw_of out s.info.uar.index) (fw_held out s.info.uar.index) top)
    (fail_plan (bookkeeps (took_of s y) (broken_by y.result (took_of s y).books)) (fw_failure_of y.result) top)

abbrev pub stat_plan : Session → CmdEnd → Top → Planned
stat_plan s y top = pick (needs_reset y.result) (fail_by_plan (took_of s y) y.result top) (ask_plan (took_of s y) k.DevCap 0x003 0 top)

abbrev pub map_ended : Session → Area → Cutter → CmdEnd → Top → Planned
map_ended s a rest y top = good_plan s y (λ d. map_plan d a rest top) top

abbrev pub run_ended : Session → CmdEnd → Top → Planned
run_ended s y top = good_plan s y (λ d. give_plan d k.ModStat 0x034 w.ModStat top) top

abbrev pub cap_ended : Session → CmdEnd → List ℕ → Top → Planned
cap_ended s y out top = good_plan s y (λ d. cap_replied d (capability_of out s.info.uar.size) top) top

abbrev pub port_ended : Session → (n : ℕ) → CmdEnd → List ℕ → Top → Planned
port_ended s n y out top = good_plan s y (λ d. port_replied d n (query_port_of out n) top) top

abbrev pub size_ended : Session → CmdEnd → Top → Planned
size_ended s y top = good_plan s y (λ d. make_plan d a.Aux (immediate_of y.result * 4096) top) top

abbrev pub init_ended : Session → CmdEnd → Top → Planned
init_ended s y top = good_plan s y (λ d. func_plan (bookkeeps d (now_started d.books)) top) top

abbrev pub func_ended : Session → CmdEnd → List ℕ → Top → Planned
func_ended s y out top = good_plan s y (λ d. func_replied d (query_func_of out) top) top

abbrev pub boot_plan_at : Session → End → List ℕ → Top → Boot → Planned
boot_plan_at s y out top k.QueryFw = fw_plan s (cmd_in y) out top
boot_plan_at s y out top (k.Make a) = area_plan s a (made_in y) top
boot_plan_at s y out top (k.Map a rest) = map_ended s a rest (cmd_in y) top
boot_plan_at s y out top k.RunFw = run_ended s (cmd_in y) top
boot_plan_at s y out top k.ModStat = stat_plan s (cmd_in y) top
boot_plan_at s y out top k.DevCap = cap_ended s (cmd_in y) out top
boot_plan_at s y out top (k.Port n) = port_ended s n (cmd_in y) out top
boot_plan_at s y out top k.IcmSize = size_ended s (cmd_in y) top
boot_plan_at s y out top k.InitHca = init_ended s (cmd_in y) top
boot_plan_at s y out top k.Func = func_ended s (cmd_in y) out top
boot_plan_at s y out top k.Adapter = opened_plan (took_of s (cmd_in y)) top

unfoldable pub boot_plan : Session → Boot → End → List ℕ → Top → Planned
boot_plan s st y out top = boot_plan_at s y out top st

-- BEFORE BRING-UP
abbrev pub box_plan : Session → Prepare → Top → Planned
box_plan s st top = planned (starts s (g.Prepare st) (t.Make (record { bytes = 4096; phase = mp.Allocate }))) w.Nothing top.count

abbrev pub attr_plan : Session → Attributes → Top → Planned
attr_plan s (at.Enabled v) top = planned (starts (bookkeeps s (with_original s.books v)) (g.Prepare p.Claim) (t.Claim tc.Command)) w.Nothing top.count
attr_plan s at.Refused top = planned (starts (gives_up s x.Attributes s.books) g.Ended t.Rest) w.Nothing top.count

abbrev pub claim_plan : Session → Claimed → Top → Planned
claim_plan s l.Good top = planned (resets_of s (g.Prepare p.Reset)) w.Nothing top.count
claim_plan s l.Refused top = restore_plan (gives_up s x.Owner s.books) top.count

-- the search for the UAR BAR begins
abbrev pub finds_of : Session → Session
finds_of s = session (g.Prepare p.Bar) (working t.Bar s.work.reset started) s.books s.info s.failure s.closing

abbrev pub reset_plan : Session → ResetEnd → Top → Planned
reset_plan s y top = pick (is_good y) (planned (finds_of s) w.Nothing top.count) (part_plan s x.Reset s.books top)

abbrev pub bar_plan : Session → Found → Top → Planned
bar_plan s (Ok y) top = box_plan (informs s (with_uar s.info y)) p.Inbox top
bar_plan s (Err u.Refused) top = part_plan s x.Bar s.books top
bar_plan s (Err u.BadList) top = part_plan s x.List s.books top

abbrev pub inbox_plan : Session → Made → Top → Planned
inbox_plan s (m.Ready y) top = box_plan s p.Outbox top
inbox_plan s (m.Refused y) top = part_plan s (fault_of y) s.books top

-- the outbox was not to be had: the inbox is freed, and the card given up
abbrev pub gives_inbox : Session → Fault → Top → Planned
gives_inbox s y top = frees_plan 82 0 (gives_up s (fault_of y) s.books) top.count

abbrev pub outbox_plan : Session → Made → Top → Planned
outbox_plan s (m.Ready y) top = planned (starts s (g.Prepare p.Look) t.Look) w.Nothing top.count
outbox_plan s (m.Refused y) top = gives_inbox s y top

abbrev pub looked_plan : Session → Bool → Top → Planned
looked_plan s y top = ask_plan (bookkeeps s (with_toggle s.books y)) k.QueryFw 0x004 0 top

abbrev pub prepare_plan_at : Session → End → Top → Prepare → Planned
prepare_plan_at s y top p.Attributes = attr_plan s (attr_in y) top
prepare_plan_at s y top p.Claim = claim_plan s (claim_in y) top
prepare_plan_at s y top p.Reset = reset_plan s (reset_in y) top
prepare_plan_at s y top p.Bar = bar_plan s (bar_in y) top
prepare_plan_at s y top p.Inbox = inbox_plan s (made_in y) top
prepare_plan_at s y top p.Outbox = outbox_plan s (made_in y) top
prepare_plan_at s y top p.Look = looked_plan s (toggle_in y) top

unfoldable pub prepare_plan : Session → Prepare → End → Top → Planned
prepare_plan s st y top = prepare_plan_at s y top st

-- an opening begins
abbrev pub open_plan : Session → Top → Planned
open_plan s top = planned (starts s (g.Prepare p.Attributes) (t.Attr ta.Get)) w.Nothing top.count

-- WHAT IS WRITTEN to the mailboxes, and the command that posts a page list: its number of entries, and what is left of the area
abbrev pub lists_boot : Session → Listed → Boot → Session
lists_boot s y k.QueryFw = s
lists_boot s y (k.Make z) = s
lists_boot s y (k.Map a z) = sends_of s (g.Boot (k.Map a y.rest)) (with_in_of s.books (op_for a) (y.entries % 2 ^ 32))
lists_boot s y k.RunFw = s
lists_boot s y k.ModStat = s
lists_boot s y k.DevCap = s
lists_boot s y (k.Port z) = s
lists_boot s y k.IcmSize = s
lists_boot s y k.InitHca = s
lists_boot s y k.Func = s
lists_boot s y k.Adapter = s

abbrev pub lists_at : Session → Listed → Stage → Session
lists_at s y g.Fresh = s
lists_at s y (g.Open v) = s
lists_at s y g.Ended = s
lists_at s y (g.Prepare z) = s
lists_at s y (g.Boot z) = lists_boot s y z
lists_at s y (g.Client z) = s
lists_at s y (g.Close z) = s

abbrev pub lists : Session → Listed → Session
lists s y = lists_at s y s.stage

-- THE COURSE that is left after the task under way, by what it is for
abbrev pub next_of : Area → Info → Books → Here → Course Rest
next_of a.Fa n b h = run_fw n b h
next_of a.Aux n b h = map_icm 14 0 n b h
next_of (a.Range i) n b h = map_icm (13 - i) (suc i) n b h

abbrev pub after_boot : Boot → Session → End → Here → Course Rest
after_boot k.QueryFw s y h =
    pick (is_done (cmd_in y).result) (fw_reply s.info (took_books s y) h)
    (fails (fw_failure_of (cmd_in y).result) s.info (broken_by (cmd_in y).result (took_books s y)) h)
after_boot (k.Make a) s y h =
    on_made (made_in y)
    (λ z. mapping a (next_of a s.info) (cut_in s.info a s.books).left (cut_in s.info a s.books) s.info (enters a s.books) h)
    (λ z. fails (fault_of z) s.info s.books h)
after_boot (k.Map a z) s y h =
    on_good (cmd_in y).result (λ b j. mapping a (next_of a s.info) z.left z s.info b j) s.info (took_books s y) h
after_boot k.RunFw s y h = on_good (cmd_in y).result (λ b j. mod_stat s.info b j) s.info (took_books s y) h
after_boot k.ModStat s y h =
    pick (needs_reset (cmd_in y).result) (fails_by (cmd_in y).result s.info (took_books s y) h) (query_dev_cap s.info (took_books s y) h)
after_boot k.DevCap s y h =
    on_good (cmd_in y).result (λ b j.
    on_value (capability_of j.outbox s.info.uar.size) (λ z. query_ports (ports_of (with_cap s.info z)) 1 (with_cap s.info z) b j) s.info b j)
    s.info (took_books s y) h
after_boot (k.Port i) s y h =
    on_good (cmd_in y).result (λ b j.
    on_value (query_port_of j.outbox i) (λ z. query_ports (ports_of s.info - i) (suc i) (with_port s.info i z) b j) s.info b j)
    s.info (took_books s y) h
after_boot k.IcmSize s y h =
    on_good (cmd_in y).result (λ b j. area_for a.Aux (immediate_of (cmd_in y).result * 4096) (map_icm 14 0 s.info) s.info b j) s.info (took_books s y) h
after_boot k.InitHca s y h = on_good (cmd_in y).result (λ b j. query_func s.info (now_started b) j) s.info (took_books s y) h
after_boot k.Func s y h =
    on_good (cmd_in y).result (λ b j. on_value (query_func_of j.outbox) (λ z. query_adapter (with_func s.info z) b j) s.info b j) s.info (took_books s y) h
after_boot k.Adapter s y h = opened s.info (took_books s y) h

-- the slot that a stage's buffer is for
abbrev pub place_boot : Boot → Info → Place
place_boot k.QueryFw n = neither
place_boot (k.Make a) n = place_for n a
place_boot (k.Map a z) n = neither
place_boot k.RunFw n = neither
place_boot k.ModStat n = neither
place_boot k.DevCap n = neither
place_boot (k.Port i) n = neither
place_boot k.IcmSize n = neither
place_boot k.InitHca n = neither
place_boot k.Func n = neither
place_boot k.Adapter n = neither

unfoldable pub boot_course : Boot → Session → Here → Course Rest
boot_course st s h = run (place_boot st s.info) (work_script h.inbox s.work) (λ y d j. after_boot st (bookkeeps s d) y j) s.books h

abbrev pub after_prepare : Prepare → Session → End → Here → Course Rest
after_prepare p.Attributes s y h = on_enabled (attr_in y) s.info s.books h
after_prepare p.Claim s y h = on_claimed (claim_in y) s.info s.books h
after_prepare p.Reset s y h = pick (is_good (reset_in y)) (find_uar s.info s.books h) (parted s.info (f.By x.Reset) c.Clean s.books h)
after_prepare p.Bar s y h = on_found (bar_in y) s.info s.books h
after_prepare p.Inbox s y h =
    on_made (made_in y) (λ z. make_outbox s.info s.books h) (λ z. parted s.info (f.By (fault_of z)) c.Clean s.books h)
after_prepare p.Outbox s y h = on_made (made_in y) (λ z. look s.info s.books h) (λ z. give_inbox z s.info s.books h)
after_prepare p.Look s y h = query_fw s.info (with_toggle s.books (toggle_in y)) h

-- the mailbox that a stage's buffer is for
abbrev pub box_of : Prepare → Place
box_of p.Attributes = neither
box_of p.Claim = neither
box_of p.Reset = neither
box_of p.Bar = neither
box_of p.Inbox = inbox
box_of p.Outbox = outbox
box_of p.Look = neither

unfoldable pub prepare_course : Prepare → Session → Here → Course Rest
prepare_course st s h = run (box_of st) (work_script h.inbox s.work) (λ y d j. after_prepare st (bookkeeps s d) y j) s.books h
