-- Opening, as a course. Document 01: "Order of `bring_up`: QUERY_FW, MAP_FA, RUN_FW, MOD_STAT_CFG (a status is passed over), QUERY_DEV_CAP, QUERY_PORT for each
-- port at revision 3, layout, SET_ICM_SIZE, MAP_ICM_AUX, 14 MAP_ICM, INIT_HCA, QUERY_FUNC if num_sys_eqs is not 0, QUERY_ADAPTER (any failure passed over)."
-- Before it, as the Rust's `open` and `start`: attributes, claim, reset, the UAR BAR, both mailboxes, the first look at the status dword. It is written from the
-- last step to the first. "An opening fails by the first other failure, returned after closing has run, with closing's result beside it."
use Rattle.std.specs.Prelude.{ℕ, zero, suc, ◌*◌, ◌%◌, ◌^◌, List, eqb, length, Ok, Err}
use Rattle.fields.specs.Outcome.{Outcome, value, refused, pick}
use Rattle.dma.specs.Blocks.{}
use Rattle.dma.specs.PageList.{first_blocks, behind, filled_at}
use Rattle.dma.specs.declared.Buffer.{Buffer}
use Rattle.dma.specs.declared.Cutter.{Cutter}
use Rattle.pci.specs.declared.Refusal.{Refusal}
use Rattle.pci.specs.declared.Refusal.TheVariants as x
use Rattle.reply.specs.Capability.{capability_of}
use Rattle.reply.specs.Replies.{query_fw_of, fw_held, query_port_of, query_func_of}
use Rattle.layout.specs.Counts.{profile_of}
use Rattle.init.specs.Init.{filled_by, fields_of, init_of, mod_stat_cfg}
use Rattle.command.specs.declared.CmdResult.{CmdResult}
use Rattle.reset.specs.Reset.{reset, is_good}
use Rattle.buffer.specs.Buffer.{making}
use Rattle.buffer.specs.declared.Made.{Made}
use Rattle.buffer.specs.declared.Made.TheVariants as m
use Rattle.buffer.specs.declared.Fault.{Fault}
use Rattle.tasks.specs.Attributes.{attributing}
use Rattle.tasks.specs.declared.Attributes.{Attributes}
use Rattle.tasks.specs.declared.Attributes.TheVariants as t
use Rattle.tasks.specs.Claim.{claiming}
use Rattle.tasks.specs.declared.Claimed.{Claimed}
use Rattle.tasks.specs.declared.Claimed.TheVariants as l
use Rattle.uar.specs.Uar.{Found, finding}
use Rattle.uar.specs.declared.NotFound.TheVariants as u
use Rattle.work.specs.Work.{looking}
use Rattle.session.specs.Failures.{broken_by, failure_of, fault_of, immediate_of, needs_reset}
use Rattle.session.specs.Session.{no_books, no_info, imm_of, with_in_of, with_out_of}
use Rattle.session.specs.Course.{Course, ret, Here, here, left, inbox, outbox, zeroed, run, task, sends, Rest, at_rest}
use Rattle.session.specs.declared.Books.{Books}
use Rattle.session.specs.declared.Info.{Info}
use Rattle.session.specs.declared.Area.{Area}
use Rattle.session.specs.declared.Area.TheVariants as a
use Rattle.session.specs.declared.Gave.TheVariants as v
use Rattle.session.specs.declared.Stage.TheVariants as g
use Rattle.session.specs.declared.Failure.TheVariants as f
use Rattle.session.specs.declared.Closing.TheVariants as c
use Rattle.closing_plan.specs.Closing.{is_done, stopping, parted, restored, giving}
use Rattle.opening_plan.specs.Values.{refusal_of, fw_failure_of, with_toggle, with_catas, with_original, now_started, layout_in, range_at, op_for, place_for, enters, cut_in, with_uar, with_revision, with_cap, with_func, with_port}

-- FAILURES. The opening fails: closing runs
abbrev pub fails : Refusal → Info → Books → Here → Course Rest
fails y n b h = stopping n (f.By y) b h

abbrev pub fails_by : CmdResult → Info → Books → Here → Course Rest
fails_by r n b h = fails (failure_of r) n (broken_by r b) h

-- a good command goes on
abbrev pub on_good : CmdResult → (Books → Here → Course Rest) → Info → Books → Here → Course Rest
on_good r k n b h = pick (is_done r) (k b h) (fails_by r n b h)

-- a reply or a layout that is refused
abbrev pub on_value : {A : Type 0} → Outcome A → (A → Course Rest) → Info → Books → Here → Course Rest
on_value (value y) k n b h = k y
on_value (refused i vs) k n b h = fails (refusal_of i vs) n b h

-- the outbox is zeroed before a command that names it
abbrev pub asking : (op in_mod : ℕ) → (CmdResult → Books → Here → Course Rest) → Books → Here → Course Rest
asking op i k b h = sends b (with_out_of b op i) k (zeroed outbox h)

-- the inbox as filled
abbrev pub holds : List ℕ → Here → Here
holds i h = here i h.outbox h.undo

-- BRING-UP, from its end. The session is open
abbrev pub opened : Info → Books → Here → Course Rest
opened n b h = ret (left h) (at_rest (g.Open v.Nothing) b n f.Nothing c.Clean)

unfoldable pub query_adapter : Info → Books → Here → Course Rest
query_adapter n b h = asking 0x006 0 (λ r d j. opened n d j) b h

unfoldable pub query_func : Info → Books → Here → Course Rest
query_func n b h =
    pick (eqb n.cap.num_sys_eqs 0) (query_adapter n b h)
    (asking 0x056 0 (λ r d j. on_good r (λ e i. on_value (query_func_of i.outbox) (λ y. query_adapter (with_func n y) e i) n e i) n d j) b h)

unfoldable pub init_hca : Info → Books → Here → Course Rest
init_hca n b h =
    sends b (with_in_of b 0x007 0) (λ r d j. on_good r (λ e i. query_func n (now_started e) i) n d j)
    (holds (filled_by h.inbox (fields_of (init_of n.cap (layout_in n).rows))) h)

-- "A mailbox carries at most 256 blocks": mailbox after mailbox, while something of the area is left; `more` bytes at most
unfoldable pub mapping : Area → (next : Books → Here → Course Rest) → (more : ℕ) → Cutter → Info → Books → Here → Course Rest
mapping a next zero c n b h = next b h
mapping a next (suc k) c n b h =
    pick (eqb c.left 0) (next b h)
    (sends b (with_in_of b (op_for a) (length (first_blocks 63 256 c) % 2 ^ 32)) (λ r d j. on_good r (λ e i. mapping a next k (behind 63 256 c) n e i) n d j)
    (holds (filled_at 63 256 c h.inbox) h))

-- a buffer for an area, which is in its slot from its allocation on
abbrev pub on_made : Made → (Buffer → Course Rest) → (Fault → Course Rest) → Course Rest
on_made (m.Ready y) k z = k y
on_made (m.Refused e) k z = z e

unfoldable pub area_for : Area → (bytes : ℕ) → (next : Books → Here → Course Rest) → Info → Books → Here → Course Rest
area_for a bytes next n b h =
    run (place_for n a) (making bytes) (λ y d j.
    on_made y (λ x. mapping a next (cut_in n a d).left (cut_in n a d) n (enters a d) j) (λ e. fails (fault_of e) n d j)) b h

-- the ranges from i on, so many
unfoldable pub map_icm : (more i : ℕ) → Info → Books → Here → Course Rest
map_icm zero i n b h = init_hca n b h
map_icm (suc k) i n b h = area_for (a.Range i) (range_at n i).bytes (map_icm k (suc i) n) n b h

unfoldable pub set_icm_size : Info → Books → Here → Course Rest
set_icm_size n b h =
    sends b (imm_of 0xffd 0 0 (layout_in n).total) (λ r d j. on_good r (λ e i. area_for a.Aux (immediate_of r * 4096) (map_icm 14 0 n) n e i) n d j) h

unfoldable pub laying_out : Info → Books → Here → Course Rest
laying_out n b h = on_value (profile_of n.cap) (λ y. set_icm_size n b h) n b h

-- QUERY_PORT for so many ports from this one on
unfoldable pub query_ports : (more port : ℕ) → Info → Books → Here → Course Rest
query_ports zero p n b h = laying_out n b h
query_ports (suc k) p n b h =
    asking 0x043 p (λ r d j. on_good r (λ e i. on_value (query_port_of i.outbox p) (λ y. query_ports k (suc p) (with_port n p y) e i) n e i) n d j) b h

abbrev pub ports_of : Info → ℕ
ports_of n = pick n.rev3 n.cap.ports 0

unfoldable pub query_dev_cap : Info → Books → Here → Course Rest
query_dev_cap n b h =
    asking 0x003 0 (λ r d j.
    on_good r (λ e i. on_value (capability_of i.outbox n.uar.size) (λ y. query_ports (ports_of (with_cap n y)) 1 (with_cap n y) e i) n e i) n d j) b h

-- "(a status is passed over)"
unfoldable pub mod_stat : Info → Books → Here → Course Rest
mod_stat n b h =
    sends b (with_in_of b 0x034 0) (λ r d j. pick (needs_reset r) (fails_by r n d j) (query_dev_cap n d j))
    (holds (filled_by h.inbox mod_stat_cfg) h)

unfoldable pub run_fw : Info → Books → Here → Course Rest
run_fw n b h = sends b (imm_of 0xff6 0 0 0) (λ r d j. on_good r (λ e i. mod_stat n e i) n d j) h

-- the reply to QUERY_FW: the catastrophic buffer is known from here on, whatever the revision
abbrev pub fw_reply : Info → Books → Here → Course Rest
fw_reply n b h =
    on_value (query_fw_of h.outbox n.uar.index)
    (λ y. area_for a.Fa (y.pages * 4096) (run_fw (with_revision n y.rev)) (with_revision n y.rev) (with_catas b (fw_held h.outbox n.uar.index)) h) n
    (with_catas b (fw_held h.outbox n.uar.index)) h

unfoldable pub query_fw : Info → Books → Here → Course Rest
query_fw n b h =
    asking 0x004 0 (λ r d j. pick (is_done r) (fw_reply n d j) (fails (fw_failure_of r) n (broken_by r d) j)) b h

-- BEFORE BRING-UP, from its end
unfoldable pub look : Info → Books → Here → Course Rest
look n b h = task looking (λ t d j. query_fw n (with_toggle d t) j) b h

-- "where a mailbox buffer fails, nothing is torn down, the other mailbox is freed and that result is clean"
unfoldable pub give_inbox : Fault → Info → Books → Here → Course Rest
give_inbox e n b h = giving n (f.By (fault_of e)) c.Clean b h

unfoldable pub make_outbox : Info → Books → Here → Course Rest
make_outbox n b h = run outbox (making 4096) (λ y d j. on_made y (λ x. look n d j) (λ e. give_inbox e n d j)) b h

unfoldable pub make_inbox : Info → Books → Here → Course Rest
make_inbox n b h =
    run inbox (making 4096) (λ y d j. on_made y (λ x. make_outbox n d j) (λ e. parted n (f.By (fault_of e)) c.Clean d j)) b h

abbrev pub on_found : Found → Info → Books → Here → Course Rest
on_found (Ok p) n b h = make_inbox (with_uar n p) b h
on_found (Err u.Refused) n b h = parted n (f.By x.Bar) c.Clean b h
-- 27 "stands where 4 does"
on_found (Err u.BadList) n b h = parted n (f.By x.List) c.Clean b h

unfoldable pub find_uar : Info → Books → Here → Course Rest
find_uar n b h = task finding (λ y d j. on_found y n d j) b h

unfoldable pub first_reset : Info → Books → Here → Course Rest
first_reset n b h = task reset (λ e d j. pick (is_good e) (find_uar n d j) (parted n (f.By x.Reset) c.Clean d j)) b h

-- "At 1 to 4 .. nothing is torn down": at 2 the attributes are restored, at 1 nothing more is asked
abbrev pub on_claimed : Claimed → Info → Books → Here → Course Rest
on_claimed l.Good n b h = first_reset n b h
on_claimed l.Refused n b h = restored n (f.By x.Owner) c.Clean b h

unfoldable pub claim : Info → Books → Here → Course Rest
claim n b h = task claiming (λ y d j. on_claimed y n d j) b h

abbrev pub on_enabled : Attributes → Info → Books → Here → Course Rest
on_enabled (t.Enabled v) n b h = claim n (with_original b v) h
on_enabled t.Refused n b h = ret (left h) (at_rest g.Ended b n (f.By x.Attributes) c.Clean)

unfoldable pub enable : Info → Books → Here → Course Rest
enable n b h = task attributing (λ y d j. on_enabled y n d j) b h

-- THE OPENING of a fresh session
abbrev pub opening : Here → Course Rest
opening h = enable no_info no_books h
