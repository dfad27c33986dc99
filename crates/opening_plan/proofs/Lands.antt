-- Each plan of an opening begins what its course says.
use Rattle.std.specs.Prelude.{Ok, Err}
use Prim.Native.Nat.{ℕ, suc, ◌+◌, ◌*◌, ◌/◌, ◌-◌, ◌<◌, ◌≤◌, ◌%◌, ◌^◌}
use mathlib.Core.Bool.{Bool, true, false}
use mathlib.Core.List.{List}
use mathlib.Core.Path.{◌≡◌, refl, ap, sym, ◌∙◌}
use native.Mathlib.Numerals.{add-one}
use native.Mathlib.Omega.{arith}
use borrow.Author.Tests.{ltb-true, ltb-false, eqb-true, eqb-false}
use lib.Dec.{eqb, ltb}
use lib.ListN.{length}
use Rattle.fields.specs.Outcome.{Outcome, value, refused, value_or, pick}
use Rattle.dma.specs.Buffers.{pages_for}
use Rattle.dma.specs.PageList.{first_blocks, behind, listed_of, filled_at}
use Rattle.dma.specs.declared.Cutter.{Cutter}
use Rattle.hcr.specs.declared.Post.{Post}
use Rattle.pci.specs.Script.{◌>>=◌}
use Rattle.pci.specs.Script as sc
use Rattle.pci.specs.declared.Refusal.{Refusal}
use Rattle.pci.specs.declared.Refusal.TheVariants as x
use Rattle.reply.specs.Capability.{capability_of}
use Rattle.reply.specs.Replies.{query_fw_of, fw_held, query_port_of, query_func_of}
use Rattle.reply.specs.declared.DevCap.{DevCap}
use Rattle.reply.specs.declared.FwInfo.{FwInfo}
use Rattle.reply.specs.declared.FuncInfo.{FuncInfo}
use Rattle.reply.specs.declared.PortInfo.{PortInfo}
use Rattle.layout.specs.Layout.{no_layout}
use Rattle.layout.specs.Counts.{profile_of}
use Rattle.layout.specs.declared.Layout.{Layout}
use Rattle.init.specs.Init.{filled_by, fields_of, init_of, mod_stat_cfg}
use Rattle.command.specs.Machine.{cmd_script, first}
use Rattle.command.specs.Script.{command}
use Rattle.command.specs.declared.CmdEnd.{CmdEnd}
use Rattle.command.specs.declared.CmdResult.{CmdResult}
use Rattle.reset.specs.Reset.{is_good}
use Rattle.reset.specs.Steps.{reset_script}
use Rattle.reset.specs.Steps as rs
use Rattle.buffer.specs.Buffer.{by_outcome, allocating}
use Rattle.buffer.specs.declared.MakePhase.TheVariants as mp
use Rattle.buffer.specs.declared.Made.{Made}
use Rattle.buffer.specs.declared.Made.TheVariants as m
use Rattle.buffer.specs.declared.Fault.TheVariants as q
use Rattle.tasks.specs.Attributes.{attributing}
use Rattle.tasks.specs.declared.Attributes.{Attributes}
use Rattle.tasks.specs.declared.Attributes.TheVariants as at
use Rattle.tasks.specs.Claim.{claiming}
use Rattle.tasks.specs.declared.Claimed.{Claimed}
use Rattle.tasks.specs.declared.Claimed.TheVariants as l
use Rattle.uar.specs.Steps.{started, bar_script}
use Rattle.uar.specs.Uar.{Found}
use Rattle.uar.specs.declared.NotFound.TheVariants as u
use Rattle.work.specs.Work.{looking}
use Rattle.work.specs.declared.Task.TheVariants as t
use Rattle.work.specs.declared.End.{End}
use Rattle.work.specs.declared.End.TheVariants as e
use Rattle.session.specs.Failures.{broken_by, failure_of, fault_of, immediate_of, made_in, needs_reset}
use Rattle.session.specs.Session.{starts, bookkeeps, informs, sends_of, took_of, planned, imm_of, with_in_of, with_out_of, catas_for, wired, after}
use Rattle.session.specs.Course.{Course, ret, Here, left, Place, neither, inbox, outbox, zeroed, run, sends, Rest}
use Rattle.session.proofs.Courses.{run_turned, run_same}
use Rattle.session.specs.declared.Books.{Books}
use Rattle.session.specs.declared.Info.{Info}
use Rattle.session.specs.declared.Area.{Area}
use Rattle.session.specs.declared.Area.TheVariants as a
use Rattle.session.specs.declared.Prepare.{Prepare}
use Rattle.session.specs.declared.Prepare.TheVariants as p
use Rattle.session.specs.declared.Boot.{Boot}
use Rattle.session.specs.declared.Boot.TheVariants as k
use Rattle.session.specs.declared.Stage.TheVariants as g
use Rattle.session.specs.declared.Failure.TheVariants as f
use Rattle.session.specs.declared.Closing.TheVariants as c
use Rattle.session.specs.declared.Fill.{Fill}
use Rattle.session.specs.declared.Fill.TheVariants as w
use Rattle.session.specs.declared.Session.{Session}
use Rattle.session.specs.declared.Planned.{Planned}
use Rattle.closing_plan.specs.Closing.{is_done, parted}
use Rattle.closing_plan.specs.Plan.{cmd_in, reset_in}
use Rattle.closing_plan.proofs.Lands as z
use Rattle.client_plan.specs.Plan.{client_course}
use Rattle.opening_plan.specs.Values.{refusal_of, fw_failure_of, with_toggle, with_catas, with_original, now_started, layout_in, range_at, op_for, place_for, enters, cut_in, with_uar, with_revision, with_cap, with_func, with_port}
use Rattle.opening_plan.specs.Opening.{fails, fails_by, on_good, on_value, holds, opened, query_adapter, query_func, init_hca, mapping, on_made, map_icm, area_for, set_icm_size, laying_out, query_ports, ports_of, query_dev_cap, mod_stat, run_fw, fw_reply, query_fw, look, make_outbox, give_inbox, make_inbox, on_found, find_uar, first_reset, on_claimed, claim, on_enabled, enable}
use Rattle.opening_plan.specs.Plan.{attr_in, claim_in, bar_in, toggle_in, with_failure, fail_plan, gives_up, part_plan, fail_by_plan, ask_plan, give_plan, func_plan, make_plan, range_plan, next_range, mapped_plan, map_plan, area_plan, layout_plan, port_plan, fw_replied, cap_replied, port_replied, func_replied, boot_plan, attr_plan, claim_plan, reset_plan, bar_plan, inbox_plan, outbox_plan, prepare_plan, open_plan, lists, next_of, after_boot, place_boot, boot_course, after_prepare, prepare_course}
use Rattle.opening_plan.proofs.Cutting.{mapping_none, mapping_any, mapping_suc, onward_same, behind_less, positive}

-- what the session means once a mailbox is written
abbrev pub wrote : Fill → Session → Here → Course Rest
wrote w.Nothing s h = z.means prepare_course boot_course client_course s.stage s h
wrote w.Outbox s h = z.means prepare_course boot_course client_course s.stage s (zeroed outbox h)
wrote (w.List y) s h = z.means prepare_course boot_course client_course (lists s (listed_of 63 256 y)).stage (lists s (listed_of 63 256 y)) (holds (filled_at 63 256 y h.inbox) h)
wrote w.ModStat s h = z.means prepare_course boot_course client_course s.stage s (holds (filled_by h.inbox mod_stat_cfg) h)
wrote w.InitHca s h = z.means prepare_course boot_course client_course s.stage s (holds (filled_by h.inbox (fields_of (init_of s.info.cap (layout_in s.info).rows))) h)

abbrev pub leads : Planned → Here → Course Rest
leads y h = z.leads prepare_course boot_course client_course wrote y h

pick_leads : (b : Bool) (x y : Planned) (h : Here) (v t : Course Rest) → leads x h ≡ v → leads y h ≡ t → leads (pick b x y) h ≡ pick b v t
pick_leads b x y h v t d e = z.pick_leads prepare_course boot_course client_course wrote b x y h v t d e

-- FAILURES
fail_leads : (s : Session) (y : Refusal) (h : Here) → leads (fail_plan s y h.undo) h ≡ fails y s.info s.books h
unfolding fail_plan
fail_leads s y h = z.stop-leads prepare_course boot_course client_course wrote (with_failure s y) h

fail_by_leads : (s : Session) (r : CmdResult) (h : Here) → leads (fail_by_plan s r h.undo) h ≡ fails_by r s.info s.books h
unfolding fail_by_plan
fail_by_leads s r h = fail_leads (bookkeeps s (broken_by r s.books)) (failure_of r) h

part_leads : (s : Session) (y : Refusal) (b : Books) (h : Here) → leads (part_plan s y b h.undo) h ≡ parted s.info (f.By y) c.Clean b h
part_leads s y b h = z.release-leads prepare_course boot_course client_course wrote (gives_up s y b) h

-- A COMMAND, and what follows it
module _ (s : Session) (st : Boot) (y : Post) (K : CmdResult → Books → Here → Course Rest) (still : place_boot st s.info ≡ neither)
    (goes : (v : CmdEnd) (d : Books) (j : Here) → after_boot st (bookkeeps (sends_of s (g.Boot st) y) d) (e.Cmd v) j ≡ K v.result (wired d (after d.wire v)) j) where
  send_leads : (h : Here) → boot_course st (sends_of s (g.Boot st) y) h ≡ sends s.books y K h
  unfolding boot_course cmd_script
  send_leads h =
      ap (λ (x : Place). run x (cmd_script h.inbox (first y s.books.wire.toggle (catas_for s.books.wire)) >>= (λ v. sc.ret (e.Cmd v))) (λ e d j. after_boot st (bookkeeps (sends_of s (g.Boot st) y) d) e j) s.books h) still
      ∙ run_turned neither (cmd_script h.inbox (first y s.books.wire.toggle (catas_for s.books.wire))) (λ v. e.Cmd v) _ s.books h
      ∙ run_same neither (command (catas_for s.books.wire) h.inbox s.books.wire.toggle y) _ _ s.books h goes

adapter_leads : (s : Session) (h : Here) → leads (ask_plan s k.Adapter 0x006 0 h.undo) h ≡ query_adapter s.info s.books h
unfolding query_adapter
adapter_leads s h = send_leads s k.Adapter (with_out_of s.books 0x006 0) (λ r d j. opened s.info d j) refl (λ v d j. refl) (zeroed outbox h)

func_leads : (s : Session) (h : Here) → leads (func_plan s h.undo) h ≡ query_func s.info s.books h
unfolding func_plan query_func
func_leads s h =
    pick_leads (eqb s.info.cap.num_sys_eqs 0) _ _ h _ _ (adapter_leads s h)
    (send_leads s k.Func (with_out_of s.books 0x056 0)
    (λ r d j. on_good r (λ b i. on_value (query_func_of i.outbox) (λ y. query_adapter (with_func s.info y) b i) s.info b i) s.info d j) refl (λ v d j. refl) (zeroed outbox h))

init_leads : (s : Session) (h : Here) → leads (give_plan s k.InitHca 0x007 w.InitHca h.undo) h ≡ init_hca s.info s.books h
unfolding init_hca
init_leads s h = send_leads s k.InitHca (with_in_of s.books 0x007 0) (λ r d j. on_good r (λ b i. query_func s.info (now_started b) i) s.info d j) refl (λ v d j. refl) (holds (filled_by h.inbox (fields_of (init_of s.info.cap (layout_in s.info).rows))) h)

-- a buffer for an area: too many bytes are refused before any question
whole : (n : ℕ) → n * 4096 / 4096 ≡ n
whole n = omega arith

module _ (s : Session) (a : Area) (h : Here) where
  -- what follows the making
  abbrev made : Made → Books → Here → Course Rest
  made y d j =
      on_made y (λ b. mapping a (next_of a s.info) (cut_in s.info a d).left (cut_in s.info a d) s.info (enters a d) j)
      (λ e. fails (fault_of e) s.info d j)

  pages_leads : (v : Outcome ℕ)
      → leads (by_outcome v (λ n. planned (starts s (g.Boot (k.Make a)) (t.Make (record { bytes = n * 4096; phase = mp.Allocate }))) w.Nothing h.undo.count) (fail_plan s x.Address h.undo)) h
      ≡ run (place_for s.info a) (by_outcome v allocating (sc.ret (m.Refused q.Address))) made s.books h
  unfolding boot_course
  pages_leads (value n) =
      run_turned (place_for s.info a) (allocating (n * 4096 / 4096)) (λ y. e.Made y) (λ y d j. after_boot (k.Make a) (bookkeeps s d) y j) s.books h
      ∙ ap (λ (i : ℕ). run (place_for s.info a) (allocating i) made s.books h) (whole n)
  pages_leads (refused i vs) = fail_leads s x.Address h

  make_leads : (bytes : ℕ) → leads (make_plan s a bytes h.undo) h ≡ area_for a bytes (next_of a s.info) s.info s.books h
  unfolding make_plan area_for
  make_leads bytes = pages_leads (pages_for bytes)

-- the range after range i, or INIT_HCA
next_range_leads : (s : Session) (i : ℕ) (h : Here) (b : Bool) → ltb i 13 ≡ b
    → leads (pick b (range_plan s (i + 1) h.undo) (give_plan s k.InitHca 0x007 w.InitHca h.undo)) h ≡ map_icm (13 - i) (suc i) s.info s.books h
unfolding map_icm
next_range_leads s i h true d =
    let l : i < 13 = ltb-true i 13 d in let m : 13 - i ≡ suc (13 - suc i) = omega arith in
    ap (λ (j : ℕ). leads (range_plan s j h.undo) h) (add-one i) ∙ (make_leads s (a.Range (suc i)) h (range_at s.info (suc i)).bytes
    ∙ sym (ap (λ (j : ℕ). map_icm j (suc i) s.info s.books h) m))
next_range_leads s i h false d =
    let l : 13 ≤ i = ltb-false i 13 d in let m : 13 - i ≡ 0 = omega arith in
    init_leads s h ∙ sym (ap (λ (j : ℕ). map_icm j (suc i) s.info s.books h) m)

mapped_leads : (s : Session) (a : Area) (h : Here) → leads (mapped_plan s a h.undo) h ≡ next_of a s.info s.books h
unfolding mapped_plan run_fw map_icm next_range
mapped_leads s a.Fa h = send_leads s k.RunFw (imm_of 0xff6 0 0 0) (λ r d j. on_good r (λ b i. mod_stat s.info b i) s.info d j) refl (λ v d j. refl) h
mapped_leads s a.Aux h = make_leads s (a.Range 0) h (range_at s.info 0).bytes
mapped_leads s (a.Range i) h = next_range_leads s i h (ltb i 13) refl

-- the next mailbox of an area, or what follows the area
map_by : (s : Session) (a : Area) (y : Cutter) (h : Here) (b : Bool) → eqb y.left 0 ≡ b
    → leads (pick b (mapped_plan s a h.undo) (planned (starts s (g.Boot (k.Map a y)) t.Rest) (w.List y) h.undo.count)) h
    ≡ mapping a (next_of a s.info) y.left y s.info s.books h
map_by s a y h true d = mapped_leads s a h ∙ sym (mapping_none a (next_of a s.info) s.info y.left y s.books h (eqb-true y.left 0 d))
map_by s a y h false d =
    let z = eqb-false y.left 0 d in let l = behind_less 255 y z in
    let m : suc (y.left - 1) ≡ y.left = positive y.left z in
    send_leads (starts s (g.Boot (k.Map a y)) t.Rest) (k.Map a (behind 63 256 y)) (with_in_of s.books (op_for a) (length (first_blocks 63 256 y) % 2 ^ 32))
    (λ r c j. on_good r (λ b i. mapping a (next_of a s.info) (behind 63 256 y).left (behind 63 256 y) s.info b i) s.info c j) refl (λ v d j. refl)
    (holds (filled_at 63 256 y h.inbox) h)
    ∙ (onward_same a (next_of a s.info) s.info _ _ y s.books h
    (λ b j. mapping_any a (next_of a s.info) s.info (behind 63 256 y).left (y.left - 1) (behind 63 256 y) b j (let g : (behind 63 256 y).left ≤ (behind 63 256 y).left = omega arith in g) l)
    ∙ (mapping_suc a (next_of a s.info) s.info (y.left - 1) y s.books h d ∙ ap (λ (i : ℕ). mapping a (next_of a s.info) i y s.info s.books h) m))

map_leads : (s : Session) (a : Area) (y : Cutter) (h : Here) → leads (map_plan s a y h.undo) h ≡ mapping a (next_of a s.info) y.left y s.info s.books h
unfolding map_plan
map_leads s a y h = map_by s a y h (eqb y.left 0) refl

area_leads : (s : Session) (a : Area) (y : Made) (h : Here) → leads (area_plan s a y h.undo) h ≡ after_boot (k.Make a) s (e.Made y) h
area_leads s a (m.Ready y) h = map_leads (bookkeeps s (enters a s.books)) a (cut_in s.info a s.books) h
area_leads s a (m.Refused y) h = fail_leads s (fault_of y) h

-- the layout, accepted or not
layout_by : (s : Session) (v : Outcome Layout) (h : Here) → profile_of s.info.cap ≡ v
    → leads (layout_plan s v h.undo) h ≡ on_value v (λ y. set_icm_size s.info s.books h) s.info s.books h
unfolding layout_plan set_icm_size
layout_by s (value y) h d =
    send_leads s k.IcmSize (imm_of 0xffd 0 0 y.total)
    (λ r b j. on_good r (λ c i. area_for a.Aux (immediate_of r * 4096) (map_icm 14 0 s.info) s.info c i) s.info b j) refl (λ v d j. refl) h
    ∙ ap (λ (i : ℕ). sends s.books (imm_of 0xffd 0 0 i) (λ r b j. on_good r (λ c i. area_for a.Aux (immediate_of r * 4096) (map_icm 14 0 s.info) s.info c i) s.info b j) h) (ap (λ (v : Outcome Layout). (value_or no_layout v).total) (sym d))
layout_by s (refused i vs) h d = fail_leads s (refusal_of i vs) h

layout_leads : (s : Session) (h : Here) → leads (layout_plan s (profile_of s.info.cap) h.undo) h ≡ laying_out s.info s.books h
unfolding laying_out
layout_leads s h = layout_by s (profile_of s.info.cap) h refl

-- the port after port i, or the layout
port_by : (s : Session) (i : ℕ) (h : Here) (b : Bool) → ltb i (ports_of s.info) ≡ b
    → leads (pick b (ask_plan s (k.Port (i + 1)) 0x043 (i + 1) h.undo) (layout_plan s (profile_of s.info.cap) h.undo)) h
    ≡ query_ports (ports_of s.info - i) (suc i) s.info s.books h
unfolding query_ports
port_by s i h true d =
    let l : i < ports_of s.info = ltb-true i (ports_of s.info) d in let m : ports_of s.info - i ≡ suc (ports_of s.info - suc i) = omega arith in
    ap (λ (j : ℕ). leads (ask_plan s (k.Port j) 0x043 j h.undo) h) (add-one i)
    ∙ (send_leads s (k.Port (suc i)) (with_out_of s.books 0x043 (suc i))
    (λ r d j. on_good r (λ b v. on_value (query_port_of v.outbox (suc i)) (λ y. query_ports (ports_of s.info - suc i) (suc (suc i)) (with_port s.info (suc i) y) b v) s.info b v) s.info d j) refl (λ v d j. refl) (zeroed outbox h)
    ∙ sym (ap (λ (j : ℕ). query_ports j (suc i) s.info s.books h) m))
port_by s i h false d =
    let l : ports_of s.info ≤ i = ltb-false i (ports_of s.info) d in let m : ports_of s.info - i ≡ 0 = omega arith in
    layout_leads s h ∙ sym (ap (λ (j : ℕ). query_ports j (suc i) s.info s.books h) m)

port_leads : (s : Session) (i : ℕ) (h : Here) → leads (port_plan s i h.undo) h ≡ query_ports (ports_of s.info - i) (suc i) s.info s.books h
unfolding port_plan
port_leads s i h = port_by s i h (ltb i (ports_of s.info)) refl

ports_kept : (n : Info) (i : ℕ) (y : PortInfo) (b : Bool) → eqb i 1 ≡ b → ports_of (with_port n i y) ≡ ports_of n
ports_kept n i y true d = rw d refl
ports_kept n i y false d = rw d refl

-- WHAT FOLLOWS A REPLY
fw_replied_lem : (s : Session) (v : Outcome FwInfo) (held : FwInfo) (h : Here)
    → leads (fw_replied s v held h.undo) h
    ≡ on_value v (λ y. area_for a.Fa (y.pages * 4096) (run_fw (with_revision s.info y.rev)) (with_revision s.info y.rev) (with_catas s.books held) h) s.info (with_catas s.books held) h
unfolding fw_replied
fw_replied_lem s (value y) held h = make_leads (informs (bookkeeps s (with_catas s.books held)) (with_revision s.info y.rev)) a.Fa h (y.pages * 4096)
fw_replied_lem s (refused i vs) held h = fail_leads (bookkeeps s (with_catas s.books held)) (refusal_of i vs) h

cap_replied_lem : (s : Session) (v : Outcome DevCap) (h : Here)
    → leads (cap_replied s v h.undo) h ≡ on_value v (λ y. query_ports (ports_of (with_cap s.info y)) 1 (with_cap s.info y) s.books h) s.info s.books h
unfolding cap_replied
cap_replied_lem s (value y) h =
    port_leads (informs s (with_cap s.info y)) 0 h ∙ ap (λ (j : ℕ). query_ports j 1 (with_cap s.info y) s.books h) (let m : ports_of (with_cap s.info y) - 0 ≡ ports_of (with_cap s.info y) = omega arith in m)
cap_replied_lem s (refused i vs) h = fail_leads s (refusal_of i vs) h

port_replied_lem : (s : Session) (i : ℕ) (v : Outcome PortInfo) (h : Here)
    → leads (port_replied s i v h.undo) h ≡ on_value v (λ y. query_ports (ports_of s.info - i) (suc i) (with_port s.info i y) s.books h) s.info s.books h
unfolding port_replied
port_replied_lem s i (value y) h =
    port_leads (informs s (with_port s.info i y)) i h ∙ ap (λ (j : ℕ). query_ports (j - i) (suc i) (with_port s.info i y) s.books h) (ports_kept s.info i y (eqb i 1) refl)
port_replied_lem s i (refused j vs) h = fail_leads s (refusal_of j vs) h

func_replied_lem : (s : Session) (v : Outcome FuncInfo) (h : Here)
    → leads (func_replied s v h.undo) h ≡ on_value v (λ y. query_adapter (with_func s.info y) s.books h) s.info s.books h
unfolding func_replied
func_replied_lem s (value y) h = adapter_leads (informs s (with_func s.info y)) h
func_replied_lem s (refused i vs) h = fail_leads s (refusal_of i vs) h

-- a good command goes on
good_leads : (s : Session) (y : CmdEnd) (next : Planned) (h : Here) (v : Course Rest) → leads next h ≡ v
    → leads (pick (is_done y.result) next (fail_by_plan (took_of s y) y.result h.undo)) h ≡ pick (is_done y.result) v (fails_by y.result s.info (took_of s y).books h)
good_leads s y next h v d = pick_leads (is_done y.result) _ _ h _ _ d (fail_by_leads (took_of s y) y.result h)

stat_leads : (s : Session) (h : Here) → leads (give_plan s k.ModStat 0x034 w.ModStat h.undo) h ≡ mod_stat s.info s.books h
unfolding mod_stat
stat_leads s h = send_leads s k.ModStat (with_in_of s.books 0x034 0) (λ r d j. pick (needs_reset r) (fails_by r s.info d j) (query_dev_cap s.info d j)) refl (λ v d j. refl) (holds (filled_by h.inbox mod_stat_cfg) h)

cap_leads : (s : Session) (h : Here) → leads (ask_plan s k.DevCap 0x003 0 h.undo) h ≡ query_dev_cap s.info s.books h
unfolding query_dev_cap
cap_leads s h = send_leads s k.DevCap (with_out_of s.books 0x003 0)
    (λ r d j. on_good r (λ b i. on_value (capability_of i.outbox s.info.uar.size) (λ y. query_ports (ports_of (with_cap s.info y)) 1 (with_cap s.info y) b i) s.info b i) s.info d j) refl (λ v d j. refl) (zeroed outbox h)

-- WHEN A TASK OF BRING-UP HAS ENDED, the plan leads where the course goes on
pub boot_lands : (st : Boot) (s : Session) (y : End) (h : Here) → leads (boot_plan s st y h.outbox h.undo) h ≡ after_boot st s y h
unfolding boot_plan
boot_lands k.QueryFw s y h =
    pick_leads (is_done (cmd_in y).result) _ _ h _ _ (fw_replied_lem (took_of s (cmd_in y)) (query_fw_of h.outbox s.info.uar.index) (fw_held h.outbox s.info.uar.index) h)
    (fail_leads (bookkeeps (took_of s (cmd_in y)) (broken_by (cmd_in y).result (took_of s (cmd_in y)).books)) (fw_failure_of (cmd_in y).result) h)
boot_lands (k.Make a) s y h = area_leads s a (made_in y) h
boot_lands (k.Map a v) s y h = good_leads s (cmd_in y) _ h _ (map_leads (took_of s (cmd_in y)) a v h)
boot_lands k.RunFw s y h = good_leads s (cmd_in y) _ h _ (stat_leads (took_of s (cmd_in y)) h)
boot_lands k.ModStat s y h = pick_leads (needs_reset (cmd_in y).result) _ _ h _ _ (fail_by_leads (took_of s (cmd_in y)) (cmd_in y).result h) (cap_leads (took_of s (cmd_in y)) h)
boot_lands k.DevCap s y h = good_leads s (cmd_in y) _ h _ (cap_replied_lem (took_of s (cmd_in y)) (capability_of h.outbox s.info.uar.size) h)
boot_lands (k.Port i) s y h = good_leads s (cmd_in y) _ h _ (port_replied_lem (took_of s (cmd_in y)) i (query_port_of h.outbox i) h)
boot_lands k.IcmSize s y h = good_leads s (cmd_in y) _ h _ (make_leads (took_of s (cmd_in y)) a.Aux h (immediate_of (cmd_in y).result * 4096))
boot_lands k.InitHca s y h = good_leads s (cmd_in y) _ h _ (func_leads (bookkeeps (took_of s (cmd_in y)) (now_started (took_of s (cmd_in y)).books)) h)
boot_lands k.Func s y h = good_leads s (cmd_in y) _ h _ (func_replied_lem (took_of s (cmd_in y)) (query_func_of h.outbox) h)
boot_lands k.Adapter s y h = refl

-- BEFORE BRING-UP
fw_leads : (s : Session) (h : Here) → leads (ask_plan s k.QueryFw 0x004 0 h.undo) h ≡ query_fw s.info s.books h
unfolding query_fw
fw_leads s h = send_leads s k.QueryFw (with_out_of s.books 0x004 0)
    (λ r d j. pick (is_done r) (fw_reply s.info d j) (fails (fw_failure_of r) s.info (broken_by r d) j)) refl (λ v d j. refl) (zeroed outbox h)

look_leads : (s : Session) (h : Here) → leads (planned (starts s (g.Prepare p.Look) t.Look) w.Nothing h.undo.count) h ≡ look s.info s.books h
unfolding look prepare_course
look_leads s h = run_turned neither looking (λ v. e.Looked v) (λ y d j. after_prepare p.Look (bookkeeps s d) y j) s.books h

outbox_leads : (s : Session) (y : Made) (h : Here) → leads (outbox_plan s y h.undo) h ≡ after_prepare p.Outbox s (e.Made y) h
unfolding give_inbox
outbox_leads s (m.Ready y) h = look_leads s h
outbox_leads s (m.Refused y) h = z.give-leads prepare_course boot_course client_course wrote (gives_up s (fault_of y) s.books) c.Clean h

inbox_leads : (s : Session) (y : Made) (h : Here) → leads (inbox_plan s y h.undo) h ≡ after_prepare p.Inbox s (e.Made y) h
unfolding make_outbox prepare_course
inbox_leads s (m.Ready y) h = run_turned outbox (allocating 1) (λ v. e.Made v) (λ y d j. after_prepare p.Outbox (bookkeeps s d) y j) s.books h
inbox_leads s (m.Refused y) h = part_leads s (fault_of y) s.books h

bar_leads : (s : Session) (y : Found) (h : Here) → leads (bar_plan s y h.undo) h ≡ on_found y s.info s.books h
unfolding make_inbox prepare_course
bar_leads s (Ok y) h = run_turned inbox (allocating 1) (λ v. e.Made v) (λ v d j. after_prepare p.Inbox (bookkeeps (informs s (with_uar s.info y)) d) v j) s.books h
bar_leads s (Err u.Refused) h = part_leads s x.Bar s.books h
bar_leads s (Err u.BadList) h = part_leads s x.List s.books h

reset_leads : (s : Session) (y : End) (h : Here) → leads (reset_plan s (reset_in y) h.undo) h ≡ after_prepare p.Reset s y h
unfolding find_uar prepare_course
reset_leads s y h =
    pick_leads (is_good (reset_in y)) _ _ h _ _ (run_turned neither (bar_script started) (λ v. e.Bar v) (λ y d j. after_prepare p.Bar (bookkeeps s d) y j) s.books h) (part_leads s x.Reset s.books h)

claim_leads : (s : Session) (y : Claimed) (h : Here) → leads (claim_plan s y h.undo) h ≡ on_claimed y s.info s.books h
unfolding first_reset prepare_course
claim_leads s l.Good h = run_turned neither (reset_script rs.started) (λ v. e.Reset v) (λ y d j. after_prepare p.Reset (bookkeeps s d) y j) s.books h
claim_leads s l.Refused h = z.restore-leads prepare_course boot_course client_course wrote (gives_up s x.Owner s.books) h

attr_leads : (s : Session) (y : Attributes) (h : Here) → leads (attr_plan s y h.undo) h ≡ on_enabled y s.info s.books h
unfolding claim prepare_course
attr_leads s (at.Enabled v) h = run_turned neither claiming (λ y. e.Claim y) (λ y d j. after_prepare p.Claim (bookkeeps s d) y j) (with_original s.books v) h
attr_leads s at.Refused h = refl

pub prepare_lands : (st : Prepare) (s : Session) (y : End) (h : Here) → leads (prepare_plan s st y h.undo) h ≡ after_prepare st s y h
unfolding prepare_plan
prepare_lands p.Attributes s y h = attr_leads s (attr_in y) h
prepare_lands p.Claim s y h = claim_leads s (claim_in y) h
prepare_lands p.Reset s y h = reset_leads s y h
prepare_lands p.Bar s y h = bar_leads s (bar_in y) h
prepare_lands p.Inbox s y h = inbox_leads s (made_in y) h
prepare_lands p.Outbox s y h = outbox_leads s (made_in y) h
prepare_lands p.Look s y h = fw_leads (bookkeeps s (with_toggle s.books (toggle_in y))) h

-- AN OPENING begins with its course
pub open_lands : (s : Session) (h : Here) → leads (open_plan s h.undo) h ≡ enable s.info s.books h
unfolding enable prepare_course
open_lands s h = run_turned neither attributing (λ v. e.Attr v) (λ y d j. after_prepare p.Attributes (bookkeeps s d) y j) s.books h
