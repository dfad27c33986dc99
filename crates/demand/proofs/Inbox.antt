-- The inbox keeps its 4,096 bytes, in each step and at the beginning of each call.
use Prim.Native.Nat.{ℕ}
use mathlib.Core.Bool.{Bool}
use mathlib.Core.List.{List}
use mathlib.Core.Path.{◌≡◌, ◌∙◌, ap}
use borrow.Author.Tests.{eq-eqb}
use lib.ListN.{length, replicate, length-replicate}
use Rattle.fields.specs.Outcome.{pick}
use Rattle.dma.specs.PageList.{first_blocks}
use Rattle.init.specs.Init.{fields_of, init_of, mod_stat_cfg}
use Rattle.init.specs.Init as ini
use Rattle.init.specs.declared.Field.{Field}
use Rattle.pci.specs.declared.Answer.{Answer}
use Rattle.work.specs.Work.{work_step_of}
use Rattle.work.specs.declared.Work.{Work}
use Rattle.work.specs.declared.Ending.{Ending}
use Rattle.work.specs.declared.Ending.TheVariants as e
use Rattle.session.specs.declared.Top.{Top}
use Rattle.session.specs.declared.Fill.{Fill}
use Rattle.session.specs.declared.Fill.TheVariants as w
use Rattle.session.specs.declared.Session.{Session}
use Rattle.opening_plan.specs.Values.{layout_in}
use Rattle.fw_plan.specs.Calls.{booked_of, plan_of, with_work, filled_in, wiped_in, wipe_of, step_box_in, step_in}
use Rattle.calls_plan.specs.Calls.{ready_in, plan_for, begun_inbox}
use Rattle.calls_plan.specs.declared.Call.{Call}
use Rattle.calls_plan.proofs.Begins.{length_ready}
use Rattle.fw_plan.specs.declared.Wipe.{Wipe}
use Rattle.fw_plan.specs.declared.Wipe.TheVariants as v
use Rattle.card_calls.proofs.Areas.{filled_is}
use Rattle.card_calls.proofs.Blocks.{length_mailbox}
use Rattle.card_calls.proofs.Opening.{length_all}

fields_length : (fs : List Field) (i : List ℕ) → length i ≡ 4096 → length (ini.filled_by i fs) ≡ 4096
fields_length fs i l = ap (λ (b : Bool). length (pick b (ini.mailbox_of fs) i)) (eq-eqb (length i) 4096 l) ∙ length_all (replicate 4096 0) fs ∙ length-replicate {A = ℕ} 4096 0

filled_length : (x : Fill) (s : Session) (i : List ℕ) → length i ≡ 4096 → length (filled_in x s i) ≡ 4096
filled_length w.Nothing s i l = l
filled_length w.Outbox s i l = l
filled_length (w.List c) s i l = ap length (filled_is c i l) ∙ length_mailbox (first_blocks 63 256 c)
filled_length w.ModStat s i l = fields_length mod_stat_cfg i l
filled_length w.InitHca s i l = fields_length (fields_of (init_of s.info.cap (layout_in s.info).rows)) i l

wiped_length : (x : Wipe) (i : List ℕ) → length i ≡ 4096 → length (wiped_in x i) ≡ 4096
wiped_length v.Neither i l = l
wiped_length v.Inbox i l = length-replicate {A = ℕ} (length i) 0 ∙ l
wiped_length v.Outbox i l = l

box_length : (s : Session) (a : Answer) (y : Work) (i o : List ℕ) (top : Top) (n : Ending) → length i ≡ 4096 → length (step_box_in s a y i o top n) ≡ 4096
box_length s a y i o top e.Going l = wiped_length (wipe_of s a) i l
box_length s a y i o top (e.Ended z) l = filled_length (plan_of (with_work s y) z o top).fill (plan_of (with_work s y) z o top).session i l

pub step_length : (s : Session) (a : Answer) (r i o : List ℕ) (top : Top) → length i ≡ 4096 → length (step_in s a r i o top) ≡ 4096
unfolding step_in
step_length s a r i o top l = box_length (booked_of s a) a (work_step_of s.work a r).work i o top (work_step_of s.work a r).ending l

pub call_length : (s : Session) (c : Call) (y i : List ℕ) (top : Top) → length i ≡ 4096 → length (begun_inbox s c y i top) ≡ 4096
unfolding begun_inbox
call_length s c y i top l = filled_length (plan_for s c top).fill (plan_for s c top).session (ready_in c y i) (length_ready c y i ∙ l)
