-- What a call writes are bytes: the inbox stays bytes, and so do the session's own.
use Prim.Native.Nat.{ℕ, zero, suc, ◌+◌, ◌*◌, ◌/◌, ◌%◌, ◌<◌}
use native.Mathlib.Omega.{arith}
use mathlib.Core.Bool.{Bool, true, false}
use mathlib.Core.List.{List, [], ◌∷◌}
use lib.Dec.{eqb}
use lib.ListN.{length, set, replicate}
use Rattle.fields.specs.Fields.{put_digits, put_at, place_of}
use Rattle.fields.specs.Outcome.{pick}
use Rattle.fields.specs.declared.Order.{Order}
use Rattle.fields.specs.declared.Order.TheVariants.{Big, Little}
use Rattle.fields.proofs.Laws.{Bytes}
use Rattle.words.specs.Words.{put_words}
use Rattle.dma.specs.PageList.{list_at, entry_at, word_of, first_blocks}
use Rattle.dma.specs.PageList as pl
use Rattle.dma.specs.declared.Block.{Block}
use Rattle.init.specs.Init.{put_all, fields_of, init_of, mod_stat_cfg}
use Rattle.init.specs.Init as ini
use Rattle.init.specs.declared.Field.{Field}
use Rattle.pci.specs.declared.Answer.{Answer}
use Rattle.work.specs.Work.{work_step_of}
use Rattle.work.specs.declared.Work.{Work}
use Rattle.work.specs.declared.Ending.{Ending}
use Rattle.work.specs.declared.Ending.TheVariants as e
use Rattle.session.specs.Course.{blank}
use Rattle.session.specs.declared.Top.{Top}
use Rattle.session.specs.declared.Fill.{Fill}
use Rattle.session.specs.declared.Fill.TheVariants as w
use Rattle.session.specs.declared.Session.{Session}
use Rattle.opening_plan.specs.Values.{layout_in}
use Rattle.client_plan.specs.Client.{over, takes_input}
use Rattle.fw_plan.specs.Calls.{plan_of, with_work, booked_of, filled_in, wiped_in, wipe_of, step_box_in, step_in}
use Rattle.fw_plan.specs.declared.Wipe.{Wipe}
use Rattle.fw_plan.specs.declared.Wipe.TheVariants as v
use Rattle.calls_plan.specs.Calls.{ready_in, plan_for, begun_inbox}
use Rattle.calls_plan.specs.declared.Call.{Call}
use Rattle.calls_plan.specs.declared.Call.TheVariants as k
use Rattle.card_run.proofs.Courses.{zeros}

-- WRITTEN BYTES
set_bytes : (s : List ℕ) (i v : ℕ) → Bytes s → v < 256 → Bytes (set s i v)
set_bytes [] i v b h j = b j
set_bytes (x ∷ s) zero v b h zero = h
set_bytes (x ∷ s) zero v b h (suc j) = b (suc j)
set_bytes (x ∷ s) (suc i) v b h zero = b 0
set_bytes (x ∷ s) (suc i) v b h (suc j) = set_bytes s i v (λ n. b (suc n)) h j

digits_bytes : (s : List ℕ) (place : ℕ → ℕ) (n v : ℕ) → Bytes s → Bytes (put_digits s place n v)
unfolding put_digits
digits_bytes s place zero v b = b
digits_bytes s place (suc n) v b = digits_bytes (set s (place n) (v % 256)) place n (v / 256) (set_bytes s (place n) (v % 256) b (omega arith))

put_bytes : (d : Order) (s : List ℕ) (o n v : ℕ) → Bytes s → Bytes (put_at d s o n v)
put_bytes d s o n v b = digits_bytes s (place_of d o n) n v b

pub words_bytes : (s : List ℕ) (i : ℕ) (ws : List ℕ) → Bytes s → Bytes (put_words s i ws)
unfolding put_words
words_bytes s i [] b = b
words_bytes s i (x ∷ ws) b = words_bytes (put_at Little s (i * 8) 8 x) (i + 1) ws (put_bytes Little s (i * 8) 8 x b)

-- MAILBOXES
all_bytes : (s : List ℕ) (fs : List Field) → Bytes s → Bytes (put_all s fs)
unfolding put_all
all_bytes s [] b = b
all_bytes s (x ∷ fs) b = all_bytes (put_at Big s x.offset x.width x.value) fs (put_bytes Big s x.offset x.width x.value b)

list_bytes : (s : List ℕ) (i : ℕ) (bs : List Block) → Bytes s → Bytes (list_at s i bs)
unfolding list_at
list_bytes s i [] b = b
list_bytes s i (x ∷ bs) b = list_bytes (entry_at s i x) (suc i) bs (put_bytes Big (put_at Big s (i * 16) 8 x.virt) (i * 16 + 8) 8 (word_of x) (put_bytes Big s (i * 16) 8 x.virt b))

over_bytes : (y s : List ℕ) → Bytes y → Bytes s → Bytes (over y s)
unfolding over
over_bytes [] s a b j = b j
over_bytes (y ∷ ys) [] a b j = b j
over_bytes (y ∷ ys) (x ∷ xs) a b zero = a 0
over_bytes (y ∷ ys) (x ∷ xs) a b (suc j) = over_bytes ys xs (λ n. a (suc n)) (λ n. b (suc n)) j

picked : (t : Bool) (x y : List ℕ) → Bytes x → Bytes y → Bytes (pick t x y)
picked true x y a b = a
picked false x y a b = b

filled_bytes : (x : Fill) (s : Session) (i : List ℕ) → Bytes i → Bytes (filled_in x s i)
filled_bytes w.Nothing s i b = b
filled_bytes w.Outbox s i b = b
filled_bytes (w.List c) s i b = picked (eqb (length i) 4096) _ i (list_bytes (replicate 4096 0) 0 _ (zeros 4096)) b
filled_bytes w.ModStat s i b = picked (eqb (length i) 4096) _ i (all_bytes (replicate 4096 0) mod_stat_cfg (zeros 4096)) b
filled_bytes w.InitHca s i b = picked (eqb (length i) 4096) _ i (all_bytes (replicate 4096 0) (fields_of (init_of s.info.cap (layout_in s.info).rows)) (zeros 4096)) b

wiped_bytes : (x : Wipe) (i : List ℕ) → Bytes i → Bytes (wiped_in x i)
wiped_bytes v.Neither i b = b
wiped_bytes v.Inbox i b = zeros (length i)
wiped_bytes v.Outbox i b = b

-- THE INBOX after a step, and at the beginning of a call
box_bytes : (s : Session) (a : Answer) (y : Work) (i o : List ℕ) (top : Top) (n : Ending) → Bytes i → Bytes (step_box_in s a y i o top n)
box_bytes s a y i o top e.Going b = wiped_bytes (wipe_of s a) i b
box_bytes s a y i o top (e.Ended z) b = filled_bytes (plan_of (with_work s y) z o top).fill (plan_of (with_work s y) z o top).session i b

pub step_bytes : (s : Session) (a : Answer) (r i o : List ℕ) (top : Top) → Bytes i → Bytes (step_in s a r i o top)
unfolding step_in
step_bytes s a r i o top b = box_bytes (booked_of s a) a (work_step_of s.work a r).work i o top (work_step_of s.work a r).ending b

ready_bytes : (c : Call) (y i : List ℕ) → Bytes y → Bytes i → Bytes (ready_in c y i)
ready_bytes k.Open y i a b = b
ready_bytes (k.Command z) y i a b = picked (takes_input z.form) _ i (over_bytes y (blank i) a (zeros (length i))) b
ready_bytes (k.Lend bytes) y i a b = b
ready_bytes (k.UndoTo mark r) y i a b = b
ready_bytes k.Quiesce y i a b = b
ready_bytes k.Close y i a b = b

pub call_bytes : (s : Session) (c : Call) (y i : List ℕ) (top : Top) → Bytes y → Bytes i → Bytes (begun_inbox s c y i top)
unfolding begun_inbox
call_bytes s c y i top a b = filled_bytes (plan_for s c top).fill (plan_for s c top).session (ready_in c y i) (ready_bytes c y i a b)
