-- ONE PART IS WRITTEN: it is read back, and every other part stands as it did.
use Prim.Native.Nat.{ℕ, ◌+◌, ◌*◌, ◌≤◌, ◌<◌}
use mathlib.Core.Bool.{Bool, true, false}
use mathlib.Core.Path.{◌≡◌, refl, ap, sym, ◌∙◌}
use mathlib.Core.List.{List, ◌++◌}
use native.Mathlib.Omega.{arith}
use borrow.Author.Tests.{leb-true}
use lib.Dec.{leb}
use lib.ListN.{length, get_or}
use Rattle.fields.specs.Outcome.{pick, value}
use Rattle.words.specs.Places.{TASK, STAGE, LEDGER, TOLD, CAP, PORT, RESET, FIND, SLOT, SLOTS, task_at, stage_at, ledger_at, told_at, cap_at}
use Rattle.words.specs.Places.{port1_at, port2_at, reset_at, find_at, slots_at, state_bytes}
use Rattle.words.specs.Words.{words_in, put_words, rows_in}
use Rattle.words.proofs.Laws.{Words, words_small, words_put, words_before, words_after, words_agree, length_words, split}
use Rattle.words_task.specs.Coding.{task_words, task_of}
use Rattle.words_task.specs.Fits.{TaskFits}
use Rattle.words_task.proofs.Trip.{task_length, task_back, task_small}
use Rattle.words_stage.specs.Coding.{stage_words, stage_of}
use Rattle.words_stage.proofs.Trip.{stage_length, stage_back, stage_small}
use Rattle.words_books.specs.Coding.{ledger_words, ledger_of, slot_of}
use Rattle.words_books.proofs.Trip.{ledger_back, ledger_small}
use Rattle.words_info.specs.Coding.{told_words, told_of, cap_words, cap_of, port_words, port_of}
use Rattle.words_info.specs.Fits.{CapFits, PortFits}
use Rattle.words_info.proofs.Trip.{told_back, told_small, cap_back, cap_small, port_back, port_small}
use Rattle.words_beside.specs.Coding.{reset_words, reset_of, find_words, find_of}
use Rattle.words_beside.specs.Fits.{ResetFits, FindFits}
use Rattle.words_beside.proofs.Trip.{reset_back, reset_small, find_back, find_small}
use Rattle.reply.specs.declared.DevCap.{DevCap}
use Rattle.reply.specs.declared.PortInfo.{PortInfo}
use Rattle.reset.specs.declared.Reset.{Reset}
use Rattle.uar.specs.declared.FindBar.{FindBar}
use Rattle.work.specs.declared.Task.{Task}
use Rattle.behind.specs.Behind.{put_part}
use Rattle.behind.proofs.Laws.{put_long, rows_agree}
use Rattle.words_session.specs.Image.{ledger_for, told_for, head_words, put_head, put_task}
use Rattle.words_session.proofs.Laws.{head_length}
use Rattle.session.specs.Core.{Behind, behind, full, start_of}
use Rattle.session.specs.declared.Core.{Core}
use Rattle.words_laws.specs.Kept.{HeadFits}
use Rattle.words_laws.proofs.Parts.{Part, Parts, ROWS}

-- WHAT IS WRITTEN AT ONE PLACE LEAVES THE WORDS OF ANOTHER: m words at k, and n words at j
abbrev pub Apart : (k m j n : ℕ) → Type 0
Apart k m j n = pick (leb (j + n) k) true (leb (k + m) j) ≡ true

left_by : (b : Bool) (xs ws : List ℕ) (k m j n : ℕ) → length ws ≡ m → leb (j + n) k ≡ b → pick b true (leb (k + m) j) ≡ true
    → words_in (put_words xs k ws) j n ≡ words_in xs j n
left_by true xs ws k m j n l e h =
    let z = leb-true (j + n) k e in words_agree (put_words xs k ws) xs j n (λ i a b. words_before xs k ws i (omega arith))
left_by false xs ws k m j n l e h =
    let z = leb-true (k + m) j h in words_agree (put_words xs k ws) xs j n (λ i a b. words_after xs k ws i (omega arith))

pub left : (xs ws : List ℕ) (k m j n : ℕ) → length ws ≡ m → state_bytes ≤ length xs → Apart k m j n → words_in (put_part k ws xs) j n ≡ words_in xs j n
left xs ws k m j n l r h =
    ap (λ (y : List ℕ). words_in y j n) (sym (put_long k ws xs r)) ∙ left_by (leb (j + n) k) xs ws k m j n l refl h

pub rows_left : (xs ws : List ℕ) (k m : ℕ) → length ws ≡ m → state_bytes ≤ length xs → k + m ≤ slots_at
    → rows_in slot_of SLOT (put_part k ws xs) slots_at SLOTS ≡ rows_in slot_of SLOT xs slots_at SLOTS
rows_left xs ws k m l r h =
    ap (λ (y : List ℕ). rows_in slot_of SLOT y slots_at SLOTS) (sym (put_long k ws xs r))
    ∙ rows_agree slot_of SLOT (put_words xs k ws) xs slots_at SLOTS (λ j a. words_after xs k ws j (omega arith))

pub part_length : (xs ws : List ℕ) (k : ℕ) → state_bytes ≤ length xs → state_bytes ≤ length (put_part k ws xs)
part_length xs ws k r = let e = ap length (sym (put_long k ws xs r)) ∙ length_words xs k ws in omega arith

-- a part that was written
pub here : {A : Type 0} (f : A → List ℕ) (g : List ℕ → A) (k n : ℕ) (xs : List ℕ) (v : A) → length (f v) ≡ n → Words (f v) → g (f v) ≡ v
    → state_bytes ≤ length xs → (k + n) * 8 ≤ state_bytes → Part f g k n (put_part k (f v) xs) v
here f g k n xs v l w back r room =
    let e : words_in (put_part k (f v) xs) k n ≡ f v =
    ap (λ (y : List ℕ). words_in y k n) (sym (put_long k (f v) xs r)) ∙ ap (words_in (put_words xs k (f v)) k) (sym l) ∙ words_put xs k (f v) w (omega arith) in
    (e, ap g e ∙ back)

pub stays : {A : Type 0} (f : A → List ℕ) (g : List ℕ → A) (j n : ℕ) (v : A) (xs ws : List ℕ) (k m : ℕ) → length ws ≡ m → state_bytes ≤ length xs → Apart k m j n
    → Part f g j n xs v → Part f g j n (put_part k ws xs) v
stays f g j n v xs ws k m l r h p = let e = left xs ws k m j n l r h in (e ∙ p.0, ap g e ∙ p.1)

-- THE TASK, and each part behind the head
pub put_task_lem : (xs : List ℕ) (c : Core) (b : Behind) (v : Task) → TaskFits v → Parts xs (full c b) → Parts (put_part task_at (task_words v) xs) (full (start_of c c.stage v) b)
put_task_lem xs c b v fit p =
    let ws = task_words v in
    let l : length ws ≡ TASK = task_length v in
    let r = p.enough in
    record {
      enough = part_length xs ws task_at r;
      ranges = p.ranges;
      lends = p.lends;
      task = here task_words task_of task_at TASK xs v l (task_small v fit) (task_back v fit) r (omega arith);
      stage = stays stage_words stage_of stage_at STAGE c.stage xs ws task_at TASK l r refl p.stage;
      ledger = stays ledger_words ledger_of ledger_at LEDGER (ledger_for c) xs ws task_at TASK l r refl p.ledger;
      told = stays told_words told_of told_at TOLD (told_for c) xs ws task_at TASK l r refl p.told;
      cap = stays cap_words cap_of cap_at CAP b.cap xs ws task_at TASK l r refl p.cap;
      port1 = stays port_words port_of port1_at PORT b.port1 xs ws task_at TASK l r refl p.port1;
      port2 = stays port_words port_of port2_at PORT b.port2 xs ws task_at TASK l r refl p.port2;
      reset = stays reset_words reset_of reset_at RESET b.reset xs ws task_at TASK l r refl p.reset;
      find = stays find_words find_of find_at FIND b.find xs ws task_at TASK l r refl p.find;
      slots = left xs ws task_at TASK slots_at ROWS l r refl ∙ p.slots;
      rows = rows_left xs ws task_at TASK l r (omega arith) ∙ p.rows;
    }

pub put_cap : (xs : List ℕ) (c : Core) (b : Behind) (v : DevCap) → CapFits v → Parts xs (full c b) → Parts (put_part cap_at (cap_words v) xs) (full c (behind b.reset b.find v b.port1 b.port2 b.slots))
put_cap xs c b v fit p =
    let ws = cap_words v in
    let l : length ws ≡ CAP = refl in
    let r = p.enough in
    record {
      enough = part_length xs ws cap_at r;
      ranges = p.ranges;
      lends = p.lends;
      task = stays task_words task_of task_at TASK c.task xs ws cap_at CAP l r refl p.task;
      stage = stays stage_words stage_of stage_at STAGE c.stage xs ws cap_at CAP l r refl p.stage;
      ledger = stays ledger_words ledger_of ledger_at LEDGER (ledger_for c) xs ws cap_at CAP l r refl p.ledger;
      told = stays told_words told_of told_at TOLD (told_for c) xs ws cap_at CAP l r refl p.told;
      cap = here cap_words cap_of cap_at CAP xs v l (cap_small v fit) (cap_back v fit) r (omega arith);
      port1 = stays port_words port_of port1_at PORT b.port1 xs ws cap_at CAP l r refl p.port1;
      port2 = stays port_words port_of port2_at PORT b.port2 xs ws cap_at CAP l r refl p.port2;
      reset = stays reset_words reset_of reset_at RESET b.reset xs ws cap_at CAP l r refl p.reset;
      find = stays find_words find_of find_at FIND b.find xs ws cap_at CAP l r refl p.find;
      slots = left xs ws cap_at CAP slots_at ROWS l r refl ∙ p.slots;
      rows = rows_left xs ws cap_at CAP l r (omega arith) ∙ p.rows;
    }

pub put_port1 : (xs : List ℕ) (c : Core) (b : Behind) (v : PortInfo) → PortFits v → Parts xs (full c b) → Parts (put_part port1_at (port_words v) xs) (full c (behind b.reset b.find b.cap v b.port2 b.slots))
put_port1 xs c b v fit p =
    let ws = port_words v in
    let l : length ws ≡ PORT = refl in
    let r = p.enough in
    record {
      enough = part_length xs ws port1_at r;
      ranges = p.ranges;
      lends = p.lends;
      task = stays task_words task_of task_at TASK c.task xs ws port1_at PORT l r refl p.task;
      stage = stays stage_words stage_of stage_at STAGE c.stage xs ws port1_at PORT l r refl p.stage;
      ledger = stays ledger_words ledger_of ledger_at LEDGER (ledger_for c) xs ws port1_at PORT l r refl p.ledger;
      told = stays told_words told_of told_at TOLD (told_for c) xs ws port1_at PORT l r refl p.told;
      cap = stays cap_words cap_of cap_at CAP b.cap xs ws port1_at PORT l r refl p.cap;
      port1 = here port_words port_of port1_at PORT xs v l (port_small v fit) (port_back v fit) r (omega arith);
      port2 = stays port_words port_of port2_at PORT b.port2 xs ws port1_at PORT l r refl p.port2;
      reset = stays reset_words reset_of reset_at RESET b.reset xs ws port1_at PORT l r refl p.reset;
      find = stays find_words find_of find_at FIND b.find xs ws port1_at PORT l r refl p.find;
      slots = left xs ws port1_at PORT slots_at ROWS l r refl ∙ p.slots;
      rows = rows_left xs ws port1_at PORT l r (omega arith) ∙ p.rows;
    }

pub put_port2 : (xs : List ℕ) (c : Core) (b : Behind) (v : PortInfo) → PortFits v → Parts xs (full c b) → Parts (put_part port2_at (port_words v) xs) (full c (behind b.reset b.find b.cap b.port1 v b.slots))
put_port2 xs c b v fit p =
    let ws = port_words v in
    let l : length ws ≡ PORT = refl in
    let r = p.enough in
    record {
      enough = part_length xs ws port2_at r;
      ranges = p.ranges;
      lends = p.lends;
      task = stays task_words task_of task_at TASK c.task xs ws port2_at PORT l r refl p.task;
      stage = stays stage_words stage_of stage_at STAGE c.stage xs ws port2_at PORT l r refl p.stage;
      ledger = stays ledger_words ledger_of ledger_at LEDGER (ledger_for c) xs ws port2_at PORT l r refl p.ledger;
      told = stays told_words told_of told_at TOLD (told_for c) xs ws port2_at PORT l r refl p.told;
      cap = stays cap_words cap_of cap_at CAP b.cap xs ws port2_at PORT l r refl p.cap;
      port1 = stays port_words port_of port1_at PORT b.port1 xs ws port2_at PORT l r refl p.port1;
      port2 = here port_words port_of port2_at PORT xs v l (port_small v fit) (port_back v fit) r (omega arith);
      reset = stays reset_words reset_of reset_at RESET b.reset xs ws port2_at PORT l r refl p.reset;
      find = stays find_words find_of find_at FIND b.find xs ws port2_at PORT l r refl p.find;
      slots = left xs ws port2_at PORT slots_at ROWS l r refl ∙ p.slots;
      rows = rows_left xs ws port2_at PORT l r (omega arith) ∙ p.rows;
    }

pub put_reset : (xs : List ℕ) (c : Core) (b : Behind) (v : Reset) → ResetFits v → Parts xs (full c b) → Parts (put_part reset_at (reset_words v) xs) (full c (behind v b.find b.cap b.port1 b.port2 b.slots))
put_reset xs c b v fit p =
    let ws = reset_words v in
    let l : length ws ≡ RESET = refl in
    let r = p.enough in
    record {
      enough = part_length xs ws reset_at r;
      ranges = p.ranges;
      lends = p.lends;
      task = stays task_words task_of task_at TASK c.task xs ws reset_at RESET l r refl p.task;
      stage = stays stage_words stage_of stage_at STAGE c.stage xs ws reset_at RESET l r refl p.stage;
      ledger = stays ledger_words ledger_of ledger_at LEDGER (ledger_for c) xs ws reset_at RESET l r refl p.ledger;
      told = stays told_words told_of told_at TOLD (told_for c) xs ws reset_at RESET l r refl p.told;
      cap = stays cap_words cap_of cap_at CAP b.cap xs ws reset_at RESET l r refl p.cap;
      port1 = stays port_words port_of port1_at PORT b.port1 xs ws reset_at RESET l r refl p.port1;
      port2 = stays port_words port_of port2_at PORT b.port2 xs ws reset_at RESET l r refl p.port2;
      reset = here reset_words reset_of reset_at RESET xs v l (reset_small v fit) (reset_back v fit) r (omega arith);
      find = stays find_words find_of find_at FIND b.find xs ws reset_at RESET l r refl p.find;
      slots = left xs ws reset_at RESET slots_at ROWS l r refl ∙ p.slots;
      rows = rows_left xs ws reset_at RESET l r (omega arith) ∙ p.rows;
    }

pub put_find : (xs : List ℕ) (c : Core) (b : Behind) (v : FindBar) → FindFits v → Parts xs (full c b) → Parts (put_part find_at (find_words v) xs) (full c (behind b.reset v b.cap b.port1 b.port2 b.slots))
put_find xs c b v fit p =
    let ws = find_words v in
    let l : length ws ≡ FIND = refl in
    let r = p.enough in
    record {
      enough = part_length xs ws find_at r;
      ranges = p.ranges;
      lends = p.lends;
      task = stays task_words task_of task_at TASK c.task xs ws find_at FIND l r refl p.task;
      stage = stays stage_words stage_of stage_at STAGE c.stage xs ws find_at FIND l r refl p.stage;
      ledger = stays ledger_words ledger_of ledger_at LEDGER (ledger_for c) xs ws find_at FIND l r refl p.ledger;
      told = stays told_words told_of told_at TOLD (told_for c) xs ws find_at FIND l r refl p.told;
      cap = stays cap_words cap_of cap_at CAP b.cap xs ws find_at FIND l r refl p.cap;
      port1 = stays port_words port_of port1_at PORT b.port1 xs ws find_at FIND l r refl p.port1;
      port2 = stays port_words port_of port2_at PORT b.port2 xs ws find_at FIND l r refl p.port2;
      reset = stays reset_words reset_of reset_at RESET b.reset xs ws find_at FIND l r refl p.reset;
      find = here find_words find_of find_at FIND xs v l (find_small v fit) (find_back v fit) r (omega arith);
      slots = left xs ws find_at FIND slots_at ROWS l r refl ∙ p.slots;
      rows = rows_left xs ws find_at FIND l r (omega arith) ∙ p.rows;
    }

-- THE HEAD: its four parts, one behind the other
pub parted : (s : List ℕ) (k n : ℕ) (a b : List ℕ) → length a ≡ n → words_in s k (length (a ++ b)) ≡ a ++ b → (words_in s k n ≡ a) × (words_in s (k + n) (length b) ≡ b)
parted s k n a b l e = let q = split s k a b e in (ap (words_in s k) (sym l) ∙ q.0, ap (λ (m : ℕ). words_in s (k + m) (length b)) (sym l) ∙ q.1)

pub head_small : (c : Core) → HeadFits c → Words (head_words c)
head_small c f =
    words_small (task_words c.task) (stage_words c.stage ++ (ledger_words (ledger_for c) ++ told_words (told_for c))) (task_small c.task f.task)
    (words_small (stage_words c.stage) (ledger_words (ledger_for c) ++ told_words (told_for c)) (stage_small c.stage f.stage)
    (words_small (ledger_words (ledger_for c)) (told_words (told_for c)) (ledger_small (ledger_for c) f.ledger) (told_small (told_for c) f.told)))

pub put_head_lem : (xs : List ℕ) (o c : Core) (b : Behind) → HeadFits c → Parts xs (full o b) → Parts (put_head c xs) (full c b)
put_head_lem xs o c b f p =
    let ws = head_words c in
    let ys = put_head c xs in
    let l : length ws ≡ cap_at = head_length c in
    let r = p.enough in
    let room : (task_at + length ws) * 8 ≤ length xs = omega (arith, l, r) in
    let e : words_in ys task_at (length ws) ≡ ws = ap (λ (y : List ℕ). words_in y task_at (length ws)) (sym (put_long task_at ws xs r)) ∙ words_put xs task_at ws (head_small c f) room in
    let q1 = parted ys task_at TASK (task_words c.task) (stage_words c.stage ++ (ledger_words (ledger_for c) ++ told_words (told_for c))) (task_length c.task) e in
    let q2 = parted ys stage_at STAGE (stage_words c.stage) (ledger_words (ledger_for c) ++ told_words (told_for c)) (stage_length c.stage) q1.1 in
    let q3 = parted ys ledger_at LEDGER (ledger_words (ledger_for c)) (told_words (told_for c)) refl q2.1 in
    record {
      enough = part_length xs ws task_at r;
      ranges = f.ranges;
      lends = f.lends;
      task = (q1.0, ap task_of q1.0 ∙ task_back c.task f.task);
      stage = (q2.0, ap stage_of q2.0 ∙ stage_back c.stage f.stage);
      ledger = (q3.0, ap ledger_of q3.0 ∙ ledger_back (ledger_for c) f.ledger);
      told = (q3.1, ap told_of q3.1 ∙ told_back (told_for c) f.told);
      cap = stays cap_words cap_of cap_at CAP b.cap xs ws task_at cap_at l r refl p.cap;
      port1 = stays port_words port_of port1_at PORT b.port1 xs ws task_at cap_at l r refl p.port1;
      port2 = stays port_words port_of port2_at PORT b.port2 xs ws task_at cap_at l r refl p.port2;
      reset = stays reset_words reset_of reset_at RESET b.reset xs ws task_at cap_at l r refl p.reset;
      find = stays find_words find_of find_at FIND b.find xs ws task_at cap_at l r refl p.find;
      slots = left xs ws task_at cap_at slots_at ROWS l r refl ∙ p.slots;
      rows = rows_left xs ws task_at cap_at l r (omega arith) ∙ p.rows;
    }
