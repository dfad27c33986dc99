-- ONE SLOT IS WRITTEN: it is read back, and every other part and slot stands as it did.
use Prim.Native.Nat.{ℕ, zero, suc, ◌+◌, ◌*◌, ◌≤◌, ◌<◌}
use mathlib.Core.Bool.{Bool, true, false}
use mathlib.Core.Path.{◌≡◌, refl, ap, sym, subst, ◌∙◌}
use mathlib.Core.List.{List}
use native.Mathlib.Omega.{arith}
use borrow.Author.Tests.{lt-ltb, le-leb}
use lib.Dec.{ltb, leb}
use lib.ListN.{length, get_or, set}
use Rattle.fields.specs.Outcome.{pick}
use Rattle.words.specs.Places.{TASK, STAGE, LEDGER, TOLD, CAP, PORT, RESET, FIND, SLOT, SLOTS, task_at, stage_at, ledger_at, told_at, cap_at}
use Rattle.words.specs.Places.{port1_at, port2_at, reset_at, find_at, slots_at, state_bytes}
use Rattle.words.specs.Words.{word_at, words_in, put_words, flat, rows_in}
use Rattle.words.proofs.Laws.{words_put, words_before, words_after, words_agree}
use Rattle.words_task.specs.Coding.{task_words, task_of}
use Rattle.words_stage.specs.Coding.{stage_words, stage_of}
use Rattle.words_books.specs.Coding.{ledger_words, ledger_of, slot_words, slot_of}
use Rattle.words_books.specs.Fits.{SlotFits}
use Rattle.words_books.proofs.Trip.{slot_back, slot_small}
use Rattle.words_info.specs.Coding.{told_words, told_of, cap_words, cap_of, port_words, port_of}
use Rattle.words_beside.specs.Coding.{reset_words, reset_of, find_words, find_of}
use Rattle.behind.specs.Behind.{put_part, slot_put, flags_stand}
use Rattle.behind.proofs.Laws.{put_long, rows_set}
use Rattle.words_session.specs.Image.{ledger_for, told_for}
use Rattle.session.specs.Core.{Behind, behind, full}
use Rattle.session.specs.declared.Core.{Core}
use Rattle.session.specs.declared.Slot.{Slot}
use Rattle.words_laws.proofs.Rows.{pick_true, flag_of, flags_words, words_flags}
use Rattle.words_laws.proofs.Parts.{Part, Parts, slots_many, slots_words}
use Rattle.words_laws.proofs.Put.{Apart, stays, part_length}

word_same : (s t : List ℕ) (k : ℕ) → ((j : ℕ) → k * 8 ≤ j → j < (k + 1) * 8 → get_or s j 0 ≡ get_or t j 0) → word_at s k ≡ word_at t k
unfolding words_in
word_same s t k h = ap (λ (l : List ℕ). get_or l 0 0) (words_agree s t k 1 h)

flags_agree : (s t : List ℕ) (k n : ℕ) → ((j : ℕ) → k * 8 ≤ j → get_or s j 0 ≡ get_or t j 0) → flags_stand s k n ≡ flags_stand t k n
unfolding flags_stand
flags_agree s t k zero h = refl
flags_agree s t k (suc n) h =
    ap (λ (x : ℕ). pick (ltb x 2) (flags_stand s (k + SLOT) n) false) (word_same s t (k + 5) (λ j a b. h j (omega arith)))
    ∙ ap (λ (y : Bool). pick (ltb (word_at t (k + 5)) 2) y false) (flags_agree s t (k + SLOT) n (λ j a. h j (omega arith)))

flags_put : (r : Slot) → SlotFits r → (s : List ℕ) (k n i : ℕ) → i < n → (k + n * SLOT) * 8 ≤ length s → flags_stand s k n ≡ true
    → flags_stand (put_words s (k + i * SLOT) (slot_words r)) k n ≡ true
unfolding flags_stand
flags_put r fit s k zero i h b f = absurd (omega arith)
flags_put r fit s k (suc n) zero h b f =
    let e : k + zero * SLOT ≡ k = omega arith in
    let s' = put_words s k (slot_words r) in
    let q = pick_true (ltb (word_at s (k + 5)) 2) (flags_stand s (k + SLOT) n) f in
    let here = flag_of s' k r (words_put s k (slot_words r) (slot_small r fit) (omega arith)) in
    let rest = flags_agree s' s (k + SLOT) n (λ j a. words_after s k (slot_words r) j (omega arith)) ∙ q.1 in
    ap (λ (j : ℕ). flags_stand (put_words s j (slot_words r)) k (suc n)) e
    ∙ ap (λ (x : Bool). pick x (flags_stand s' (k + SLOT) n) false) (lt-ltb (word_at s' (k + 5)) 2 here) ∙ rest
flags_put r fit s k (suc n) (suc i) h b f =
    let e : k + suc i * SLOT ≡ k + SLOT + i * SLOT = omega arith in
    let s' = put_words s (k + SLOT + i * SLOT) (slot_words r) in
    let q = pick_true (ltb (word_at s (k + 5)) 2) (flags_stand s (k + SLOT) n) f in
    let w = word_same s' s (k + 5) (λ j a d. words_before s (k + SLOT + i * SLOT) (slot_words r) j (omega arith)) in
    ap (λ (j : ℕ). flags_stand (put_words s j (slot_words r)) k (suc n)) e
    ∙ ap (λ (x : Bool). pick x (flags_stand s' (k + SLOT) n) false) (ap (λ (x : ℕ). ltb x 2) w ∙ q.0)
    ∙ flags_put r fit s (k + SLOT) n i (omega arith) (omega arith) q.1

pub apart_before : (k m j n : ℕ) → j + n ≤ k → Apart k m j n
apart_before k m j n h = rw (le-leb (j + n) k h) refl

pub put_slot : (xs : List ℕ) (c : Core) (b : Behind) (i : ℕ) (v : Slot) → SlotFits v → i < SLOTS → Parts xs (full c b)
    → Parts (slot_put i v xs) (full c (behind b.reset b.find b.cap b.port1 b.port2 (set b.slots i v)))
put_slot xs c b i v fit h p =
    let ws = slot_words v in
    let k = slots_at + i * SLOT in
    let r = p.enough in
    let is : slot_put i v xs ≡ put_part (slots_at + i * SLOT) (slot_words v) xs = rw (lt-ltb i SLOTS h) refl in
    let n = slots_many xs (full c b) p in
    let flags : flags_stand xs slots_at SLOTS ≡ true =
    ap (flags_stand xs slots_at) (sym n) ∙ words_flags xs slots_at b.slots (ap (words_in xs slots_at) (slots_words b.slots n) ∙ p.slots) in
    let rows : rows_in slot_of SLOT (put_part (slots_at + i * SLOT) (slot_words v) xs) slots_at SLOTS ≡ set b.slots i v =
    ap (λ (ys : List ℕ). rows_in slot_of SLOT ys slots_at SLOTS) (sym (put_long k ws xs r))
    ∙ rows_set slot_of SLOT slot_words v refl (slot_back v) (slot_small v fit) xs slots_at SLOTS i h (omega arith) ∙ ap (λ (l : List Slot). set l i v) p.rows in
    subst (λ (ys : List ℕ). Parts ys (full c (behind b.reset b.find b.cap b.port1 b.port2 (set b.slots i v)))) (sym is)
    (record {
      enough = part_length xs ws k r;
      ranges = p.ranges;
      lends = p.lends;
      task = stays task_words task_of task_at TASK c.task xs ws k SLOT refl r (apart_before k SLOT task_at TASK (omega arith)) p.task;
      stage = stays stage_words stage_of stage_at STAGE c.stage xs ws k SLOT refl r (apart_before k SLOT stage_at STAGE (omega arith)) p.stage;
      ledger = stays ledger_words ledger_of ledger_at LEDGER (ledger_for c) xs ws k SLOT refl r (apart_before k SLOT ledger_at LEDGER (omega arith)) p.ledger;
      told = stays told_words told_of told_at TOLD (told_for c) xs ws k SLOT refl r (apart_before k SLOT told_at TOLD (omega arith)) p.told;
      cap = stays cap_words cap_of cap_at CAP b.cap xs ws k SLOT refl r (apart_before k SLOT cap_at CAP (omega arith)) p.cap;
      port1 = stays port_words port_of port1_at PORT b.port1 xs ws k SLOT refl r (apart_before k SLOT port1_at PORT (omega arith)) p.port1;
      port2 = stays port_words port_of port2_at PORT b.port2 xs ws k SLOT refl r (apart_before k SLOT port2_at PORT (omega arith)) p.port2;
      reset = stays reset_words reset_of reset_at RESET b.reset xs ws k SLOT refl r (apart_before k SLOT reset_at RESET (omega arith)) p.reset;
      find = stays find_words find_of find_at FIND b.find xs ws k SLOT refl r (apart_before k SLOT find_at FIND (omega arith)) p.find;
      slots = flags_words (put_part k ws xs) slots_at SLOTS (ap (λ (ys : List ℕ). flags_stand ys slots_at SLOTS) (sym (put_long k ws xs r)) ∙ flags_put v fit xs slots_at SLOTS i h (omega arith) flags) ∙ ap (flat slot_words) rows;
      rows = rows;
    })
