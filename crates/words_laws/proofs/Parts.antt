-- The parts of a session's words, each in its place: the words stand, and stand for that part of the session.
use Prim.Native.Nat.{ℕ, ◌+◌, ◌*◌, ◌≤◌}
use mathlib.Core.Bool.{Bool, true, false}
use mathlib.Core.Path.{◌≡◌, refl, ap, sym, ◌∙◌}
use mathlib.Core.List.{List, []}
use native.Mathlib.Omega.{arith}
use borrow.Author.Tests.{le-leb, le-ltb, ltb-false, leb-true}
use lib.Dec.{ltb, leb}
use lib.ListN.{length}
use Rattle.fields.specs.Outcome.{Outcome, value, refused, pick}
use Rattle.fields.proofs.Outcomes.{same_value, never_refused, past}
use Rattle.words.specs.Places.{TASK, STAGE, LEDGER, TOLD, CAP, PORT, RESET, FIND, SLOT, SLOTS, task_at, stage_at, ledger_at, told_at, cap_at}
use Rattle.words.specs.Places.{port1_at, port2_at, reset_at, find_at, slots_at, state_bytes}
use Rattle.words.specs.Words.{words_in, same_words, flat, rows_in}
use Rattle.words.proofs.Laws.{same_words_lem, words_are, length_flat, rows_count}
use Rattle.words_task.specs.Coding.{task_words, task_of}
use Rattle.words_task.proofs.Trip.{task_length}
use Rattle.words_stage.specs.Coding.{stage_words, stage_of}
use Rattle.words_stage.proofs.Trip.{stage_length}
use Rattle.words_books.specs.Coding.{ledger_words, ledger_of, slot_words, slot_of}
use Rattle.words_books.specs.declared.Ledger.{Ledger}
use Rattle.words_info.specs.Coding.{told_words, told_of, cap_words, cap_of, port_words, port_of}
use Rattle.words_info.specs.declared.Told.{Told}
use Rattle.words_beside.specs.Coding.{reset_words, reset_of, find_words, find_of}
use Rattle.behind.specs.Behind.{behind_from, flags_stand}
use Rattle.words_session.specs.Image.{core_of, behind_of, ledger_for, told_for, core_from, core_in, session_in, counts_fit, head_stands, tail_stands, behind_stands, stands, decode_of}
use Rattle.words_session.proofs.Laws.{known}
use Rattle.session.specs.Core.{full}
use Rattle.session.specs.declared.Slot.{Slot}
use Rattle.session.specs.declared.Session.{Session}
use Rattle.words_laws.proofs.Rows.{pick_true, flags_words, words_flags}

-- all the words of the slots
abbrev pub ROWS : ℕ
ROWS = SLOTS * SLOT

-- one part: its words stand from word k on, and stand for it
abbrev pub Part : {A : Type 0} → (A → List ℕ) → (List ℕ → A) → (k n : ℕ) → List ℕ → A → Type 0
Part f g k n xs v = (words_in xs k n ≡ f v) × (g (words_in xs k n) ≡ v)

pub record Parts (xs : List ℕ) (s : Session) : Type 0 where
  pub enough : state_bytes ≤ length xs
  pub ranges : s.books.lists.ranges ≤ 14
  pub lends : s.books.lists.lends ≤ 64
  pub task : Part task_words task_of task_at TASK xs s.work.task
  pub stage : Part stage_words stage_of stage_at STAGE xs s.stage
  pub ledger : Part ledger_words ledger_of ledger_at LEDGER xs (ledger_for (core_of s))
  pub told : Part told_words told_of told_at TOLD xs (told_for (core_of s))
  pub cap : Part cap_words cap_of cap_at CAP xs s.info.cap
  pub port1 : Part port_words port_of port1_at PORT xs s.info.port1
  pub port2 : Part port_words port_of port2_at PORT xs s.info.port2
  pub reset : Part reset_words reset_of reset_at RESET xs s.work.reset
  pub find : Part find_words find_of find_at FIND xs s.work.find
  pub slots : words_in xs slots_at ROWS ≡ flat slot_words s.books.lists.slots
  pub rows : rows_in slot_of SLOT xs slots_at SLOTS ≡ s.books.lists.slots

-- as many slots as were read
pub slots_many : (xs : List ℕ) (s : Session) → Parts xs s → length s.books.lists.slots ≡ SLOTS
slots_many xs s p = ap (λ (l : List Slot). length l) (sym p.rows) ∙ rows_count slot_of slot_words SLOT (λ x. refl) xs slots_at SLOTS

pub slots_words : (l : List Slot) → length l ≡ SLOTS → length (flat slot_words l) ≡ ROWS
slots_words l h = let e = length_flat slot_of slot_words SLOT (λ r. refl) l in omega arith

-- the session that the words stand for
pub parts_read : (xs : List ℕ) (s : Session) → Parts xs s → session_in xs ≡ s
parts_read xs s p =
    ap (λ (l : Ledger). full (core_from xs l (told_of (words_in xs told_at TOLD))) (behind_from xs)) p.ledger.1
    ∙ ap (λ (t : Told). full (core_from xs (ledger_for (core_of s)) t) (behind_from xs)) p.told.1
    ∙ rw (p.task.1, p.stage.1, p.cap.1, p.port1.1, p.port2.1, p.reset.1, p.find.1, p.rows) refl

all_true : (a b : Bool) → a ≡ true → b ≡ true → pick a b false ≡ true
all_true a b e d = ap (λ (x : Bool). pick x b false) e ∙ d

-- then the session's words are found to stand there
pub parts_stand : (xs : List ℕ) (s : Session) → Parts xs s → stands xs s ≡ true
parts_stand xs s p =
    let c = core_of s in
    let l = s.books.lists.slots in
    let n = slots_many xs s p in
    let counts : counts_fit c ≡ true = rw (le-ltb 14 c.ranges p.ranges) (le-leb c.lends 64 p.lends) in
    let flags : flags_stand xs slots_at SLOTS ≡ true = ap (flags_stand xs slots_at) (sym n) ∙ words_flags xs slots_at l (ap (words_in xs slots_at) (slots_words l n) ∙ p.slots) in
    let task = words_are xs task_at (task_words c.task) (ap (words_in xs task_at) (task_length c.task) ∙ p.task.0) in
    let stage = words_are xs stage_at (stage_words c.stage) (ap (words_in xs stage_at) (stage_length c.stage) ∙ p.stage.0) in
    let ledger = words_are xs ledger_at (ledger_words (ledger_for c)) p.ledger.0 in
    let told = words_are xs told_at (told_words (told_for c)) p.told.0 in
    let cap = words_are xs cap_at (cap_words s.info.cap) p.cap.0 in
    let port1 = words_are xs port1_at (port_words s.info.port1) p.port1.0 in
    let port2 = words_are xs port2_at (port_words s.info.port2) p.port2.0 in
    let reset = words_are xs reset_at (reset_words s.work.reset) p.reset.0 in
    let find = words_are xs find_at (find_words s.work.find) p.find.0 in
    let head : head_stands xs c ≡ true = all_true _ _ counts (all_true _ _ task (all_true _ _ stage (all_true _ _ ledger told))) in
    let tail : tail_stands xs (behind_of s) ≡ true = all_true _ _ reset (all_true _ _ find flags) in
    let rest : behind_stands xs (behind_of s) ≡ true = all_true _ _ cap (all_true _ _ port1 (all_true _ _ port2 tail)) in
    all_true (head_stands xs c) (behind_stands xs (behind_of s)) head rest

-- and so it is read
pub parts_decode : (xs : List ℕ) (s : Session) → Parts xs s → decode_of xs ≡ value s
parts_decode xs s p = known xs (parts_read xs s p) (parts_stand xs s p) p.enough

held : (b : Bool) (x s : Session) → pick b (value x) (refused 20 []) ≡ value s → (b ≡ true) × (x ≡ s)
held true x s e = (refl, same_value e)
held false x s e = absurd (never_refused e)

-- what a session that was read says of the bytes
pub record Given (xs : List ℕ) (s : Session) : Type 0 where
  pub enough : state_bytes ≤ length xs
  pub reads : session_in xs ≡ s
  pub stand : stands xs s ≡ true

pub given : (xs : List ℕ) (s : Session) → decode_of xs ≡ value s → Given xs s
given xs s e =
    let q = past (ltb (length xs) state_bytes) 21 [] (pick (stands xs (session_in xs)) (value (session_in xs)) (refused 20 [])) s e in
    let r = held (stands xs (session_in xs)) (session_in xs) s q.1 in
    record { enough = ltb-false (length xs) state_bytes q.0; reads = r.1; stand = ap (stands xs) (sym r.1) ∙ r.0 }

not_so : false ≡ true → ⊥
not_so h = let z : ◌≡◌ {A = ℕ} 0 1 = ap (λ (x : Bool). pick x 1 0) h in omega arith

count_true : (r l : ℕ) → pick (ltb 14 r) false (leb l 64) ≡ true → (r ≤ 14) × (l ≤ 64)
count_true r l e = by (ltb 14 r) refl e
  where
    by : (b : Bool) → ltb 14 r ≡ b → pick b false (leb l 64) ≡ true → (r ≤ 14) × (l ≤ 64)
    by false d h = (ltb-false 14 r d, leb-true l 64 h)
    by true d h = absurd (not_so h)

-- A session that was read stands there, part by part.
pub decode_parts : (xs : List ℕ) (s : Session) → decode_of xs ≡ value s → Parts xs s
decode_parts xs s e =
    let g = given xs s e in
    let r = g.reads in
    let c = core_of s in
    let b = behind_of s in
    let q = pick_true (head_stands xs c) (behind_stands xs b) g.stand in
    let h1 = pick_true (counts_fit c) _ q.0 in
    let h2 = pick_true (same_words xs task_at (task_words c.task)) _ h1.1 in
    let h3 = pick_true (same_words xs stage_at (stage_words c.stage)) _ h2.1 in
    let h4 = pick_true (same_words xs ledger_at (ledger_words (ledger_for c))) (same_words xs told_at (told_words (told_for c))) h3.1 in
    let b1 = pick_true (same_words xs cap_at (cap_words b.cap)) _ q.1 in
    let b2 = pick_true (same_words xs port1_at (port_words b.port1)) _ b1.1 in
    let b3 = pick_true (same_words xs port2_at (port_words b.port2)) (tail_stands xs b) b2.1 in
    let t1 = pick_true (same_words xs reset_at (reset_words b.reset)) _ b3.1 in
    let t2 = pick_true (same_words xs find_at (find_words b.find)) (flags_stand xs slots_at SLOTS) t1.1 in
    let n = count_true c.ranges c.lends h1.0 in
    let rows : rows_in slot_of SLOT xs slots_at SLOTS ≡ s.books.lists.slots = ap (λ (z : Session). z.books.lists.slots) r in
    record {
      enough = g.enough;
      ranges = n.0;
      lends = n.1;
      task = (ap (words_in xs task_at) (sym (task_length c.task)) ∙ same_words_lem xs task_at (task_words c.task) h2.0, ap (λ (z : Session). z.work.task) r);
      stage = (ap (words_in xs stage_at) (sym (stage_length c.stage)) ∙ same_words_lem xs stage_at (stage_words c.stage) h3.0, ap (λ (z : Session). z.stage) r);
      ledger = (same_words_lem xs ledger_at (ledger_words (ledger_for c)) h4.0, ap (λ (z : Session). ledger_for (core_of z)) r);
      told = (same_words_lem xs told_at (told_words (told_for c)) h4.1, ap (λ (z : Session). told_for (core_of z)) r);
      cap = (same_words_lem xs cap_at (cap_words b.cap) b1.0, ap (λ (z : Session). z.info.cap) r);
      port1 = (same_words_lem xs port1_at (port_words b.port1) b2.0, ap (λ (z : Session). z.info.port1) r);
      port2 = (same_words_lem xs port2_at (port_words b.port2) b3.0, ap (λ (z : Session). z.info.port2) r);
      reset = (same_words_lem xs reset_at (reset_words b.reset) t1.0, ap (λ (z : Session). z.work.reset) r);
      find = (same_words_lem xs find_at (find_words b.find) t2.0, ap (λ (z : Session). z.work.find) r);
      slots = flags_words xs slots_at SLOTS t2.1 ∙ ap (flat slot_words) rows;
      rows = rows;
    }
