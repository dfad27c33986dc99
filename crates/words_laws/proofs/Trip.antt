-- A whole session that was written is read.
use Prim.Native.Nat.{ℕ, ◌+◌, ◌*◌, ◌≤◌}
use mathlib.Core.Path.{◌≡◌, refl, ap, sym, ◌∙◌}
use mathlib.Core.List.{List, [], ◌∷◌, ◌++◌}
use native.Mathlib.Omega.{arith}
use lib.ListN.{length, get_or, length-append}
use Rattle.fields.specs.Outcome.{value}
use Rattle.words.specs.Places.{TASK, STAGE, LEDGER, CAP, PORT, RESET, FIND, SLOT, SLOTS, task_at, stage_at, ledger_at, cap_at}
use Rattle.words.specs.Places.{port1_at, port2_at, reset_at, find_at, slots_at, state_words, state_bytes}
use Rattle.words.specs.Words.{words_in, flat, rows_in, Each}
use Rattle.words.proofs.Laws.{Words, words_small, words_put, length_words, words_after, rows_read}
use Rattle.words_task.specs.Coding.{task_words, task_of}
use Rattle.words_task.proofs.Trip.{task_back, task_length}
use Rattle.words_stage.specs.Coding.{stage_words, stage_of}
use Rattle.words_stage.proofs.Trip.{stage_back, stage_length}
use Rattle.words_books.specs.Coding.{ledger_words, ledger_of, slot_words, slot_of}
use Rattle.words_books.specs.Fits.{SlotFits}
use Rattle.words_books.proofs.Trip.{ledger_back, slot_back, slot_small}
use Rattle.words_info.specs.Coding.{told_words, told_of, cap_words, cap_of, port_words, port_of}
use Rattle.words_info.proofs.Trip.{told_back, cap_back, cap_small, port_back, port_small}
use Rattle.words_beside.specs.Coding.{reset_words, reset_of, find_words, find_of}
use Rattle.words_beside.proofs.Trip.{reset_back, reset_small, find_back, find_small}
use Rattle.words_session.specs.Image.{core_of, behind_of, ledger_for, told_for, head_words, tail_words, behind_words, session_words, put_session, decode_of}
use Rattle.words_session.proofs.Laws.{head_length}
use Rattle.session.specs.Core.{Behind}
use Rattle.session.specs.declared.Session.{Session}
use Rattle.words_laws.specs.Kept.{Fits, HeadFits}
use Rattle.words_laws.proofs.Parts.{Parts, slots_words, parts_decode}
use Rattle.words_laws.proofs.Put.{parted, head_small}

flat_small : {A : Type 0} (P : A → Type 0) (f : A → List ℕ) → ((x : A) → P x → Words (f x)) → (xs : List A) → Each P xs → Words (flat f xs)
unfolding Words Each flat
flat_small P f small [] e = tt
flat_small P f small (x ∷ xs) e = words_small (f x) (flat f xs) (small x e.0) (flat_small P f small xs e.1)

head_of : (s : Session) → Fits s → HeadFits (core_of s)
head_of s f = record { task = f.task; stage = f.stage; ledger = f.ledger; told = f.told; ranges = f.ranges; lends = f.lends }

session_small : (s : Session) → Fits s → Words (session_words s)
session_small s f =
    let b = behind_of s in
    let rows = flat slot_words b.slots in
    words_small (head_words (core_of s)) (behind_words b) (head_small (core_of s) (head_of s f))
    (words_small (cap_words b.cap) (port_words b.port1 ++ (port_words b.port2 ++ tail_words b)) (cap_small b.cap f.cap)
    (words_small (port_words b.port1) (port_words b.port2 ++ tail_words b) (port_small b.port1 f.port1)
    (words_small (port_words b.port2) (tail_words b) (port_small b.port2 f.port2)
    (words_small (reset_words b.reset) (find_words b.find ++ rows) (reset_small b.reset f.reset)
    (words_small (find_words b.find) rows (find_small b.find f.find) (flat_small SlotFits slot_words slot_small b.slots f.slots))))))

behind_length : (b : Behind) → length b.slots ≡ SLOTS → cap_at + length (behind_words b) ≡ state_words
behind_length b h =
    let rows = flat slot_words b.slots in
    let a1 = length-append (cap_words b.cap) (port_words b.port1 ++ (port_words b.port2 ++ tail_words b)) in
    let a2 = length-append (port_words b.port1) (port_words b.port2 ++ tail_words b) in
    let a3 = length-append (port_words b.port2) (tail_words b) in
    let a4 = length-append (reset_words b.reset) (find_words b.find ++ rows) in
    let a5 = length-append (find_words b.find) rows in
    let n = slots_words b.slots h in
    omega arith

pub session_length : (s : Session) → length s.books.lists.slots ≡ SLOTS → length (session_words s) ≡ state_words
session_length s h =
    let a = length-append (head_words (core_of s)) (behind_words (behind_of s)) in
    let d = head_length (core_of s) in
    let e = behind_length (behind_of s) h in
    omega arith

-- words that stand one after the other stand part by part
apart : (ys : List ℕ) (s : Session) → Fits s → state_bytes ≤ length ys → words_in ys task_at (length (session_words s)) ≡ session_words s → Parts ys s
apart ys s f r e =
    let c = core_of s in
    let b = behind_of s in
    let rows = flat slot_words b.slots in
    let q0 = parted ys task_at cap_at (head_words c) (behind_words b) (head_length c) e in
    let q1 =
    parted ys task_at TASK (task_words c.task) (stage_words c.stage ++ (ledger_words (ledger_for c) ++ told_words (told_for c))) (task_length c.task)
    (ap (words_in ys task_at) (head_length c) ∙ q0.0) in
    let q2 = parted ys stage_at STAGE (stage_words c.stage) (ledger_words (ledger_for c) ++ told_words (told_for c)) (stage_length c.stage) q1.1 in
    let q3 = parted ys ledger_at LEDGER (ledger_words (ledger_for c)) (told_words (told_for c)) refl q2.1 in
    let b1 = parted ys cap_at CAP (cap_words b.cap) (port_words b.port1 ++ (port_words b.port2 ++ tail_words b)) refl q0.1 in
    let b2 = parted ys port1_at PORT (port_words b.port1) (port_words b.port2 ++ tail_words b) refl b1.1 in
    let b3 = parted ys port2_at PORT (port_words b.port2) (tail_words b) refl b2.1 in
    let b4 = parted ys reset_at RESET (reset_words b.reset) (find_words b.find ++ rows) refl b3.1 in
    let b5 = parted ys find_at FIND (find_words b.find) rows refl b4.1 in
    record {
      enough = r;
      ranges = f.ranges;
      lends = f.lends;
      task = (q1.0, ap task_of q1.0 ∙ task_back c.task f.task);
      stage = (q2.0, ap stage_of q2.0 ∙ stage_back c.stage f.stage);
      ledger = (q3.0, ap ledger_of q3.0 ∙ ledger_back (ledger_for c) f.ledger);
      told = (q3.1, ap told_of q3.1 ∙ told_back (told_for c) f.told);
      cap = (b1.0, ap cap_of b1.0 ∙ cap_back b.cap f.cap);
      port1 = (b2.0, ap port_of b2.0 ∙ port_back b.port1 f.port1);
      port2 = (b3.0, ap port_of b3.0 ∙ port_back b.port2 f.port2);
      reset = (b4.0, ap reset_of b4.0 ∙ reset_back b.reset f.reset);
      find = (b5.0, ap find_of b5.0 ∙ find_back b.find f.find);
      slots = ap (words_in ys slots_at) (sym (slots_words b.slots f.slots_length)) ∙ b5.1;
      rows = ap (rows_in slot_of SLOT ys slots_at) (sym f.slots_length) ∙ rows_read slot_of slot_words SLOT (λ r. refl) slot_back ys slots_at b.slots b5.1;
    }

-- A session that is written is read back, whatever stood in the bytes.
pub trip : (xs : List ℕ) (s : Session) → Fits s → state_bytes ≤ length xs → decode_of (put_session xs s) ≡ value s
trip xs s f n =
    let ys = put_session xs s in
    let m = session_length s f.slots_length in
    let k = length_words xs task_at (session_words s) in
    parts_decode ys s (apart ys s f (omega arith) (words_put xs task_at (session_words s) (session_small s f) (omega arith)))

-- The bytes beyond the session are left as they are.
pub stays_behind : (xs : List ℕ) (s : Session) → Fits s → (j : ℕ) → state_bytes ≤ j → get_or (put_session xs s) j 0 ≡ get_or xs j 0
stays_behind xs s f j h = let m = session_length s f.slots_length in words_after xs task_at (session_words s) j (omega arith)
