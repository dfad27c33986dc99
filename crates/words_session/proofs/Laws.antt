-- What the parts of a session's words come to.
use Prim.Native.Nat.{ℕ, suc, ◌+◌, ◌-◌, ◌*◌, ◌<◌, ◌≤◌}
use mathlib.Core.Bool.{Bool, true, false}
use mathlib.Core.Path.{◌≡◌, refl, ap, sym, ◌∙◌}
use mathlib.Core.List.{List, [], ◌∷◌, ◌++◌}
use native.Mathlib.Omega.{arith}
use borrow.Author.Tests.{le-leb, le-ltb, lt-ltb}
use lib.ListN.{length, replicate, length-append}
use lib.Dec.{ltb}
use Rattle.fields.specs.Outcome.{Outcome, value, refused, pick}
use Rattle.words.specs.Places.{LEDGER, TOLD, SLOTS, cap_at, slots_at, state_bytes}
use Rattle.words.specs.Words.{words_in, put_words, same_words, within, flat}
use Rattle.words.proofs.Laws.{put_append, length_words}
use Rattle.behind.specs.Behind.{put_part, flags_stand, slots_stand}
use Rattle.behind.proofs.Laws.{put_long}
use Rattle.session.specs.Session.{fresh}
use Rattle.words_task.specs.Coding.{task_words}
use Rattle.words_task.proofs.Trip.{task_length}
use Rattle.words_info.specs.Coding.{told_words}
use Rattle.words_stage.specs.Coding.{stage_words}
use Rattle.words_stage.proofs.Trip.{stage_length}
use Rattle.words_books.specs.Coding.{ledger_words}
use Rattle.session.specs.declared.Core.{Core}
use Rattle.session.specs.declared.Slot.{Slot}
use Rattle.session.specs.declared.Session.{Session}
use Rattle.words_session.specs.Image.{core_of, head_words, ledger_for, told_for, core_in, head_in, session_in, stands, decode_of}

-- where there is room, words are read, compared and written
pub loaded : (xs : List ℕ) (k n : ℕ) (w : List ℕ) {y : List ℕ} → y ≡ pick (within xs k (length w)) (words_in xs k (length w)) w → length w ≡ n → (k + n) * 8 ≤ length xs
    → y ≡ words_in xs k n
loaded xs k n w e l h = e ∙ rw (l, le-leb ((k + n) * 8) (length xs) h) refl

pub compared : {r : Bool} (xs : List ℕ) (k n : ℕ) {w ws : List ℕ} → r ≡ pick (within xs k (length w)) (same_words xs k w) false → w ≡ ws → length ws ≡ n
    → (k + n) * 8 ≤ length xs → r ≡ same_words xs k ws
compared xs k n e d l h = e ∙ rw (d, l, le-leb ((k + n) * 8) (length xs) h) refl

pub stored : (xs : List ℕ) (k n : ℕ) {w ws y : List ℕ} → y ≡ pick (within xs k (length w)) (put_words xs k w) xs → w ≡ ws → length ws ≡ n
    → (k + n) * 8 ≤ length xs → y ≡ put_words xs k ws
stored xs k n e d l h = e ∙ rw (d, l, le-leb ((k + n) * 8) (length xs) h) refl

-- words, and then others behind them
pub then_put : (s : List ℕ) (k n : ℕ) (a b : List ℕ) → length a ≡ n → put_words (put_words s k a) (k + n) b ≡ put_words s k (a ++ b)
then_put s k n a b l = ap (λ (m : ℕ). put_words (put_words s k a) (k + m) b) (sym l) ∙ sym (put_append s k a b)

pub head_length : (c : Core) → length (head_words c) ≡ cap_at
head_length c =
    let l = ledger_words (ledger_for c) ++ told_words (told_for c) in
    let a = length-append (task_words c.task) (stage_words c.stage ++ l) in
    let b = length-append (stage_words c.stage) l in
    let d = task_length c.task in
    let e = stage_length c.stage in
    let f : length l ≡ LEDGER + TOLD = refl in
    omega arith

pub both : (s : List ℕ) (k n : ℕ) (a b : List ℕ) {x y : List ℕ} → y ≡ put_words x (k + n) b → x ≡ put_words s k a → length a ≡ n → y ≡ put_words s k (a ++ b)
both s k n a b e d l = e ∙ ap (λ (z : List ℕ). put_words z (k + n) b) d ∙ then_put s k n a b l

pub three : (s : List ℕ) (k n m : ℕ) (a b d : List ℕ) {x y z : List ℕ} → z ≡ put_words y (k + n + m) d → y ≡ put_words x (k + n) b → x ≡ put_words s k a
    → length a ≡ n → length b ≡ m → z ≡ put_words s k (a ++ (b ++ d))
three s k n m a b d {x} ez ey ex la lb = both s k n a (b ++ d) (both x (k + n) m b d ez ey lb) ex la

pub four : (s : List ℕ) (k n m o : ℕ) (a b d e : List ℕ) {x y z u : List ℕ} → u ≡ put_words z (k + n + m + o) e → z ≡ put_words y (k + n + m) d
    → y ≡ put_words x (k + n) b → x ≡ put_words s k a → length a ≡ n → length b ≡ m → length d ≡ o → u ≡ put_words s k (a ++ (b ++ (d ++ e)))
four s k n m o a b d e {x} eu ez ey ex la lb ld = both s k n a (b ++ (d ++ e)) (three x (k + n) m o b d e eu ez ey lb ld) ex la

-- rows that are all one and the same: one is written, and the others are left
pub none_turn : (s : List ℕ) (k n i : ℕ) (f : Slot → List ℕ) (r : Slot) (m : ℕ) → length (f r) ≡ m → i < n
    → put_words (put_words s (k + i * m) (f r)) (k + (i + 1) * m) (flat f (replicate (n - (i + 1)) r)) ≡ put_words s (k + i * m) (flat f (replicate (n - i) r))
unfolding flat
none_turn s k n i f r m l h =
    let e : k + (i + 1) * m ≡ k + i * m + m = omega arith in
    let d : n - i ≡ suc (n - (i + 1)) = omega arith in
    ap (λ (j : ℕ). put_words (put_words s (k + i * m) (f r)) j (flat f (replicate (n - (i + 1)) r))) e
    ∙ then_put s (k + i * m) m (f r) (flat f (replicate (n - (i + 1)) r)) l
    ∙ ap (λ (j : ℕ). put_words s (k + i * m) (flat f (replicate j r))) (sym d)

pub none_end : (s : List ℕ) (k n i : ℕ) (f : Slot → List ℕ) (r : Slot) → n ≤ i → put_words s k (flat f (replicate (n - i) r)) ≡ s
unfolding flat put_words
none_end s k n i f r h = let e : n - i ≡ 0 = omega arith in ap (λ (j : ℕ). put_words s k (flat f (replicate j r))) e

-- what reading comes to, by the test of the words
by_test : (b : Bool) (xs : List ℕ) (n : ℕ) (o : Outcome Session) → n ≤ length xs → pick (ltb (length xs) n) (refused 21 []) (pick b o (refused 20 [])) ≡ pick b o (refused 20 [])
by_test b xs n o h = rw (le-ltb (length xs) n h)

pub known : (xs : List ℕ) {s : Session} → session_in xs ≡ s → stands xs s ≡ true → state_bytes ≤ length xs → decode_of xs ≡ value s
known xs e d h =
    by_test (stands xs (session_in xs)) xs state_bytes (value (session_in xs)) h
    ∙ ap (λ (b : Bool). pick b (value (session_in xs)) (refused 20 [])) (ap (stands xs) e ∙ d) ∙ ap value e

pub is_kept : (xs : List ℕ) {b : Bool} → stands xs (session_in xs) ≡ b → state_bytes ≤ length xs
    → pick b (value (session_in xs)) (refused 20 []) ≡ decode_of xs
is_kept xs d h =
    sym (by_test (stands xs (session_in xs)) xs state_bytes (value (session_in xs)) h
    ∙ ap (λ (b : Bool). pick b (value (session_in xs)) (refused 20 [])) d)

-- ONE TEST AFTER THE OTHER
pub and_no : (a b : Bool) → a ≡ false → false ≡ pick a b false
and_no a b e = sym (ap (λ (x : Bool). pick x b false) e)

pub and_yes : (a b : Bool) {r : Bool} → a ≡ true → r ≡ b → r ≡ pick a b false
and_yes a b e d = d ∙ sym (ap (λ (x : Bool). pick x b false) e)

-- where the bytes are enough, and where they are too few
pub head_short : (xs : List ℕ) → length xs < state_bytes → core_of fresh ≡ head_in xs
head_short xs h = rw (lt-ltb (length xs) state_bytes h) refl

pub head_long : (xs : List ℕ) → state_bytes ≤ length xs → core_in xs ≡ head_in xs
head_long xs h = rw (le-ltb (length xs) state_bytes h) refl

pub flags_here : (xs : List ℕ) → state_bytes ≤ length xs → slots_stand xs ≡ flags_stand xs slots_at SLOTS
flags_here xs h = rw (le-ltb (length xs) state_bytes h) refl

-- a part that is written in place
pub part_of : {A : Type 0} (f : A → List ℕ) (k : ℕ) (xs : List ℕ) {v d : A} {y : List ℕ} → y ≡ put_part k (f v) xs → v ≡ d → state_bytes ≤ length xs → y ≡ put_words xs k (f d)
part_of {A} f k xs {v} {d} e h n = e ∙ sym (put_long k (f v) xs n) ∙ ap (λ (x : A). put_words xs k (f x)) h

pub part_length : {A : Type 0} (f : A → List ℕ) (k : ℕ) (xs : List ℕ) (v : A) {y : List ℕ} → y ≡ put_part k (f v) xs → state_bytes ≤ length xs → state_bytes ≤ length y
part_length f k xs v e n = let d = ap length (e ∙ sym (put_long k (f v) xs n)) ∙ length_words xs k (f v) in omega arith
