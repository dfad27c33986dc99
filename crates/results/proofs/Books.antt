-- What is held, listed and put row by row.
use Prim.Native.Nat.{ℕ, zero, suc, ◌+◌, ◌-◌, ◌*◌, ◌<◌, ◌≤◌}
use mathlib.Core.Bool.{Bool, true, false}
use mathlib.Core.Path.{◌≡◌, refl, ap, sym, ◌∙◌}
use mathlib.Core.List.{List, [], ◌∷◌, ◌++◌, map}
use native.Mathlib.Omega.{arith}
use lib.ListN.{length}
use Rattle.fields.specs.Outcome.{pick}
use Rattle.words.specs.Words.{at, put_words}
use Rattle.words.proofs.Laws.{put_append, length_words}
use Rattle.dma.specs.declared.Buffer.{Buffer}
use Rattle.session.specs.Session.{no_slot, slot_at, is_held, buffer_of, named_from}
use Rattle.session.specs.declared.Slot.{Slot}
use Rattle.results.specs.Books.{area_words, in_row, held_from, count_of, rows_words}

-- WHAT IS LISTED IS WHAT IS HELD: the buffers of these slots are those that the books name
named_by : (b : Bool) (x : Slot) (xs : List Slot) (bs : List Buffer) → map buffer_of xs ≡ bs → map buffer_of (pick b (x ∷ []) [] ++ xs) ≡ pick b (buffer_of x ∷ []) [] ++ bs
named_by true x xs bs e = ap (λ (l : List Buffer). buffer_of x ∷ l) e
named_by false x xs bs e = e

pub held_named : (m i : ℕ) (l : List Slot) → map buffer_of (held_from m i l) ≡ named_from m i l
unfolding held_from named_from
held_named zero i l = refl
held_named (suc m) i l = named_by (is_held (slot_at l i)) (slot_at l i) (held_from m (suc i) l) (named_from m (suc i) l) (held_named m (suc i) l)

-- ONE SLOT MORE, N in all from number k on, and none left
pub held_turn : (k N i : ℕ) (l : List Slot) → i < N → held_from (N - i) (k + i) l ≡ in_row (slot_at l (k + i)) ++ held_from (N - (i + 1)) (k + (i + 1)) l
unfolding held_from
held_turn k N i l h =
    let e : N - i ≡ suc (N - (i + 1)) = omega arith in
    let d : suc (k + i) ≡ k + (i + 1) = omega arith in
    ap (λ (n : ℕ). held_from n (k + i) l) e ∙ ap (λ (n : ℕ). in_row (slot_at l (k + i)) ++ held_from (N - (i + 1)) n l) d

pub held_end : (k N i : ℕ) (l : List Slot) → N ≤ i → held_from (N - i) k l ≡ []
unfolding held_from
held_end k N i l h = let e : N - i ≡ zero = omega arith in ap (λ (n : ℕ). held_from n k l) e

-- how many there are with it
count_by : (b : Bool) (n : ℕ) (x : Slot) (r : List Slot) → pick b (n + 1) n + length r ≡ n + length (pick b (x ∷ []) [] ++ r)
count_by true n x r = omega arith
count_by false n x r = refl

pub count_turn : (n k N i : ℕ) (l : List Slot) → i < N
    → count_of n (slot_at l (k + i)) + length (held_from (N - (i + 1)) (k + (i + 1)) l) ≡ n + length (held_from (N - i) (k + i) l)
count_turn n k N i l h =
    let x = slot_at l (k + i) in
    count_by (is_held x) n x (held_from (N - (i + 1)) (k + (i + 1)) l) ∙ ap (λ (r : List Slot). n + length r) (sym (held_turn k N i l h))

count_few_by : (b : Bool) (n i : ℕ) → n ≤ i → pick b (n + 1) n ≤ i + 1
count_few_by true n i h = omega arith
count_few_by false n i h = omega arith

pub count_few : (n i : ℕ) (x : Slot) → n ≤ i → count_of n x ≤ i + 1
count_few n i x h = count_few_by (is_held x) n i h

-- ROWS: that of the first, then those of the others
rows_tail : (f : Slot → List ℕ) (x : Slot) (l : List Slot) (n i : ℕ) → rows_words f n (suc i) (x ∷ l) ≡ rows_words f n i l
unfolding rows_words
rows_tail f x l zero i = refl
rows_tail f x l (suc n) i = ap (λ (r : List ℕ). f (slot_at l i) ++ r) (rows_tail f x l n (suc i))

rows_none : (f : Slot → List ℕ) (n i : ℕ) → rows_words f n (suc i) [] ≡ rows_words f n i []
unfolding rows_words
rows_none f zero i = refl
rows_none f (suc n) i = ap (λ (r : List ℕ). f no_slot ++ r) (rows_none f n (suc i))

rows_empty : (f : Slot → List ℕ) (n : ℕ) → rows_words f n 0 (no_slot ∷ []) ≡ rows_words f n 0 []
unfolding rows_words
rows_empty f zero = refl
rows_empty f (suc n) = ap (λ (r : List ℕ). f no_slot ++ r) (rows_tail f no_slot [] n 0 ∙ sym (rows_none f n 0))

-- one row more is put, N in all, each of m words
pub row_put : (f : Slot → List ℕ) (m : ℕ) → ((x : Slot) → length (f x) ≡ m) → (s : List ℕ) (k N n : ℕ) (x : Slot) (l : List Slot) → n < N
    → put_words (put_words s (k + n * m) (f x)) (k + (n + 1) * m) (rows_words f (N - (n + 1)) 0 l) ≡ put_words s (k + n * m) (rows_words f (N - n) 0 (x ∷ l))
unfolding rows_words
row_put f m wide s k N n x l h =
    let t = put_words s (k + n * m) (f x) in
    let e : N - n ≡ suc (N - (n + 1)) = omega arith in
    let d : k + (n + 1) * m ≡ k + n * m + length (f x) = (let z = wide x in omega arith) in
    ap (λ (o : ℕ). put_words t o (rows_words f (N - (n + 1)) 0 l)) d
    ∙ ap (λ (r : List ℕ). put_words t (k + n * m + length (f x)) r) (sym (rows_tail f x l (N - (n + 1)) 0))
    ∙ sym (put_append s (k + n * m) (f x) (rows_words f (N - (n + 1)) 1 (x ∷ l))) ∙ ap (λ (o : ℕ). put_words s (k + n * m) (rows_words f o 0 (x ∷ l))) (sym e)

-- a row without a slot
pub none_put : (f : Slot → List ℕ) (m : ℕ) → ((x : Slot) → length (f x) ≡ m) → (s : List ℕ) (k N n : ℕ) → n < N
    → put_words (put_words s (k + n * m) (f no_slot)) (k + (n + 1) * m) (rows_words f (N - (n + 1)) 0 []) ≡ put_words s (k + n * m) (rows_words f (N - n) 0 [])
none_put f m wide s k N n h = row_put f m wide s k N n no_slot [] h ∙ ap (put_words s (k + n * m)) (rows_empty f (N - n))

-- a slot's row, if it is held
pub put_by : (f : Slot → List ℕ) (m : ℕ) → ((x : Slot) → length (f x) ≡ m) → (s : List ℕ) (k N n : ℕ) (b : Bool) (x : Slot) (l : List Slot) → n < N
    → put_words (pick b (put_words s (k + n * m) (f x)) s) (k + pick b (n + 1) n * m) (rows_words f (N - pick b (n + 1) n) 0 l)
    ≡ put_words s (k + n * m) (rows_words f (N - n) 0 (pick b (x ∷ []) [] ++ l))
put_by f m wide s k N n true x l h = row_put f m wide s k N n x l h
put_by f m wide s k N n false x l h = refl

-- the last of them
pub rows_done : (f : Slot → List ℕ) (s : List ℕ) (k N i : ℕ) → N ≤ i → s ≡ put_words s k (rows_words f (N - i) 0 [])
unfolding rows_words put_words
rows_done f s k N i h = let e : N - i ≡ zero = omega arith in ap (λ (o : ℕ). put_words s k (rows_words f o 0 [])) (sym e)

-- ONE TURN of a loop over N slots from number j on: the number of those that are held, and the bytes once their rows stand in them
pub count_start : (k N : ℕ) (l : List Slot) → 0 + length (held_from (N - 0) (k + 0) l) ≡ length (held_from N k l)
count_start k N l =
    let a : N - 0 ≡ N = omega arith in
    let b : k + 0 ≡ k = omega arith in
    let e : length (held_from (N - 0) (k + 0) l) ≡ length (held_from N k l) = ap (λ (n : ℕ). length (held_from n (k + 0) l)) a ∙ ap (λ (n : ℕ). length (held_from N n l)) b in
    omega arith

pub count_end : (n k N i : ℕ) (l : List Slot) {t : ℕ} → N ≤ i → n + length (held_from (N - i) k l) ≡ t → n ≡ t
count_end n k N i l h e = let d = ap length (held_end k N i l h) in omega arith

pub held_put : (f : Slot → List ℕ) (m : ℕ) → ((x : Slot) → length (f x) ≡ m) → (s : List ℕ) (k N n j i : ℕ) (l : List Slot) {x : Slot} {y : List ℕ} {o : ℕ} → n ≤ i → i < N
    → x ≡ slot_at l (j + i) → y ≡ pick (is_held x) (put_words s (k + n * m) (f x)) s → o ≡ count_of n x
    → put_words y (k + o * m) (rows_words f (N - o) 0 (held_from (N - (i + 1)) (j + (i + 1)) l)) ≡ put_words s (k + n * m) (rows_words f (N - n) 0 (held_from (N - i) (j + i) l))
held_put f m wide s k N n j i l {x} {y} {o} few h ex ey eo =
    let r = held_from (N - (i + 1)) (j + (i + 1)) l in
    let z = pick (is_held x) (put_words s (k + n * m) (f x)) s in
    let g : n < N = omega arith in
    ap (λ (v : List ℕ). put_words v (k + o * m) (rows_words f (N - o) 0 r)) ey ∙ ap (λ (v : ℕ). put_words z (k + v * m) (rows_words f (N - v) 0 r)) eo
    ∙ put_by f m wide s k N n (is_held x) x r g
    ∙ ap (λ (v : List Slot). put_words s (k + n * m) (rows_words f (N - n) 0 v)) (ap (λ (v : Slot). in_row v ++ r) ex ∙ sym (held_turn j N i l h))

pub put_length : (b : Bool) (s : List ℕ) (k : ℕ) (ws : List ℕ) {y : List ℕ} → y ≡ pick b (put_words s k ws) s → length y ≡ length s
put_length true s k ws e = ap length e ∙ length_words s k ws
put_length false s k ws e = ap length e

-- none is left
pub held_done : (f : Slot → List ℕ) (s : List ℕ) (k n j N i : ℕ) (l : List Slot) {t : List ℕ} → N ≤ i → put_words s k (rows_words f n 0 (held_from (N - i) j l)) ≡ t
    → put_words s k (rows_words f n 0 []) ≡ t
held_done f s k n j N i l h e = ap (λ (r : List Slot). put_words s k (rows_words f n 0 r)) (sym (held_end j N i l h)) ∙ e

-- the four areas
pub areas_are : {a b d e : List ℕ} (x y z w : Slot) → a ≡ area_words x → b ≡ area_words y → d ≡ area_words z → e ≡ area_words w
    → at a 0 ∷ at a 1 ∷ at a 2 ∷ at a 3 ∷ at b 0 ∷ at b 1 ∷ at b 2 ∷ at b 3 ∷ at d 0 ∷ at d 1 ∷ at d 2 ∷ at d 3 ∷ at e 0 ∷ at e 1 ∷ at e 2 ∷ at e 3 ∷ []
    ≡ area_words x ++ (area_words y ++ (area_words z ++ area_words w))
areas_are x y z w p q r s = rw (p, q, r, s) refl
