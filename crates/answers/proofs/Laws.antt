-- Laws of an answer's words.
use Prim.Native.Nat.{ℕ, suc, ◌+◌, ◌*◌, ◌/◌, ◌<◌}
use mathlib.Core.Bool.{Bool, true, false}
use mathlib.Core.Path.{◌≡◌, refl, ap, ◌∙◌}
use mathlib.Core.List.{List, [], ◌∷◌, ◌++◌}
use native.Mathlib.Nat.{add-zero}
use native.Mathlib.Numerals.{add-one}
use native.Mathlib.Omega.{arith}
use borrow.Author.Tests.{lt-leb}
use lib.ListN.{length, drop, get_or}
use lib.Seq.{drop-cons}
use Rattle.fields.specs.Outcome.{pick}
use Rattle.fields.specs.Fields.{put_at, fits, written_at}
use Rattle.fields.specs.declared.Order.TheVariants.{Big}
use Rattle.fields.proofs.Laws.{length_written}
use Rattle.answers.specs.Words.{put_words, said, answer}

-- one word more of those that stand from word k on
pub put_more : (s ws : List ℕ) (k i : ℕ) → i < length ws
    → put_words (written_at Big s ((k + i) * 8) 8 (get_or ws i 0)) (k + (i + 1)) (drop (i + 1) ws) ≡ put_words s (k + i) (drop i ws)
unfolding put_words
put_more s ws k i h = let e : k + (i + 1) ≡ suc (k + i) = omega arith in rw (e, add-one i, drop-cons ws i 0 h)

-- words, and then others behind them
pub put_append : (s xs ys : List ℕ) (k : ℕ) → put_words (put_words s k xs) (k + length xs) ys ≡ put_words s k (xs ++ ys)
unfolding put_words
put_append s [] ys k = ap (λ (n : ℕ). put_words s n ys) (add-zero k)
put_append s (x ∷ xs) ys k =
    let e : k + suc (length xs) ≡ suc k + length xs = omega arith in
    ap (λ (n : ℕ). put_words (put_words (written_at Big s (k * 8) 8 x) (suc k) xs) n ys) e ∙ put_append (written_at Big s (k * 8) 8 x) xs ys (suc k)

-- words behind the end are left out
pub put_beyond : (s ws : List ℕ) (k : ℕ) → length s / 8 < k → put_words s k ws ≡ s
unfolding put_words
put_beyond s [] k h = refl
put_beyond s (w ∷ ws) k h =
    let none : fits s (k * 8) 8 ≡ false = lt-leb (k * 8 + 8) (length s) (omega arith) in
    ap (λ (b : Bool). put_words (pick b (put_at Big s (k * 8) 8 w) s) (suc k) ws) none ∙ put_beyond s ws (suc k) (omega arith)

pub length_put : (s ws : List ℕ) (k : ℕ) → length (put_words s k ws) ≡ length s
unfolding put_words
length_put s [] k = refl
length_put s (w ∷ ws) k = length_put (written_at Big s (k * 8) 8 w) ws (suc k) ∙ length_written Big s (k * 8) 8 w

-- an answer that was given is that of the words it stands for
pub gave : (n : ℕ) (s : List ℕ) {ws xs t : List ℕ} {r : ℕ} → ws ≡ xs → length xs ≡ n → r ≡ said (length ws) s → t ≡ answer (length ws) s ws
    → (r ≡ said n s) × (t ≡ answer n s xs)
gave n s {ws} {xs} e l p q =
    let same : length ws ≡ n = ap length e ∙ l in
    (p ∙ ap (λ (k : ℕ). said k s) same, q ∙ ap (λ (k : ℕ). answer k s ws) same ∙ ap (answer n s) e)

-- what a test that was passed leads to
pub passed : {A : Type 0} {b : Bool} {x y : A} (z : A) → b ≡ true → x ≡ y → x ≡ pick b y z
passed z e p = rw e p
