-- Laws of the words of tables and ranges: a turn of each loop that puts them, and how many there are.
use Prim.Native.Nat.{ℕ, suc, ◌+◌, ◌*◌, ◌<◌}
use mathlib.Core.Path.{◌≡◌, refl, ap, sym, ◌∙◌}
use mathlib.Core.List.{List, [], ◌∷◌, ◌++◌}
use native.Mathlib.Numerals.{add-one}
use native.Mathlib.Omega.{arith}
use lib.ListN.{length, drop, get_or}
use lib.Seq.{drop-cons}
use Rattle.layout.specs.declared.Table.{Table}
use Rattle.layout.specs.declared.Range.{Range}
use Rattle.answers.specs.Words.{put_words}
use Rattle.answers.specs.Tables.{row_words, rows_words, range_words, ranges_words}
use Rattle.answers.specs.declared.tables.Judged.{Judged}
use Rattle.answers.proofs.Laws.{put_append}

pub rows_more : (s : List ℕ) (ts : List Table) (k i : ℕ) (d : Table) → i < length ts
    → put_words (put_words s (k + i * 5) (row_words (get_or ts i d))) (k + (i + 1) * 5) (rows_words (drop (i + 1) ts)) ≡ put_words s (k + i * 5) (rows_words (drop i ts))
unfolding rows_words
rows_more s ts k i d h =
    let e : k + (i + 1) * 5 ≡ k + i * 5 + 5 = omega arith in
    rw (e, add-one i, drop-cons ts i d h) (put_append s (row_words (get_or ts i d)) (rows_words (drop (suc i) ts)) (k + i * 5))

pub ranges_more : (s : List ℕ) (rs : List Range) (k i : ℕ) (d : Range) → i < length rs
    → put_words (put_words s (k + i * 2) (range_words (get_or rs i d))) (k + (i + 1) * 2) (ranges_words (drop (i + 1) rs)) ≡ put_words s (k + i * 2) (ranges_words (drop i rs))
unfolding ranges_words
ranges_more s rs k i d h =
    let e : k + (i + 1) * 2 ≡ k + i * 2 + 2 = omega arith in
    rw (e, add-one i, drop-cons rs i d h) (put_append s (range_words (get_or rs i d)) (ranges_words (drop (suc i) rs)) (k + i * 2))

pub length_rows : (ts : List Table) → length (rows_words ts) ≡ length ts * 5
unfolding rows_words
length_rows [] = refl
length_rows (t ∷ ts) = omega (arith, length_rows ts)

pub length_ranges : (rs : List Range) → length (ranges_words rs) ≡ length rs * 2
unfolding ranges_words
length_ranges [] = refl
length_ranges (r ∷ rs) = omega (arith, length_ranges rs)

-- the whole answer, by what was judged and the two numbers from the capabilities
abbrev pub headed : Judged → (sqpn free : ℕ) → List ℕ
headed j sqpn free = j.code.number ∷ j.code.beside ∷ j.layout.total ∷ sqpn ∷ free ∷ []

abbrev pub whole : Judged → (sqpn free : ℕ) → List ℕ
whole j sqpn free = headed j sqpn free ++ (rows_words j.layout.rows ++ (ranges_words j.layout.ranges ++ (j.layout.comparisons ∷ [])))

-- its four parts, put one after the other
pub put_whole : (s : List ℕ) (j : Judged) (sqpn free : ℕ) → length j.layout.rows ≡ 11 → length j.layout.ranges ≡ 14
    → put_words (put_words (put_words (put_words s 0 (headed j sqpn free)) 5 (rows_words j.layout.rows)) 60 (ranges_words j.layout.ranges)) 88 (j.layout.comparisons ∷ [])
    ≡ put_words s 0 (whole j sqpn free)
put_whole s j sqpn free n m =
    let head : List ℕ = headed j sqpn free in
    let rows : List ℕ = rows_words j.layout.rows in
    let ranges : List ℕ = ranges_words j.layout.ranges in
    let last : List ℕ = j.layout.comparisons ∷ [] in
    let at : 5 + length rows ≡ 60 = omega (arith, length_rows j.layout.rows) in
    let end : 60 + length ranges ≡ 88 = omega (arith, length_ranges j.layout.ranges) in
    ap (λ (k : ℕ). put_words (put_words (put_words (put_words s 0 head) 5 rows) 60 ranges) k last) (sym end)
    ∙ put_append (put_words (put_words s 0 head) 5 rows) ranges last 60
    ∙ ap (λ (k : ℕ). put_words (put_words (put_words s 0 head) 5 rows) k (ranges ++ last)) (sym at)
    ∙ put_append (put_words s 0 head) rows (ranges ++ last) 5
    ∙ put_append s head (rows ++ (ranges ++ last)) 0
