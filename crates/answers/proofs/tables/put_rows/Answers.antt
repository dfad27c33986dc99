use Prim.Native.Nat.{ℕ, ◌+◌, ◌*◌}
use mathlib.Core.Path.{◌≡◌, refl, ap, sym, ◌∙◌}
use mathlib.Core.List.{List, []}
use native.Mathlib.Omega.{arith}
use borrow.Author.Rules.{rules}
use lib.ListN.{length, drop, drop_of_length-le}
use Rattle.answers.specs.Words.{put_words}
use Rattle.layout.specs.declared.Table.{Table}
use Rattle.answers.specs.Tables.{rows_words}
use Rattle.answers.proofs.Laws.{length_put}
use Rattle.answers.proofs.Rows.{rows_more}
use Rattle.answers.proofs.tables.put_rows.Goals as goal

pub loop-i-init : goal.loop-i-init
loop-i-init c = (omega arith, refl, refl)

pub offset_bounds-t-items-i : goal.offset_bounds-t-items-i
offset_bounds-t-items-i c = omega arith

pub bounds-t-items-i : goal.bounds-t-items-i
bounds-t-items-i c = omega arith

pub row_words-w-requires : goal.row_words-w-requires
row_words-w-requires c = search rules

pub overflow_mul-i : goal.overflow_mul-i
overflow_mul-i c = omega arith

pub overflow_add-i : goal.overflow_add-i
overflow_add-i c = omega arith

pub slice_bounds-put-end : goal.slice_bounds-put-end
slice_bounds-put-end c = search rules

pub put-requires : goal.put-requires
put-requires c = omega (arith, ap length c.row_words-w.ensures)

pub loop-i-preserved : goal.loop-i-preserved
loop-i-preserved c = let p = c.args in let l = c.loop-i in let n : length p.rows ≡ 11 = search rules in let w = c.row_words-w.ensures in let e = c.put.ensures in (
  omega arith,
  ap length e ∙ length_put l.out c.row_words-w.result (5 + l.i * 5) ∙ l.invariant.1,
  ap (λ (x : List ℕ). put_words x (5 + (l.i + 1) * 5) (rows_words (drop (l.i + 1) p.rows))) (e ∙ ap (put_words l.out (5 + l.i * 5)) w) ∙ rows_more l.out p.rows 5 l.i _ (omega arith) ∙ l.invariant.2,
)

pub shape_of-out : goal.shape_of-out
shape_of-out c = c.loop-i.invariant.1

pub returns : goal.returns
unfolding put_words rows_words
returns c = let p = c.args in let l = c.loop-i in let n : length p.rows ≡ 11 = search rules in
    let e : drop l.i p.rows ≡ [] = drop_of_length-le p.rows {i = l.i} (omega arith) in
    record { out_after = sym (ap (λ (ts : List Table). put_words l.out (5 + l.i * 5) (rows_words ts)) e) ∙ l.invariant.2; rows_len = n }
