use Prim.Native.Nat.{ℕ, ◌+◌, ◌*◌}
use mathlib.Core.Path.{◌≡◌, refl, ap, sym, ◌∙◌}
use mathlib.Core.List.{List, []}
use native.Mathlib.Omega.{arith}
use borrow.Author.Rules.{rules}
use lib.ListN.{length, drop, get_or, drop_of_length-le}
use Rattle.answers.specs.Words.{put_words}
use Rattle.layout.specs.declared.Range.{Range}
use Rattle.answers.specs.Tables.{range_words, ranges_words}
use Rattle.answers.proofs.Laws.{length_put}
use Rattle.answers.proofs.Rows.{ranges_more}
use Rattle.answers.proofs.tables.put_ranges.Goals as goal

pub loop-i-init : goal.loop-i-init
loop-i-init c = (omega arith, refl, refl)

pub offset_bounds-r-items-i : goal.offset_bounds-r-items-i
offset_bounds-r-items-i c = omega arith

pub bounds-r-items-i : goal.bounds-r-items-i
bounds-r-items-i c = omega arith

pub overflow_mul-i : goal.overflow_mul-i
overflow_mul-i c = omega arith

pub overflow_add-i : goal.overflow_add-i
overflow_add-i c = omega arith

pub slice_bounds-put-end : goal.slice_bounds-put-end
slice_bounds-put-end c = search rules

pub put-requires : goal.put-requires
put-requires c = omega arith

pub loop-i-preserved : goal.loop-i-preserved
loop-i-preserved c = let p = c.args in let l = c.loop-i in let n : length p.ranges ≡ 14 = search rules in let e = c.put.ensures in (
  omega arith,
  ap length e ∙ length_put l.out (range_words (get_or p.ranges l.i _)) (60 + l.i * 2) ∙ l.invariant.1,
  ap (λ (x : List ℕ). put_words x (60 + (l.i + 1) * 2) (ranges_words (drop (l.i + 1) p.ranges))) e ∙ ranges_more l.out p.ranges 60 l.i _ (omega arith) ∙ l.invariant.2,
)

pub shape_of-out : goal.shape_of-out
shape_of-out c = c.loop-i.invariant.1

pub returns : goal.returns
unfolding put_words ranges_words
returns c = let p = c.args in let l = c.loop-i in let n : length p.ranges ≡ 14 = search rules in
    let e : drop l.i p.ranges ≡ [] = drop_of_length-le p.ranges {i = l.i} (omega arith) in
    record { out_after = sym (ap (λ (rs : List Range). put_words l.out (60 + l.i * 2) (ranges_words rs)) e) ∙ l.invariant.2; ranges_len = n }
