use Prim.Native.Nat.{ℕ, ◌+◌, ◌*◌}
use mathlib.Core.Path.{◌≡◌, refl, ap, sym, ◌∙◌}
use mathlib.Core.List.{List, []}
use native.Mathlib.Nat.{add-zero}
use native.Mathlib.Omega.{arith}
use borrow.Author.Rules.{rules}
use lib.ListN.{length, drop, get_or, drop_of_length-le}
use Rattle.fields.specs.declared.Order.TheVariants.{Big}
use Rattle.fields.proofs.Laws.{length_written}
use Rattle.answers.specs.Words.{put_words}
use Rattle.answers.proofs.Laws.{put_more, put_beyond}
use Rattle.answers.proofs.words.put.Goals as goal

-- nothing has its place behind the slice
pub returns-then-out-at : goal.returns-then-out-at
returns-then-out-at c = let p = c.args in sym (put_beyond p.out.now p.words.now p.at c.if-out-at.true)

pub loop-i-init : goal.loop-i-init
loop-i-init c = let p = c.args in (omega arith, refl, ap (λ (n : ℕ). put_words p.out.now n p.words.now) (add-zero p.at))

pub overflow_add-at : goal.overflow_add-at
overflow_add-at c = let g = c.well_formed.0.1 in let h = c.well_formed.1.1.0.1 in let l = c.if-out-at.false in omega arith

pub overflow_mul-at : goal.overflow_mul-at
overflow_mul-at c = let g = c.well_formed.0.1 in let h = c.well_formed.1.1.0.1 in let l = c.if-out-at.false in omega arith

pub offset_bounds-words-i : goal.offset_bounds-words-i
offset_bounds-words-i c = let g = c.well_formed.0.1 in let h = c.well_formed.1.1.0.1 in let l = c.if-out-at.false in omega arith

pub bounds-words-i : goal.bounds-words-i
bounds-words-i c = omega arith

pub set_be64-requires : goal.set_be64-requires
set_be64-requires c = search rules

pub loop-i-preserved : goal.loop-i-preserved
loop-i-preserved c = let p = c.args in let l = c.loop-i in let e = c.set_be64.ensures.s_after in (
  omega arith,
  ap length e ∙ length_written Big l.out ((p.at + l.i) * 8) 8 (get_or p.words.now l.i 0) ∙ l.invariant.1,
  ap (λ (x : List ℕ). put_words x (p.at + (l.i + 1)) (drop (l.i + 1) p.words.now)) e ∙ put_more l.out p.words.now p.at l.i (omega arith) ∙ l.invariant.2,
)

pub shape_of-out : goal.shape_of-out
shape_of-out c = c.loop-i.invariant.1

pub returns : goal.returns
unfolding put_words
returns c = let p = c.args in let l = c.loop-i in
    let e : drop l.i p.words.now ≡ [] = drop_of_length-le p.words.now {i = l.i} (omega arith) in
    sym (ap (λ (ws : List ℕ). put_words l.out (p.at + l.i) ws) e) ∙ l.invariant.2
