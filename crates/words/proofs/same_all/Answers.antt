use Rattle.std.proofs.Common.{◌≡◌, ◌∙◌, ◌+◌, [], drop, get_or, ap, sym, refl, arith, eq-eqb, drop_of_length-le}
use borrow.Author.Tests.{ne_eqb}
use Rattle.words.specs.Words.{word_at, same_words}
use Rattle.words.proofs.Laws.{same_turn}
use Rattle.words.proofs.same_all.Goals as goal

pub returns-then-word-x : goal.returns-then-word-x
returns-then-word-x c = let p = c.args in let l = c.loop-i in
    let ne = ne_eqb (word_at p.s.now (p.k + l.i)) (get_or p.w.now l.i 0) (λ e. c.if-word-x.true (c.word.ensures ∙ e)) in
    sym (sym l.invariant ∙ same_turn p.s.now p.w.now p.k l.i (omega arith) ∙ rw ne refl)

pub loop-i-preserved : goal.loop-i-preserved
loop-i-preserved c = let p = c.args in let l = c.loop-i in
    let eq = eq-eqb (word_at p.s.now (p.k + l.i)) (get_or p.w.now l.i 0) (sym c.word.ensures ∙ c.if-word-x.false) in
    sym (same_turn p.s.now p.w.now p.k l.i (omega arith) ∙ rw eq refl) ∙ l.invariant

pub returns : goal.returns
unfolding same_words
returns c = let p = c.args in let l = c.loop-i in
    let e : drop l.i p.w.now ≡ [] = drop_of_length-le p.w.now {i = l.i} (omega arith) in
    ap (same_words p.s.now (p.k + l.i)) (sym e) ∙ l.invariant
