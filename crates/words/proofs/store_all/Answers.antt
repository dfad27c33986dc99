use Rattle.std.proofs.Common.{◌≡◌, ◌∙◌, ◌+◌, [], drop, ap, sym, arith, drop_of_length-le}
use Rattle.words.specs.Words.{put_words}
use Rattle.words.proofs.Laws.{put_turn}
use Rattle.words.proofs.store_all.Goals as goal

pub loop-i-preserved : goal.loop-i-preserved
loop-i-preserved c = let p = c.args in let l = c.loop-i in
    ap (λ x. put_words x (p.k + (l.i + 1)) (drop (l.i + 1) p.w.now)) c.set_le64.ensures.s_after
    ∙ put_turn l.s p.w.now p.k l.i (omega arith) (omega arith) ∙ l.invariant

pub returns : goal.returns
unfolding put_words
returns c = let p = c.args in let l = c.loop-i in
    let e : drop l.i p.w.now ≡ [] = drop_of_length-le p.w.now {i = l.i} (omega arith) in
    ap (λ ws. put_words l.s (p.k + l.i) ws) (sym e) ∙ l.invariant
