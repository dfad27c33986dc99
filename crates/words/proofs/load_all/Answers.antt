use Rattle.std.proofs.Common.{◌∙◌, ◌+◌, set, ap, refl, arith}
use Rattle.words.specs.Words.{word_at, words_in}
use Rattle.words.proofs.Laws.{load_turn}
use Rattle.words.proofs.load_all.Goals as goal

pub loop-i-init : goal.loop-i-init
unfolding words_in
loop-i-init c = refl

pub loop-i-preserved : goal.loop-i-preserved
loop-i-preserved c = let p = c.args in let l = c.loop-i in
    ap (λ x. set l.w l.i x) c.word.ensures ∙ ap (λ z. set z l.i (word_at p.s.now (p.k + l.i))) l.invariant
    ∙ load_turn p.s.now p.k p.w.now l.i (omega arith)
