use borrow.Author.Rules.{rules}
use mathlib.Core.Path.{refl, ap, ◌∙◌}
use native.Mathlib.Omega.{arith}
use Rattle.reply.specs.declared.DevCap.{DevCap}
use Rattle.words_info.specs.Coding.{told_words, cap_words}
use Rattle.results.specs.Results.{merged, put_said}
use Rattle.results.proofs.Laws.{twice}
use Rattle.results.proofs.put_said.Goals as goal

pub returns : goal.returns
unfolding put_said
returns c =
    let p = c.args in
    let h = c.requires in
    twice p.out.now 0 8 8 32 c.store.ensures (c.told_words-a.ensures ∙ ap told_words c.told_of.ensures) refl c.store-2.ensures
    (c.cap_words-b.ensures ∙ ap cap_words (c.merged_cap.ensures ∙ ap (λ (x : DevCap). merged x p.s.func) c.cap_at.ensures)) refl (omega arith) (omega arith)
