use borrow.Author.Rules.{rules}
use mathlib.Core.Path.{refl, ap, ◌∙◌}
use native.Mathlib.Omega.{arith}
use Rattle.words_info.specs.Coding.{port_words}
use Rattle.results.specs.Results.{put_ports}
use Rattle.results.proofs.Laws.{twice}
use Rattle.results.proofs.put_ports.Goals as goal

pub returns : goal.returns
unfolding put_ports
returns c =
    let p = c.args in
    let h = c.requires in
    λ _. twice p.out.now 40 17 57 17 c.store.ensures (c.port_words-a.ensures ∙ ap port_words c.port_at.ensures) refl c.store-2.ensures
    (c.port_words-b.ensures ∙ ap port_words c.port_at-2.ensures) refl (omega arith) (omega arith)
