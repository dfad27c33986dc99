use mathlib.Core.Path.{ap, sym, ◌∙◌}
use borrow.Author.Rules.{rules}
use Rattle.work.specs.declared.Task.{Task}
use Rattle.behind.specs.Behind.{begun_in}
use Rattle.behind.proofs.begin.Goals as goal

pub returns-in-Reset : goal.returns-in-Reset
returns-in-Reset c =
    let p = c.args in
    c.begin_reset.ensures ∙ ap (λ (k : Task). begun_in p.stage k p.m.now) (sym c.in-Reset.is)

pub returns-in-Bar : goal.returns-in-Bar
returns-in-Bar c =
    let p = c.args in
    c.begin_find.ensures ∙ ap (λ (k : Task). begun_in p.stage k p.m.now) (sym c.in-Bar.is)
