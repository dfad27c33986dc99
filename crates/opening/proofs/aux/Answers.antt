use mathlib.Core.Path.{sym, ◌∙◌}
use borrow.Author.Rules.{rules}
use Rattle.session.specs.declared.Area.TheVariants.{Aux}
use Rattle.session.specs.Core.{full}
use Rattle.behind.specs.Behind.{behind_in}
use Rattle.opening_plan.proofs.Steps.{make_many}
use Rattle.opening.proofs.aux.Goals as goal

pub returns-then-pages-lt4503599627370496 : goal.returns-then-pages-lt4503599627370496
returns-then-pages-lt4503599627370496 c = c.make.ensures

pub returns : goal.returns
returns c =
    let p = c.args in
    c.fail.ensures ∙ sym (make_many (full p.s (behind_in p.m.now)) Aux p.pages p.top c.if-pages-lt4503599627370496.false)
