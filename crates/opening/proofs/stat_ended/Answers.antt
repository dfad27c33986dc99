use mathlib.Core.Path.{ap, sym, ◌∙◌}
use borrow.Author.Rules.{rules}
use Rattle.session.specs.declared.Core.{Core}
use Rattle.session.specs.declared.Boot.TheVariants as k
use Rattle.session.specs.Core.{full}
use Rattle.behind.specs.Behind.{behind_in}
use Rattle.opening_plan.specs.Plan.{ask_plan, fail_by_plan}
use Rattle.opening.proofs.Steps.{stat_bad, stat_good}
use Rattle.opening.proofs.stat_ended.Goals as goal

pub returns-then-needs_reset : goal.returns-then-needs_reset
returns-then-needs_reset c =
    let p = c.args in
    let b = behind_in p.m.now in
    c.fail_by.ensures
    ∙ ap (λ (d : Core). fail_by_plan (full d b) p.x.result p.top) c.took-t.ensures
    ∙ stat_bad (full p.s b) p.x p.top (sym c.needs_reset.ensures ∙ c.if-needs_reset.true)

pub returns : goal.returns
returns c =
    let p = c.args in
    let b = behind_in p.m.now in
    c.ask.ensures
    ∙ ap (λ (d : Core). ask_plan (full d b) k.DevCap 0x003 0 p.top) c.took-t.ensures
    ∙ stat_good (full p.s b) p.x p.top (sym c.needs_reset.ensures ∙ c.if-needs_reset.false)
