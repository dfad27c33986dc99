use mathlib.Core.Path.{◌∙◌}
use borrow.Author.Rules.{rules}
use Rattle.session.specs.declared.Session.{Session}
use Rattle.session.specs.declared.Boot.TheVariants as k
use Rattle.session.specs.declared.Fill.TheVariants as w
use Rattle.behind.specs.Behind.{behind_in}
use Rattle.opening_plan.specs.Plan.{give_plan}
use Rattle.opening.proofs.Steps.{onward, stopped}
use Rattle.opening.proofs.run_ended.Goals as goal

pub returns-then-is_done : goal.returns-then-is_done
returns-then-is_done c =
    let p = c.args in
    let b = behind_in p.m.now in
    c.give.ensures
    ∙ onward p.s p.x p.top b (λ (d : Session). give_plan d k.ModStat 0x034 w.ModStat p.top) c.took-t.ensures c.is_done.ensures c.if-is_done.true

pub returns : goal.returns
returns c =
    let p = c.args in
    let b = behind_in p.m.now in
    c.fail_by.ensures ∙ stopped p.s p.x p.top b (λ (d : Session). give_plan d k.ModStat 0x034 w.ModStat p.top) c.took-t.ensures c.is_done.ensures c.if-is_done.false
