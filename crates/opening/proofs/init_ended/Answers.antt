use mathlib.Core.Path.{ap, ◌∙◌}
use borrow.Author.Rules.{rules}
use Rattle.session.specs.declared.Core.{Core}
use Rattle.session.specs.declared.Session.{Session}
use Rattle.session.specs.Session.{bookkeeps}
use Rattle.session.specs.Core.{full}
use Rattle.behind.specs.Behind.{behind_in}
use Rattle.opening_plan.specs.Values.{now_started}
use Rattle.opening_plan.specs.Plan.{func_plan}
use Rattle.opening.proofs.Steps.{onward, stopped}
use Rattle.opening.proofs.init_ended.Goals as goal

pub returns-then-is_done : goal.returns-then-is_done
returns-then-is_done c =
    let p = c.args in
    let b = behind_in p.m.now in
    c.query_func.ensures
    ∙ ap (λ (d : Core). func_plan (full d b) p.top) c.now_started.ensures
    ∙ onward p.s p.x p.top b (λ (d : Session). func_plan (bookkeeps d (now_started d.books)) p.top) c.took-t.ensures c.is_done.ensures c.if-is_done.true

pub returns : goal.returns
returns c =
    let p = c.args in
    let b = behind_in p.m.now in
    c.fail_by.ensures ∙ stopped p.s p.x p.top b (λ (d : Session). func_plan (bookkeeps d (now_started d.books)) p.top) c.took-t.ensures c.is_done.ensures c.if-is_done.false
