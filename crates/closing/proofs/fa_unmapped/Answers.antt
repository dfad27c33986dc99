use mathlib.Core.Path.{ap, sym, ◌∙◌}
use borrow.Author.Rules.{rules}
use Rattle.session.specs.declared.Core.{Core}
use Rattle.session.specs.Core.{full}
use Rattle.behind.specs.Behind.{behind_in}
use Rattle.closing_plan.specs.Plan.{close_plan, failed_plan, stopped_plan}
use Rattle.closing.proofs.Steps.{onward_good, onward_bad}
use Rattle.closing.proofs.fa_unmapped.Goals as goal

pub returns-then-is_done : goal.returns-then-is_done
unfolding close_plan
returns-then-is_done c =
    let p = c.args in
    let b = behind_in p.m.now in
    c.stopped.ensures ∙ ap (λ (y : Core). stopped_plan (full y b) p.top.count) c.took-t.ensures ∙ onward_good p.x _ _ (sym c.is_done.ensures ∙ c.if-is_done.true)

pub returns : goal.returns
unfolding close_plan
returns c =
    let p = c.args in
    let b = behind_in p.m.now in
    c.failed.ensures b ∙ ap (λ (y : Core). failed_plan (full y b) p.top.count) c.took-t.ensures ∙ onward_bad p.x _ _ (sym c.is_done.ensures ∙ c.if-is_done.false)
