use Prim.Native.Nat.{ℕ, ◌*◌}
use mathlib.Core.Path.{ap, ◌∙◌}
use borrow.Author.Rules.{rules}
use Rattle.session.specs.declared.Session.{Session}
use Rattle.session.specs.declared.Area.TheVariants.{Aux}
use Rattle.session.specs.Failures.{immediate_of}
use Rattle.session.specs.Core.{full}
use Rattle.behind.specs.Behind.{behind_in}
use Rattle.opening_plan.specs.Plan.{make_plan}
use Rattle.opening.proofs.Steps.{onward, stopped}
use Rattle.opening.proofs.size_ended.Goals as goal

pub returns-then-is_done : goal.returns-then-is_done
returns-then-is_done c =
    let p = c.args in
    let b = behind_in p.m.now in
    c.aux.ensures
    ∙ ap (λ (n : ℕ). make_plan (full c.took-t.result b) Aux (n * 4096) p.top) c.immediate.ensures
    ∙ onward p.s p.x p.top b (λ (d : Session). make_plan d Aux (immediate_of p.x.result * 4096) p.top) c.took-t.ensures c.is_done.ensures c.if-is_done.true

pub returns : goal.returns
returns c =
    let p = c.args in
    let b = behind_in p.m.now in
    c.fail_by.ensures ∙ stopped p.s p.x p.top b (λ (d : Session). make_plan d Aux (immediate_of p.x.result * 4096) p.top) c.took-t.ensures c.is_done.ensures c.if-is_done.false
