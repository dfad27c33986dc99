use mathlib.Core.Path.{◌≡◌, ap, ◌∙◌}
use Rattle.reset.specs.Steps.{started as noReset}
use Rattle.reset.specs.declared.Reset.{Reset}
use Rattle.uar.specs.declared.FindBar.{FindBar}
use Rattle.work.specs.Work.{working, work_step_of}
use Rattle.intask.specs.InTask.{going_of}
use borrow.Author.Rules.{rules}
use Rattle.intask.proofs.step_value.Goals as goal

pub returns : goal.returns
returns c =
    let p = c.args in
    ap going_of
    (c.step-st.ensures
    ∙ (ap (λ (r : Reset). work_step_of (working p.task r c.start-2.result) p.a p.resource.now) c.start.ensures
    ∙ ap (λ (f : FindBar). work_step_of (working p.task noReset f) p.a p.resource.now) c.start-2.ensures))
