use mathlib.Core.Path.{refl, ap, sym, ◌∙◌}
use Rattle.reset.specs.Steps.{started as noReset}
use Rattle.uar.specs.Steps.{started as noFind}
use Rattle.behind.specs.Behind.{behind_in}
use Rattle.work.specs.Work.{work_asks}
use Rattle.work.specs.declared.Task.{Task}
use Rattle.intask.specs.InTask.{work_in}
use Rattle.intask.proofs.Laws.{is_plain, plain_asks}
use borrow.Author.Rules.{rules}
use Rattle.intask.proofs.asks.Goals as goal

pub returns-in-Rest : goal.returns-in-Rest
returns-in-Rest c =
    let p = c.args in
    let b = behind_in p.m.now in
    c.value_asks.ensures ∙ plain_asks p.task noReset b.reset noFind b.find (ap is_plain c.in-Rest.is)

pub returns-in-Attr : goal.returns-in-Attr
returns-in-Attr c =
    let p = c.args in
    let b = behind_in p.m.now in
    c.value_asks-in-Attr.ensures ∙ plain_asks p.task noReset b.reset noFind b.find (ap is_plain c.in-Attr.is)

pub returns-in-Claim : goal.returns-in-Claim
returns-in-Claim c =
    let p = c.args in
    let b = behind_in p.m.now in
    c.value_asks-in-Claim.ensures ∙ plain_asks p.task noReset b.reset noFind b.find (ap is_plain c.in-Claim.is)

pub returns-in-Reset : goal.returns-in-Reset
returns-in-Reset c =
    let p = c.args in
    c.reset_asks.ensures ∙ ap (λ (k : Task). work_asks (work_in k p.m.now)) (sym c.in-Reset.is)

pub returns-in-Bar : goal.returns-in-Bar
returns-in-Bar c =
    let p = c.args in
    c.find_asks.ensures ∙ ap (λ (k : Task). work_asks (work_in k p.m.now)) (sym c.in-Bar.is)

pub returns-in-Make : goal.returns-in-Make
returns-in-Make c =
    let p = c.args in
    let b = behind_in p.m.now in
    c.value_asks-in-Make.ensures ∙ plain_asks p.task noReset b.reset noFind b.find (ap is_plain c.in-Make.is)

pub returns-in-Free : goal.returns-in-Free
returns-in-Free c =
    let p = c.args in
    let b = behind_in p.m.now in
    c.value_asks-in-Free.ensures ∙ plain_asks p.task noReset b.reset noFind b.find (ap is_plain c.in-Free.is)

pub returns-in-Look : goal.returns-in-Look
returns-in-Look c =
    let p = c.args in
    let b = behind_in p.m.now in
    c.value_asks-in-Look.ensures ∙ plain_asks p.task noReset b.reset noFind b.find (ap is_plain c.in-Look.is)

pub returns-in-Cmd : goal.returns-in-Cmd
returns-in-Cmd c =
    let p = c.args in
    let b = behind_in p.m.now in
    c.value_asks-in-Cmd.ensures ∙ plain_asks p.task noReset b.reset noFind b.find (ap is_plain c.in-Cmd.is)

pub returns-in-Part : goal.returns-in-Part
returns-in-Part c =
    let p = c.args in
    let b = behind_in p.m.now in
    c.value_asks-in-Part.ensures ∙ plain_asks p.task noReset b.reset noFind b.find (ap is_plain c.in-Part.is)
