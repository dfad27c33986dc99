use mathlib.Core.Path.{refl, ap, sym, ◌∙◌}
use Rattle.reset.specs.Steps.{started as noReset}
use Rattle.uar.specs.Steps.{started as noFind}
use Rattle.behind.specs.Behind.{behind_in}
use Rattle.work.specs.Work.{work_step_of}
use Rattle.work.specs.declared.Task.{Task}
use Rattle.work.specs.declared.Task.TheVariants as t
use Rattle.intask.specs.InTask.{work_in, going_of, beside_in}
use Rattle.intask.proofs.Laws.{is_plain, plain_steps, plain_beside}
use Rattle.intask.proofs.Rewrites.{plain_rewrites, told_rewrites}
use borrow.Author.Rules.{rules}
use Rattle.intask.proofs.step.Goals as goal

pub returns-in-Rest : goal.returns-in-Rest
returns-in-Rest c =
    let p = c.args in
    let b = behind_in p.m.now in
    let h = ap is_plain c.in-Rest.is in record { value = c.step_value.ensures ∙ plain_steps p.task noReset b.reset noFind b.find p.a p.resource.now h; m_after = plain_beside p.task (work_step_of (work_in p.task p.m.now) p.a p.resource.now) p.m.now h; rewrites = plain_rewrites p.task p.a p.resource.now p.m.now h }

pub returns-in-Attr : goal.returns-in-Attr
returns-in-Attr c =
    let p = c.args in
    let b = behind_in p.m.now in
    let h = ap is_plain c.in-Attr.is in record { value = c.step_value-in-Attr.ensures ∙ plain_steps p.task noReset b.reset noFind b.find p.a p.resource.now h; m_after = plain_beside p.task (work_step_of (work_in p.task p.m.now) p.a p.resource.now) p.m.now h; rewrites = plain_rewrites p.task p.a p.resource.now p.m.now h }

pub returns-in-Claim : goal.returns-in-Claim
returns-in-Claim c =
    let p = c.args in
    let b = behind_in p.m.now in
    let h = ap is_plain c.in-Claim.is in record { value = c.step_value-in-Claim.ensures ∙ plain_steps p.task noReset b.reset noFind b.find p.a p.resource.now h; m_after = plain_beside p.task (work_step_of (work_in p.task p.m.now) p.a p.resource.now) p.m.now h; rewrites = plain_rewrites p.task p.a p.resource.now p.m.now h }

pub returns-in-Reset : goal.returns-in-Reset
returns-in-Reset c =
    let p = c.args in
    let m = p.m.now in
    let k = sym c.in-Reset.is in record { value = c.step_reset.ensures.value ∙ ap (λ (k : Task). going_of (work_step_of (work_in k m) p.a p.resource.now)) k; m_after = c.step_reset.ensures.m_after ∙ ap (λ (k : Task). beside_in k (work_step_of (work_in k m) p.a p.resource.now) m) k; rewrites = told_rewrites m _ p.a p.resource.now t.Reset p.task k c.step_reset.ensures.rewrites }

pub returns-in-Bar : goal.returns-in-Bar
returns-in-Bar c =
    let p = c.args in
    let m = p.m.now in
    let k = sym c.in-Bar.is in record { value = c.step_find.ensures.value ∙ ap (λ (k : Task). going_of (work_step_of (work_in k m) p.a p.resource.now)) k; m_after = c.step_find.ensures.m_after ∙ ap (λ (k : Task). beside_in k (work_step_of (work_in k m) p.a p.resource.now) m) k; rewrites = told_rewrites m _ p.a p.resource.now t.Bar p.task k c.step_find.ensures.rewrites }

pub returns-in-Make : goal.returns-in-Make
returns-in-Make c =
    let p = c.args in
    let b = behind_in p.m.now in
    let h = ap is_plain c.in-Make.is in record { value = c.step_value-in-Make.ensures ∙ plain_steps p.task noReset b.reset noFind b.find p.a p.resource.now h; m_after = plain_beside p.task (work_step_of (work_in p.task p.m.now) p.a p.resource.now) p.m.now h; rewrites = plain_rewrites p.task p.a p.resource.now p.m.now h }

pub returns-in-Free : goal.returns-in-Free
returns-in-Free c =
    let p = c.args in
    let b = behind_in p.m.now in
    let h = ap is_plain c.in-Free.is in record { value = c.step_value-in-Free.ensures ∙ plain_steps p.task noReset b.reset noFind b.find p.a p.resource.now h; m_after = plain_beside p.task (work_step_of (work_in p.task p.m.now) p.a p.resource.now) p.m.now h; rewrites = plain_rewrites p.task p.a p.resource.now p.m.now h }

pub returns-in-Look : goal.returns-in-Look
returns-in-Look c =
    let p = c.args in
    let b = behind_in p.m.now in
    let h = ap is_plain c.in-Look.is in record { value = c.step_value-in-Look.ensures ∙ plain_steps p.task noReset b.reset noFind b.find p.a p.resource.now h; m_after = plain_beside p.task (work_step_of (work_in p.task p.m.now) p.a p.resource.now) p.m.now h; rewrites = plain_rewrites p.task p.a p.resource.now p.m.now h }

pub returns-in-Cmd : goal.returns-in-Cmd
returns-in-Cmd c =
    let p = c.args in
    let b = behind_in p.m.now in
    let h = ap is_plain c.in-Cmd.is in record { value = c.step_value-in-Cmd.ensures ∙ plain_steps p.task noReset b.reset noFind b.find p.a p.resource.now h; m_after = plain_beside p.task (work_step_of (work_in p.task p.m.now) p.a p.resource.now) p.m.now h; rewrites = plain_rewrites p.task p.a p.resource.now p.m.now h }

pub returns-in-Part : goal.returns-in-Part
returns-in-Part c =
    let p = c.args in
    let b = behind_in p.m.now in
    let h = ap is_plain c.in-Part.is in record { value = c.step_value-in-Part.ensures ∙ plain_steps p.task noReset b.reset noFind b.find p.a p.resource.now h; m_after = plain_beside p.task (work_step_of (work_in p.task p.m.now) p.a p.resource.now) p.m.now h; rewrites = plain_rewrites p.task p.a p.resource.now p.m.now h }
