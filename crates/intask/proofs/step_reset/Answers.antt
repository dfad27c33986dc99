use mathlib.Core.Path.{refl, ap, sym, ◌∙◌}
use Rattle.reset.specs.Steps.{started as noReset}
use Rattle.uar.specs.Steps.{started as noFind}
use Rattle.behind.specs.Behind.{behind_in}
use Rattle.work.specs.Work.{working, work_step_of}
use Rattle.work.specs.declared.Task.TheVariants as t
use Rattle.work.specs.declared.WorkStep.{WorkStep}
use mathlib.Core.Path.{◌≡◌}
use Rattle.intask.specs.InTask.{going_of, beside_in}
use Rattle.intask.proofs.Laws.{reset_steps_lem}
use Rattle.words_beside.proofs.Typed.{reset_typed}
use Rattle.intask.proofs.Rewrites.{reset_rewrites}
use borrow.Author.Rules.{rules}
use Rattle.intask.proofs.step_reset.Goals as goal

pub returns : goal.returns
returns c =
    let p = c.args in
    let m = p.m.now in
    let b = behind_in m in
    let q = reset_steps_lem b.reset noFind b.find p.a p.resource.now m in
    let e : c.step-st.result ≡ work_step_of (working t.Reset b.reset noFind) p.a p.resource.now = c.step-st.ensures ∙ rw (c.reset_at.ensures, c.start.ensures) refl in
    let st = c.step-st in record { value = ap going_of e ∙ q.0; m_after = c.put_reset.ensures ∙ ap (λ (s : WorkStep). beside_in t.Reset s m) e ∙ q.1; rewrites = reset_rewrites m _ p.a p.resource.now st.result.work.reset (reset_typed _ _ st.type_inv.1.1.0.1.1.1.0) c.put_reset.ensures (ap (λ (s : WorkStep). s.work.reset) e) }
