use mathlib.Core.Path.{ap, ◌∙◌}
use Rattle.pci.specs.declared.Refusal.TheVariants as x
use Rattle.reply.specs.declared.FwInfo.{FwInfo}
use Rattle.session.specs.declared.Session.{Session}
use Rattle.session.specs.Session.{bookkeeps}
use Rattle.session.specs.Core.{full}
use Rattle.behind.specs.Behind.{behind_in}
use Rattle.opening_plan.specs.Values.{with_catas}
use Rattle.opening_plan.specs.Plan.{fail_plan}
use Rattle.opening.proofs.Steps.{fw_short, fw_revision}
use Rattle.opening.proofs.fw_refused.Goals as goal

pub returns-in-Short : goal.returns-in-Short
returns-in-Short c =
    let p = c.args in
    let b = behind_in p.m.now in
    let s = full p.s b in
    c.fail.ensures
    ∙ ap (λ (d : Session). fail_plan d x.Short p.top) (c.with_catas.ensures b ∙ ap (λ (i : FwInfo). bookkeeps s (with_catas s.books i)) c.none.ensures)
    ∙ fw_short s p.top p.why c.in-Short.is

pub returns-in-Revision : goal.returns-in-Revision
returns-in-Revision c =
    let p = c.args in
    let b = behind_in p.m.now in
    let i = c.in-Revision.i in
    c.fail-in-Revision.ensures
    ∙ ap (λ (d : Session). fail_plan d (x.Revision i.rev) p.top) (c.with_catas-in-Revision.ensures b)
    ∙ fw_revision (full p.s b) p.top p.why i c.in-Revision.is
