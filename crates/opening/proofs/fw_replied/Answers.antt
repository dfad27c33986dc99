use Prim.Native.Nat.{◌*◌}
use mathlib.Core.Path.{ap, sym, ◌∙◌}
use Rattle.std.specs.Prelude.{Result}
use Rattle.reply.specs.Replies.{query_fw, fw_in}
use Rattle.reply.specs.declared.FwInfo.{FwInfo}
use Rattle.reply.specs.declared.FwRefusal.{FwRefusal}
use Rattle.session.specs.declared.Area.TheVariants.{Fa}
use Rattle.session.specs.declared.Session.{Session}
use Rattle.session.specs.Session.{informs}
use Rattle.session.specs.Core.{full}
use Rattle.behind.specs.Behind.{behind_in}
use Rattle.opening_plan.specs.Values.{with_revision}
use Rattle.opening_plan.specs.Plan.{make_plan, fw_replied}
use Rattle.opening.proofs.Steps.{fw_made}
use Rattle.opening.proofs.fw_replied.Goals as goal

pub returns-in-Ok : goal.returns-in-Ok
returns-in-Ok c =
    let p = c.args in
    let b = behind_in p.m.now in
    let i = c.in-Ok.i in
    let e = c.with_revision.ensures b ∙ ap (λ (d : Session). informs d (with_revision d.info i.rev)) (c.with_catas.ensures b) in
    c.make.ensures
    ∙ ap (λ (d : Session). make_plan d Fa (i.pages * 4096) p.top) e
    ∙ fw_made (full p.s b) p.top p.y i c.in-Ok.is

pub returns-in-Err : goal.returns-in-Err
returns-in-Err c =
    let p = c.args in
    c.fw_refused.ensures
    ∙ sym (ap (λ (z : Result FwInfo FwRefusal). fw_replied (full p.s (behind_in p.m.now)) (query_fw z) (fw_in z) p.top) c.in-Err.is)
