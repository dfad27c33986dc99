use mathlib.Core.Path.{ap, ◌∙◌}
use borrow.Author.Rules.{rules}
use Rattle.hcr.specs.declared.Post.{Post}
use Rattle.session.specs.declared.Fill.{Fill}
use Rattle.session.specs.declared.Client.{Client}
use Rattle.session.specs.declared.Core.{Core}
use Rattle.session.specs.Core.{full, plan_in, leads, send_of}
use Rattle.behind.specs.Behind.{behind_in}
use Rattle.client_plan.specs.Client.{post_of}
use Rattle.client_plan.specs.Plan.{command_plan}
use Rattle.session.specs.declared.Stage.TheVariants as g
use Rattle.session.specs.declared.Client.TheVariants as k
use Rattle.client.proofs.command.Goals as goal

pub returns : goal.returns
unfolding command_plan
returns c =
    let p = c.args in
    let b = behind_in p.m.now in
    let s = c.send.ensures ∙ ap (λ (y : Post). send_of p.s (g.Client (k.Command p.r.form)) y) (c.post.ensures p.s) in
    ap (λ (y : Core). plan_in (leads y c.fill_for.result p.undo) b) s
    ∙ ap (λ (y : Fill). plan_in (leads (send_of p.s (g.Client (k.Command p.r.form)) (post_of (full p.s b).books p.r)) y p.undo) b) c.fill_for.ensures
