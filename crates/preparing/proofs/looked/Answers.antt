use mathlib.Core.Path.{ap, ◌∙◌}
use borrow.Author.Rules.{rules}
use Rattle.behind.specs.Behind.{behind_in}
use Rattle.opening_plan.specs.Plan.{ask_plan}
use Rattle.session.specs.declared.Boot.TheVariants.{QueryFw}
use Rattle.session.specs.declared.Session.{Session}
use Rattle.preparing.proofs.looked.Goals as goal

pub returns : goal.returns
returns c = let p = c.args in c.ask.ensures ∙ ap (λ (x : Session). ask_plan x QueryFw 0x004 0 p.top) (c.with_toggle.ensures (behind_in p.m.now))
