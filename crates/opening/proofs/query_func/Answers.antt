use mathlib.Core.Path.{ap, sym, ◌∙◌}
use borrow.Author.Rules.{rules}
use borrow.Author.Tests.{eq-eqb, ne_eqb}
use lib.Dec.{eqb}
use Rattle.reply.specs.declared.DevCap.{DevCap}
use Rattle.session.specs.Core.{full}
use Rattle.behind.specs.Behind.{behind_in}
use Rattle.opening.proofs.Steps.{func_none, func_some}
use Rattle.opening.proofs.query_func.Goals as goal

pub returns-then-cap-eq0 : goal.returns-then-cap-eq0
returns-then-cap-eq0 c =
    let p = c.args in
    let e = ap (λ (y : DevCap). eqb y.num_sys_eqs 0) c.cap_at-cap.ensures in
    c.ask.ensures ∙ func_none (full p.s (behind_in p.m.now)) p.top (sym e ∙ eq-eqb _ _ c.if-cap-eq0.true)

pub returns : goal.returns
returns c =
    let p = c.args in
    let e = ap (λ (y : DevCap). eqb y.num_sys_eqs 0) c.cap_at-cap.ensures in
    c.ask-2.ensures ∙ func_some (full p.s (behind_in p.m.now)) p.top (sym e ∙ ne_eqb _ _ c.if-cap-eq0.false)
