use mathlib.Core.Path.{◌∙◌}
use Rattle.session.specs.Core.{full}
use Rattle.behind.specs.Behind.{behind_in}
use Rattle.opening.proofs.Steps.{func_good, func_short}
use Rattle.opening.proofs.func_replied.Goals as goal

pub returns-in-Ok : goal.returns-in-Ok
returns-in-Ok c =
    let p = c.args in
    c.ask.ensures ∙ func_good (full p.s (behind_in p.m.now)) p.top p.y _ c.in-Ok.is

pub returns-in-Err : goal.returns-in-Err
returns-in-Err c =
    let p = c.args in
    c.fail.ensures ∙ func_short (full p.s (behind_in p.m.now)) p.top p.y _ c.in-Err.is
