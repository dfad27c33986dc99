use mathlib.Core.Path.{◌∙◌}
use borrow.Author.Rules.{rules}
use Rattle.session.specs.Core.{full}
use Rattle.behind.specs.Behind.{behind_in}
use Rattle.ports.proofs.Steps.{laid_good, laid_entry, laid_total}
use Rattle.ports.proofs.lay_out.Goals as goal

pub returns-in-Ok : goal.returns-in-Ok
returns-in-Ok c =
    let p = c.args in
    let b = behind_in p.m.now in
    c.imm.ensures b ∙ laid_good (full p.s b) p.top p.y _ c.in-Ok.is

pub returns-in-Entry : goal.returns-in-Entry
returns-in-Entry c =
    let p = c.args in
    c.fail.ensures ∙ laid_entry (full p.s (behind_in p.m.now)) p.top p.y _ _ c.in-Err.is c.in-Entry.is

pub returns-in-Total : goal.returns-in-Total
returns-in-Total c =
    let p = c.args in
    c.fail-in-Total.ensures ∙ laid_total (full p.s (behind_in p.m.now)) p.top p.y _ _ c.in-Err.is c.in-Total.is
