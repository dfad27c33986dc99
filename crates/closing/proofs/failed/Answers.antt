use mathlib.Core.Path.{◌∙◌}
use borrow.Author.Rules.{rules}
use Rattle.session.specs.Core.{full}
use Rattle.closing.proofs.Steps.{failed_quiet, failed_reset}
use Rattle.closing.proofs.failed.Goals as goal

pub returns-then-wire : goal.returns-then-wire
returns-then-wire c = λ b. let p = c.args in c.quiet.ensures b ∙ failed_quiet (full p.s b) p.undo c.if-wire.true

pub returns : goal.returns
returns c = λ b. let p = c.args in c.reset.ensures b ∙ failed_reset (full p.s b) p.undo c.if-wire.false
