use mathlib.Core.Path.{refl, ap, sym, ◌∙◌}
use Rattle.reset.specs.Steps.{reset_asks}
use borrow.Author.Rules.{rules}
use Rattle.intask.proofs.reset_asks.Goals as goal

pub returns : goal.returns
returns c = c.asks.ensures ∙ ap reset_asks c.reset_at.ensures
