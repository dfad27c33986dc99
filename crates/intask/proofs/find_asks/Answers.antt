use mathlib.Core.Path.{refl, ap, sym, ◌∙◌}
use Rattle.uar.specs.Steps.{bar_asks}
use borrow.Author.Rules.{rules}
use Rattle.intask.proofs.find_asks.Goals as goal

pub returns : goal.returns
returns c = c.asks.ensures ∙ ap bar_asks c.find_at.ensures
