use mathlib.Core.Path.{refl, ap, sym, ◌∙◌}
use borrow.Author.Rules.{rules}
use Rattle.intask.proofs.value_asks.Goals as goal

pub returns : goal.returns
returns c = c.asks.ensures ∙ rw (c.start.ensures, c.start-2.ensures) refl
