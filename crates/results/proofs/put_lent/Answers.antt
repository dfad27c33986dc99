use borrow.Author.Rules.{rules}
use mathlib.Core.Path.{◌∙◌}
use Rattle.results.proofs.put_lent.Goals as goal

pub returns : goal.returns
returns c = c.no_lent.ensures ∙ c.held_lent-n.ensures.result_after
