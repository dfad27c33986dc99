use borrow.Author.Rules.{rules}
use mathlib.Core.Path.{◌∙◌}
use Rattle.results.proofs.put_ranges.Goals as goal

pub returns : goal.returns
returns c = c.no_ranges.ensures ∙ c.held_ranges-n.ensures.result_after
