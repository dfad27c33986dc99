use borrow.Author.Rules.{rules}
use Rattle.areas.proofs.make_range.Goals as goal

pub returns : goal.returns
returns c = simp (c.make.ensures, c.range_at-range.ensures)
