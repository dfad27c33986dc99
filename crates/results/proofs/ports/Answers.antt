use borrow.Author.Rules.{rules}
use Rattle.results.proofs.ports.Goals as goal

pub returns-then-rev3 : goal.returns-then-rev3
returns-then-rev3 c = simp (c.if-rev3.true, c.wide8.ensures)

pub returns : goal.returns
returns c = simp c.if-rev3.false
