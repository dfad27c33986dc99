use borrow.Author.Rules.{rules}
use Rattle.behind.specs.Behind.{behind_in}
use Rattle.opening_plan.proofs.Steps.{make_by_lem}
use Rattle.session.specs.Core.{full}
use Rattle.areas.proofs.make.Goals as goal

pub returns-in-More : goal.returns-in-More
returns-in-More c = let p = c.args in simp (make_by_lem (full p.s (behind_in p.m.now)) p.a p.bytes p.top, ← c.start.ensures, c.in-More.is, c.start-in-More.ensures, c.new.ensures)

pub returns-in-Ended : goal.returns-in-Ended
returns-in-Ended c = let p = c.args in simp (make_by_lem (full p.s (behind_in p.m.now)) p.a p.bytes p.top, ← c.start.ensures, c.in-Ended.is, c.fail.ensures)
