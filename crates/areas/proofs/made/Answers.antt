use borrow.Author.Rules.{rules}
use Rattle.behind.specs.Behind.{behind_in}
use Rattle.areas.proofs.made.Goals as goal

pub returns-in-Ready : goal.returns-in-Ready
returns-in-Ready c = let p = c.args in simp (c.in-Ready.is, c.enters.ensures (behind_in p.m.now), c.cut_in.ensures p.s, c.map.ensures)

pub returns-in-Refused : goal.returns-in-Refused
returns-in-Refused c = simp (c.fail.ensures, c.fault_of.ensures, c.in-Refused.is)
