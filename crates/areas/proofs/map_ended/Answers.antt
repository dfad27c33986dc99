use borrow.Author.Rules.{rules}
use Rattle.areas.proofs.map_ended.Goals as goal

pub returns-then-is_done : goal.returns-then-is_done
returns-then-is_done c = simp (c.map.ensures, c.if-is_done.true, ← c.is_done.ensures, c.took-t.ensures)

pub returns : goal.returns
returns c = simp (c.fail_by.ensures, c.if-is_done.false, ← c.is_done.ensures, c.took-t.ensures)
