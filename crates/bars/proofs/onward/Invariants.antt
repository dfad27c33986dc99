use Rattle.std.proofs.Common.{◌≡◌}
use Rattle.bars.specs.Choose.{others_from}
use Rattle.bars.proofs.onward.Given as goal

-- what the rest of the scan comes to is what the whole does
abbrev pub invariant-loop-i : goal.invariant-loop-i
invariant-loop-i l = others_from l.c.first.index l.c.second.index l.i ≡ others_from l.c.first.index l.c.second.index l.from
