use Rattle.std.proofs.Common.{◌≡◌}
use Rattle.fields.specs.Fields.{place_of, digits}
use Rattle.fields.proofs.number.Given as goal

-- v has the digits so far
abbrev pub invariant-loop-i : goal.invariant-loop-i
invariant-loop-i l = l.v ≡ digits l.s (place_of l.order l.off l.width) l.i
