use mathlib.Core.Path.{◌≡◌}
use lib.ListN.{length}
use Rattle.fields.specs.Fields.{place_of, put_digits}
use Rattle.fields.proofs.put.Given as goal

-- what is still to be written gives what was to be written at first
abbrev pub invariant-loop-i : goal.invariant-loop-i
invariant-loop-i l = (length l.s ≡ length l.initial.s) × (put_digits l.s (place_of l.order l.off l.width) l.i l.x ≡ put_digits l.initial.s (place_of l.order l.off l.width) l.width l.v)
