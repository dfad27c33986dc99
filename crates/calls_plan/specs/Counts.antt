-- Bounded lists: "14 ICM ranges, 64 lent buffers". The counts of a session are within its arrays.
use Rattle.std.specs.Prelude.{◌≤◌}
use Rattle.session.specs.declared.Lists.{Lists}

abbrev pub Counted : Lists → Type 0
Counted l = (l.ranges ≤ 14) × (l.lends ≤ 64)
