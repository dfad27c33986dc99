use mathlib.Core.Path.{◌≡◌}
use lib.ListN.{length, drop}
use Rattle.reply.specs.Capability.{entry_places, read_into, entries_of}
use Rattle.reply.proofs.entries.Given as goal

-- the places still to be read give the whole
abbrev pub invariant-loop-place : goal.invariant-loop-place
invariant-loop-place l = (length l.out ≡ 11) × (read_into l.reply (drop l.place-index entry_places) l.out ≡ entries_of l.reply)
