use Prim.Native.Nat.{◌+◌, ◌*◌, ◌≤◌}
use mathlib.Core.Path.{◌≡◌}
use lib.ListN.{length, drop}
use Rattle.answers.specs.Words.{put_words}
use Rattle.answers.specs.Tables.{ranges_words}
use Rattle.answers.proofs.tables.put_ranges.Given as goal

-- the ranges still to be put give what was to be put at first
abbrev pub invariant-loop-i : goal.invariant-loop-i
invariant-loop-i l = (l.i ≤ 14) × (length l.out ≡ length l.initial.out) × (put_words l.out (60 + l.i * 2) (ranges_words (drop l.i l.r-items)) ≡ put_words l.initial.out 60 (ranges_words l.r-items))
