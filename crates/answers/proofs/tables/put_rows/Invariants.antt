use Prim.Native.Nat.{◌+◌, ◌*◌, ◌≤◌}
use mathlib.Core.Path.{◌≡◌}
use lib.ListN.{length, drop}
use Rattle.answers.specs.Words.{put_words}
use Rattle.answers.specs.Tables.{rows_words}
use Rattle.answers.proofs.tables.put_rows.Given as goal

-- the tables still to be put give what was to be put at first
abbrev pub invariant-loop-i : goal.invariant-loop-i
invariant-loop-i l = (l.i ≤ 11) × (length l.out ≡ length l.initial.out) × (put_words l.out (5 + l.i * 5) (rows_words (drop l.i l.t-items)) ≡ put_words l.initial.out 5 (rows_words l.t-items))
