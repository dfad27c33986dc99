use Prim.Native.Nat.{◌+◌, ◌≤◌}
use mathlib.Core.Path.{◌≡◌}
use lib.ListN.{length, drop}
use Rattle.answers.specs.Words.{put_words}
use Rattle.answers.proofs.words.put.Given as goal

-- the words still to be put give what was to be put at first
abbrev pub invariant-loop-i : goal.invariant-loop-i
invariant-loop-i l = (l.i ≤ length l.words) × (length l.out ≡ length l.initial.out) × (put_words l.out (l.at + l.i) (drop l.i l.words) ≡ put_words l.initial.out l.at l.words)
