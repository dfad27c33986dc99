use Rattle.std.proofs.Common.{◌≡◌, ◌+◌, drop}
use Rattle.words.specs.Words.{same_words}
use Rattle.words.proofs.same_all.Given as goal

-- whether all are the same depends on those that are left
abbrev pub invariant-loop-i : goal.invariant-loop-i
invariant-loop-i l = same_words l.s (l.k + l.i) (drop l.i l.w) ≡ same_words l.s l.k l.w
