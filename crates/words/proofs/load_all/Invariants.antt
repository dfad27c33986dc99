use Rattle.std.proofs.Common.{◌≡◌, ◌++◌, drop}
use Rattle.words.specs.Words.{words_in}
use Rattle.words.proofs.load_all.Given as goal

-- the first i words were read, the others are as they were
abbrev pub invariant-loop-i : goal.invariant-loop-i
invariant-loop-i l = l.w ≡ words_in l.s l.k l.i ++ drop l.i l.initial.w
