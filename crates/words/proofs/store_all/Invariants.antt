use Rattle.std.proofs.Common.{◌≡◌, ◌+◌, drop}
use Rattle.words.specs.Words.{put_words}
use Rattle.words.proofs.store_all.Given as goal

-- the words still to be put give what was to be put at first
abbrev pub invariant-loop-i : goal.invariant-loop-i
invariant-loop-i l = put_words l.s (l.k + l.i) (drop l.i l.w) ≡ put_words l.initial.s l.k l.w
