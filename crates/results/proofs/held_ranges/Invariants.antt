use borrow.Author.Rules.{rules}
use Prim.Native.Nat.{ℕ, ◌+◌, ◌-◌, ◌*◌, ◌≤◌}
use mathlib.Core.Path.{◌≡◌, refl, sym, subst, ◌∙◌}
use native.Mathlib.Omega.{arith}
use lib.ListN.{length}
use Rattle.words.specs.Words.{put_words}
use Rattle.session.specs.Session.{is_held}
use Rattle.behind.specs.Behind.{behind_in}
use Rattle.results.specs.Books.{RANGES, LENT, ranges_at, range_words, ranges_of, held_from, rows_words}
use Rattle.results.proofs.Books.{count_few, held_put, put_length, held_done}
use Rattle.results.proofs.held_ranges.Given as goal

abbrev pub invariant-loop-i : goal.invariant-loop-i
invariant-loop-i l = (l.n ≤ l.i)
    × (put_words l.out (ranges_at + l.n * 4) (rows_words range_words (RANGES - l.n) 0 (held_from (RANGES - l.i) (LENT + l.i) (behind_in l.m).slots))
    ≡ put_words l.initial.out ranges_at (rows_words range_words RANGES 0 (ranges_of (behind_in l.m).slots)))
