use borrow.Author.Rules.{rules}
use Prim.Native.Nat.{ℕ, ◌+◌, ◌-◌, ◌*◌, ◌≤◌}
use mathlib.Core.Path.{◌≡◌, refl, ap, sym, subst, ◌∙◌}
use native.Mathlib.Omega.{arith}
use lib.ListN.{length}
use Rattle.words.specs.Words.{put_words}
use Rattle.session.specs.Session.{slot_at, is_held}
use Rattle.behind.specs.Behind.{behind_in}
use Rattle.results.specs.Books.{LENT, lent_at, lent_words, lent_of, held_from, rows_words}
use Rattle.results.proofs.Books.{count_few, held_put, put_length, held_done}
use Rattle.results.proofs.held_lent.Given as goal

abbrev pub invariant-loop-i : goal.invariant-loop-i
invariant-loop-i l = (l.n ≤ l.i)
    × (put_words l.out (lent_at + l.n * 3) (rows_words lent_words (LENT - l.n) 0 (held_from (LENT - l.i) (0 + l.i) (behind_in l.m).slots))
    ≡ put_words l.initial.out lent_at (rows_words lent_words LENT 0 (lent_of (behind_in l.m).slots)))
