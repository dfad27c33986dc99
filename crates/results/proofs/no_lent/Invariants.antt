use borrow.Author.Rules.{rules}
use Prim.Native.Nat.{ℕ, ◌+◌, ◌-◌, ◌*◌, ◌≤◌}
use mathlib.Core.Path.{◌≡◌, refl, ap, ◌∙◌}
use mathlib.Core.List.{List, []}
use native.Mathlib.Omega.{arith}
use lib.ListN.{length}
use Rattle.words.specs.Words.{put_words}
use Rattle.words.proofs.Laws.{length_words}
use Rattle.session.specs.Session.{no_slot}
use Rattle.session.specs.declared.Slot.{Slot}
use Rattle.results.specs.Books.{LENT, lent_at, lent_words, rows_words}
use Rattle.results.proofs.Books.{none_put, rows_done}
use Rattle.results.proofs.no_lent.Given as goal

abbrev pub invariant-loop-i : goal.invariant-loop-i
invariant-loop-i l = put_words l.out (lent_at + l.i * 3) (rows_words lent_words (LENT - l.i) 0 []) ≡ put_words l.initial.out (lent_at + l.n * 3) (rows_words lent_words (LENT - l.n) 0 [])
