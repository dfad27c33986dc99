use borrow.Author.Rules.{rules}
use Prim.Native.Nat.{ℕ, ◌+◌, ◌-◌, ◌≤◌}
use mathlib.Core.Path.{◌≡◌, ap, sym, subst, ◌∙◌}
use native.Mathlib.Omega.{arith}
use lib.ListN.{length}
use Rattle.session.specs.Session.{slot_at}
use Rattle.behind.specs.Behind.{behind_in}
use Rattle.results.specs.Books.{held_from, count_of}
use Rattle.results.proofs.Books.{count_start, count_turn, count_few, count_end}
use Rattle.results.proofs.held_in.Given as goal

abbrev pub invariant-loop-i : goal.invariant-loop-i
invariant-loop-i l = (l.n ≤ l.i) × (l.n + length (held_from (l.count - l.i) (l.from + l.i) (behind_in l.m).slots) ≡ length (held_from l.count l.from (behind_in l.m).slots))
