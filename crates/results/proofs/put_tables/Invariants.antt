use Prim.Native.Nat.{ℕ, ◌+◌, ◌-◌, ◌*◌, ◌≤◌}
use mathlib.Core.Path.{◌≡◌, refl, ap, sym, ◌∙◌}
use mathlib.Core.List.{List, []}
use native.Mathlib.Omega.{arith}
use borrow.Author.Rules.{rules}
use lib.ListN.{length, drop, get_or, drop_of_length-le}
use Rattle.words.specs.Words.{at, put_words, flat}
use Rattle.words.proofs.Laws.{flat_turn, length_words}
use Rattle.layout.specs.declared.Table.{Table}
use Rattle.results.specs.Results.{table_words}
use Rattle.results.proofs.put_tables.Given as goal

-- the rows still to be put give what was to be put at first
abbrev pub invariant-loop-i : goal.invariant-loop-i
invariant-loop-i l = put_words l.out (78 + l.i * 5) (flat table_words (drop l.i l.fn.rows)) ≡ put_words l.initial.out 78 (flat table_words l.fn.rows)
