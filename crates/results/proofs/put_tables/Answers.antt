use Prim.Native.Nat.{ℕ, ◌+◌, ◌-◌, ◌*◌, ◌≤◌}
use mathlib.Core.Path.{◌≡◌, refl, ap, sym, ◌∙◌}
use mathlib.Core.List.{List, []}
use native.Mathlib.Omega.{arith}
use borrow.Author.Rules.{rules}
use lib.ListN.{length, drop, get_or, drop_of_length-le}
use Rattle.words.specs.Words.{at, put_words, flat}
use Rattle.words.proofs.Laws.{flat_turn, length_words}
use Rattle.layout.specs.declared.Table.{Table}
use Rattle.results.specs.Results.{table_words}
use Rattle.results.proofs.put_tables.Goals as goal

abbrev none : Table
none = record { index = 0; entry = 0; count = 0; bytes = 0; base = 0 }

abbrev table_of : List ℕ → Table
table_of w = record { index = at w 0; entry = at w 1; count = at w 2; bytes = at w 3; base = at w 4 }

pub loop-i-init : goal.loop-i-init
loop-i-init c = refl

pub loop-i-preserved : goal.loop-i-preserved
loop-i-preserved c = let p = c.args in let l = c.loop-i in let e = c.put_table.ensures in
    ap (λ (x : List ℕ). put_words x (78 + (l.i + 1) * 5) (flat table_words (drop (l.i + 1) p.rows))) e
    ∙ flat_turn table_of table_words 5 (λ r. refl) l.out 78 none p.rows l.i (let n : length p.rows ≡ 11 = search rules in omega arith) ∙ l.invariant

pub returns : goal.returns
unfolding put_words flat
returns c = let p = c.args in let l = c.loop-i in
    let e : drop l.i p.rows ≡ [] = drop_of_length-le p.rows {i = l.i} (let n : length p.rows ≡ 11 = search rules in omega arith) in
    sym (ap (λ (rs : List Table). put_words l.out (78 + l.i * 5) (flat table_words rs)) e) ∙ l.invariant
