use Prim.Native.Nat.{ℕ}
use mathlib.Core.List.{List}
use mathlib.Core.Path.{refl, ap, ◌∙◌}
use native.Mathlib.Omega.{arith}
use borrow.Author.Rules.{rules}
use lib.Dec.{ltb}
use lib.ListN.{get_or, replicate}
use Rattle.words.specs.Words.{words_in}
use Rattle.behind.proofs.Laws.{loaded}
use Rattle.behind.proofs.flag_stands.Goals as goal

pub returns : goal.returns
unfolding words_in
returns c =
    let p = c.args in
    let h = c.requires in
    ap (λ (l : List ℕ). ltb (get_or l 0 0) 2) (loaded p.m.now p.k 1 (replicate 1 0) c.load.ensures refl (omega arith))
