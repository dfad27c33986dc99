use mathlib.Core.Path.{ap, sym, ◌∙◌}
use borrow.Author.Tests.{lt-ltb, le-ltb, eq-eqb, ne_eqb}
use lib.Dec.{ltb}
use Rattle.undo.specs.List.{push_of}
use Rattle.undo.proofs.place.Goals as goal

pub returns-then-count-gt-MOST : goal.returns-then-count-gt-MOST
unfolding push_of
returns-then-count-gt-MOST c = simp (lt-ltb _ _ c.if-count-gt-MOST.true)

pub returns-then-len-min : goal.returns-then-len-min
unfolding push_of
returns-then-len-min c = let p = c.args in
    simp (
      le-ltb _ _ c.if-count-gt-MOST.false,
      ap (ltb p.len) (sym c.min.ensures) ∙ lt-ltb _ _ c.if-len-min.true,
    )

pub returns-then-reserved : goal.returns-then-reserved
unfolding push_of
returns-then-reserved c = let p = c.args in
    simp (
      le-ltb _ _ c.if-count-gt-MOST.false,
      ap (ltb p.len) (sym c.min.ensures) ∙ le-ltb _ _ c.if-len-min.false,
      sym c.reserved.ensures ∙ c.if-reserved.true,
    )

pub returns-then-count-eq-MOST : goal.returns-then-count-eq-MOST
unfolding push_of
returns-then-count-eq-MOST c = let p = c.args in
    simp (
      le-ltb _ _ c.if-count-gt-MOST.false,
      ap (ltb p.len) (sym c.min.ensures) ∙ le-ltb _ _ c.if-len-min.false,
      sym c.reserved.ensures ∙ c.if-reserved.false,
      eq-eqb _ _ c.if-count-eq-MOST.true,
    )

pub returns : goal.returns
unfolding push_of
returns c = let p = c.args in
    simp (
      le-ltb _ _ c.if-count-gt-MOST.false,
      ap (ltb p.len) (sym c.min.ensures) ∙ le-ltb _ _ c.if-len-min.false,
      sym c.reserved.ensures ∙ c.if-reserved.false,
      ne_eqb _ _ c.if-count-eq-MOST.false,
    )
