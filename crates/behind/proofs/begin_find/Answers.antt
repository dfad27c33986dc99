use mathlib.Core.Path.{refl, sym, ◌∙◌}
use borrow.Author.Rules.{rules}
use Rattle.behind.proofs.begin_find.Goals as goal

pub returns-then-is_find : goal.returns-then-is_find
returns-then-is_find c =
    let yes = sym c.is_find.ensures ∙ c.if-is_find.true in
    rw yes (c.put_find.ensures ∙ rw c.start.ensures refl)

pub returns-else-is_find : goal.returns-else-is_find
returns-else-is_find c = let no = sym c.is_find.ensures ∙ c.if-is_find.false in rw no refl
