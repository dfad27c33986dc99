use mathlib.Core.Path.{refl, sym, ◌∙◌}
use borrow.Author.Rules.{rules}
use Rattle.behind.proofs.begin_reset.Goals as goal

pub returns-then-is_reset : goal.returns-then-is_reset
returns-then-is_reset c =
    let yes = sym c.is_reset.ensures ∙ c.if-is_reset.true in
    rw yes (c.put_reset.ensures ∙ rw c.start.ensures refl)

pub returns-else-is_reset : goal.returns-else-is_reset
returns-else-is_reset c = let no = sym c.is_reset.ensures ∙ c.if-is_reset.false in rw no refl
