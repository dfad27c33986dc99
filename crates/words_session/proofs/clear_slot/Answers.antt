use mathlib.Core.Path.{refl, ◌∙◌}
use borrow.Author.Rules.{rules}
use borrow.Author.Tests.{lt-ltb, le-ltb}
use Rattle.words_session.proofs.clear_slot.Goals as goal

pub returns : goal.returns
returns c =
    let h = c.requires in
    c.put_slot.ensures ∙ rw (lt-ltb _ _ h.1, le-ltb _ _ h.0) refl
