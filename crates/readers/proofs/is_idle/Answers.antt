use borrow.Author.Rules.{rules}
use mathlib.Core.Path.{refl, sym, ◌∙◌}
use Rattle.fw_begin.proofs.Laws.{and_of, and_not}
use Rattle.readers.proofs.is_idle.Goals as goal

pub returns-then-is_session : goal.returns-then-is_session
returns-then-is_session c = λ b. and_of (sym (c.is_session.ensures b) ∙ c.if-is_session.true) c.is_open.ensures

pub returns : goal.returns
returns c = λ b. and_not _ (sym (c.is_session.ensures b) ∙ c.if-is_session.false) refl
