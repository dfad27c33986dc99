use mathlib.Core.Path.{refl, ap, sym, subst, ◌∙◌}
use Rattle.behind.specs.Behind.{behind_in}
use Rattle.pci.specs.Suits.{suits_of}
use Rattle.pci.specs.declared.Question.{Question}
use Rattle.fw_begin.proofs.Laws.{and_of, and_not}
use borrow.Author.Rules.{rules}
use Rattle.fw_begin.proofs.answerable.Goals as goal

pub is_session-requires : goal.is_session-requires
is_session-requires c = search rules

pub asks-requires : goal.asks-requires
asks-requires c = search rules

pub suits-requires : goal.suits-requires
suits-requires c = search rules

pub returns-then-is_session : goal.returns-then-is_session
returns-then-is_session c =
    let p = c.args in
    and_of (sym (c.is_session.ensures (behind_in p.m.now)) ∙ c.if-is_session.true) (c.suits.ensures ∙ ap (λ (q : Question). suits_of q p.a) c.asks.ensures)

pub returns : goal.returns
returns c =
    let p = c.args in
    and_not _ (sym (c.is_session.ensures (behind_in p.m.now)) ∙ c.if-is_session.false) refl
