use borrow.Author.Rules.{rules}
use mathlib.Core.Path.{ap, sym, ◌∙◌}
use mathlib.Core.List.{[], ◌∷◌}
use Rattle.session.specs.declared.Slot.{Slot}
use Rattle.behind.specs.Behind.{behind_in}
use Rattle.results.specs.Results.{gave_words}
use Rattle.results.proofs.gave_words.Goals as goal

pub returns-in-Command : goal.returns-in-Command
returns-in-Command c = sym (ap (gave_words (behind_in c.args.m.now).slots) c.in-Command.is)

pub returns-in-Lent : goal.returns-in-Lent
returns-in-Lent c = ap (λ (x : Slot). 6 ∷ x.handle ∷ x.dev ∷ x.pages ∷ 0 ∷ []) c.slot_at-x.ensures ∙ sym (ap (gave_words (behind_in c.args.m.now).slots) c.in-Lent.is)

pub returns-in-Failed : goal.returns-in-Failed
returns-in-Failed c = c.refused_words.ensures ∙ sym (ap (gave_words (behind_in c.args.m.now).slots) c.in-Failed.is)
