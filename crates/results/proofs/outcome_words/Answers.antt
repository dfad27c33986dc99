use borrow.Author.Rules.{rules}
use Prim.Native.Nat.{ℕ}
use mathlib.Core.Path.{ap, sym, ◌∙◌}
use mathlib.Core.List.{[], ◌∷◌}
use Rattle.behind.specs.Behind.{behind_in}
use Rattle.results.specs.Results.{outcome_words}
use Rattle.results.proofs.Laws.{ends}
use Rattle.results.proofs.outcome_words.Goals as goal

pub returns-in-Opened : goal.returns-in-Opened
returns-in-Opened c = c.gave_words.ensures ∙ sym (ap (outcome_words (behind_in c.args.m.now).slots) c.in-Opened.is)

pub returns-in-Failed : goal.returns-in-Failed
returns-in-Failed c = ends c.in-Failed.why c.refused_words.ensures c.end_word.ensures ∙ sym (ap (outcome_words (behind_in c.args.m.now).slots) c.in-Failed.is)

pub returns-in-Closed : goal.returns-in-Closed
returns-in-Closed c = ap (λ (n : ℕ). 4 ∷ 0 ∷ 0 ∷ 0 ∷ n ∷ []) c.end_word-in-Closed.ensures ∙ sym (ap (outcome_words (behind_in c.args.m.now).slots) c.in-Closed.is)
