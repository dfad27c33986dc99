use borrow.Author.Rules.{rules}
use Rattle.words_stage.proofs.area_words.Goals as goal

pub returns-in-Fa : goal.returns-in-Fa
returns-in-Fa c = simp c.in-Fa.is

pub returns-in-Aux : goal.returns-in-Aux
returns-in-Aux c = simp c.in-Aux.is

pub returns-in-Range : goal.returns-in-Range
returns-in-Range c = simp (
  c.in-Range.is,
  c.long.ensures,
)
