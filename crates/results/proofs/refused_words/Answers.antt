use borrow.Author.Rules.{rules}
use Rattle.results.proofs.refused_words.Goals as goal

pub returns : goal.returns
returns c = simp (
  c.values-v.ensures,
  c.number.ensures,
  c.wide32.ensures,
)
