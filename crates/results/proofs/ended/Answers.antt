use borrow.Author.Rules.{rules}
use Rattle.results.proofs.ended.Goals as goal

pub returns-in-Nothing : goal.returns-in-Nothing
returns-in-Nothing c = simp c.in-Nothing.is

pub returns-in-By : goal.returns-in-By
returns-in-By c = simp c.in-By.is
