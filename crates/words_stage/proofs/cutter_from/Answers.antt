use borrow.Author.Rules.{rules}
use Rattle.words_stage.proofs.cutter_from.Goals as goal

pub returns : goal.returns
returns c = simp c.virt_from.ensures
