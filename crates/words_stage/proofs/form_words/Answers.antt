use borrow.Author.Rules.{rules}
use Rattle.words_stage.proofs.form_words.Goals as goal

pub returns-in-Imm : goal.returns-in-Imm
returns-in-Imm c = simp c.in-Imm.is

pub returns-in-WithIn : goal.returns-in-WithIn
returns-in-WithIn c = simp c.in-WithIn.is

pub returns-in-WithOut : goal.returns-in-WithOut
returns-in-WithOut c = simp c.in-WithOut.is

pub returns-in-InImm : goal.returns-in-InImm
returns-in-InImm c = simp c.in-InImm.is

pub returns-in-InOut : goal.returns-in-InOut
returns-in-InOut c = simp c.in-InOut.is
