use borrow.Author.Rules.{rules}
use Rattle.closing.proofs.send.Goals as goal

pub returns : goal.returns
returns c = λ b. simp (c.imm.ensures, c.send.ensures, c.new.ensures)
