use Rattle.calls.proofs.by_opcode.Goals as goal

pub returns-then-reserved : goal.returns-then-reserved
returns-then-reserved c = simp c.if-reserved.true

pub returns : goal.returns
returns c = simp c.if-reserved.false
