use mathlib.Core.Path.{ap, sym, ◌∙◌}
use borrow.Author.Rules.{rules}
use Rattle.session.specs.declared.Form.{Form}
use Rattle.session.specs.Core.{full}
use Rattle.behind.specs.Behind.{behind_in}
use Rattle.client_plan.specs.Client.{in_address}
use Rattle.client.proofs.in_address.Goals as goal

pub returns-in-Imm : goal.returns-in-Imm
returns-in-Imm c = λ s. let p = c.args in let b = behind_in p.m.now in ap (λ (y : Form). in_address (full s b).books y p.in_param) (sym c.in-Imm.is)

pub returns-in-WithIn : goal.returns-in-WithIn
returns-in-WithIn c = λ s. let p = c.args in let b = behind_in p.m.now in c.address.ensures ∙ ap (λ (y : Form). in_address (full s b).books y p.in_param) (sym c.in-WithIn.is)

pub returns-in-WithOut : goal.returns-in-WithOut
returns-in-WithOut c = λ s. let p = c.args in let b = behind_in p.m.now in ap (λ (y : Form). in_address (full s b).books y p.in_param) (sym c.in-WithOut.is)

pub returns-in-InImm : goal.returns-in-InImm
returns-in-InImm c = λ s. let p = c.args in let b = behind_in p.m.now in c.address-in-InImm.ensures ∙ ap (λ (y : Form). in_address (full s b).books y p.in_param) (sym c.in-InImm.is)

pub returns-in-InOut : goal.returns-in-InOut
returns-in-InOut c = λ s. let p = c.args in let b = behind_in p.m.now in c.address-in-InOut.ensures ∙ ap (λ (y : Form). in_address (full s b).books y p.in_param) (sym c.in-InOut.is)
