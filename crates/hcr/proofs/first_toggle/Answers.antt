use Rattle.std.proofs.Common.{Bool, true, not, sym, ap, ◌∙◌}
use borrow.Author.Tests.{eq-eqb, ne_eqb}
use Rattle.fields.specs.Outcome.{pick}
use Rattle.hcr.specs.Words.{bit}
use Rattle.hcr.proofs.Laws.{bit_on, bit_off}
use Rattle.hcr.proofs.first_toggle.Goals as goal

pub returns-then-status-ne0 : goal.returns-then-status-ne0
returns-then-status-ne0 c = let s = c.args.status in let e = ap not (ne_eqb _ _ c.if-status-ne0.true) in
    e ∙ sym (ap (λ (b : Bool). pick b true (not (bit 21 s))) (sym (bit_on s 23) ∙ e))

pub returns-else-status-ne0 : goal.returns-else-status-ne0
returns-else-status-ne0 c = let s = c.args.status in let e = ap not (eq-eqb _ _ c.if-status-ne0.false) in
    bit_off s 21 ∙ sym (ap (λ (b : Bool). pick b true (not (bit 21 s))) (sym (bit_on s 23) ∙ e))
