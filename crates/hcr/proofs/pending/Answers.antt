use Rattle.std.proofs.Common.{Bool, not, ◌||◌, sym, ap, ◌∙◌}
use borrow.Author.Tests.{eq-eqb, ne_eqb}
use Rattle.hcr.specs.Words.{bit, same}
use Rattle.hcr.proofs.Laws.{bit_on, equal_same}
use Rattle.hcr.proofs.pending.Goals as goal

pub returns-then-status-ne0 : goal.returns-then-status-ne0
returns-then-status-ne0 c = let s = c.args.status in let e = ap not (ne_eqb _ _ c.if-status-ne0.true) in
    e ∙ sym (ap (λ (b : Bool). b || same (bit 21 s) c.args.toggle) (sym (bit_on s 23) ∙ e))

pub returns-else-status-ne0 : goal.returns-else-status-ne0
returns-else-status-ne0 c = let s = c.args.status in let e = ap not (eq-eqb _ _ c.if-status-ne0.false) in
    equal_same _ c.args.toggle
    ∙ ap (λ (b : Bool). same b c.args.toggle) (bit_on s 21)
    ∙ sym (ap (λ (b : Bool). b || same (bit 21 s) c.args.toggle) (sym (bit_on s 23) ∙ e))
