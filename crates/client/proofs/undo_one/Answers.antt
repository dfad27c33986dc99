use mathlib.Core.Path.{ap, sym, ◌∙◌}
use borrow.Author.Rules.{rules}
use Rattle.session.specs.declared.Core.{Core}
use Rattle.session.specs.Core.{full}
use Rattle.client_plan.specs.Plan.{rest_plan}
use Rattle.client_plan.proofs.Steps.{undo_none, undo_more}
use Rattle.pci.specs.declared.Refusal.TheVariants as x
use Rattle.session.specs.declared.Gave.TheVariants as v
use Rattle.client.proofs.undo_one.Goals as goal

pub returns-then-more-eq0 : goal.returns-then-more-eq0
returns-then-more-eq0 c = λ b.
    let p = c.args in
    c.rest.ensures b
    ∙ ap (λ (y : Core). rest_plan (full y b) (v.Failed x.Undo) p.top.count) c.breaks.ensures
    ∙ sym (undo_none (full p.s b) p.mark p.more p.top c.if-more-eq0.true)

pub returns-then-reserved : goal.returns-then-reserved
returns-then-reserved c = λ b. let p = c.args in c.rest-then-reserved.ensures b ∙ simp (undo_more (full p.s b) p.mark p.more p.top c.if-more-eq0.false, ← c.reserved.ensures, c.if-reserved.true)

pub returns : goal.returns
returns c = λ b. let p = c.args in simp (
  undo_more (full p.s b) p.mark p.more p.top c.if-more-eq0.false,
  ← c.reserved.ensures,
  c.if-reserved.false,
  c.imm.ensures,
  c.send.ensures,
  c.new.ensures,
)
