use mathlib.Core.Path.{sym, ◌∙◌}
use borrow.Author.Rules.{rules}
use Rattle.session.specs.Core.{full}
use Rattle.closing_plan.proofs.Steps.{undo_none, undo_more}
use Rattle.closing.proofs.undo_one.Goals as goal

pub returns-then-more-eq0 : goal.returns-then-more-eq0
returns-then-more-eq0 c = λ b.
    let p = c.args in c.failed.ensures b ∙ sym (undo_none (full p.s b) p.more p.top c.if-more-eq0.true)

pub returns-then-reserved : goal.returns-then-reserved
returns-then-reserved c = λ b. let p = c.args in c.failed-then-reserved.ensures b ∙ simp (undo_more (full p.s b) p.more p.top c.if-more-eq0.false, ← c.reserved.ensures, c.if-reserved.true)

pub returns : goal.returns
returns c = λ b. let p = c.args in simp (
  undo_more (full p.s b) p.more p.top c.if-more-eq0.false,
  ← c.reserved.ensures,
  c.if-reserved.false,
  c.imm.ensures,
  c.send.ensures,
  c.new.ensures,
)
