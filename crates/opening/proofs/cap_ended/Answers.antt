use mathlib.Core.Path.{◌∙◌}
use borrow.Author.Rules.{rules}
use Rattle.reply.specs.Capability.{capability}
use Rattle.behind.specs.Behind.{behind_in}
use Rattle.opening.proofs.Noted.{cap_on, cap_off}
use Rattle.opening.proofs.cap_ended.Goals as goal

pub returns-then-is_done : goal.returns-then-is_done
returns-then-is_done c = λ b h.
    let p = c.args in
    cap_on p.s p.x p.outbox.now p.top (behind_in p.m.now) b c.took-t.ensures c.is_done.ensures c.if-is_done.true h c.cap_replied.result
    (capability c.dev_cap.result) c.dev_cap.ensures.said c.cap_replied.ensures

pub returns : goal.returns
returns c = λ b h.
    let p = c.args in
    c.fail_by.ensures
    ∙ cap_off p.s p.x p.outbox.now p.top (behind_in p.m.now) b c.took-t.ensures c.is_done.ensures c.if-is_done.false h
