use mathlib.Core.Path.{◌∙◌}
use borrow.Author.Rules.{rules}
use Rattle.reply.specs.Replies.{query_port}
use Rattle.behind.specs.Behind.{behind_in}
use Rattle.opening.proofs.Noted.{port_on, port_off}
use Rattle.opening.proofs.port_ended.Goals as goal

pub returns-then-is_done : goal.returns-then-is_done
returns-then-is_done c = λ b h.
    let p = c.args in
    port_on p.s p.x p.outbox.now p.top (behind_in p.m.now) b c.took-t.ensures c.is_done.ensures p.i c.if-is_done.true h c.port_replied.result
    (query_port c.query_port.result) c.query_port.ensures.said c.port_replied.ensures

pub returns : goal.returns
returns c = λ b h.
    let p = c.args in
    c.fail_by.ensures
    ∙ port_off p.s p.x p.outbox.now p.top (behind_in p.m.now) b c.took-t.ensures c.is_done.ensures p.i c.if-is_done.false h
