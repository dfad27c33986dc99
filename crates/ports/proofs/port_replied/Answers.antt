use mathlib.Core.List.{[]}
use mathlib.Core.Path.{ap, ◌∙◌}
use Rattle.reply.specs.Replies.{query_port}
use Rattle.behind.specs.Behind.{behind_in}
use Rattle.ports.proofs.Replied.{port_good, port_refused}
use Rattle.ports.proofs.port_replied.Goals as goal

pub returns-in-Ok : goal.returns-in-Ok
returns-in-Ok c = λ b h.
    let p = c.args in
    c.next_port.ensures ∙ port_good p.s (behind_in p.m.now) b p.top p.n _ (query_port p.y) (ap query_port c.in-Ok.is) h

pub returns-in-Err : goal.returns-in-Err
returns-in-Err c = λ b h.
    let p = c.args in
    c.fail.ensures ∙ port_refused p.s (behind_in p.m.now) b p.top p.n 21 [] (query_port p.y) (ap query_port c.in-Err.is) h
