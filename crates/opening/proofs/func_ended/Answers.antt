use mathlib.Core.Path.{ap, ◌∙◌}
use borrow.Author.Rules.{rules}
use Rattle.fields.specs.Outcome.{Outcome}
use Rattle.reply.specs.Replies.{query_func_of}
use Rattle.reply.specs.declared.FuncInfo.{FuncInfo}
use Rattle.session.specs.declared.Session.{Session}
use Rattle.session.specs.Core.{full}
use Rattle.behind.specs.Behind.{behind_in}
use Rattle.opening_plan.specs.Plan.{func_replied}
use Rattle.opening.proofs.Steps.{onward, stopped}
use Rattle.opening.proofs.func_ended.Goals as goal

pub returns-then-is_done : goal.returns-then-is_done
returns-then-is_done c =
    let p = c.args in
    let b = behind_in p.m.now in
    c.func_replied.ensures
    ∙ ap (λ (v : Outcome FuncInfo). func_replied (full c.took-t.result b) v p.top) c.query_func.ensures
    ∙ onward p.s p.x p.top b (λ (d : Session). func_replied d (query_func_of p.outbox.now) p.top) c.took-t.ensures c.is_done.ensures c.if-is_done.true

pub returns : goal.returns
returns c =
    let p = c.args in
    let b = behind_in p.m.now in
    c.fail_by.ensures ∙ stopped p.s p.x p.top b (λ (d : Session). func_replied d (query_func_of p.outbox.now) p.top) c.took-t.ensures c.is_done.ensures c.if-is_done.false
