use mathlib.Core.Path.{ap, sym, ◌∙◌}
use borrow.Author.Rules.{rules}
use Rattle.fields.specs.Outcome.{Outcome}
use Rattle.pci.specs.declared.Refusal.{Refusal}
use Rattle.reply.specs.Replies.{query_fw, fw_in, query_fw_of}
use Rattle.reply.specs.declared.FwInfo.{FwInfo}
use Rattle.session.specs.declared.Core.{Core}
use Rattle.session.specs.declared.Session.{Session}
use Rattle.session.specs.Failures.{broken_by}
use Rattle.session.specs.Session.{took_of, bookkeeps}
use Rattle.session.specs.Core.{full}
use Rattle.behind.specs.Behind.{behind_in}
use Rattle.opening_plan.specs.Plan.{fw_replied, fail_plan}
use Rattle.opening.proofs.Steps.{fw_good, fw_bad}
use Rattle.opening.proofs.fw_ended.Goals as goal

pub returns-then-is_done : goal.returns-then-is_done
returns-then-is_done c =
    let p = c.args in
    let b = behind_in p.m.now in
    let s = full p.s b in
    let y = c.query_fw.result in
    c.fw_replied.ensures
    ∙ ap (λ (d : Core). fw_replied (full d b) (query_fw y) (fw_in y) p.top) c.took-t.ensures
    ∙ ap (λ (v : Outcome FwInfo). fw_replied (took_of s p.x) v (fw_in y) p.top) c.query_fw.ensures.said
    ∙ ap (λ (i : FwInfo). fw_replied (took_of s p.x) (query_fw_of p.outbox.now p.s.uar.index) i p.top) c.query_fw.ensures.held
    ∙ fw_good s p.x p.top p.outbox.now (sym c.is_done.ensures ∙ c.if-is_done.true)

pub returns : goal.returns
returns c =
    let p = c.args in
    let b = behind_in p.m.now in
    let s = full p.s b in
    let r = p.x.result in
    let e = c.broken_by.ensures b ∙ ap (λ (d : Core). bookkeeps (full d b) (broken_by r (full d b).books)) c.took-t.ensures in
    c.fail.ensures
    ∙ ap (λ (d : Session). fail_plan d c.fw_failure_of.result p.top) e
    ∙ ap (λ (y : Refusal). fail_plan (bookkeeps (took_of s p.x) (broken_by r (took_of s p.x).books)) y p.top) c.fw_failure_of.ensures
    ∙ fw_bad s p.x p.top p.outbox.now (sym c.is_done.ensures ∙ c.if-is_done.false)
