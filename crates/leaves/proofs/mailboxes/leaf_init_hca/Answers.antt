use Rattle.std.specs.Prelude.{ℕ, Option}
use mathlib.Core.Path.{◌≡◌, ap, ap₂, ◌∙◌}
use Rattle.std.specs.Result.{result_unwrap_or}
use Rattle.fields.specs.Outcome.{Outcome, value_or}
use Rattle.reply.specs.Capability.{capability, capability_of, no_caps}
use Rattle.reply.specs.declared.DevCap.{DevCap}
use Rattle.layout.specs.Layout.{no_layout}
use Rattle.init.specs.Init.{filled_by, fields_of, init_of}
use Rattle.init.specs.declared.InitHca.{InitHca}
use Rattle.answers.specs.Replies.{size_from}
use Rattle.answers.specs.Tables.{layout_for}
use Rattle.answers.specs.declared.tables.Judged.{Judged}
use Rattle.leaves.proofs.mailboxes.leaf_init_hca.Goals as goal

pub returns-clause-inbox_after : goal.returns-clause-inbox_after
returns-clause-inbox_after c = let p = c.args in let s = p.reply.now in let b = c.size_from.ensures in
    let o : Outcome DevCap = capability_of s (size_from p.known p.bar) in
    let said : capability c.dev_cap-c.result ≡ o = c.dev_cap-c.ensures.said ∙ ap (capability_of s) b in
    let held : c.unwrap_or.result ≡ value_or no_caps o = c.unwrap_or.ensures ∙ ap (result_unwrap_or c.dev_cap-c.result) c.none.ensures ∙ c.dev_cap-c.ensures.held ∙ ap (λ (x : Option ℕ). value_or no_caps (capability_of s x)) b in
    let rows : c.judge-j.result.layout.rows ≡ (value_or no_layout (layout_for o)).rows =
    ap (λ (x : Judged). x.layout.rows) c.judge-j.ensures ∙ ap (λ (x : Outcome DevCap). (value_or no_layout (layout_for x)).rows) said in
    c.fill.ensures.inbox_after ∙ ap (λ (h : InitHca). filled_by p.inbox.now (fields_of h)) (c.init_hca.ensures ∙ ap₂ init_of held rows)
