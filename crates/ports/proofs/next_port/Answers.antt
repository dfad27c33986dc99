use Prim.Native.Nat.{ℕ}
use mathlib.Core.Path.{ap, sym, ◌∙◌}
use borrow.Author.Rules.{rules}
use borrow.Author.Tests.{lt-ltb, le-ltb}
use lib.Dec.{ltb}
use Rattle.fields.specs.Outcome.{Outcome, pick}
use Rattle.reply.specs.declared.DevCap.{DevCap}
use Rattle.layout.specs.Counts.{profile_of}
use Rattle.layout.specs.declared.Layout.{Layout}
use Rattle.session.specs.Core.{full}
use Rattle.behind.specs.Behind.{behind_in}
use Rattle.opening_plan.specs.Plan.{layout_plan}
use Rattle.ports.proofs.Steps.{port_more, port_last}
use Rattle.ports.proofs.next_port.Goals as goal

pub returns-then-n-ports : goal.returns-then-n-ports
returns-then-n-ports c =
    let p = c.args in
    let e = c.ports.ensures ∙ ap (λ (y : DevCap). pick p.s.rev3 y.ports 0) c.cap_at-cap.ensures in
    c.ask.ensures
    ∙ port_more (full p.s (behind_in p.m.now)) p.top p.n (sym (ap (λ (y : ℕ). ltb p.n y) e) ∙ lt-ltb _ _ c.if-n-ports.true)

pub returns : goal.returns
returns c =
    let p = c.args in
    let s = full p.s (behind_in p.m.now) in
    let d = c.cap_at-cap.ensures in
    let e = c.ports.ensures ∙ ap (λ (y : DevCap). pick p.s.rev3 y.ports 0) d in
    c.lay_out.ensures
    ∙ ap (λ (y : Outcome Layout). layout_plan s y p.top) (c.profile.ensures ∙ ap profile_of d)
    ∙ port_last s p.top p.n (sym (ap (λ (y : ℕ). ltb p.n y) e) ∙ le-ltb _ _ c.if-n-ports.false)
