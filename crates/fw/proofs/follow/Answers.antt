use mathlib.Core.Path.{refl, ap, sym, subst, ◌∙◌}
use Rattle.behind.specs.Behind.{behind_in}
use Rattle.session.specs.declared.Stage.TheVariants as g
use Rattle.opening_plan.specs.Plan.{prepare_plan}
use Rattle.client_plan.specs.Plan.{client_plan}
use Rattle.closing_plan.specs.Plan.{close_plan}
use Rattle.fw.proofs.Leads.{stage_leads, rest_leads, boot_leads}
use borrow.Author.Rules.{rules}
use Rattle.fw.proofs.follow.Goals as goal

pub enum_told-1 : goal.enum_told-1
enum_told-1 c = search rules

pub new-requires : goal.new-requires
new-requires c = search rules

pub enum_told-in-Open : goal.enum_told-in-Open
enum_told-in-Open c = search rules

pub new-requires-in-Open : goal.new-requires-in-Open
new-requires-in-Open c = search rules

pub enum_told-in-Ended : goal.enum_told-in-Ended
enum_told-in-Ended c = search rules

pub new-requires-in-Ended : goal.new-requires-in-Ended
new-requires-in-Ended c = search rules

pub enum_known-stage : goal.enum_known-stage
enum_known-stage c = search rules

pub prepared-requires : goal.prepared-requires
prepared-requires c = search rules

pub enum_known-stage-in-Boot-1 : goal.enum_known-stage-in-Boot-1
enum_known-stage-in-Boot-1 c = search rules

pub booted-requires : goal.booted-requires
booted-requires c = search rules

pub enum_known-stage-in-Client-1 : goal.enum_known-stage-in-Client-1
enum_known-stage-in-Client-1 c = search rules

pub served-requires : goal.served-requires
served-requires c = search rules

pub enum_known-stage-in-Close-1 : goal.enum_known-stage-in-Close-1
enum_known-stage-in-Close-1 c = search rules

pub closed-requires : goal.closed-requires
closed-requires c = search rules

pub returns-in-Fresh : goal.returns-in-Fresh
returns-in-Fresh c =
    let p = c.args in
    rest_leads p.s p.end p.outbox.now p.top (behind_in p.m.now) _ (g.Fresh) c.in-Fresh.is c.new.ensures refl refl (λ b. refl) (λ x. refl)

pub returns-in-Open : goal.returns-in-Open
returns-in-Open c =
    let p = c.args in
    rest_leads p.s p.end p.outbox.now p.top (behind_in p.m.now) _ (g.Open _) c.in-Open.is c.new-in-Open.ensures refl refl (λ b. refl) (λ x. refl)

pub returns-in-Ended : goal.returns-in-Ended
returns-in-Ended c =
    let p = c.args in
    rest_leads p.s p.end p.outbox.now p.top (behind_in p.m.now) _ (g.Ended) c.in-Ended.is c.new-in-Ended.ensures refl refl (λ b. refl) (λ x. refl)

pub returns-in-Prepare : goal.returns-in-Prepare
returns-in-Prepare c =
    let p = c.args in
    stage_leads p.s p.end p.outbox.now p.top (behind_in p.m.now) _ (g.Prepare _) (λ x. prepare_plan x c.in-Prepare.p p.end p.top) c.in-Prepare.is c.prepared.ensures (λ b. refl) (λ x. refl)

pub returns-in-Boot : goal.returns-in-Boot
returns-in-Boot c =
    let p = c.args in
    boot_leads p.s p.end p.outbox.now p.top (behind_in p.m.now) _ _ c.in-Boot.is c.booted.ensures

pub returns-in-Client : goal.returns-in-Client
returns-in-Client c =
    let p = c.args in
    stage_leads p.s p.end p.outbox.now p.top (behind_in p.m.now) _ (g.Client _) (λ x. client_plan x c.in-Client.k p.end p.top) c.in-Client.is (c.served.ensures (behind_in p.m.now)) (λ b. refl) (λ x. refl)

pub returns-in-Close : goal.returns-in-Close
returns-in-Close c =
    let p = c.args in
    stage_leads p.s p.end p.outbox.now p.top (behind_in p.m.now) _ (g.Close _) (λ x. close_plan x c.in-Close.c p.end p.top) c.in-Close.is c.closed.ensures (λ b. refl) (λ x. refl)
