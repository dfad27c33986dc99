use mathlib.Core.Path.{refl, ap, ◌∙◌}
use borrow.Author.Rules.{rules}
use Rattle.command.specs.declared.CmdEnd.{CmdEnd}
use Rattle.buffer.specs.declared.Made.{Made}
use Rattle.session.specs.declared.Boot.TheVariants as k
use Rattle.session.specs.declared.Session.{Session}
use Rattle.session.specs.declared.Core.{Core}
use Rattle.session.specs.Failures.{made_in}
use Rattle.session.specs.Session.{took_of}
use Rattle.session.specs.Core.{full}
use Rattle.behind.specs.Behind.{behind_in}
use Rattle.closing_plan.specs.Plan.{cmd_in}
use Rattle.opening_plan.specs.Plan.{opened_plan, fw_plan, area_plan, map_ended, run_ended, stat_plan, size_ended, init_ended, func_ended, boot_plan}
use Rattle.opening.proofs.Noted.{quiet, found_cap, found_port}
use Rattle.opening.proofs.booted.Goals as goal

pub returns-in-QueryFw : goal.returns-in-QueryFw
unfolding boot_plan
returns-in-QueryFw c = λ b h.
    let p = c.args in
    c.fw_ended.ensures
    ∙ quiet p.s p.stage p.end p.outbox.now p.top (behind_in p.m.now) b h (λ (y : CmdEnd) (d : Session). fw_plan d y p.outbox.now p.top) k.QueryFw _ (cmd_in p.end) c.in-QueryFw.is c.cmd_in.ensures refl refl

pub returns-in-Make : goal.returns-in-Make
unfolding boot_plan
returns-in-Make c = λ b h.
    let p = c.args in
    let a = c.in-Make.a in
    c.made.ensures
    ∙ quiet p.s p.stage p.end p.outbox.now p.top (behind_in p.m.now) b h (λ (y : Made) (d : Session). area_plan d a y p.top) (k.Make a) _ (made_in p.end) c.in-Make.is c.made_in.ensures refl refl

pub returns-in-Map : goal.returns-in-Map
unfolding boot_plan
returns-in-Map c = λ b h.
    let p = c.args in
    let a = c.in-Map.a in
    let z = c.in-Map.rest in
    c.map_ended.ensures
    ∙ quiet p.s p.stage p.end p.outbox.now p.top (behind_in p.m.now) b h (λ (y : CmdEnd) (d : Session). map_ended d a z y p.top) (k.Map a z) _ (cmd_in p.end) c.in-Map.is c.cmd_in-in-Map.ensures refl refl

pub returns-in-RunFw : goal.returns-in-RunFw
unfolding boot_plan
returns-in-RunFw c = λ b h.
    let p = c.args in
    c.run_ended.ensures
    ∙ quiet p.s p.stage p.end p.outbox.now p.top (behind_in p.m.now) b h (λ (y : CmdEnd) (d : Session). run_ended d y p.top) k.RunFw _ (cmd_in p.end) c.in-RunFw.is c.cmd_in-in-RunFw.ensures refl refl

pub returns-in-ModStat : goal.returns-in-ModStat
unfolding boot_plan
returns-in-ModStat c = λ b h.
    let p = c.args in
    c.stat_ended.ensures
    ∙ quiet p.s p.stage p.end p.outbox.now p.top (behind_in p.m.now) b h (λ (y : CmdEnd) (d : Session). stat_plan d y p.top) k.ModStat _ (cmd_in p.end) c.in-ModStat.is c.cmd_in-in-ModStat.ensures refl refl

pub returns-in-DevCap : goal.returns-in-DevCap
returns-in-DevCap c = λ b h.
    let p = c.args in
    found_cap p.s p.stage p.end p.outbox.now p.top (behind_in p.m.now) b h c.cap_ended.result c.cmd_in-in-DevCap.result c.in-DevCap.is c.cmd_in-in-DevCap.ensures c.cap_ended.ensures

pub returns-in-Port : goal.returns-in-Port
returns-in-Port c = λ b h.
    let p = c.args in
    let i = c.in-Port.i in
    found_port p.s p.stage p.end p.outbox.now p.top (behind_in p.m.now) b h c.port_ended.result i c.cmd_in-in-Port.result c.in-Port.is c.cmd_in-in-Port.ensures c.port_ended.ensures

pub returns-in-IcmSize : goal.returns-in-IcmSize
unfolding boot_plan
returns-in-IcmSize c = λ b h.
    let p = c.args in
    c.size_ended.ensures
    ∙ quiet p.s p.stage p.end p.outbox.now p.top (behind_in p.m.now) b h (λ (y : CmdEnd) (d : Session). size_ended d y p.top) k.IcmSize _ (cmd_in p.end) c.in-IcmSize.is c.cmd_in-in-IcmSize.ensures refl refl

pub returns-in-InitHca : goal.returns-in-InitHca
unfolding boot_plan
returns-in-InitHca c = λ b h.
    let p = c.args in
    c.init_ended.ensures
    ∙ quiet p.s p.stage p.end p.outbox.now p.top (behind_in p.m.now) b h (λ (y : CmdEnd) (d : Session). init_ended d y p.top) k.InitHca _ (cmd_in p.end) c.in-InitHca.is c.cmd_in-in-InitHca.ensures refl refl

pub returns-in-Func : goal.returns-in-Func
unfolding boot_plan
returns-in-Func c = λ b h.
    let p = c.args in
    c.func_ended.ensures
    ∙ quiet p.s p.stage p.end p.outbox.now p.top (behind_in p.m.now) b h (λ (y : CmdEnd) (d : Session). func_ended d y p.outbox.now p.top) k.Func _ (cmd_in p.end) c.in-Func.is c.cmd_in-in-Func.ensures refl refl

pub returns-in-Adapter : goal.returns-in-Adapter
unfolding boot_plan
returns-in-Adapter c = λ b h.
    let p = c.args in
    let a = behind_in p.m.now in
    c.opened.ensures a
    ∙ ap (λ (y : Core). opened_plan (full y a) p.top) c.took.ensures
    ∙ quiet p.s p.stage p.end p.outbox.now p.top a b h (λ (y : CmdEnd) (d : Session). opened_plan (took_of d y) p.top) k.Adapter _ (cmd_in p.end) c.in-Adapter.is c.cmd_in-in-Adapter.ensures refl refl
