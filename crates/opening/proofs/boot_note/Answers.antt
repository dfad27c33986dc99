use mathlib.Core.Path.{ap, sym, ◌∙◌}
use borrow.Author.Rules.{rules}
use Rattle.session.specs.declared.Boot.{Boot}
use Rattle.opening.specs.Notes.{boot_note}
use Rattle.opening.proofs.boot_note.Goals as goal

pub returns-in-QueryFw : goal.returns-in-QueryFw
returns-in-QueryFw c = let p = c.args in sym (ap (λ (y : Boot). boot_note p.size y p.end p.outbox.now) c.in-QueryFw.is)

pub returns-in-Make : goal.returns-in-Make
returns-in-Make c = let p = c.args in sym (ap (λ (y : Boot). boot_note p.size y p.end p.outbox.now) c.in-Make.is)

pub returns-in-Map : goal.returns-in-Map
returns-in-Map c = let p = c.args in sym (ap (λ (y : Boot). boot_note p.size y p.end p.outbox.now) c.in-Map.is)

pub returns-in-RunFw : goal.returns-in-RunFw
returns-in-RunFw c = let p = c.args in sym (ap (λ (y : Boot). boot_note p.size y p.end p.outbox.now) c.in-RunFw.is)

pub returns-in-ModStat : goal.returns-in-ModStat
returns-in-ModStat c = let p = c.args in sym (ap (λ (y : Boot). boot_note p.size y p.end p.outbox.now) c.in-ModStat.is)

pub returns-in-DevCap : goal.returns-in-DevCap
returns-in-DevCap c = let p = c.args in c.cap_note.ensures ∙ sym (ap (λ (y : Boot). boot_note p.size y p.end p.outbox.now) c.in-DevCap.is)

pub returns-in-Port : goal.returns-in-Port
returns-in-Port c = let p = c.args in c.port_note.ensures ∙ sym (ap (λ (y : Boot). boot_note p.size y p.end p.outbox.now) c.in-Port.is)

pub returns-in-IcmSize : goal.returns-in-IcmSize
returns-in-IcmSize c = let p = c.args in sym (ap (λ (y : Boot). boot_note p.size y p.end p.outbox.now) c.in-IcmSize.is)

pub returns-in-InitHca : goal.returns-in-InitHca
returns-in-InitHca c = let p = c.args in sym (ap (λ (y : Boot). boot_note p.size y p.end p.outbox.now) c.in-InitHca.is)

pub returns-in-Func : goal.returns-in-Func
returns-in-Func c = let p = c.args in sym (ap (λ (y : Boot). boot_note p.size y p.end p.outbox.now) c.in-Func.is)

pub returns-in-Adapter : goal.returns-in-Adapter
returns-in-Adapter c = let p = c.args in sym (ap (λ (y : Boot). boot_note p.size y p.end p.outbox.now) c.in-Adapter.is)
