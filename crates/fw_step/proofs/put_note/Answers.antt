use mathlib.Core.Path.{refl, ap, subst, ◌∙◌}
use Rattle.std.specs.Result.{result_unwrap_or}
use Rattle.reply.specs.declared.DevCap.{DevCap}
use Rattle.reply.specs.declared.PortInfo.{PortInfo}
use Rattle.words.specs.Places.{cap_at, port1_at, port2_at}
use Rattle.words_info.specs.Coding.{cap_words, port_words}
use Rattle.words_info.specs.Fits.{CapFits, PortFits}
use Rattle.words_info.proofs.Typed.{cap_typed, port_typed}
use Rattle.behind.specs.Behind.{put_part}
use Rattle.fields.specs.Outcome.{pick}
use lib.Dec.{eqb}
use Rattle.session.specs.declared.Note.TheVariants as n
use Rattle.fw_step.proofs.Laws.{noted_by_lem}
use Rattle.fw_step.proofs.put_note.Goals as goal

pub returns-in-Nothing : goal.returns-in-Nothing
returns-in-Nothing c =
    let p = c.args in
    let parts = noted_by_lem p.note n.Nothing p.size p.outbox.now p.m.now p.m.now c.in-Nothing.is refl tt in record { m_after = parts.0; rewrites = parts.1 }

pub returns-in-Cap : goal.returns-in-Cap
returns-in-Cap c =
    let p = c.args in
    let held = c.unwrap_or-cap.ensures ∙ ap (result_unwrap_or c.dev_cap.result) c.none.ensures ∙ c.dev_cap.ensures.held in
    let parts = noted_by_lem p.note n.Cap p.size p.outbox.now p.m.now _ c.in-Cap.is
    (c.put_cap.ensures ∙ ap (λ (k : DevCap). put_part cap_at (cap_words k) p.m.now) held) (subst CapFits held (cap_typed _ _ c.unwrap_or-cap.type_inv)) in record { m_after = parts.0; rewrites = parts.1 }

pub returns-in-Port : goal.returns-in-Port
returns-in-Port c =
    let p = c.args in
    let i = c.in-Port.i in
    let held = c.unwrap_or-info.ensures ∙ ap (result_unwrap_or c.query_port.result) c.none-in-Port.ensures ∙ c.query_port.ensures.held in
    let parts = noted_by_lem p.note (n.Port i) p.size p.outbox.now p.m.now _ c.in-Port.is
    (c.put_port.ensures ∙ ap (λ (k : PortInfo). put_part (pick (eqb i 1) port1_at port2_at) (port_words k) p.m.now) held) (subst PortFits held (port_typed _ _ c.unwrap_or-info.type_inv)) in record { m_after = parts.0; rewrites = parts.1 }
