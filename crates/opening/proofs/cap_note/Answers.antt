use mathlib.Core.Path.{◌∙◌}
use borrow.Author.Rules.{rules}
use Rattle.reply.specs.Capability.{capability_of}
use Rattle.session.specs.declared.Note.TheVariants as n
use Rattle.opening.specs.Notes.{value_note}
use Rattle.opening.proofs.Noted.{note_good, note_bad}
use Rattle.opening.proofs.cap_note.Goals as goal

pub returns-then-is_done : goal.returns-then-is_done
returns-then-is_done c =
    let p = c.args in
    c.cap_value.ensures ∙ note_good p.end (value_note n.Cap (capability_of p.outbox.now p.size)) c.cmd_in-x.ensures c.is_done.ensures c.if-is_done.true

pub returns : goal.returns
returns c =
    let p = c.args in
    note_bad p.end (value_note n.Cap (capability_of p.outbox.now p.size)) c.cmd_in-x.ensures c.is_done.ensures c.if-is_done.false
