use mathlib.Core.Path.{◌∙◌}
use borrow.Author.Rules.{rules}
use Rattle.reply.specs.Replies.{query_port_of}
use Rattle.session.specs.declared.Note.TheVariants as n
use Rattle.opening.specs.Notes.{value_note}
use Rattle.opening.proofs.Noted.{note_good, note_bad}
use Rattle.opening.proofs.port_note.Goals as goal

pub returns-then-is_done : goal.returns-then-is_done
returns-then-is_done c =
    let p = c.args in
    c.port_value.ensures ∙ note_good p.end (value_note (n.Port p.i) (query_port_of p.outbox.now p.i)) c.cmd_in-x.ensures c.is_done.ensures c.if-is_done.true

pub returns : goal.returns
returns c =
    let p = c.args in
    note_bad p.end (value_note (n.Port p.i) (query_port_of p.outbox.now p.i)) c.cmd_in-x.ensures c.is_done.ensures c.if-is_done.false
