use Rattle.opening.specs.Notes.{note_at}
use Rattle.fw.proofs.Ends.{note_is}
use borrow.Author.Rules.{rules}
use Rattle.fw.proofs.note.Goals as goal

pub note_of-note-requires : goal.note_of-note-requires
note_of-note-requires c = search rules

pub put_note-requires : goal.put_note-requires
put_note-requires c = search rules

pub shape_of-m : goal.shape_of-m
shape_of-m c = search rules

pub returns : goal.returns
returns c =
    let p = c.args in
    let parts = note_is c.note_of-note.result (note_at p.s.uar.size p.s.stage p.end p.outbox.now) p.s.uar.size p.outbox.now p.m.now _ c.note_of-note.ensures c.put_note.ensures.m_after c.put_note.ensures.rewrites in record { m_after = parts.0; rewrites = parts.1 }
