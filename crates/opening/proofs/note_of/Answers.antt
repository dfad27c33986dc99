use mathlib.Core.Path.{ap, sym, ◌∙◌}
use borrow.Author.Rules.{rules}
use Rattle.session.specs.declared.Stage.{Stage}
use Rattle.opening.specs.Notes.{note_at}
use Rattle.opening.proofs.note_of.Goals as goal

pub returns-in-Fresh : goal.returns-in-Fresh
returns-in-Fresh c = let p = c.args in sym (ap (λ (y : Stage). note_at p.size y p.end p.outbox.now) c.in-Fresh.is)

pub returns-in-Open : goal.returns-in-Open
returns-in-Open c = let p = c.args in sym (ap (λ (y : Stage). note_at p.size y p.end p.outbox.now) c.in-Open.is)

pub returns-in-Ended : goal.returns-in-Ended
returns-in-Ended c = let p = c.args in sym (ap (λ (y : Stage). note_at p.size y p.end p.outbox.now) c.in-Ended.is)

pub returns-in-Prepare : goal.returns-in-Prepare
returns-in-Prepare c = let p = c.args in sym (ap (λ (y : Stage). note_at p.size y p.end p.outbox.now) c.in-Prepare.is)

pub returns-in-Boot : goal.returns-in-Boot
returns-in-Boot c = let p = c.args in c.boot_note.ensures ∙ sym (ap (λ (y : Stage). note_at p.size y p.end p.outbox.now) c.in-Boot.is)

pub returns-in-Client : goal.returns-in-Client
returns-in-Client c = let p = c.args in sym (ap (λ (y : Stage). note_at p.size y p.end p.outbox.now) c.in-Client.is)

pub returns-in-Close : goal.returns-in-Close
returns-in-Close c = let p = c.args in sym (ap (λ (y : Stage). note_at p.size y p.end p.outbox.now) c.in-Close.is)
