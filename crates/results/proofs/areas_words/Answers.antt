use borrow.Author.Rules.{rules}
use mathlib.Core.Path.{ap, ◌∙◌}
use Rattle.session.specs.Session.{slot_at, AUX, FA, INBOX, OUTBOX}
use Rattle.behind.specs.Behind.{behind_in}
use Rattle.results.specs.Books.{area_words}
use Rattle.results.proofs.Books.{areas_are}
use Rattle.results.proofs.areas_words.Goals as goal

pub returns : goal.returns
returns c =
    let l = (behind_in c.args.m.now).slots in
    areas_are (slot_at l INBOX) (slot_at l OUTBOX) (slot_at l FA) (slot_at l AUX) (c.area_words-a.ensures ∙ ap area_words c.slot_at.ensures) (c.area_words-b.ensures ∙ ap area_words c.slot_at-2.ensures)
    (c.area_words-d.ensures ∙ ap area_words c.slot_at-3.ensures) (c.area_words-e.ensures ∙ ap area_words c.slot_at-4.ensures)
