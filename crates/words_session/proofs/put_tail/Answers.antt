use mathlib.Core.Path.{◌≡◌, refl, ap, sym, ◌∙◌}
use native.Mathlib.Omega.{arith}
use lib.ListN.{length, replicate}
use Rattle.words.specs.Places.{RESET, FIND, reset_at, find_at, state_bytes}
use Rattle.words.specs.Words.{flat}
use Rattle.words_beside.specs.Coding.{reset_words, find_words}
use Rattle.words_books.specs.Coding.{slot_words}
use Rattle.reset.specs.Steps as rs
use Rattle.uar.specs.Steps as us
use Rattle.session.specs.Session.{no_slot}
use Rattle.words_session.proofs.Laws.{three, part_of, part_length}
use borrow.Author.Rules.{rules}
use Rattle.words_session.proofs.put_tail.Goals as goal

pub returns : goal.returns
returns c =
    let s = c.args.s.now in
    let h = c.requires in
    let one = part_of reset_words reset_at s c.put_reset.ensures c.start.ensures h in
    let two = part_of find_words find_at _ c.put_find.ensures c.start-2.ensures (part_length reset_words reset_at s c.start.result c.put_reset.ensures h) in
    three s reset_at RESET FIND (reset_words rs.started) (find_words us.started) (flat slot_words (replicate 82 no_slot)) c.put_none.ensures two one refl refl
