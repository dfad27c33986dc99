use mathlib.Core.Path.{◌≡◌, refl, ap, sym, ◌∙◌}
use Rattle.words.specs.Places.{TASK, STAGE, LEDGER, task_at}
use Rattle.words_task.specs.Coding.{task_words}
use Rattle.words_task.proofs.Trip.{task_length}
use Rattle.words_stage.specs.Coding.{stage_words}
use Rattle.words_stage.proofs.Trip.{stage_length}
use Rattle.words_books.specs.Coding.{ledger_words}
use Rattle.words_info.specs.Coding.{told_words}
use Rattle.words_session.specs.Image.{ledger_for, told_for}
use Rattle.words_session.proofs.Laws.{four}
use borrow.Author.Rules.{rules}
use Rattle.words_session.proofs.put_head_in.Goals as goal

pub returns : goal.returns
returns c =
    let p = c.args in
    let v = p.c in
    four p.s.now task_at TASK STAGE LEDGER (task_words v.task) (stage_words v.stage) (ledger_words (ledger_for v)) (told_words (told_for v))
    (c.put_told.ensures ∙ rw c.told_of.ensures refl)
    (c.put_ledger.ensures ∙ rw c.ledger_of.ensures refl)
    c.put_stage.ensures c.put_task_in.ensures (task_length v.task) (stage_length v.stage) refl
