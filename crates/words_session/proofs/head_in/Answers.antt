use mathlib.Core.Path.{◌≡◌, refl, ap, sym, ◌∙◌}
use borrow.Author.Rules.{rules}
use Rattle.words_session.proofs.head_in.Goals as goal

pub returns : goal.returns
returns c = simp (c.task_at-task.ensures, c.stage_at-stage.ensures, c.ledger_at-l.ensures, c.told_at-t.ensures)
