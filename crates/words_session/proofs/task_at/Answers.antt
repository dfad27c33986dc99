use mathlib.Core.Path.{refl, ap, ◌∙◌}
use native.Mathlib.Omega.{arith}
use borrow.Author.Rules.{rules}
use Rattle.words.specs.Places.{TASK, task_at}
use Rattle.words_task.specs.Coding.{task_of}
use Rattle.words_session.proofs.Laws.{loaded}
use lib.ListN.{replicate}
use Rattle.words_session.proofs.task_at.Goals as goal

pub returns : goal.returns
returns c = let p = c.args in let h = c.requires in c.task_from.ensures ∙ ap task_of (loaded p.s.now task_at TASK (replicate TASK 0) c.load.ensures refl (omega arith))
