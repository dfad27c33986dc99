use native.Mathlib.Omega.{arith}
use borrow.Author.Rules.{rules}
use Rattle.words.specs.Places.{TASK, task_at}
use Rattle.words_task.proofs.Trip.{task_length}
use Rattle.words_session.proofs.Laws.{stored}
use Rattle.words_session.proofs.put_task_in.Goals as goal

pub returns : goal.returns
returns c = let p = c.args in let h = c.requires in stored p.s.now task_at TASK c.store.ensures c.task_words-w.ensures (task_length p.v) (omega arith)
