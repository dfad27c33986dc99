use mathlib.Core.Path.{◌≡◌, refl, ap, sym, ◌∙◌}
use Rattle.words.specs.Places.{task_at}
use Rattle.words_session.specs.Image.{head_words}
use Rattle.behind.proofs.Laws.{put_short, put_long}
use borrow.Author.Rules.{rules}
use Rattle.words_session.proofs.put_head.Goals as goal

pub returns-then-s-lt-STATE_BYTES : goal.returns-then-s-lt-STATE_BYTES
returns-then-s-lt-STATE_BYTES c = put_short task_at (head_words c.args.c) c.args.s.now c.if-s-lt-STATE_BYTES.true

pub returns : goal.returns
returns c = c.put_head_in.ensures ∙ put_long task_at (head_words c.args.c) c.args.s.now c.if-s-lt-STATE_BYTES.false
