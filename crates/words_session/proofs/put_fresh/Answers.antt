use mathlib.Core.Path.{◌≡◌, refl, ap, sym, ◌∙◌}
use Rattle.words.specs.Places.{task_at, cap_at}
use Rattle.words.specs.Words.{put_words}
use Rattle.session.specs.Session.{fresh}
use Rattle.session.specs.Core.{none_behind}
use Rattle.session.specs.declared.Core.{Core}
use Rattle.words_session.specs.Image.{core_of, head_words, behind_words, session_words}
use Rattle.behind.proofs.Laws.{put_short, put_long}
use Rattle.words_session.proofs.Laws.{both, head_length}
use borrow.Author.Rules.{rules}
use Rattle.words_session.proofs.put_fresh.Goals as goal

pub returns-then-s-lt-STATE_BYTES : goal.returns-then-s-lt-STATE_BYTES
returns-then-s-lt-STATE_BYTES c = put_short task_at (session_words fresh) c.args.s.now c.if-s-lt-STATE_BYTES.true

pub returns : goal.returns
returns c =
    let s = c.args.s.now in
    both s task_at cap_at (head_words (core_of fresh)) (behind_words none_behind) c.put_behind.ensures
    (c.put_head_in.ensures ∙ ap (λ (v : Core). put_words s task_at (head_words v)) (ap core_of c.fresh.ensures)) (head_length (core_of fresh))
    ∙ put_long task_at (session_words fresh) s c.if-s-lt-STATE_BYTES.false
