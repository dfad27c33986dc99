use mathlib.Core.Path.{◌≡◌, refl, ap, sym, ◌∙◌}
use Rattle.words_session.specs.Image.{core_of}
use Rattle.words_session.proofs.Laws.{head_short, head_long}
use borrow.Author.Rules.{rules}
use Rattle.words_session.proofs.head_at.Goals as goal

pub returns-then-s-lt-STATE_BYTES : goal.returns-then-s-lt-STATE_BYTES
returns-then-s-lt-STATE_BYTES c = ap core_of c.fresh.ensures ∙ head_short c.args.s.now c.if-s-lt-STATE_BYTES.true

pub returns : goal.returns
returns c = c.head_in.ensures ∙ head_long c.args.s.now c.if-s-lt-STATE_BYTES.false
