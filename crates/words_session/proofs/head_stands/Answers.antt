use mathlib.Core.Path.{◌≡◌, refl, ap, sym, ◌∙◌}
use borrow.Author.Tests.{lt-ltb, le-ltb}
use borrow.Author.Rules.{rules}
use Rattle.words_session.proofs.head_stands.Goals as goal

pub returns-then-s-lt-STATE_BYTES : goal.returns-then-s-lt-STATE_BYTES
returns-then-s-lt-STATE_BYTES c = rw (lt-ltb _ _ c.if-s-lt-STATE_BYTES.true) refl

pub returns : goal.returns
returns c = rw (le-ltb _ _ c.if-s-lt-STATE_BYTES.false) c.head_same.ensures
