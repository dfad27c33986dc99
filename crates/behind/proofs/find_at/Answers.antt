use mathlib.Core.Path.{ap, sym, ◌∙◌}
use borrow.Author.Rules.{rules}
use Rattle.session.specs.Core.{Behind}
use Rattle.behind.proofs.Laws.{short, long}
use Rattle.behind.proofs.find_at.Goals as goal

pub returns-then-m-lt-STATE_BYTES : goal.returns-then-m-lt-STATE_BYTES
returns-then-m-lt-STATE_BYTES c = let p = c.args in c.start.ensures ∙ sym (ap (λ (b : Behind). b.find) (short p.m.now c.if-m-lt-STATE_BYTES.true))

pub returns : goal.returns
returns c = let p = c.args in c.find_in.ensures ∙ sym (ap (λ (b : Behind). b.find) (long p.m.now c.if-m-lt-STATE_BYTES.false))
