use mathlib.Core.Path.{◌∙◌}
use borrow.Author.Rules.{rules}
use Rattle.words.specs.Places.{cap_at}
use Rattle.words_info.specs.Coding.{cap_words}
use Rattle.behind.proofs.Laws.{put_short, put_long}
use Rattle.behind.proofs.put_cap.Goals as goal

pub returns-then-m-lt-STATE_BYTES : goal.returns-then-m-lt-STATE_BYTES
returns-then-m-lt-STATE_BYTES c = let p = c.args in put_short cap_at (cap_words p.v) p.m.now c.if-m-lt-STATE_BYTES.true

pub returns : goal.returns
returns c = let p = c.args in c.put_cap_in.ensures ∙ put_long cap_at (cap_words p.v) p.m.now c.if-m-lt-STATE_BYTES.false
