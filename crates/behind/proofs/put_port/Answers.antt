use mathlib.Core.Path.{◌∙◌}
use native.Mathlib.Omega.{arith}
use borrow.Author.Rules.{rules}
use borrow.Author.Tests.{eq-eqb, ne_eqb}
use lib.Dec.{eqb}
use Rattle.fields.specs.Outcome.{pick}
use Rattle.words.specs.Places.{port1_at, port2_at}
use Rattle.words_info.specs.Coding.{port_words}
use Rattle.behind.proofs.Laws.{put_short, put_long}
use Rattle.behind.proofs.put_port.Goals as goal

pub returns-then-m-lt-STATE_BYTES : goal.returns-then-m-lt-STATE_BYTES
returns-then-m-lt-STATE_BYTES c = let p = c.args in put_short (pick (eqb p.i 1) port1_at port2_at) (port_words p.v) p.m.now c.if-m-lt-STATE_BYTES.true

pub put_port_in-requires : goal.put_port_in-requires
put_port_in-requires c = (omega arith, omega arith)

pub returns-then-i-eq1 : goal.returns-then-i-eq1
returns-then-i-eq1 c =
    rw (eq-eqb _ _ c.if-i-eq1.true) (c.put_port_in.ensures ∙ put_long _ _ _ c.if-m-lt-STATE_BYTES.false)

pub put_port_in-requires-2 : goal.put_port_in-requires-2
put_port_in-requires-2 c = (omega arith, omega arith)

pub returns : goal.returns
returns c =
    rw (ne_eqb _ _ c.if-i-eq1.false) (c.put_port_in-2.ensures ∙ put_long _ _ _ c.if-m-lt-STATE_BYTES.false)
