use mathlib.Core.Path.{refl, ap, sym, ◌∙◌}
use native.Mathlib.Omega.{arith}
use borrow.Author.Rules.{rules}
use borrow.Author.Tests.{eq-eqb, ne_eqb}
use lib.Dec.{eqb}
use Rattle.fields.specs.Outcome.{pick}
use Rattle.reply.specs.Replies.{no_port}
use Rattle.session.specs.Core.{Behind}
use Rattle.behind.proofs.Laws.{short, long, pick_same}
use Rattle.behind.proofs.port_at.Goals as goal

pub returns-then-m-lt-STATE_BYTES : goal.returns-then-m-lt-STATE_BYTES
returns-then-m-lt-STATE_BYTES c =
    let p = c.args in
    c.none.ensures ∙ sym (ap (λ (b : Behind). pick (eqb p.i 1) b.port1 b.port2) (short p.m.now c.if-m-lt-STATE_BYTES.true) ∙ pick_same (eqb p.i 1) no_port)

pub port_in-requires : goal.port_in-requires
port_in-requires c = (omega arith, omega arith)

pub returns-then-i-eq1 : goal.returns-then-i-eq1
returns-then-i-eq1 c =
    let p = c.args in
    c.port_in.ensures ∙ sym (ap (λ (b : Behind). pick (eqb p.i 1) b.port1 b.port2) (long p.m.now c.if-m-lt-STATE_BYTES.false) ∙ rw (eq-eqb _ _ c.if-i-eq1.true) refl)

pub port_in-requires-2 : goal.port_in-requires-2
port_in-requires-2 c = (omega arith, omega arith)

pub returns : goal.returns
returns c =
    let p = c.args in
    c.port_in-2.ensures ∙ sym (ap (λ (b : Behind). pick (eqb p.i 1) b.port1 b.port2) (long p.m.now c.if-m-lt-STATE_BYTES.false) ∙ rw (ne_eqb _ _ c.if-i-eq1.false) refl)
