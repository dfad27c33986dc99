use borrow.Author.Tests.{eq-eqb, le-ltb, lt-ltb, ne_eqb}
use Rattle.in_place.proofs.is_ready.Goals as goal

pub returns-then-state-lt-STATE_BYTES : goal.returns-then-state-lt-STATE_BYTES
returns-then-state-lt-STATE_BYTES c = simp (lt-ltb _ _ c.if-state-lt-STATE_BYTES.true)

pub returns-then-inbox-ne4096 : goal.returns-then-inbox-ne4096
returns-then-inbox-ne4096 c = simp (
  le-ltb _ _ c.if-state-lt-STATE_BYTES.false,
  ne_eqb _ _ c.if-inbox-ne4096.true,
)

pub returns-then-outbox-ne4096 : goal.returns-then-outbox-ne4096
returns-then-outbox-ne4096 c = simp (
  le-ltb _ _ c.if-state-lt-STATE_BYTES.false,
  eq-eqb _ _ c.if-inbox-ne4096.false,
  ne_eqb _ _ c.if-outbox-ne4096.true,
)

pub returns-then-undo-gt256 : goal.returns-then-undo-gt256
returns-then-undo-gt256 c = simp (
  le-ltb _ _ c.if-state-lt-STATE_BYTES.false,
  eq-eqb _ _ c.if-inbox-ne4096.false,
  eq-eqb _ _ c.if-outbox-ne4096.false,
  lt-ltb _ _ c.if-undo-gt256.true,
)

pub returns : goal.returns
returns c = simp (
  le-ltb _ _ c.if-state-lt-STATE_BYTES.false,
  eq-eqb _ _ c.if-inbox-ne4096.false,
  eq-eqb _ _ c.if-outbox-ne4096.false,
  le-ltb _ _ c.if-undo-gt256.false,
)
