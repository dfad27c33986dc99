use borrow.Author.Tests.{le-leb, le-ltb, lt-leb, lt-ltb, eq-eqb, ne_eqb}
use Rattle.fw_begin.proofs.is_lent.Goals as goal

pub returns-then-inbox-ne-MAILBOX : goal.returns-then-inbox-ne-MAILBOX
returns-then-inbox-ne-MAILBOX c = simp (ne_eqb _ _ c.if-inbox-ne-MAILBOX.true)

pub returns-then-outbox-ne-MAILBOX : goal.returns-then-outbox-ne-MAILBOX
returns-then-outbox-ne-MAILBOX c = simp (eq-eqb _ _ c.if-inbox-ne-MAILBOX.false, ne_eqb _ _ c.if-outbox-ne-MAILBOX.true)

pub returns-then-top-gt-UNDO : goal.returns-then-top-gt-UNDO
returns-then-top-gt-UNDO c = simp (eq-eqb _ _ c.if-inbox-ne-MAILBOX.false, eq-eqb _ _ c.if-outbox-ne-MAILBOX.false, lt-ltb _ _ c.if-top-gt-UNDO.true, lt-leb _ _ c.if-top-gt-UNDO.true)

pub returns : goal.returns
returns c = simp (eq-eqb _ _ c.if-inbox-ne-MAILBOX.false, eq-eqb _ _ c.if-outbox-ne-MAILBOX.false, le-leb _ _ c.if-top-gt-UNDO.false, le-ltb _ _ c.if-top-gt-UNDO.false)
