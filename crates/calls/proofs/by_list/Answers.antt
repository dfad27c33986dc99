use borrow.Author.Tests.{le-leb, lt-leb}
use Rattle.calls.proofs.by_list.Goals as goal

pub returns-then-lends-ge-BUFFERS : goal.returns-then-lends-ge-BUFFERS
returns-then-lends-ge-BUFFERS c = simp (le-leb _ _ c.if-lends-ge-BUFFERS.true)

pub returns-in-Ok : goal.returns-in-Ok
returns-in-Ok c = simp (
  lt-leb _ _ c.if-lends-ge-BUFFERS.false,
  ← c.pages_of.ensures,
  c.in-Ok.is,
)

pub returns-in-Err : goal.returns-in-Err
returns-in-Err c = simp (
  lt-leb _ _ c.if-lends-ge-BUFFERS.false,
  ← c.pages_of.ensures,
  c.in-Err.is,
)
