use borrow.Author.Tests.{le-leb, le-ltb, lt-leb, lt-ltb, eq-eqb, ne_eqb}
use Rattle.fw_begin.proofs.is_session.Goals as goal

pub returns-then-s-gt-RANGES : goal.returns-then-s-gt-RANGES
returns-then-s-gt-RANGES c = λ b. simp (lt-ltb _ _ c.if-s-gt-RANGES.true, lt-leb _ _ c.if-s-gt-RANGES.true)

pub returns-then-s-gt-BUFFERS : goal.returns-then-s-gt-BUFFERS
returns-then-s-gt-BUFFERS c = λ b. simp (le-leb _ _ c.if-s-gt-RANGES.false, le-ltb _ _ c.if-s-gt-RANGES.false, lt-ltb _ _ c.if-s-gt-BUFFERS.true, lt-leb _ _ c.if-s-gt-BUFFERS.true)

pub returns : goal.returns
returns c = λ b. simp (le-leb _ _ c.if-s-gt-RANGES.false, le-ltb _ _ c.if-s-gt-RANGES.false, le-leb _ _ c.if-s-gt-BUFFERS.false, le-ltb _ _ c.if-s-gt-BUFFERS.false)
