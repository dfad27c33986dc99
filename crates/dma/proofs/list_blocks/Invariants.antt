use Rattle.std.proofs.Common.{◌≡◌, ◌+◌, ◌-◌, length}
use Rattle.dma.specs.PageList.{list_at, first_blocks, behind}
use Rattle.dma.proofs.list_blocks.Given as goal

-- what is still to be listed gives what was to be listed at first
abbrev pub invariant-loop-n : goal.invariant-loop-n
invariant-loop-n l = record {
  listed : list_at l.inbox l.n (first_blocks l.largest (l.capacity - l.n) l.rest) ≡ list_at l.initial.inbox 0 (first_blocks l.largest l.capacity l.initial.rest);
  counted : l.n + length (first_blocks l.largest (l.capacity - l.n) l.rest) ≡ length (first_blocks l.largest l.capacity l.initial.rest);
  left : behind l.largest (l.capacity - l.n) l.rest ≡ behind l.largest l.capacity l.initial.rest;
}
