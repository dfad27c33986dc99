use Rattle.std.proofs.Common.{◌≡◌, ◌^◌}
use Rattle.dma.specs.Blocks.{virt_of, stands, highest}
use Rattle.dma.proofs.Cutter.next_log.Given as goal

-- the size is that of the exponent in hand, and none above it can stand
abbrev pub invariant-loop-log : goal.invariant-loop-log
invariant-loop-log l =
    let test = stands l.largest (virt_of l.self.virt) l.self.phys l.self.left in
    (l.size ≡ 2 ^ l.log) × (highest test l.log ≡ highest test 63)
