use Rattle.std.proofs.Common.{◌≡◌, ◌+◌, ◌≤◌, take, drop}
use Rattle.bars.specs.Bars.{bars, count_of}
use Rattle.bars.proofs.count.Given as goal

-- the BARs counted, and those still to be met, are all
abbrev pub invariant-loop-dword : goal.invariant-loop-dword
invariant-loop-dword l = (l.n ≤ l.dword-index) × (l.n + bars l.half (drop l.dword-index (take l.reg l.fn.regs)) ≡ count_of l.fn.regs l.reg)
