use Rattle.std.proofs.Common.{◌≡◌, ℕ, ◌+◌, Bool, length, take, drop, ap, ◌∙◌, length-take-le, arith, rules}
use Rattle.bars.specs.Bars.{bars}
use Rattle.bars.proofs.Laws.{bars_start, bars_half, bars_end}
use Rattle.bars.proofs.count.Goals as goal
use Rattle.bars.proofs.count.Goals.{then-half, else-half}

pub loop-dword-preserved : goal.loop-dword-preserved
loop-dword-preserved c = let l = c.loop-dword in
    let xs = take c.args.reg c.args.regs in
    let i = l.dword-index in
    let six : length c.args.regs ≡ 6 = search rules in
    let n : length xs ≡ c.args.reg = length-take-le c.args.reg c.args.regs (omega arith) in
    let on : Bool → ℕ = λ (h : Bool). bars h (drop (i + 1) xs) in
    elim c.if-half.branch [
      | then-half w ↦ (
        omega (arith, w.n-is),
        omega (arith, w.n-is, ap on w.half-is, bars_half xs i (omega arith), ap (λ (h : Bool). bars h (drop i xs)) w.if-half.true, l.invariant.1),
      )
      | else-half w ↦ (
        omega (arith, w.n-is),
        omega (arith, w.n-is, ap on (w.half-is ∙ w.is_64bit-half.ensures), bars_start xs i (omega arith), ap (λ (h : Bool). bars h (drop i xs)) w.if-half.false, l.invariant.1),
      )
    ]

pub returns : goal.returns
returns c = let l = c.loop-dword in
    let xs = take c.args.reg c.args.regs in
    let six : length c.args.regs ≡ 6 = search rules in
    let n : length xs ≡ c.args.reg = length-take-le c.args.reg c.args.regs (omega arith) in
    omega (arith, l.invariant.1, bars_end l.half xs l.dword-index (omega arith))
