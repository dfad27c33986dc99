use Prim.Native.Nat.{ℕ, suc, ◌-◌, ◌≤◌}
use mathlib.Core.Path.{◌≡◌, ap, sym, ◌∙◌}
use native.Mathlib.Omega.{arith}
use native.Mathlib.Numerals.{add-one}
use borrow.Author.Rules.{rules}
use Rattle.session.specs.declared.Session.{Session}
use Rattle.session.specs.Core.{full}
use Rattle.behind.specs.Behind.{behind_in}
use Rattle.closing_plan.specs.Plan.{frees_plan}
use Rattle.giving.proofs.Slots.{frees_none}
use Rattle.closing.proofs.freed.Goals as goal

-- what is left behind slot i
behind_it : (s : Session) (i u : ℕ) → frees_plan (82 - suc i) (suc i) s u ≡ frees_plan (81 - i) (suc i) s u
behind_it s i u = ap (λ (n : ℕ). frees_plan n (suc i) s u) (let z : 82 - suc i ≡ 81 - i = omega arith in z)

pub returns-then-i-lt-COUNT : goal.returns-then-i-lt-COUNT
returns-then-i-lt-COUNT c =
    let p = c.args in
    let s = full p.s (behind_in p.m.now) in
    c.free_from.ensures ∙ ap (λ (n : ℕ). frees_plan (82 - n) n s p.undo) (add-one p.i) ∙ behind_it s p.i p.undo

pub returns : goal.returns
returns c =
    let p = c.args in
    let b = behind_in p.m.now in
    let s = full p.s b in
    let h : 82 ≤ suc p.i = omega (arith, c.if-i-lt-COUNT.false) in
    c.release.ensures b ∙ sym (frees_none s (suc p.i) p.undo h) ∙ behind_it s p.i p.undo
