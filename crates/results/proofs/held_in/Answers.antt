use borrow.Author.Rules.{rules}
use Prim.Native.Nat.{ℕ, ◌+◌, ◌-◌, ◌≤◌}
use mathlib.Core.Path.{◌≡◌, ap, sym, subst, ◌∙◌}
use native.Mathlib.Omega.{arith}
use lib.ListN.{length}
use Rattle.session.specs.Session.{slot_at}
use Rattle.behind.specs.Behind.{behind_in}
use Rattle.results.specs.Books.{held_from, count_of}
use Rattle.results.proofs.Books.{count_start, count_turn, count_few, count_end}
use Rattle.results.proofs.held_in.Goals as goal

pub loop-i-init : goal.loop-i-init
loop-i-init c = let p = c.args in (omega arith, count_start p.from p.count (behind_in p.m.now).slots)

pub overflow_add-from : goal.overflow_add-from
overflow_add-from c = let h = c.requires in omega arith

pub counting-n-requires : goal.counting-n-requires
counting-n-requires c = let h = c.requires in omega arith

pub loop-i-preserved : goal.loop-i-preserved
loop-i-preserved c =
    let p = c.args in
    let l = c.loop-i in
    let h = c.loop-i-test.true in
    let slots = (behind_in p.m.now).slots in
    let e = c.counting-n.ensures ∙ ap (count_of l.n) c.slot_at.ensures in (
      subst (λ (o : ℕ). o ≤ l.i + 1) (sym e) (count_few l.n l.i (slot_at slots (p.from + l.i)) l.invariant.0),
      ap (λ (o : ℕ). o + length (held_from (p.count - (l.i + 1)) (p.from + (l.i + 1)) slots)) e ∙ count_turn l.n p.from p.count l.i slots h ∙ l.invariant.1,
    )

pub returns : goal.returns
returns c = let p = c.args in let l = c.loop-i in count_end l.n (p.from + l.i) p.count l.i (behind_in p.m.now).slots c.loop-i-test.false l.invariant.1
