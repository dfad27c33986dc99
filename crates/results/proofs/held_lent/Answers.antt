use borrow.Author.Rules.{rules}
use Prim.Native.Nat.{ℕ, ◌+◌, ◌-◌, ◌*◌, ◌≤◌}
use mathlib.Core.Path.{◌≡◌, refl, ap, sym, subst, ◌∙◌}
use native.Mathlib.Omega.{arith}
use lib.ListN.{length}
use Rattle.words.specs.Words.{put_words}
use Rattle.session.specs.Session.{slot_at, is_held}
use Rattle.behind.specs.Behind.{behind_in}
use Rattle.results.specs.Books.{LENT, lent_at, lent_words, lent_of, held_from, rows_words}
use Rattle.results.proofs.Books.{count_few, held_put, put_length, held_done}
use Rattle.results.proofs.held_lent.Goals as goal

pub loop-i-init : goal.loop-i-init
loop-i-init c = (omega arith, refl)

pub next_lent-requires : goal.next_lent-requires
next_lent-requires c = let h = c.requires in let l = c.loop-i in (omega arith, omega arith)

pub counting-n-requires : goal.counting-n-requires
counting-n-requires c = let l = c.loop-i in let h = c.loop-i-test.true in omega arith

pub loop-i-preserved : goal.loop-i-preserved
loop-i-preserved c =
    let p = c.args in
    let l = c.loop-i in
    let h = c.loop-i-test.true in
    let x = c.slot_at-x.result in
    let here : l.i ≡ 0 + l.i = omega arith in
    let e = c.next_lent.ensures in (
      subst (λ (o : ℕ). o ≤ l.i + 1) (sym c.counting-n.ensures) (count_few l.n l.i x l.invariant.0),
      held_put lent_words 3 (λ r. refl) l.out lent_at LENT l.n 0 l.i (behind_in p.m.now).slots l.invariant.0 h (c.slot_at-x.ensures ∙ ap (slot_at (behind_in p.m.now).slots) here) e c.counting-n.ensures ∙ l.invariant.1,
    )

pub returns : goal.returns
returns c =
    let p = c.args in
    let l = c.loop-i in
    record { upper_bound = omega arith; result_after = held_done lent_words l.out (lent_at + l.n * 3) (LENT - l.n) (0 + l.i) LENT l.i (behind_in p.m.now).slots c.loop-i-test.false l.invariant.1 }
