use borrow.Author.Rules.{rules}
use Prim.Native.Nat.{ℕ}
use mathlib.Core.Path.{refl, ap}
use mathlib.Core.List.{[], ◌∷◌}
use native.Mathlib.Omega.{arith}
use Rattle.words_session.proofs.Laws.{stored}
use Rattle.results.proofs.put_table.Goals as goal

pub returns : goal.returns
returns c =
    let p = c.args in
    let h = c.requires in
    stored p.out.now p.k 5 c.store.ensures
    (ap (λ (z : ℕ). z ∷ p.t.entry ∷ p.t.count ∷ p.t.bytes ∷ p.t.base ∷ []) c.long.ensures) refl (omega arith)
