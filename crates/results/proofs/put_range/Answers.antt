use borrow.Author.Rules.{rules}
use Prim.Native.Nat.{ℕ}
use mathlib.Core.Path.{refl, ap}
use mathlib.Core.List.{[], ◌∷◌}
use native.Mathlib.Omega.{arith}
use Rattle.words_session.proofs.Laws.{stored}
use Rattle.results.proofs.put_range.Goals as goal

pub returns : goal.returns
returns c = let p = c.args in
    let h = c.requires in
    stored p.out.now p.k 4 c.store.ensures (ap (λ (z : ℕ). p.x.virt ∷ p.x.handle ∷ z ∷ p.x.pages ∷ []) c.spot.ensures) refl (omega arith)
