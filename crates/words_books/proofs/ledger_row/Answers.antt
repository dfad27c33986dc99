use borrow.Author.Rules.{rules}
use Prim.Native.Nat.{ℕ}
use mathlib.Core.List.{List, ◌∷◌}
use mathlib.Core.Path.{◌≡◌, ap, ◌∙◌}
use Rattle.words_books.proofs.ledger_row.Goals as goal

-- words of which the first three are known by other names
heads : {a b d a' b' d' : ℕ} (ws : List ℕ) → a ≡ a' → b ≡ b' → d ≡ d' → a ∷ b ∷ d ∷ ws ≡ a' ∷ b' ∷ d' ∷ ws
heads {a} {b} {d} {a'} {b'} ws e f g = ap (λ (x : ℕ). x ∷ b ∷ d ∷ ws) e ∙ ap (λ (x : ℕ). a' ∷ x ∷ d ∷ ws) f ∙ ap (λ (x : ℕ). a' ∷ b' ∷ x ∷ ws) g

pub returns : goal.returns
returns c = heads _ c.long.ensures c.long-2.ensures c.bit.ensures
