-- Words that are written one after another.
use Prim.Native.Nat.{ℕ, ◌+◌, ◌*◌, ◌≤◌}
use mathlib.Core.Path.{◌≡◌, refl, ap, ◌∙◌}
use mathlib.Core.List.{List, [], ◌∷◌}
use native.Mathlib.Omega.{arith}
use lib.ListN.{length}
use Rattle.fields.specs.Outcome.{pick}
use Rattle.words.specs.Words.{within, put_words}
use Rattle.words.proofs.Laws.{length_words}
use Rattle.words_session.proofs.Laws.{stored}
use Rattle.pci.specs.declared.Refusal.{Refusal}
use Rattle.results.specs.Results.{refused_words}

-- two stores, where there is room for both
pub twice : (s : List ℕ) (k n j m : ℕ) {v vs y w ws z : List ℕ} → y ≡ pick (within s k (length v)) (put_words s k v) s → v ≡ vs → length vs ≡ n
    → z ≡ pick (within y j (length w)) (put_words y j w) y → w ≡ ws → length ws ≡ m → (k + n) * 8 ≤ length s → (j + m) * 8 ≤ length s
    → z ≡ put_words (put_words s k vs) j ws
twice s k n j m {v} {vs} {y} {w} {ws} e d l f g r a b =
    let first : y ≡ put_words s k vs = stored s k n e d l a in
    let size : length y ≡ length s = ap length first ∙ length_words s k vs in
    stored y j m f g r (omega arith) ∙ ap (λ (x : List ℕ). put_words x j ws) first

pub alike : {a b d e a' b' d' e' : ℕ} → a ≡ a' → b ≡ b' → d ≡ d' → e ≡ e' → ◌≡◌ {A = List ℕ} (a ∷ b ∷ d ∷ e ∷ []) (a' ∷ b' ∷ d' ∷ e' ∷ [])
alike p q r s = rw (p, q, r, s) refl

-- a refusal's words, by how the closing went
pub ends : {k e n : ℕ} {r : List ℕ} (why : Refusal) → r ≡ refused_words k why e → e ≡ n → r ≡ refused_words k why n
ends {k} y p q = p ∙ ap (λ (z : ℕ). refused_words k y z) q
