-- WHAT A SESSION HAS OF THE HOST while a buffer is made or freed too: runs of pages by handle, mapped or not. `Owns` of card/specs says the same of buffers that are mapped where the books say.
use Rattle.std.specs.Prelude.{ℕ, List, [], ◌∷◌, ◌≡◌}
use Rattle.std.proofs.Math.Option.{Option, some, none}
use Rattle.dma.specs.declared.Buffer.{Buffer}
use Rattle.card.specs.Card.{Hold, Host, standing}
use Rattle.card.specs.Owns.{Each, Pairwise}

-- a run that the books name
pub record Piece : Type 0 where
  pub handle : ℕ
  pub pages : ℕ

abbrev pub piece_of : Buffer → Piece
piece_of b = record { handle = b.handle; pages = b.pages }

abbrev pub pieces : List Buffer → List Piece
pieces [] = []
pieces (b ∷ bs) = piece_of b ∷ pieces bs

-- it is handed out, and by the deals it was handed over to this session and not given back, with all its pages
abbrev pub Handed : Host → Piece → Type 0
Handed k p = (x : Hold) × (k.hand p.handle ≡ some x) × (x.pages ≡ p.pages) × (standing p.handle k.log ≡ some p.pages)

-- none of these has this handle
abbrev pub Away : ℕ → List Piece → Type 0
Away h ps = Each (λ p. h ≡ p.handle → ⊥) ps

abbrev pub Differ : Piece → Piece → Type 0
Differ p q = p.handle ≡ q.handle → ⊥

-- Exactly these runs, each once: every other handle is as it was before the session began, `base`, and nothing stands under it by the deals.
pub record Has (base : ℕ → Option Hold) (ps : List Piece) (k : Host) : Type 0 where
  pub own : Each (Handed k) ps
  pub new : Each (λ p. base p.handle ≡ none) ps
  pub differ : Pairwise Differ ps
  pub others : (h : ℕ) → Away h ps → (k.hand h ≡ base h) × (standing h k.log ≡ none)
