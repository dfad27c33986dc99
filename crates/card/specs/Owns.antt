-- What a session has of the host, and the order of the deals.
use Rattle.std.specs.Prelude.{ℕ, ◌*◌, List, [], ◌∷◌, ◌⊎◌, ◌≡◌}
use Rattle.std.proofs.Math.Option.{Option, some, none}
use Rattle.dma.specs.declared.Buffer.{Buffer}
use Rattle.pci.specs.Script.{Spot}
use Rattle.card.specs.Card.{Hold, Deal, out, back, standing, Host, Meets}

abbrev pub Each : {A : Type 0} → (A → Type 0) → List A → Type 0
Each P [] = Unit {0}
Each P (x ∷ xs) = P x × Each P xs

abbrev pub Pairwise : {A : Type 0} → (A → A → Type 0) → List A → Type 0
Pairwise R [] = Unit {0}
Pairwise R (x ∷ xs) = Each (R x) xs × Pairwise R xs

abbrev pub spot_of : Buffer → Spot
spot_of b = record { address = b.dev; bytes = b.pages * 4096 }

-- the pages are mapped at the buffer's address, and nowhere else
abbrev pub hold_of : Buffer → Hold
hold_of b = record { pages = b.pages; mapped = spot_of b ∷ []; unmapped = [] }

-- a device page of one of the buffers
abbrev pub InBooks : List Buffer → ℕ → Type 0
InBooks [] d = ⊥
InBooks (b ∷ bs) d = Meets (spot_of b) d ⊎ InBooks bs d

-- different handles, and no device page in common
abbrev pub Apart : Buffer → Buffer → Type 0
Apart a b = (a.handle ≡ b.handle → ⊥) × ((d : ℕ) → Meets (spot_of a) d → Meets (spot_of b) d → ⊥)

-- The session has exactly these buffers of the host, by what is handed out and by the deals; `base`
-- is what was handed out before it began.
pub record Owns (base : ℕ → Option Hold) (bs : List Buffer) (k : Host) : Type 0 where
  pub own : Each (λ b. k.hand b.handle ≡ some (hold_of b)) bs
  pub dealt : Each (λ b. standing b.handle k.log ≡ some b.pages) bs
  pub new : Each (λ b. base b.handle ≡ none) bs
  pub apart : Pairwise Apart bs
  pub others : (h : ℕ) → Each (λ b. h ≡ b.handle → ⊥) bs → (k.hand h ≡ base h) × (standing h k.log ≡ none)

-- The deals are in order: nothing is handed over under a handle that stands, and what is given back
-- is what stands, all of its pages: once for each handing over.
abbrev pub InOrder : List Deal → Type 0
InOrder [] = Unit {0}
InOrder (out h n ∷ l) = (standing h l ≡ none) × InOrder l
InOrder (back h n ∷ l) = (standing h l ≡ some n) × InOrder l
