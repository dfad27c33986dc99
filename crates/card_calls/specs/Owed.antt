-- What a closing owes the card: what is held is no more than what its commands end.
use Rattle.std.specs.Prelude.{ℕ, ◌+◌, ◌/◌, ◌%◌, ◌^◌, ◌≤◌, ◌<◌, Bool, true, false, List, ◌≡◌}
use Rattle.std.proofs.Math.Option.{none}
use Rattle.session.specs.Session.{icm_at, is_held, fa_of, aux_of}
use Rattle.session.specs.declared.Slot.{Slot}
use Rattle.session.specs.declared.Wire.{Wire}
use Rattle.session.specs.declared.Books.{Books}
use Rattle.card.specs.Card.{Held, Card}
use Rattle.card.specs.Known.{Within}

-- a range is dropped by its pages, modulo 2^32
abbrev pub Dropped : Slot → ℕ → Type 0
Dropped e v = (e.virt / 4096 ≤ v) × (v < e.virt / 4096 + e.pages % 2 ^ 32)

pub record Owed (icms : List Slot) (started : Bool) (n : ℕ) (aux fa : Bool) (h : Held) : Type 1 where
  pub icm : (v d : ℕ) → h.icm v d → (k : ℕ) × (k < n) × Dropped (icm_at icms k) v
  pub firmware : (d : ℕ) → h.firmware d → fa ≡ true
  pub auxiliary : (d : ℕ) → h.auxiliary d → aux ≡ true
  pub lent : (d : ℕ) → h.lent d → started ≡ true

abbrev pub OwedBy : Books → Held → Type 1
OwedBy b = Owed b.lists.slots b.started b.lists.ranges (is_held (aux_of b)) (is_held (fa_of b))

-- what is known where nothing need be reset: what is held is among H; where no command was sent
-- whose end was not seen, none is pending
abbrev pub Stoppable : (Held → Type 1) → Wire → Card → Type 1
Stoppable H y k = Within H (λ p. Unit {0}) k × (y.running ≡ false → k.pending ≡ none)
