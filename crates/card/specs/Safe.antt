-- What it is for a script to be safe: whatever the card and the host do, each question is allowed, and P holds at the end.
use Rattle.std.specs.Prelude.{ℕ, List}
use Rattle.pci.specs.Script.{Script, ret, ask, Reply}
use Rattle.card.specs.Card.{World, WorldStep, Allowed}

abbrev pub Safe : {R : Type 0} → (inbox : List ℕ) → World → Script R → (World → R → Type 1) → Type 1
Safe i w (ret r) P = P w r
Safe i w (ask q k) P = Allowed i w q × ((r : Reply q) (v : World) → WorldStep w q r v → Safe i v (k r) P)
