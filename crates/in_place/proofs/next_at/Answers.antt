use Prim.Native.Nat.{ℕ}
use mathlib.Core.List.{List}
use mathlib.Core.Path.{ap, ◌∙◌}
use Rattle.words_calls.specs.Calls.{heard_of}
use Rattle.in_place.specs.InPlace.{next_heard}
use Rattle.in_place.proofs.next_at.Goals as goal

pub returns : goal.returns
returns c = let p = c.args in λ x. c.next_of.ensures x ∙ ap (λ (w : List ℕ). next_heard w (heard_of p.kind p.a x)) c.load.ensures
