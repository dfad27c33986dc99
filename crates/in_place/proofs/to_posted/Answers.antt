use mathlib.Core.Path.{refl}
use Rattle.in_place.proofs.to_posted.Goals as goal

pub returns : goal.returns
returns c = record { value = refl; state_after = simp (c.store.ensures, c.to.ensures.state_after); out_after = c.to.ensures.out_after }
