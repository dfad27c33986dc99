use mathlib.Core.Path.{ap}
use borrow.Author.Rules.{rules}
use Rattle.session.specs.declared.Slot.{Slot}
use Rattle.client.proofs.address.Goals as goal

pub returns : goal.returns
returns c = ap (λ (y : Slot). y.dev) c.slot_at-slot.ensures
