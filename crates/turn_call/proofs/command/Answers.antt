use mathlib.Core.Path.{refl}
use Rattle.turn_call.proofs.command.Goals as goal

pub returns : goal.returns
returns c = refl
