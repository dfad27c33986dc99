use Rattle.std.proofs.Common.{◌≡◌, length}
use Rattle.bars.specs.Resource.{walk}
use Rattle.bars.proofs.resource.Given as goal

-- what is left of the list comes to what all of it does
abbrev pub invariant-loop-rest : goal.invariant-loop-rest
invariant-loop-rest l = walk 0 l.rest ≡ walk 0 l.bytes

abbrev pub decreases-loop-rest : goal.decreases-loop-rest
decreases-loop-rest l = length l.rest
