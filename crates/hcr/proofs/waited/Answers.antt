use mathlib.Core.Path.{sym}
use native.Mathlib.Omega.{arith}
use Rattle.hcr.proofs.Laws.{waited_short, waited_is}
use Rattle.hcr.proofs.waited.Goals as goal

pub returns-then-n-lt-SHORT_STALLS : goal.returns-then-n-lt-SHORT_STALLS
returns-then-n-lt-SHORT_STALLS c = sym (waited_short c.args.n (omega arith))

pub returns : goal.returns
returns c = sym (waited_is c.args.n (omega arith))
