use Rattle.std.proofs.Common.{◌∙◌}
use borrow.Author.Tests.{le-ltb}
use Rattle.hcr.specs.Words.{reserved_ops}
use Rattle.hcr.proofs.Laws.{any_is_in}
use Rattle.hcr.proofs.reserved.Goals as goal

pub returns-else-op-gt-LAST : goal.returns-else-op-gt-LAST
returns-else-op-gt-LAST c = rw (le-ltb _ _ c.if-op-gt-LAST.false) (c.contains.ensures.value ∙ any_is_in c.args.op reserved_ops)
