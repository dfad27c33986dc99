use Rattle.std.proofs.Common.{ap, ◌∙◌}
use Rattle.init.specs.Init.{filled_by}
use Rattle.init.proofs.fill.Goals as goal

pub returns-clause-inbox_after : goal.returns-clause-inbox_after
returns-clause-inbox_after c = c.fill_with.ensures.inbox_after ∙ ap (filled_by c.args.inbox.now) c.fields.ensures
