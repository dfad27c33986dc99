use Rattle.std.proofs.Common.{ap, ◌∙◌}
use Rattle.undo.specs.List.{top_by}
use Rattle.undo.proofs.Laws.{top_is}
use Rattle.undo.proofs.top.Goals as goal

pub returns : goal.returns
returns c = c.top_by.ensures ∙ ap (top_by c.args.count) c.pop_undo-p.ensures ∙ top_is c.args.list.now c.args.count
