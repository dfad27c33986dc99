use Rattle.std.proofs.Common.{ap, ◌∙◌}
use Rattle.fields.specs.Outcome.{number_of}
use Rattle.linkage.proofs.hca_push_undo.Goals as goal

pub returns : goal.returns
returns c = record { value = c.number.ensures ∙ ap number_of c.push_undo.ensures.0; list_after = c.push_undo.ensures.1 }
