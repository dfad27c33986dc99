use mathlib.Core.Path.{refl, ap, ap₂, ◌∙◌}
use Rattle.fields.specs.Outcome.{number_of}
use Rattle.answers.specs.Replies.{port_words}
use Rattle.answers.proofs.Laws.{gave}
use Rattle.leaves.proofs.replies.leaf_query_port.Goals as goal

pub returns-clause-out_after : goal.returns-clause-out_after
returns-clause-out_after c =
    let words = c.port_words-w.ensures ∙ ap₂ port_words (ap number_of c.query_port.ensures.said) c.query_port.ensures.held in
    (gave 18 c.args.out.now words refl c.give.ensures.value c.give.ensures.out_after).1
