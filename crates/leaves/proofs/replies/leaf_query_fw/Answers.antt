use mathlib.Core.Path.{refl, ap, ap₂, ◌∙◌}
use Rattle.answers.specs.Replies.{fw_words, code_of}
use Rattle.answers.proofs.Laws.{gave}
use Rattle.leaves.proofs.replies.leaf_query_fw.Goals as goal

pub returns-clause-out_after : goal.returns-clause-out_after
returns-clause-out_after c =
    let words = c.fw_words-w.ensures ∙ ap₂ fw_words (ap code_of c.query_fw.ensures.said) c.query_fw.ensures.held in
    (gave 12 c.args.out.now words refl c.give.ensures.value c.give.ensures.out_after).1
