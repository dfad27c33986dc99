use Rattle.std.specs.Prelude.{ℕ, Option}
use mathlib.Core.Path.{refl, ap, ap₂, ◌∙◌}
use Rattle.fields.specs.Outcome.{value_or}
use Rattle.reply.specs.Capability.{capability_of, no_caps}
use Rattle.answers.specs.Replies.{cap_words, code_of}
use Rattle.answers.proofs.Laws.{gave}
use Rattle.leaves.proofs.replies.leaf_dev_cap.Goals as goal

pub returns-clause-out_after : goal.returns-clause-out_after
returns-clause-out_after c = let p = c.args in
    let words = c.cap_words-w.ensures
    ∙ ap₂ cap_words (ap code_of c.dev_cap.ensures.said) c.dev_cap.ensures.held
    ∙ ap (λ (b : Option ℕ). cap_words (code_of (capability_of p.reply.now b)) (value_or no_caps (capability_of p.reply.now b))) c.size_from.ensures in
    (gave 34 p.out.now words refl c.give.ensures.value c.give.ensures.out_after).1
