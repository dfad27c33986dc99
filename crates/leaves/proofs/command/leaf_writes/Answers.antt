use mathlib.Core.Path.{refl, ap, ◌∙◌}
use Rattle.answers.specs.Command.{writes_words}
use Rattle.answers.proofs.Laws.{gave}
use Rattle.leaves.proofs.command.leaf_writes.Goals as goal

pub returns-clause-out_after : goal.returns-clause-out_after
returns-clause-out_after c =
    (gave 14 c.args.out.now (c.writes_words-w.ensures ∙ ap writes_words c.writes.ensures) refl c.give.ensures.value c.give.ensures.out_after).1
