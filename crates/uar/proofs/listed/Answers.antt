use Rattle.std.specs.Prelude.{Option, Some, None, Ok}
use Rattle.std.proofs.Common.{◌≡◌, refl, ap, sym, ◌∙◌}
use Rattle.bars.specs.Resource as bars
use Rattle.bars.specs.Steps.{step_of}
use Rattle.bars.specs.declared.BarRange.{BarRange}
use Rattle.bars.specs.declared.Choice.{Choice}
use Rattle.uar.specs.Steps.{led_of, list_move}
use Rattle.uar.proofs.listed.Goals as goal

-- a list that is whole leads where its answer does
answered : (p : Choice) (a : Option BarRange) → led_of (step_of p a) ≡ list_move p (bars.listed (Ok a))
answered p (Some r) = refl
answered p None = refl

pub returns-in-Ok : goal.returns-in-Ok
returns-in-Ok c = let p = c.args in
    c.led.ensures ∙ ap led_of c.step.ensures
    ∙ answered p.c c.in-Ok.answer
    ∙ ap (λ r. list_move p.c (bars.listed r)) (sym c.in-Ok.is)
    ∙ ap (list_move p.c) c.resource.ensures
