-- What is held of an answer: its layout, or none.
use mathlib.Core.Path.{◌≡◌, refl, ap, ◌∙◌}
use Rattle.std.specs.Prelude.{Result, Ok, Err}
use Rattle.std.specs.Result.{result_unwrap_or}
use Rattle.fields.specs.Outcome.{Outcome, value_or}
use Rattle.layout.specs.declared.Layout.{Layout}
use Rattle.layout.specs.declared.Misfit.{Misfit}
use Rattle.layout.specs.declared.Misfit.TheVariants.{Entry, Total}
use Rattle.layout.specs.Layout.{no_layout, laid}

or_none : (y : Result Layout Misfit) → result_unwrap_or y no_layout ≡ value_or no_layout (laid y)
or_none (Ok l) = refl
or_none (Err (Entry i)) = refl
or_none (Err (Total t)) = refl

pub held : (y : Result Layout Misfit) {l none : Layout} {o : Outcome Layout} → l ≡ result_unwrap_or y none → none ≡ no_layout → laid y ≡ o → l ≡ value_or no_layout o
held y e n h = e ∙ ap (result_unwrap_or y) n ∙ or_none y ∙ ap (value_or no_layout) h
