-- WHAT FOLLOWS when a task has ended: the plan finds noted behind the head what the reply left.
use Rattle.std.specs.Prelude.{ℕ, List, ◌≡◌}
use Rattle.work.specs.declared.End.{End}
use Rattle.session.specs.Core.{Behind, full, plan_in, noted}
use Rattle.session.specs.declared.Core.{Core}
use Rattle.session.specs.declared.Plan.{Plan}
use Rattle.session.specs.declared.Top.{Top}
use Rattle.opening.specs.Notes.{note_at}
use Rattle.fw_plan.specs.Calls.{plan_of}

abbrev pub noted_by : Core → End → (outbox : List ℕ) → Behind → Behind
noted_by s y o b = noted (note_at s.uar.size s.stage y o) s.uar.size o b

abbrev pub Leads : Plan → Core → End → (outbox : List ℕ) → Top → Behind → Type 0
Leads r s y o top a = (b : Behind) → a ≡ noted_by s y o b → plan_in r a ≡ plan_of (full s b) y o top
