-- A page list that was written, or not: what the session is then.
use mathlib.Core.Bool.{Bool, true, false}
use mathlib.Core.List.{[]}
use mathlib.Core.Path.{◌≡◌, refl, ap, sym, subst}
use Rattle.fields.specs.Outcome.{Outcome, value, refused, pick}
use Rattle.dma.specs.declared.Listed.{Listed}
use Rattle.session.specs.declared.Session.{Session}
use Rattle.opening_plan.specs.Plan.{lists}

abbrev listed_or : Listed → Outcome Listed → Listed
listed_or z (value y) = y
listed_or z (refused i vs) = z

abbrev IsValue : Outcome Listed → Type 0
IsValue (value y) = Unit {0}
IsValue (refused i vs) = ⊥

pub listed_good : (b : Bool) (v y : Listed) (s : Session) → value y ≡ pick b (value v) (refused 21 []) → lists s y ≡ pick b (lists s v) s
listed_good true v y s e = ap (lists s) (ap (listed_or y) e)
listed_good false v y s e = absurd (subst IsValue e tt)

pub listed_short : (b : Bool) (v : Listed) (s : Session) → refused 21 [] ≡ pick b (value v) (refused 21 []) → s ≡ pick b (lists s v) s
listed_short true v s e = absurd (subst IsValue (sym e) tt)
listed_short false v s e = refl
