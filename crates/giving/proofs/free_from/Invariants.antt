use Prim.Native.Nat.{◌-◌}
use mathlib.Core.Bool.{true, false}
use mathlib.Core.Path.{◌≡◌, refl, ap, sym, ◌∙◌}
use native.Mathlib.Omega.{arith}
use borrow.Author.Rules.{rules}
use Rattle.session.specs.Session.{slot_at, is_held}
use Rattle.session.specs.Core.{full}
use Rattle.behind.specs.Behind.{behind_in}
use Rattle.closing_plan.specs.Plan.{frees_plan}
use Rattle.giving.proofs.Slots.{frees_none, frees_here, frees_on}
use Rattle.giving.proofs.free_from.Given as goal

-- what is left to be freed is the whole
abbrev pub invariant-loop-k : goal.invariant-loop-k
invariant-loop-k l = frees_plan (82 - l.k) l.k (full l.s (behind_in l.m)) l.undo ≡ frees_plan (82 - l.i) l.i (full l.s (behind_in l.m)) l.undo
