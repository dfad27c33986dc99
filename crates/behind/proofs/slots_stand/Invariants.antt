use Prim.Native.Nat.{◌+◌, ◌-◌, ◌*◌, ◌≤◌}
use mathlib.Core.Path.{◌≡◌, refl, ap, sym, ◌∙◌}
use native.Mathlib.Omega.{arith}
use borrow.Author.Tests.{lt-ltb, le-ltb, not-true, not-false}
use Rattle.words.specs.Places.{SLOT, SLOTS, slots_at}
use Rattle.behind.specs.Behind.{flags_stand}
use Rattle.behind.proofs.Laws.{flags_turn, flags_end}
use mathlib.Core.Bool.{not}
use Rattle.behind.proofs.slots_stand.Given as goal

-- whether all stand depends on those that are left
abbrev pub invariant-loop-i : goal.invariant-loop-i
invariant-loop-i l = flags_stand l.m (slots_at + l.i * SLOT) (SLOTS - l.i) ≡ flags_stand l.m slots_at SLOTS
