-- Past the last slot behind a head there is none, at any number.
use Prim.Native.Nat.{ℕ, ◌≤◌, ◌<◌}
use mathlib.Core.Bool.{Bool, true, false}
use mathlib.Core.List.{List}
use mathlib.Core.Path.{◌≡◌, refl, ap, sym, ◌∙◌}
use native.Mathlib.Omega.{arith}
use lib.Dec.{ltb}
use lib.ListN.{length, replicate, get_or-eq_default}
use Rattle.fields.specs.Outcome.{pick}
use Rattle.words.specs.Places.{SLOT, SLOTS, slots_at, state_bytes}
use Rattle.words_books.specs.Coding.{slot_of}
use Rattle.session.specs.Session.{no_slot, slot_at}
use Rattle.session.specs.Core.{Behind, none_behind}
use Rattle.behind.specs.Behind.{behind_from, behind_in}
use Rattle.behind.proofs.Laws.{rows_none}

none_past : (xs : List ℕ) (i : ℕ) → 82 ≤ i → (b : Bool) → slot_at (pick b none_behind (behind_from xs)).slots i ≡ no_slot
none_past xs i h true = get_or-eq_default (replicate 82 no_slot) no_slot h
none_past xs i h false = rows_none slot_of SLOT xs slots_at SLOTS i no_slot h

pub nothing_past : (xs : List ℕ) (i j : ℕ) → 82 ≤ i → 82 ≤ j → slot_at (behind_in xs).slots i ≡ slot_at (behind_in xs).slots j
nothing_past xs i j h k = none_past xs i h (ltb (length xs) state_bytes) ∙ sym (none_past xs j k (ltb (length xs) state_bytes))
