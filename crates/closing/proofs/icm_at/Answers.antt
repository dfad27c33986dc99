use Prim.Native.Nat.{ℕ, ◌+◌, ◌≤◌}
use mathlib.Core.Bool.{true, false, Bool}
use mathlib.Core.Path.{◌≡◌, sym, ◌∙◌}
use native.Mathlib.Omega.{arith}
use borrow.Author.Rules.{rules}
use Rattle.session.specs.Session.{slot_at, no_slot}
use Rattle.session.specs.Core.{none_behind}
use Rattle.behind.specs.Behind.{behind_in, behind_from}
use mathlib.Core.List.{List}
use lib.ListN.{get_or-eq_default, length, replicate}
use lib.Dec.{ltb}
use Rattle.fields.specs.Outcome.{pick}
use Rattle.words.specs.Places.{SLOT, SLOTS, slots_at, state_bytes}
use Rattle.words_books.specs.Coding.{slot_of}
use Rattle.behind.proofs.Laws.{rows_none}
use Rattle.closing.proofs.icm_at.Goals as goal

-- past the last slot there is none
past : (xs : List ℕ) (i : ℕ) → 82 ≤ i → slot_at (behind_in xs).slots i ≡ no_slot
past xs i h = by_length (ltb (length xs) state_bytes)
  where
    by_length : (b : Bool) → slot_at (pick b none_behind (behind_from xs)).slots i ≡ no_slot
    by_length true = get_or-eq_default (replicate 82 no_slot) no_slot h
    by_length false = rows_none slot_of SLOT xs slots_at SLOTS i no_slot h

pub returns : goal.returns
returns c =
    let p = c.args in
    let h : 82 ≤ p.i = c.if-i-lt-COUNT.false in
    c.slot_at-2.ensures ∙ past p.m.now p.i h ∙ sym (past p.m.now (64 + p.i) (omega arith))
