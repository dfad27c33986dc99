use Prim.Native.Nat.{ℕ, ◌+◌, ◌-◌, ◌*◌, ◌≤◌}
use mathlib.Core.List.{List}
use mathlib.Core.Path.{◌≡◌, refl, ap, sym, ◌∙◌}
use native.Mathlib.Omega.{arith}
use borrow.Author.Rules.{rules}
use lib.ListN.{length, replicate}
use Rattle.words.specs.Places.{SLOT, SLOTS, slots_at}
use Rattle.words.specs.Words.{put_words, flat}
use Rattle.words.proofs.Laws.{length_words}
use Rattle.words_books.specs.Coding.{slot_words}
use Rattle.session.specs.Session.{no_slot}
use Rattle.words_session.proofs.Laws.{none_turn, none_end}
use Rattle.words_session.proofs.put_none.Given as goal

-- the slots still to be written give what was to be written at first
abbrev pub invariant-loop-i : goal.invariant-loop-i
invariant-loop-i l =
    put_words l.s (slots_at + l.i * SLOT) (flat slot_words (replicate (SLOTS - l.i) no_slot)) ≡ put_words l.initial.s slots_at (flat slot_words (replicate SLOTS no_slot))
