use Prim.Native.Nat.{ℕ, ◌+◌, ◌-◌, ◌*◌, ◌≤◌}
use mathlib.Core.List.{List}
use mathlib.Core.Path.{◌≡◌, refl, ap, sym, ◌∙◌}
use native.Mathlib.Omega.{arith}
use borrow.Author.Rules.{rules}
use lib.ListN.{length, replicate}
use Rattle.words.specs.Places.{SLOT, SLOTS, slots_at}
use Rattle.words.specs.Words.{put_words, flat}
use Rattle.words.proofs.Laws.{length_words}
use Rattle.words_books.specs.Coding.{slot_words}
use Rattle.session.specs.Session.{no_slot}
use Rattle.words_session.proofs.Laws.{none_turn, none_end}
use Rattle.words_session.proofs.put_none.Goals as goal

pub loop-i-init : goal.loop-i-init
loop-i-init c = refl

pub clear_slot-requires : goal.clear_slot-requires
clear_slot-requires c = let h = c.requires in (omega arith, omega arith)

pub loop-i-preserved : goal.loop-i-preserved
loop-i-preserved c =
    let l = c.loop-i in
    ap (λ (x : List ℕ). put_words x (slots_at + (l.i + 1) * SLOT) (flat slot_words (replicate (SLOTS - (l.i + 1)) no_slot))) c.clear_slot.ensures
    ∙ none_turn l.s slots_at SLOTS l.i slot_words no_slot SLOT refl c.loop-i-test.true ∙ l.invariant

pub returns : goal.returns
returns c =
    let l = c.loop-i in
    sym (none_end l.s (slots_at + l.i * SLOT) SLOTS l.i slot_words no_slot c.loop-i-test.false) ∙ l.invariant
