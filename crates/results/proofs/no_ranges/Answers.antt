use borrow.Author.Rules.{rules}
use Prim.Native.Nat.{ℕ, ◌+◌, ◌-◌, ◌*◌, ◌≤◌}
use mathlib.Core.Path.{◌≡◌, refl, ap, ◌∙◌}
use mathlib.Core.List.{List, []}
use native.Mathlib.Omega.{arith}
use lib.ListN.{length}
use Rattle.words.specs.Words.{put_words}
use Rattle.words.proofs.Laws.{length_words}
use Rattle.session.specs.Session.{no_slot}
use Rattle.session.specs.declared.Slot.{Slot}
use Rattle.results.specs.Books.{RANGES, ranges_at, range_words, rows_words}
use Rattle.results.proofs.Books.{none_put, rows_done}
use Rattle.results.proofs.no_ranges.Goals as goal

pub loop-i-init : goal.loop-i-init
loop-i-init c = refl

pub put_range-requires : goal.put_range-requires
put_range-requires c = let h = c.requires in let l = c.loop-i in omega arith

pub loop-i-preserved : goal.loop-i-preserved
loop-i-preserved c =
    let l = c.loop-i in
    let h = c.loop-i-test.true in
    let e = c.put_range.ensures ∙ ap (λ (x : Slot). put_words l.out (ranges_at + l.i * 4) (range_words x)) c.no_slot-none.ensures in
    ap (λ (x : List ℕ). put_words x (ranges_at + (l.i + 1) * 4) (rows_words range_words (RANGES - (l.i + 1)) 0 [])) e
    ∙ none_put range_words 4 (λ r. refl) l.out ranges_at RANGES l.i h ∙ l.invariant

pub returns : goal.returns
returns c = let l = c.loop-i in rows_done range_words l.out (ranges_at + l.i * 4) RANGES l.i c.loop-i-test.false ∙ l.invariant
