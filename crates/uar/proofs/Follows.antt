-- Every state of the search does what is left of the script.
use Prim.Native.Nat.{ℕ, zero, suc, ◌-◌}
use mathlib.Core.Bool.{Bool, true, false}
use mathlib.Core.List.{List, ◌∷◌}
use mathlib.Core.Path.{◌≡◌, refl, ap}
use native.Mathlib.Omega.{arith}
use lib.Dec.{eqb}
use Rattle.std.specs.Prelude.{Option, None, Ok}
use Rattle.fields.specs.Outcome.{value, refused, pick}
use Rattle.bars.specs.Resource.{Answer, resource_at}
use Rattle.bars.specs.Choose.{has_base, those, rising, is_other, others_from}
use Rattle.bars.specs.Steps.{pick_of, settled_of, onward_of, judged_of, hears_first, hears_second, step_of}
use Rattle.bars.specs.declared.BarRange.{BarRange}
use Rattle.bars.specs.declared.How.TheVariants as h
use Rattle.bars.specs.declared.Candidate.{Candidate}
use Rattle.bars.specs.declared.Asking.{Asking}
use Rattle.bars.specs.declared.Asking.TheVariants as k
use Rattle.bars.specs.declared.Choice.{Choice}
use Rattle.bars.specs.declared.Next.{Next}
use Rattle.pci.specs.Script.{Script, ret}
use Rattle.pci.specs.Machine as m
use Rattle.pci.proofs.Cases.{dword_case, list_case}
use Rattle.uar.specs.Uar.{Found, range_from, on_list, candidate, other, scan, judging, second, reading, finding}
use Rattle.uar.specs.Steps.{started, read_move, led_of, list_move, choice_move, moved_of, next_of, choice_script, bar_asks, bar_step, bar_script, BarFollows}
use Rattle.uar.specs.declared.BarPhase.{BarPhase}
use Rattle.uar.specs.declared.BarPhase.TheVariants as p
use Rattle.uar.specs.declared.FindBar.{FindBar}
use Rattle.uar.specs.declared.BarMove.{BarMove}

-- where a move leads, and what is left then
abbrev to : FindBar → BarMove → m.Next FindBar Found
to s x = next_of (moved_of s x)

abbrev left : FindBar → Next → Script Found
left s n = m.rest bar_asks bar_step bar_script (to s (led_of n))

pick_left : (s : FindBar) (t : Bool) (x y : Next) (p q : Script Found) → left s x ≡ p → left s y ≡ q → left s (pick t x y) ≡ pick t p q
pick_left s true x y p q g h = g
pick_left s false x y p q g h = h

module _ (s : FindBar) (c : Choice) where
  abbrev scanned : List ℕ → Script Found
  scanned is = scan c.base (settled_of c.first c.second) is

  abbrev test : ℕ → Bool
  test = is_other c.first.index c.second.index

  -- an index is asked about, and those above it are left; or it is passed over
  index_left : (i n : ℕ) (t : Bool) → 6 - suc i ≡ n → left s (onward_of c (those test (rising (suc i) n))) ≡ scanned (those test (rising (suc i) n))
      → left s (onward_of c (pick t (i ∷ those test (rising (suc i) n)) (those test (rising (suc i) n)))) ≡ scanned (pick t (i ∷ those test (rising (suc i) n)) (those test (rising (suc i) n)))
  unfolding scan
  index_left i n true e h = ap (λ (j : ℕ). other c.base i (scanned (those test (rising (suc i) j)))) e
  index_left i n false e h = h

  others_left : (i n : ℕ) → 6 - i ≡ n → left s (onward_of c (those test (rising i n))) ≡ scanned (those test (rising i n))
  unfolding scan those rising
  others_left i zero e = refl
  others_left i (suc n) e =
      index_left i n (test i) (let g : 6 - suc i ≡ n = omega arith in g) (others_left (suc i) n (let g : 6 - suc i ≡ n = omega arith in g))

  -- the other indices from i on
  onward_left : (i : ℕ) → left s (onward_of c (others_from c.first.index c.second.index i)) ≡ scanned (others_from c.first.index c.second.index i)
  onward_left i = others_left i (6 - i) refl

  judged_left : left s (judged_of c) ≡ judging c.base c.first c.second
  judged_left =
      pick_left s (eqb c.base 0) _ _ _ _ refl
      (pick_left s (has_base c.base c.first.answer) _ _ _ _ refl
      (pick_left s (has_base c.base c.second.answer) _ _ _ _ refl (onward_left 0)))

-- a list leads where its answer does, or ends the search
list_left : (s : FindBar) (c : Choice) (k : Option BarRange → Script Found) → ((r : Option BarRange) → left s (step_of c r) ≡ k r)
    → (a : Answer) → m.rest bar_asks bar_step bar_script (to s (list_move c a)) ≡ on_list k a
list_left s c k h (value r) = h (range_from r)
list_left s c k h (refused n vs) = refl

abbrev choice : ℕ → Candidate → Candidate → Asking → Choice
choice base x y a = record { base = base; first = x; second = y; asking = a }

abbrev state : BarPhase → List ℕ → FindBar
state f ds = record { phase = f; dwords = ds }

module _ (ds : List ℕ) (base : ℕ) (x y : Candidate) where
  abbrev at : Asking → FindBar
  at a = state (p.Choosing (choice base x y a)) ds

  -- what is said about the first candidate, the second, or another index
  first_left : (r : Option BarRange) → left (at k.First) (step_of (choice base x y k.First) r)
      ≡ pick (eqb x.index y.index) (judging base (record { index = x.index; answer = r }) y) (second base (record { index = x.index; answer = r }) y.index)
  first_left r = pick_left (at k.First) (eqb x.index y.index) _ _ _ _ (judged_left (at k.First) (hears_first (choice base x y k.First) r)) refl

  second_left : (r : Option BarRange) → left (at k.Second) (step_of (choice base x y k.Second) r) ≡ judging base x (record { index = y.index; answer = r })
  second_left r = judged_left (at k.Second) (hears_second (choice base x y k.Second) r)

  other_left : (i : ℕ) (r : Option BarRange) → left (at (k.Other i)) (step_of (choice base x y (k.Other i)) r)
      ≡ pick (has_base base r) (ret (Ok (pick_of (candidate i r) h.Scan))) (scan base (settled_of x y) (others_from x.index y.index (suc i)))
  other_left i r = pick_left (at (k.Other i)) (has_base base r) _ _ _ _ refl (onward_left (at (k.Other i)) (choice base x y (k.Other i)) (suc i))

  at_choice : (a : Asking) → m.Follows bar_asks bar_step bar_script (at a) (choice_script (choice base x y a) a)
  at_choice k.First = (
    refl,
    list_case bar_asks bar_step bar_script _ (λ bytes r. to (at k.First) (choice_move (choice base x y k.First) bytes r)) _
        (λ bytes. list_left (at k.First) (choice base x y k.First) _ first_left (resource_at bytes)) (λ bytes. first_left None) (λ bytes. refl),
  )
  at_choice k.Second = (
    refl,
    list_case bar_asks bar_step bar_script _ (λ bytes r. to (at k.Second) (choice_move (choice base x y k.Second) bytes r)) _
        (λ bytes. list_left (at k.Second) (choice base x y k.Second) _ second_left (resource_at bytes)) (λ bytes. second_left None) (λ bytes. refl),
  )
  at_choice (k.Other i) = (
    refl,
    list_case bar_asks bar_step bar_script _ (λ bytes r. to (at (k.Other i)) (choice_move (choice base x y (k.Other i)) bytes r)) _
        (λ bytes. list_left (at (k.Other i)) (choice base x y (k.Other i)) _ (other_left i) (resource_at bytes)) (λ bytes. other_left i None) (λ bytes. refl),
  )

at_phase : (ds : List ℕ) (f : BarPhase) → m.Follows bar_asks bar_step bar_script (state f ds) (bar_script (state f ds))
unfolding reading
at_phase ds (p.Reading zero) = (refl, dword_case bar_asks bar_step bar_script _ (λ r. to (state (p.Reading zero) ds) (read_move zero r)) _ (λ x. refl) refl refl)
at_phase ds (p.Reading (suc n)) = (refl, dword_case bar_asks bar_step bar_script _ (λ r. to (state (p.Reading (suc n)) ds) (read_move (suc n) r)) _ (λ x. refl) refl refl)
at_phase ds (p.Choosing c) = at_choice ds c.base c.first c.second c.asking

pub bar_follows : BarFollows
bar_follows s = at_phase s.dwords s.phase

-- a search that starts has the whole script before it
pub bar_starts : bar_script started ≡ finding
bar_starts = refl
