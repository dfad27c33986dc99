-- Every wrong answer of the table is refused.
use Prim.Native.Nat.{ℕ}
use mathlib.Core.Bool.{Bool, true, false}
use mathlib.Core.List.{List, [], ◌∷◌}
use mathlib.Core.Path.{◌≡◌, refl, ap, sym, ◌∙◌}
use native.Mathlib.Omega.{arith}
use borrow.Author.Tests.{eq-eqb}
use Rattle.fields.specs.Outcome.{pick}
use Rattle.fields.specs.Fields.{digits, put_digits}
use Rattle.hcr.specs.Words.{waited_of, is_in}
use Rattle.dma.specs.Blocks.{highest}
use Rattle.dma.specs.PageList.{list_at, first_blocks, behind}
use Rattle.bars.specs.Bars.{bars}
use Rattle.bars.specs.Resource.{walk}
use Rattle.bars.specs.Choose.{those, up_to, any, first_of, rising, asked, chosen}
use Rattle.wrong.specs.Wrong.{alike, Row, refuses, refuses_all, Refuses, AllRefuse, write_numbers, wrong}

-- numbers are alike to themselves, so those that are not alike are not the same
alike_self : (xs : List ℕ) → alike xs xs ≡ true
unfolding alike
alike_self [] = refl
alike_self (x ∷ xs) = ap (λ b. pick b (alike xs xs) false) (eq-eqb x x refl) ∙ alike_self xs

not_so : false ≡ true → ⊥
not_so h = let z : ◌≡◌ {A = ℕ} 0 1 = ap (λ (x : Bool). pick x 1 0) h in omega arith

apart : (xs ys : List ℕ) → alike xs ys ≡ false → xs ≡ ys → ⊥
apart xs ys e h = not_so (sym e ∙ (sym (ap (λ z. alike xs z) h) ∙ alike_self xs))

by_test : (r : Row) (a b : Bool) → alike r.asked r.first ≡ a → alike r.asked r.second ≡ b → pick a false (pick b false true) ≡ true → Refuses r
by_test r true b d e h = absurd (not_so h)
by_test r false true d e h = absurd (not_so h)
by_test r false false d e h = (apart r.asked r.first d, apart r.asked r.second e)

by_tests : (r : Row) (rs : List Row) (a : Bool) → refuses r ≡ a → pick a (refuses_all rs) false ≡ true → (refuses r ≡ true) × (refuses_all rs ≡ true)
by_tests r rs true d h = (d, h)
by_tests r rs false d h = absurd (not_so h)

pub all_refuse : (rs : List Row) → refuses_all rs ≡ true → AllRefuse rs
unfolding refuses_all AllRefuse
all_refuse [] h = tt
all_refuse (r ∷ rs) h =
    let q = by_tests r rs (refuses r) refl h in
    (by_test r (alike r.asked r.first) (alike r.asked r.second) refl refl q.0, all_refuse rs q.1)

tested : refuses_all wrong ≡ true
unfolding refuses_all alike digits put_digits waited_of is_in write_numbers highest list_at first_blocks behind bars walk those up_to any first_of rising asked chosen
tested = refl

-- THE THEOREM
pub wrong_refused : AllRefuse wrong
wrong_refused = all_refuse wrong tested
