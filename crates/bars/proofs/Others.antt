-- Laws of the indices that are no candidates.
use Rattle.std.proofs.Common.{◌≡◌, ℕ, suc, ◌-◌, ◌<◌, ◌≤◌, true, false, [], ◌∷◌, ap, ◌∙◌, arith}
use Rattle.fields.specs.Outcome.{pick}
use Rattle.bars.specs.Choose.{those, rising, is_other, others_from}

module _ (first second i : ℕ) where
  -- an index below 6 is taken or passed over, and the scan goes on above it
  pub others_on : i < 6 → others_from first second i ≡ pick (is_other first second i) (i ∷ others_from first second (suc i)) (others_from first second (suc i))
  unfolding rising those
  others_on h = ap (λ (n : ℕ). those (is_other first second) (rising i n)) (let e : 6 - i ≡ suc (6 - suc i) = omega arith in e)

  pub others_end : 6 ≤ i → others_from first second i ≡ []
  unfolding rising those
  others_end h = ap (λ (n : ℕ). those (is_other first second) (rising i n)) (let e : 6 - i ≡ 0 = omega arith in e)

  pub others_take : i < 6 → is_other first second i ≡ true → others_from first second i ≡ i ∷ others_from first second (suc i)
  others_take h e = others_on h ∙ ap (λ b. pick b (i ∷ others_from first second (suc i)) (others_from first second (suc i))) e

  pub others_pass : i < 6 → is_other first second i ≡ false → others_from first second i ≡ others_from first second (suc i)
  others_pass h e = others_on h ∙ ap (λ b. pick b (i ∷ others_from first second (suc i)) (others_from first second (suc i))) e
