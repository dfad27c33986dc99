-- Laws of the page list: the turns of the loop that writes it, and that an entry fits.
use Rattle.std.specs.Prelude.{Some, None}
use Rattle.std.proofs.Math.Option as m
use Rattle.std.proofs.Common.{◌≡◌, Bool, true, false, eqb, eqb-true, ℕ, zero, suc, ◌+◌, ◌-◌, ◌*◌, ◌/◌, ◌%◌, ◌^◌, ◌<◌, ◌≤◌, List, [], ◌∷◌, length, sym, refl, ap, ◌∙◌, ap₂, add-zero, mul-le-mul_right, suc-mul, lt_of_mul-lt-mul_right, pow-suc, div-add-mod', sub-add_cancel, add-one, arith, pow-add, eq-eqb, ne_eqb}
use Rattle.fields.specs.Outcome.{pick}
use Rattle.fields.specs.Fields.{put_at}
use Rattle.fields.specs.declared.Order.TheVariants.{Big}
use Rattle.fields.proofs.Laws.{length_put}
use Rattle.dma.specs.Blocks.{block_of, rest_of, virt_of, exponent_of, cut_of, piece}
use Rattle.dma.specs.PageList.{word_of, entry_at, list_at, first_blocks, behind, listed_of}
use Rattle.dma.specs.declared.Block.{Block}
use Rattle.dma.specs.declared.Cutter.{Cutter}
use Rattle.dma.specs.declared.Listed.{Listed}
use Rattle.dma.proofs.Exponent.{exponent_stands, exponent_le}

pub length_entry : (s : List ℕ) (k : ℕ) (b : Block) → length (entry_at s k b) ≡ length s
length_entry s k b = length_put Big (put_at Big s (k * 16) 8 b.virt) (k * 16 + 8) 8 (word_of b) ∙ length_put Big s (k * 16) 8 b.virt

module _ (largest : ℕ) (c : Cutter) where
  -- nothing is cut of a range with nothing left
  pub first_none : (n : ℕ) → c.left ≡ 0 → first_blocks largest n c ≡ []
  unfolding first_blocks
  first_none zero z = refl
  first_none (suc n) z = rw (eq-eqb c.left 0 z)

  pub behind_none : (n : ℕ) → c.left ≡ 0 → behind largest n c ≡ c
  unfolding behind
  behind_none zero z = refl
  behind_none (suc n) z = rw (eq-eqb c.left 0 z)

  pub first_suc : (n : ℕ) → (c.left ≡ 0 → ⊥) → first_blocks largest (suc n) c ≡ block_of largest c ∷ first_blocks largest n (rest_of largest c)
  unfolding first_blocks
  first_suc n z = rw (ne_eqb c.left 0 z)

  pub behind_suc : (n : ℕ) → (c.left ≡ 0 → ⊥) → behind largest (suc n) c ≡ behind largest n (rest_of largest c)
  unfolding behind
  behind_suc n z = rw (ne_eqb c.left 0 z)

  module _ (n m : ℕ) (h : n < m) (z : c.left ≡ 0 → ⊥) where
    room-less : m - n ≡ suc (m - (n + 1))
    room-less = omega arith

    -- a turn of the loop
    pub first-turn : first_blocks largest (m - n) c ≡ block_of largest c ∷ first_blocks largest (m - (n + 1)) (rest_of largest c)
    first-turn = ap (λ (k : ℕ). first_blocks largest k c) room-less ∙ first_suc (m - (n + 1)) z

    pub behind-turn : behind largest (m - n) c ≡ behind largest (m - (n + 1)) (rest_of largest c)
    behind-turn = ap (λ (k : ℕ). behind largest k c) room-less ∙ behind_suc (m - (n + 1)) z

    pub list-turn : (s : List ℕ) → list_at (entry_at s n (block_of largest c)) (n + 1) (first_blocks largest (m - (n + 1)) (rest_of largest c)) ≡ list_at s n (first_blocks largest (m - n) c)
    unfolding list_at
    list-turn s =
        ap (λ (k : ℕ). list_at (entry_at s n (block_of largest c)) k (first_blocks largest (m - (n + 1)) (rest_of largest c))) (add-one n)
        ∙ sym (ap (list_at s n) first-turn)

-- what a cut says of what is left: nothing, or the first block and what is behind it
module _ (largest : ℕ) (c : Cutter) where
  next : Block × Cutter
  next = (block_of largest c, rest_of largest c)

  none_by : (t : Bool) → eqb c.left 0 ≡ t → m.none ≡ pick t m.none (m.some next) → c.left ≡ 0
  none_by true e h = eqb-true c.left 0 e
  none_by false e h = cc

  pub cut_none : piece None ≡ cut_of largest c → c.left ≡ 0
  unfolding next
  cut_none h = none_by (eqb c.left 0) refl h

  pub record Next (b : Block) (r : Cutter) : Type 0 where
    pub more : c.left ≡ 0 → ⊥
    pub block : b ≡ block_of largest c
    pub rest : r ≡ rest_of largest c

  more_by : (p : Block × Cutter) (t : Bool) → eqb c.left 0 ≡ t → m.some p ≡ pick t m.none (m.some next) → (eqb c.left 0 ≡ false) × (p ≡ next)
  more_by p true e h = cc
  more_by p false e h = (e, cc)

  pub cut_some : (b : Block) (r : Cutter) → piece (Some (b, r)) ≡ cut_of largest c → Next b r
  unfolding next
  cut_some b r h =
      let both = more_by (b, r) (eqb c.left 0) refl h in
      record { more = λ z. let y = eq-eqb c.left 0 z in let n = both.0 in cc; block = ap (λ (p : Block × Cutter). p.0) both.1; rest = ap (λ (p : Block × Cutter). p.1) both.1 }

-- the end of the loop, with nothing more to list: it has listed what was to be listed
pub ended : (largest m n : ℕ) (c₀ c : Cutter) (s s₀ : List ℕ) → first_blocks largest (m - n) c ≡ [] → behind largest (m - n) c ≡ c
    → list_at s n (first_blocks largest (m - n) c) ≡ list_at s₀ 0 (first_blocks largest m c₀)
    → n + length (first_blocks largest (m - n) c) ≡ length (first_blocks largest m c₀)
    → behind largest (m - n) c ≡ behind largest m c₀
    → (◌≡◌ {A = Listed} (record { entries = n; rest = c }) (listed_of largest m c₀)) × (s ≡ list_at s₀ 0 (first_blocks largest m c₀))
unfolding list_at
ended largest m n c₀ c s s₀ none same list count rest = (
  ap₂ (λ (k : ℕ) (x : Cutter). record { entries = k; rest = x }) (sym (add-zero n) ∙ ap (λ (bs : List Block). n + length bs) (sym none) ∙ count) (sym same ∙ rest),
  ap (list_at s n) (sym none) ∙ list,
)

pub below_pow : (e : ℕ) → e < 2 ^ e
below_pow zero = omega arith
below_pow (suc n) = rw pow-suc (omega (arith, below_pow n))

-- a multiple of 2 ^ e below 2 ^ 64 has room for 2 ^ e bytes behind it
pub aligned_room : (x e : ℕ) → x % 2 ^ e ≡ 0 → x < 2 ^ 64 → e ≤ 64 → x + 2 ^ e ≤ 2 ^ 64
aligned_room x e d h l =
    let q = x / 2 ^ e in
    let split : q * 2 ^ e ≡ x = sym (add-zero (q * 2 ^ e)) ∙ ap (λ (r : ℕ). q * 2 ^ e + r) (sym d) ∙ div-add-mod' x (2 ^ e) in
    let whole : 2 ^ 64 ≡ 2 ^ (64 - e) * 2 ^ e = ap (λ (k : ℕ). 2 ^ k) (sym (sub-add_cancel l)) ∙ pow-add 2 (64 - e) e in
    let less : q < 2 ^ (64 - e) = lt_of_mul-lt-mul_right (2 ^ e) (rw (← whole, split) h) in
    let more : suc q * 2 ^ e ≤ 2 ^ 64 = rw whole (mul-le-mul_right (2 ^ e) less) in
    omega (arith, more, suc-mul q (2 ^ e), split)

-- a block's second half fits in 64 bits
pub word_fits : (largest : ℕ) (c : Cutter) → 0 < c.left → c.phys < 2 ^ 64 → word_of (block_of largest c) < 2 ^ 64
word_fits largest c h l =
    let e = exponent_of largest (virt_of c.virt) c.phys c.left in
    let s = exponent_stands largest (virt_of c.virt) c.phys c.left h in
    let top = exponent_le largest (virt_of c.virt) c.phys c.left in
    let room = aligned_room c.phys e s.divides_phys l (omega arith) in
    omega (arith, room, below_pow e)
