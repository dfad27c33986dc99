-- The steps of the cutter follow the definition: in a range that ends at 2^64 or below, the blocks cut are the blocks of the range.
use Rattle.std.specs.Prelude.{Option, Some, None}
use Rattle.std.proofs.Common.{◌≡◌, ℕ, zero, suc, ◌+◌, ◌-◌, ◌%◌, ◌^◌, ◌<◌, ◌≤◌, true, ◌&&◌, leb, ◌⊎◌, List, [], ◌∷◌, ◌++◌, length, take, drop, sym, refl, ap, ◌∙◌, subst, ap₂, ⊎_elim, mod-eq_of_lt, eq-zero-or-pos, arith, length-drop, take-append-drop, pow_pos, leb-true}
use Rattle.dma.specs.Buffers.{is_page, ends_within}
use Rattle.dma.specs.Blocks.{virt_of, onward_of, wrapped, block_at, blocks_from, blocks_of, block_of, rest_of, after_of}
use Rattle.dma.specs.PageList.{first_blocks, behind}
use Rattle.dma.specs.Pages.{blocks_in, Within, split_by, mailboxes}
use Rattle.dma.specs.declared.Block.{Block}
use Rattle.dma.specs.declared.Cutter.{Cutter}
use Rattle.dma.proofs.Exponent.{exponent_stands, and_left, and_right}
use Rattle.dma.proofs.Lists.{first_none, behind_none, first_suc, behind_suc}
use Rattle.dma.proofs.Tiling.{log_of}

module _ (largest : ℕ) where
  -- more fuel than bytes changes nothing
  fuel_any : (f g : ℕ) (virt : Option ℕ) (phys left : ℕ) → left ≤ f → left ≤ g → blocks_from largest f virt phys left ≡ blocks_from largest g virt phys left
  unfolding blocks_from
  fuel_any zero zero virt phys left a b = refl
  fuel_any zero (suc g) virt phys zero a b = refl
  fuel_any zero (suc g) virt phys (suc l) a b = absurd (omega arith)
  fuel_any (suc f) zero virt phys zero a b = refl
  fuel_any (suc f) zero virt phys (suc l) a b = absurd (omega arith)
  fuel_any (suc f) (suc g) virt phys zero a b = refl
  fuel_any (suc f) (suc g) virt phys (suc l) a b =
      let n : ℕ = 2 ^ log_of largest virt phys (suc l) in
      let p = pow_pos (log_of largest virt phys (suc l)) in
      ap (λ (bs : List Block). block_at largest virt phys (suc l) ∷ bs) (fuel_any f g (onward_of virt n) (phys + n) (suc l - n) (omega arith) (omega arith))

  pub blocks_none : (virt : Option ℕ) (phys left : ℕ) → left ≡ 0 → blocks_of largest virt phys left ≡ []
  unfolding blocks_from
  blocks_none virt phys zero e = refl
  blocks_none virt phys (suc l) e = absurd (omega arith)

  -- the first block of a range, and the blocks of the rest
  pub blocks_more : (virt : Option ℕ) (phys left : ℕ) → 0 < left → blocks_of largest virt phys left
      ≡ block_at largest virt phys left ∷ blocks_of largest (onward_of virt (2 ^ log_of largest virt phys left)) (phys + 2 ^ log_of largest virt phys left) (left - 2 ^ log_of largest virt phys left)
  unfolding blocks_from
  blocks_more virt phys zero h = absurd (omega arith)
  blocks_more virt phys (suc l) h =
      let n : ℕ = 2 ^ log_of largest virt phys (suc l) in
      let p = pow_pos (log_of largest virt phys (suc l)) in
      ap (λ (bs : List Block). block_at largest virt phys (suc l) ∷ bs) (fuel_any l (suc l - n) (onward_of virt n) (phys + n) (suc l - n) (omega arith) (omega arith))

  -- an address behind which bytes are left is below 2^64
  wrap_not : (virt : Option ℕ) (n : ℕ) → virt_of virt + n < 2 ^ 64 → wrapped virt n ≡ onward_of virt n
  wrap_not (Some at) n h = ap Some (mod-eq_of_lt h)
  wrap_not None n h = refl

  wrapped_end : (virt : Option ℕ) (n left : ℕ) → virt_of virt + left ≤ 2 ^ 64 → n ≤ left → virt_of (wrapped virt n) + (left - n) ≤ 2 ^ 64
  wrapped_end (Some at) n left h l = host-end at n left h l
    where
      host-end : (at n left : ℕ) → at + left ≤ 2 ^ 64 → n ≤ left → (at + n) % 2 ^ 64 + (left - n) ≤ 2 ^ 64
      host-end at n left h l = omega arith
  wrapped_end None n left h l = omega arith

  module _ (c : Cutter) (w : Within c) (h : 0 < c.left) where
    n : ℕ
    n = 2 ^ log_of largest c.virt c.phys c.left

    n-le : n ≤ c.left
    unfolding n
    n-le = (exponent_stands largest (virt_of c.virt) c.phys c.left h).within

    same_rest : (c.left - n ≡ 0) ⊎ (0 < c.left - n) → blocks_of largest (onward_of c.virt n) (c.phys + n) (c.left - n) ≡ blocks_in largest (after_of c n)
    same_rest =
        ⊎_elim
        (λ z. blocks_none (onward_of c.virt n) (c.phys + n) (c.left - n) z ∙ sym (blocks_none (wrapped c.virt n) ((c.phys + n) % 2 ^ 64) (c.left - n) z))
        (λ p. ap₂ (λ (x : Option ℕ) (y : ℕ). blocks_of largest x y (c.left - n)) (sym (wrap_not c.virt n (omega (arith, w.card)))) (sym (mod-eq_of_lt (omega (arith, w.host)))))

    -- a step cuts the first block, and leaves the blocks of the rest
    pub rest-blocks : blocks_in largest c ≡ block_of largest c ∷ blocks_in largest (rest_of largest c)
    unfolding n
    rest-blocks = blocks_more c.virt c.phys c.left h ∙ ap (λ (bs : List Block). block_of largest c ∷ bs) (same_rest (eq-zero-or-pos (c.left - n)))

    pub rest-within : Within (rest_of largest c)
    unfolding n
    rest-within = record { host = omega (arith, w.host, n-le); card = wrapped_end c.virt n c.left w.card n-le }

  -- nothing is taken of no blocks
  take_none : (n : ℕ) (bs : List Block) → bs ≡ [] → take n bs ≡ []
  take_none zero bs e = refl
  take_none (suc n) bs e = ap (take (suc n)) e

  drop_none : (n : ℕ) (bs : List Block) → bs ≡ [] → drop n bs ≡ bs
  drop_none zero bs e = refl
  drop_none (suc n) bs e = ap (drop (suc n)) e ∙ sym e

  -- Induction over the steps.
  module _ (P : (n : ℕ) → Cutter → Type 0) (none : (c : Cutter) → P 0 c) (ended : (n : ℕ) (c : Cutter) → c.left ≡ 0 → P (suc n) c)
      (more : (n : ℕ) (c : Cutter) → Within c → 0 < c.left → P n (rest_of largest c) → P (suc n) c) where
    steps-ind : (n : ℕ) (c : Cutter) → Within c → P n c
    steps-ind zero c w = none c
    steps-ind (suc n) c w = ⊎_elim (ended n c) (λ h. more n c w h (steps-ind n (rest_of largest c) (rest-within c w h))) (eq-zero-or-pos c.left)

  -- The blocks of one mailbox are the first of the range's,
  pub first_is : (n : ℕ) (c : Cutter) → Within c → first_blocks largest n c ≡ take n (blocks_in largest c)
  unfolding first_blocks
  first_is =
      steps-ind (λ n c. first_blocks largest n c ≡ take n (blocks_in largest c)) (λ c. refl)
      (λ n c z. first_none largest c (suc n) z ∙ sym (take_none (suc n) (blocks_in largest c) (blocks_none c.virt c.phys c.left z)))
      (λ n c w h r. first_suc largest c n (λ z. omega arith) ∙ ap (λ (bs : List Block). block_of largest c ∷ bs) r ∙ sym (ap (take (suc n)) (rest-blocks c w h)))

  -- what is left behind them has the others,
  pub behind_is : (n : ℕ) (c : Cutter) → Within c → blocks_in largest (behind largest n c) ≡ drop n (blocks_in largest c)
  unfolding behind
  behind_is =
      steps-ind (λ n c. blocks_in largest (behind largest n c) ≡ drop n (blocks_in largest c)) (λ c. refl)
      (λ n c z. ap (blocks_in largest) (behind_none largest c (suc n) z) ∙ sym (drop_none (suc n) (blocks_in largest c) (blocks_none c.virt c.phys c.left z)))
      (λ n c w h r. ap (blocks_in largest) (behind_suc largest c n (λ z. omega arith)) ∙ r ∙ sym (ap (drop (suc n)) (rest-blocks c w h)))

  -- and ends at 2^64 or below too.
  pub behind_within : (n : ℕ) (c : Cutter) → Within c → Within (behind largest n c)
  unfolding behind
  behind_within n c w =
      steps-ind (λ n c. Within c → Within (behind largest n c)) (λ c w. w)
      (λ n c z w. subst Within (sym (behind_none largest c (suc n) z)) w)
      (λ n c w h r _. subst Within (sym (behind_suc largest c n (λ z. omega arith))) (r (rest-within c w h)))
      n c w w

ends : (at bytes : ℕ) → ends_within at bytes ≡ true → at + bytes ≤ 2 ^ 64
ends at bytes e = leb-true (at + bytes) (2 ^ 64) (and_right (leb bytes (2 ^ 64 - 4096)) (leb (at + bytes) (2 ^ 64)) e)

-- A range that `blocks` accepts ends at 2^64 or below, in both addresses.
pub start_within : (virt : Option ℕ) (phys size : ℕ) → (is_page phys && (ends_within phys size && ends_within (virt_of virt) size)) ≡ true
    → Within (record { virt = virt; phys = phys; left = size })
start_within virt phys size e =
    let f = and_right (is_page phys) (ends_within phys size && ends_within (virt_of virt) size) e in
    record {
      host = ends phys size (and_left (ends_within phys size) (ends_within (virt_of virt) size) f);
      card = ends (virt_of virt) size (and_right (ends_within phys size) (ends_within (virt_of virt) size) f);
    }

-- the blocks of the mailboxes, one after the other
unfoldable pub joined : List (List Block) → List Block
joined [] = []
joined (x ∷ xs) = x ++ joined xs

split_all : (capacity f : ℕ) (bs : List Block) → 0 < capacity → length bs ≤ f → joined (split_by capacity f bs) ≡ bs
unfolding split_by joined
split_all capacity zero [] h l = refl
split_all capacity zero (b ∷ bs) h l = absurd (omega arith)
split_all capacity (suc f) [] h l = refl
split_all capacity (suc f) (b ∷ bs) h l =
    ap (λ (xs : List Block). take capacity (b ∷ bs) ++ xs) (split_all capacity f (drop capacity (b ∷ bs)) h (omega (arith, length-drop capacity (b ∷ bs))))
    ∙ take-append-drop capacity (b ∷ bs)

-- The mailboxes carry all blocks, in order.
pub mailboxes_all : (capacity : ℕ) (bs : List Block) → 0 < capacity → joined (mailboxes capacity bs) ≡ bs
mailboxes_all capacity bs h = split_all capacity (length bs) bs h (omega arith)
