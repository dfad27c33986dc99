-- The pages that the blocks of a range cover: page k of the range lies on device page k.
use Rattle.std.specs.Prelude.{Option, Some, None}
use Rattle.std.proofs.Common.{◌≡◌, ℕ, zero, suc, ◌+◌, ◌-◌, ◌*◌, ◌%◌, ◌^◌, ◌<◌, ◌≤◌, ◌∷◌, ◌++◌, sym, refl, ap, ◌∙◌, ap₂, add-zero, suc-add, zero-add, sub-add_cancel, arith, pow-add}
use native.Mathlib.Nat.{add-mul-mod_self_right}
use Rattle.dma.specs.Blocks.{virt_of, onward_of, block_at, blocks_of}
use Rattle.dma.specs.Pages.{Each, table, cover, pair_at, page_at, pages_of, device_pages}
use Rattle.dma.specs.declared.Block.{Block}
use Rattle.dma.proofs.Exponent.{exponent_stands, exponent_largest}
use Rattle.dma.proofs.Tiling.{log_of, blocks-ind}

-- a run of n pages, and a run of m behind it
table_add : {A : Type 0} (f : ℕ → A) (i n m : ℕ) → table f i (n + m) ≡ table f i n ++ table f (i + n) m
unfolding table
table_add f i zero m = ap (table f i) (zero-add m) ∙ ap (λ (k : ℕ). table f k m) (sym (add-zero i))
table_add f i (suc n) m =
    ap (table f i) (suc-add n m)
    ∙ ap (λ l. f i ∷ l) (table_add f (suc i) n m ∙ ap (λ (k : ℕ). table f (suc i) n ++ table f k m) (let e : suc i + n ≡ i + suc n = omega arith in e))

-- the same values, counted from elsewhere
table_shift : {A : Type 0} (f g : ℕ → A) (i j n : ℕ) → ((k : ℕ) → f (i + k) ≡ g (j + k)) → table f i n ≡ table g j n
unfolding table
table_shift f g i j zero h = refl
table_shift f g i j (suc n) h =
    ap₂ (λ a l. a ∷ l) (ap f (sym (add-zero i)) ∙ h 0 ∙ ap g (add-zero j))
    (table_shift f g (suc i) (suc j) n (λ k. ap f (let e : suc i + k ≡ i + suc k = omega arith in e) ∙ h (suc k) ∙ ap g (let e : j + suc k ≡ suc j + k = omega arith in e)))

-- a power of 12 or more is a whole number of pages
pub pages_of_power : (e : ℕ) → 12 ≤ e → 2 ^ e ≡ 2 ^ (e - 12) * 4096
pages_of_power e h = ap (λ (k : ℕ). 2 ^ k) (sym (sub-add_cancel h)) ∙ pow-add 2 (e - 12) 12

virt_on : (virt : Option ℕ) (m : ℕ) → virt_of virt % 4096 ≡ 0 → virt_of (onward_of virt (m * 4096)) % 4096 ≡ 0
virt_on (Some at) m h = add-mul-mod_self_right at m 4096 ∙ h
virt_on None m h = h

module _ (largest : ℕ) (allowed : 12 ≤ largest) where
  -- Every exponent is at least 12 where both addresses and the bytes left are page multiples.
  pub log_page : (virt : Option ℕ) (phys n : ℕ) → virt_of virt % 4096 ≡ 0 → phys % 4096 ≡ 0 → 0 < n → 12 ≤ log_of largest virt phys (n * 4096)
  log_page virt phys n a b h =
      exponent_largest largest (virt_of virt) phys (n * 4096) 12 (omega arith)
      (record { allowed = allowed; within = omega arith; divides_phys = b; divides_virt = a })

  -- what is known of a first block, m pages long, of a range of n pages
  pub record First (virt : Option ℕ) (phys left n : ℕ) : Type 0 where
    pub m : ℕ
    pub whole : 2 ^ log_of largest virt phys left ≡ m * 4096
    pub log : 12 ≤ log_of largest virt phys left
    pub count : m ≡ 2 ^ (log_of largest virt phys left - 12)
    pub small : m ≤ n
    pub rest : left - 2 ^ log_of largest virt phys left ≡ (n - m) * 4096
    pub host : (phys + 2 ^ log_of largest virt phys left) % 4096 ≡ 0
    pub card : virt_of (onward_of virt (2 ^ log_of largest virt phys left)) % 4096 ≡ 0

  pub first : (virt : Option ℕ) (phys left n : ℕ) → left ≡ n * 4096 → virt_of virt % 4096 ≡ 0 → phys % 4096 ≡ 0 → 0 < left → First virt phys left n
  first virt phys left n e a b h =
      let l : 12 ≤ log_of largest virt phys left = rw e (log_page virt phys n a b (omega arith)) in
      let m : ℕ = 2 ^ (log_of largest virt phys left - 12) in
      let w : 2 ^ log_of largest virt phys left ≡ m * 4096 = pages_of_power (log_of largest virt phys left) l in
      let s = exponent_stands largest (virt_of virt) phys left h in
      let d : m ≤ n = omega (arith, s.within, w, e) in
      record {
        m = m;
        whole = w;
        log = l;
        count = refl;
        small = d;
        rest = omega (arith, w, e, d);
        host = ap (λ (k : ℕ). (phys + k) % 4096) w ∙ add-mul-mod_self_right phys m 4096 ∙ b;
        card = ap (λ (k : ℕ). virt_of (onward_of virt k) % 4096) w ∙ virt_on virt m a;
      }

  pub blocks_pages : (virt : Option ℕ) (phys n : ℕ) → virt_of virt % 4096 ≡ 0 → phys % 4096 ≡ 0 → Each (λ b. 12 ≤ b.log) (blocks_of largest virt phys (n * 4096))
  blocks_pages virt phys n a b =
      blocks-ind largest (λ virt phys left bs. (n : ℕ) → left ≡ n * 4096 → virt_of virt % 4096 ≡ 0 → phys % 4096 ≡ 0 → Each (λ b. 12 ≤ b.log) bs)
      (λ virt phys n e a b. tt)
      (λ virt phys left bs h r n e a b. let f = first virt phys left n e a b h in (f.log, r (n - f.m) f.rest f.card f.host))
      virt phys (n * 4096) n refl a b

  -- What f says of the pages of the blocks is what F says of the pages of the range, where f says of a block what F says of a range that starts
  -- with it, and F of a range m pages on what it says m pages on. `Ok` is for what F says of some card addresses only.
  module _ {A : Type 0} (f : Block → ℕ → A) (F : Option ℕ → (phys k : ℕ) → A) (Ok : Option ℕ → Type 0)
      (on : (virt : Option ℕ) (m : ℕ) → Ok virt → Ok (onward_of virt m))
      (starts : (virt : Option ℕ) (phys left k : ℕ) → Ok virt → f (block_at largest virt phys left) k ≡ F virt phys k)
      (shifts : (virt : Option ℕ) (phys m k : ℕ) → Ok virt → F (onward_of virt (m * 4096)) (phys + m * 4096) k ≡ F virt phys (m + k)) where
    covers : (virt : Option ℕ) (phys n : ℕ) → Ok virt → virt_of virt % 4096 ≡ 0 → phys % 4096 ≡ 0 → cover f (blocks_of largest virt phys (n * 4096)) ≡ table (F virt phys) 0 n
    unfolding cover table
    covers virt phys n o a b =
        blocks-ind largest (λ virt phys left bs. (n : ℕ) → left ≡ n * 4096 → Ok virt → virt_of virt % 4096 ≡ 0 → phys % 4096 ≡ 0 → cover f bs ≡ table (F virt phys) 0 n)
        (λ virt phys n e o a b. ap (table (F virt phys) 0) (let z : 0 ≡ n = omega arith in z))
        (λ virt phys left bs h r n e o a b. let x = first virt phys left n e a b h in
        ap₂ (λ s t. s ++ t)
        (ap (table (f (block_at largest virt phys left)) 0) (sym x.count) ∙ table_shift (f (block_at largest virt phys left)) (F virt phys) 0 0 x.m (λ k. starts virt phys left (0 + k) o))
        (r (n - x.m) x.rest (on virt (2 ^ log_of largest virt phys left) o) x.card x.host
        ∙ ap (λ (k : ℕ). table (F (onward_of virt k) (phys + k)) 0 (n - x.m)) x.whole
        ∙ table_shift (F (onward_of virt (x.m * 4096)) (phys + x.m * 4096)) (F virt phys) 0 (0 + x.m) (n - x.m)
        (λ k. ap (F (onward_of virt (x.m * 4096)) (phys + x.m * 4096)) (zero-add k) ∙ shifts virt phys x.m k o ∙ ap (λ (j : ℕ). F virt phys (j + k)) (sym (zero-add x.m))))
        ∙ sym (table_add (F virt phys) 0 x.m (n - x.m))
        ∙ ap (table (F virt phys) 0) (let z : x.m + (n - x.m) ≡ n = omega (arith, x.small) in z))
        virt phys (n * 4096) n refl o a b

  page_on : (at m k : ℕ) → at + m * 4096 + k * 4096 ≡ at + (m + k) * 4096
  page_on at m k = omega arith

  -- The device pages that the blocks name are the range's, in order.
  pub device_pages_lem : (virt : Option ℕ) (phys n : ℕ) → virt_of virt % 4096 ≡ 0 → phys % 4096 ≡ 0
      → device_pages (blocks_of largest virt phys (n * 4096)) ≡ table (page_at phys) 0 n
  device_pages_lem virt phys n a b =
      covers (λ b. page_at b.phys) (λ virt phys. page_at phys) (λ virt. Unit {0}) (λ virt m o. tt) (λ virt phys left k o. refl) (λ virt phys m k o. page_on phys m k)
      virt phys n tt a b

  -- Page k of the range on the card lies on device page k.
  pub card_pages : (card phys n : ℕ) → card % 4096 ≡ 0 → phys % 4096 ≡ 0
      → pages_of (blocks_of largest (Some card) phys (n * 4096)) ≡ table (pair_at card phys) 0 n
  card_pages card phys n a b =
      covers (λ b. pair_at b.virt b.phys) (λ virt phys. pair_at (virt_of virt) phys) Known known_on (λ virt phys left k o. refl) shifts
      (Some card) phys n tt a b
    where
      Known : Option ℕ → Type 0
      Known (Some at) = Unit {0}
      Known None = ⊥

      known_on : (virt : Option ℕ) (m : ℕ) → Known virt → Known (onward_of virt m)
      known_on (Some at) m o = tt
      known_on None m o = o

      shifts : (virt : Option ℕ) (phys m k : ℕ) → Known virt → pair_at (virt_of (onward_of virt (m * 4096))) (phys + m * 4096) k ≡ pair_at (virt_of virt) phys (m + k)
      shifts (Some at) phys m k o = ap₂ (λ (x y : ℕ). (x, y)) (page_on at m k) (page_on phys m k)
      shifts None phys m k o = absurd o
