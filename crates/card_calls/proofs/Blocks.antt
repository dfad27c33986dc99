-- The blocks that the card takes from the mailboxes of an area: page k of the range on page k of its buffer, and no more.
use Rattle.std.specs.Prelude.{Option, Some, None}
use Prim.Native.Nat.{ℕ, zero, suc, ◌+◌, ◌-◌, ◌*◌, ◌/◌, ◌%◌, ◌^◌, ◌≤◌, ◌<◌}
use native.Mathlib.Omega.{arith}
use native.Mathlib.Nat.{add-zero, mod-eq_of_lt}
use mathlib.Core.Bool.{Bool, true, false}
use mathlib.Core.List.{List, [], ◌∷◌, ◌++◌}
use mathlib.Core.Logic.{◌⊎◌, inl, inr, ⊎_elim, ◌↔◌}
use mathlib.Core.Path.{◌≡◌, refl, sym, ◌∙◌, ap, ap₂, subst}
use lib.Dec.{ltb}
use borrow.Author.Tests.{ltb-true, ltb-false}
use lib.ListN.{length, take, drop, take-append-drop, replicate, length-replicate}
use Rattle.fields.specs.Fields.{be}
use Rattle.dma.specs.Blocks.{virt_of, onward_of, block_at, blocks_of}
use Rattle.dma.specs.Pages.{table, blocks_in, Within}
use Rattle.dma.specs.Pages as g
use Rattle.dma.specs.PageList.{mailbox_of, block_in, list_at, entry_at, Carried, first_blocks, behind}
use Rattle.dma.specs.declared.Block.{Block}
use Rattle.dma.specs.declared.Cutter.{Cutter}
use Rattle.dma.proofs.Tiling.{log_of, blocks-ind}
use Rattle.dma.proofs.Cover.{first, First}
use Rattle.dma.proofs.Lists.{length_entry}
use Rattle.dma.proofs.ReadBack.{mailbox_read, blocks_carried}
use Rattle.dma.proofs.Steps.{first_is, behind_is, behind_within, blocks_none}
use Rattle.card.specs.Card.{Command, InBlock, Blocks}
use Rattle.card.specs.Card as c
use Rattle.card_calls.specs.Ranges.{AnyIn, InCut}

-- A MAILBOX: what the card reads there are its blocks

read_same : (s : List ℕ) (k x d : ℕ) → InCut (block_in s k) x d ≡ InBlock (c.block_at s k) x d
read_same s k x d =
    ap₂ (λ (n y : ℕ). (i : ℕ) × (i < 2 ^ n) × (x ≡ be s (k * 16) 8 / 4096 + i) × (d ≡ y + i))
    (let e : be s (k * 16 + 8) 8 % 4096 + 12 - 12 ≡ be s (k * 16 + 8) 8 % 4096 = omega arith in e)
    (let e : be s (k * 16 + 8) 8 / 4096 * 4096 / 4096 ≡ be s (k * 16 + 8) 8 / 4096 = omega arith in e)

in_table : (f : ℕ → Block) (j n x d : ℕ) → AnyIn (table f j n) x d → (k : ℕ) × (k < n) × InCut (f (j + k)) x d
unfolding table
in_table f j zero x d z = absurd z
in_table f j (suc n) x d (inl z) = (0, omega arith, subst (λ (m : ℕ). InCut (f m) x d) (sym (add-zero j)) z)
in_table f j (suc n) x d (inr z) =
    let y = in_table f (suc j) n x d z in
    (suc y.0, omega (arith, y.1), subst (λ (m : ℕ). InCut (f m) x d) (let e : suc j + y.0 ≡ j + suc y.0 = omega arith in e) y.2)

table_in_lem : (f : ℕ → Block) (j n k x d : ℕ) → k < n → InCut (f (j + k)) x d → AnyIn (table f j n) x d
unfolding table
table_in_lem f j zero k x d h z = absurd (let q : ⊥ = omega (arith, h) in q)
table_in_lem f j (suc n) zero x d h z = inl (subst (λ (m : ℕ). InCut (f m) x d) (add-zero j) z)
table_in_lem f j (suc n) (suc k) x d h z = inr (table_in_lem f (suc j) n k x d (omega (arith, h)) (subst (λ (m : ℕ). InCut (f m) x d) (let e : j + suc k ≡ suc j + k = omega arith in e) z))

-- the command that carries these blocks
pub carries : (p : Command) (bs : List Block) → length bs ≤ 256 → g.Each Carried bs → p.in_mod ≡ length bs % 2 ^ 32 → p.mail.bytes ≡ mailbox_of bs → (x d : ℕ) → Blocks p x d ↔ AnyIn bs x d
carries p bs l k m q x d = (forth, back)
  where
    count : p.in_mod ≡ length bs
    count = m ∙ (let e : length bs % 2 ^ 32 ≡ length bs = mod-eq_of_lt (let h : length bs < 2 ^ 32 = omega (arith, l) in h) in e)

    same : AnyIn (table (block_in (mailbox_of bs)) 0 (length bs)) x d ≡ AnyIn bs x d
    same = ap (λ (y : List Block). AnyIn y x d) (mailbox_read bs l k)

    zero-plus : (j : ℕ) → 0 + j ≡ j
    zero-plus j = omega arith

    forth : Blocks p x d → AnyIn bs x d
    forth (j, h, z) =
        subst (λ (t : Type 0). t) same
        (table_in_lem (block_in (mailbox_of bs)) 0 (length bs) j x d (subst (λ (n : ℕ). j < n) count h)
        (subst (λ (n : ℕ). InCut (block_in (mailbox_of bs) n) x d) (sym (zero-plus j))
        (subst (λ (t : Type 0). t) (sym (read_same (mailbox_of bs) j x d)) (subst (λ (y : List ℕ). InBlock (c.block_at y j) x d) q z))))

    back : AnyIn bs x d → Blocks p x d
    back z =
        let y = in_table (block_in (mailbox_of bs)) 0 (length bs) x d (subst (λ (t : Type 0). t) (sym same) z) in (
          y.0,
          subst (λ (n : ℕ). y.0 < n) (sym count) y.1,
          subst (λ (w : List ℕ). InBlock (c.block_at w y.0) x d) (sym q)
              (subst (λ (t : Type 0). t) (read_same (mailbox_of bs) y.0 x d) (subst (λ (n : ℕ). InCut (block_in (mailbox_of bs) n) x d) (zero-plus y.0) y.2)),
        )

length_list : (s : List ℕ) (k : ℕ) (bs : List Block) → length (list_at s k bs) ≡ length s
unfolding list_at
length_list s k [] = refl
length_list s k (b ∷ bs) = length_list (entry_at s k b) (suc k) bs ∙ length_entry s k b

pub length_mailbox : (bs : List Block) → length (mailbox_of bs) ≡ 4096
length_mailbox bs = length_list (replicate 4096 0) 0 bs ∙ length-replicate {A = ℕ} 4096 0

-- A RANGE: n pages from a card address, if there is one, on device pages
abbrev pub VirtAt : Option ℕ → ℕ → ℕ → Type 0
VirtAt (Some at) x k = x ≡ at / 4096 + k
VirtAt None x k = Unit {0}

abbrev pub OnRun : Option ℕ → (phys n : ℕ) → ℕ → ℕ → Type 0
OnRun virt phys n x d = (k : ℕ) × (k < n) × VirtAt virt x k × (d ≡ phys / 4096 + k)

abbrev pub IsAt : Option ℕ → Type 0
IsAt (Some at) = Unit {0}
IsAt None = ⊥

module _ (m b : ℕ) (whole : b ≡ m * 4096) where
  shift : (virt : Option ℕ) (x k : ℕ) → VirtAt (onward_of virt b) x k → VirtAt virt x (m + k)
  shift (Some at) x k e = let h : (at + b) / 4096 ≡ at / 4096 + m = omega (arith, whole) in omega (arith, e, h)
  shift None x k e = tt

  unshift : (virt : Option ℕ) (x k : ℕ) → m ≤ k → VirtAt virt x k → VirtAt (onward_of virt b) x (k - m)
  unshift (Some at) x k l e = let h : (at + b) / 4096 ≡ at / 4096 + m = omega (arith, whole) in omega (arith, e, h, l)
  unshift None x k l e = tt

  known_on : (virt : Option ℕ) → IsAt virt → IsAt (onward_of virt b)
  known_on (Some at) k = tt
  known_on None k = k

virt_of_lem : (virt : Option ℕ) (x k : ℕ) → x ≡ virt_of virt / 4096 + k → VirtAt virt x k
virt_of_lem (Some at) x k e = e
virt_of_lem None x k e = tt

of_virt : (virt : Option ℕ) (x k : ℕ) → IsAt virt → VirtAt virt x k → x ≡ virt_of virt / 4096 + k
of_virt (Some at) x k i e = e
of_virt None x k i e = absurd i

abbrev Covers : Option ℕ → (phys left : ℕ) → List Block → Type 0
Covers virt phys left bs =
    (n : ℕ) → left ≡ n * 4096 → virt_of virt % 4096 ≡ 0 → phys % 4096 ≡ 0 → (x d : ℕ) → (AnyIn bs x d → OnRun virt phys n x d) × (IsAt virt → OnRun virt phys n x d → AnyIn bs x d)

allowed : 12 ≤ 63
allowed = omega arith

none : (virt : Option ℕ) (phys : ℕ) → Covers virt phys 0 []
none virt phys n e a b x d = (λ z. absurd z, λ i z. let q : ⊥ = omega (arith, e, z.1) in q)

more : (virt : Option ℕ) (phys left : ℕ) (bs : List Block) → 0 < left
    → Covers (onward_of virt (2 ^ log_of 63 virt phys left)) (phys + 2 ^ log_of 63 virt phys left) (left - 2 ^ log_of 63 virt phys left) bs
    → Covers virt phys left (block_at 63 virt phys left ∷ bs)
more virt phys left bs h r n e a b x d = by_first (first 63 allowed virt phys left n e a b h)
  where
    by_first : First 63 allowed virt phys left n
        → (AnyIn (block_at 63 virt phys left ∷ bs) x d → OnRun virt phys n x d) × (IsAt virt → OnRun virt phys n x d → AnyIn (block_at 63 virt phys left ∷ bs) x d)
    by_first q = (forth, λ i z. back i z (ltb z.0 q.m) refl)
      where
        rest : (AnyIn bs x d → OnRun (onward_of virt (2 ^ log_of 63 virt phys left)) (phys + 2 ^ log_of 63 virt phys left) (n - q.m) x d)
            × (IsAt (onward_of virt (2 ^ log_of 63 virt phys left)) → OnRun (onward_of virt (2 ^ log_of 63 virt phys left)) (phys + 2 ^ log_of 63 virt phys left) (n - q.m) x d → AnyIn bs x d)
        rest = r (n - q.m) q.rest q.card q.host x d

        device : (phys + 2 ^ log_of 63 virt phys left) / 4096 ≡ phys / 4096 + q.m
        device = let y = q.whole in omega (arith, y)

        forth : AnyIn (block_at 63 virt phys left ∷ bs) x d → OnRun virt phys n x d
        forth (inl (i, l, u, w)) = (i, let j : i < q.m = subst (λ (k : ℕ). i < k) (sym q.count) l in omega (arith, j, q.small), virt_of_lem virt x i u, w)
        forth (inr z) =
            let y = rest.0 z in
            (q.m + y.0, omega (arith, y.1, q.small), shift q.m (2 ^ log_of 63 virt phys left) q.whole virt x y.0 y.2, omega (arith, y.3, device))

        back : IsAt virt → (z : OnRun virt phys n x d) → (t : Bool) → ltb z.0 q.m ≡ t → AnyIn (block_at 63 virt phys left ∷ bs) x d
        back i z true t = inl (z.0, subst (λ (k : ℕ). z.0 < k) q.count (ltb-true z.0 q.m t), of_virt virt x z.0 i z.2, z.3)
        back i z false t =
            let l : q.m ≤ z.0 = ltb-false z.0 q.m t in
            inr (rest.1 (known_on q.m (2 ^ log_of 63 virt phys left) q.whole virt i) (
              z.0 - q.m,
              omega (arith, z.1, l),
              unshift q.m (2 ^ log_of 63 virt phys left) q.whole virt x z.0 l z.2,
              omega (arith, z.3, device, l),
            ))

pub range_blocks : (virt : Option ℕ) (phys n : ℕ) → virt_of virt % 4096 ≡ 0 → phys % 4096 ≡ 0 → (x d : ℕ)
    → (AnyIn (blocks_of 63 virt phys (n * 4096)) x d → OnRun virt phys n x d) × (IsAt virt → OnRun virt phys n x d → AnyIn (blocks_of 63 virt phys (n * 4096)) x d)
range_blocks virt phys n a b = blocks-ind 63 Covers none more virt phys (n * 4096) n refl a b

-- WHAT IS LEFT TO CUT: an entry can carry each block, and the range ends at 2^64 or below
pub record Cutting (k : Cutter) : Type 0 where
  pub within : Within k
  pub carried : g.Each Carried (blocks_in 63 k)

each_take : (P : Block → Type 0) (n : ℕ) (bs : List Block) → g.Each P bs → g.Each P (take n bs)
each_take P zero bs h = tt
each_take P (suc n) [] h = tt
each_take P (suc n) (b ∷ bs) h = (h.0, each_take P n bs h.1)

each_drop : (P : Block → Type 0) (n : ℕ) (bs : List Block) → g.Each P bs → g.Each P (drop n bs)
each_drop P zero bs h = h
each_drop P (suc n) [] h = tt
each_drop P (suc n) (b ∷ bs) h = each_drop P n bs h.1

length_take_le : (n : ℕ) (bs : List Block) → length (take n bs) ≤ n
length_take_le zero bs = omega arith
length_take_le (suc n) [] = omega arith
length_take_le (suc n) (b ∷ bs) = let h = length_take_le n bs in omega (arith, h)

any_append : (cs bs : List Block) (x d : ℕ) → AnyIn (cs ++ bs) x d ↔ (AnyIn cs x d ⊎ AnyIn bs x d)
any_append [] bs x d = (λ z. inr z, λ z. ⊎_elim (λ y. absurd y) (λ y. y) z)
any_append (a ∷ cs) bs x d =
    let r = any_append cs bs x d in (
      λ z. ⊎_elim (λ y. inl (inl y)) (λ y. ⊎_elim (λ q. inl (inr q)) (λ q. inr q) (r.0 y)) z,
      λ z. ⊎_elim (λ y. ⊎_elim (λ q. inl q) (λ q. inr (r.1 (inl q))) y) (λ y. inr (r.1 (inr y))) z,
    )

module _ (k : Cutter) (x : Cutting k) where
  pub first_few : length (first_blocks 63 256 k) ≤ 256
  first_few = subst (λ (bs : List Block). length bs ≤ 256) (sym (first_is 63 256 k x.within)) (length_take_le 256 (blocks_in 63 k))

  pub first_carried : g.Each Carried (first_blocks 63 256 k)
  first_carried = subst (g.Each Carried) (sym (first_is 63 256 k x.within)) (each_take Carried 256 (blocks_in 63 k) x.carried)

  pub behind_cutting : Cutting (behind 63 256 k)
  behind_cutting = record {
    within = behind_within 63 256 k x.within;
    carried = subst (g.Each Carried) (sym (behind_is 63 256 k x.within)) (each_drop Carried 256 (blocks_in 63 k) x.carried);
  }

  -- one mailbox, and what is left behind it
  pub any_split : (y d : ℕ) → AnyIn (blocks_in 63 k) y d ↔ (AnyIn (first_blocks 63 256 k) y d ⊎ AnyIn (blocks_in 63 (behind 63 256 k)) y d)
  any_split y d =
      subst (λ (bs : List Block). AnyIn (blocks_in 63 k) y d ↔ (AnyIn bs y d ⊎ AnyIn (blocks_in 63 (behind 63 256 k)) y d)) (sym (first_is 63 256 k x.within))
      (subst (λ (bs : List Block). AnyIn (blocks_in 63 k) y d ↔ (AnyIn (take 256 (blocks_in 63 k)) y d ⊎ AnyIn bs y d)) (sym (behind_is 63 256 k x.within))
      (subst (λ (bs : List Block). AnyIn bs y d ↔ (AnyIn (take 256 (blocks_in 63 k)) y d ⊎ AnyIn (drop 256 (blocks_in 63 k)) y d)) (take-append-drop 256 (blocks_in 63 k))
      (any_append (take 256 (blocks_in 63 k)) (drop 256 (blocks_in 63 k)) y d)))

  pub none_left : k.left ≡ 0 → (y d : ℕ) → AnyIn (blocks_in 63 k) y d → ⊥
  none_left e y d z = subst (λ (bs : List Block). AnyIn bs y d) (blocks_none 63 k.virt k.phys k.left e) z

-- the cutter of a whole buffer
pub cutting : (virt : Option ℕ) (phys n : ℕ) → virt_of virt % 4096 ≡ 0 → phys % 4096 ≡ 0 → phys + n * 4096 ≤ 2 ^ 64 → virt_of virt + n * 4096 ≤ 2 ^ 64
    → Cutting (record { virt = virt; phys = phys; left = n * 4096 })
cutting virt phys n a b p q =
    let w : Within (record { virt = virt; phys = phys; left = n * 4096 }) = record { host = p; card = q } in
    record { within = w; carried = blocks_carried 63 allowed virt phys n a b w }
