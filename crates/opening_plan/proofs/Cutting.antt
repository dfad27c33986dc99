-- Each mailbox takes something of its area, so that there are no more mailboxes than bytes, and the number of those that may follow does not matter.
use Prim.Native.Nat.{ℕ, zero, suc, ◌-◌, ◌≤◌, ◌%◌, ◌^◌}
use mathlib.Core.Bool.{Bool, true, false}
use mathlib.Core.Path.{◌≡◌, refl, ap, sym}
use native.Mathlib.Omega.{arith}
use borrow.Author.Tests.{eqb-false, ne_eqb}
use lib.Dec.{eqb}
use lib.ListN.{length}
use lib.Pow.{pow_pos}
use Rattle.fields.specs.Outcome.{pick}
use Rattle.dma.specs.Blocks.{block_of, rest_of}
use Rattle.dma.specs.PageList.{first_blocks, behind, filled_at}
use Rattle.dma.specs.declared.Cutter.{Cutter}
use Rattle.command.specs.Script.{command}
use Rattle.session.specs.Session.{catas_for, wired, after, with_in_of}
use Rattle.session.specs.Course.{Course, Here, neither, sends, Rest}
use Rattle.session.proofs.Courses.{run_same}
use Rattle.session.specs.declared.Books.{Books}
use Rattle.session.specs.declared.Info.{Info}
use Rattle.session.specs.declared.Area.{Area}
use Rattle.closing_plan.specs.Closing.{is_done}
use Rattle.opening_plan.specs.Values.{op_for}
use Rattle.opening_plan.specs.Opening.{mapping, on_good, fails_by, holds}

pub positive : (n : ℕ) → (n ≡ 0 → ⊥) → suc (n - 1) ≡ n
positive zero h = absurd (h refl)
positive (suc n) h = let g : suc (suc n - 1) ≡ suc n = omega arith in g

pick_le : (b : Bool) (x y : Cutter) (n : ℕ) → x.left ≤ n → y.left ≤ n → (pick b x y).left ≤ n
pick_le true x y n g h = g
pick_le false x y n g h = h

rest_le : (c : Cutter) → (rest_of 63 c).left ≤ c.left - 1
rest_le c = let p = pow_pos (block_of 63 c).log in let g : c.left - 2 ^ (block_of 63 c).log ≤ c.left - 1 = omega arith in g

behind_le : (m : ℕ) (c : Cutter) → (behind 63 m c).left ≤ c.left
unfolding behind
behind_le zero c = let g : c.left ≤ c.left = omega arith in g
behind_le (suc m) c =
    pick_le (eqb c.left 0) c (behind 63 m (rest_of 63 c)) c.left (let g : c.left ≤ c.left = omega arith in g)
    (let a = behind_le m (rest_of 63 c) in let b = rest_le c in let g : (behind 63 m (rest_of 63 c)).left ≤ c.left = omega arith in g)

pub behind_less : (m : ℕ) (c : Cutter) → (c.left ≡ 0 → ⊥) → (behind 63 (suc m) c).left ≤ c.left - 1
unfolding behind
behind_less m c h =
    let a = behind_le m (rest_of 63 c) in let b = rest_le c in
    let g : (behind 63 m (rest_of 63 c)).left ≤ c.left - 1 = omega arith in
    rw (ne_eqb c.left 0 h) g

module _ (a : Area) (next : Books → Here → Course Rest) (n : Info) where
  -- nothing is left: what follows the area
  pub mapping_none : (k : ℕ) (c : Cutter) (b : Books) (h : Here) → c.left ≡ 0 → mapping a next k c n b h ≡ next b h
  unfolding mapping
  mapping_none zero c b h e = refl
  mapping_none (suc k) c b h e = rw e refl

  -- one more mailbox, and then the rest
  abbrev pub onward : (Books → Here → Course Rest) → Cutter → Books → Here → Course Rest
  onward rest c b h =
      sends b (with_in_of b (op_for a) (length (first_blocks 63 256 c) % 2 ^ 32)) (λ r d j. on_good r (λ e i. rest e i) n d j)
      (holds (filled_at 63 256 c h.inbox) h)

  pub onward_same : (f g : Books → Here → Course Rest) (c : Cutter) (b : Books) (h : Here) → ((d : Books) (j : Here) → f d j ≡ g d j) → onward f c b h ≡ onward g c b h
  onward_same f g c b h e =
      run_same neither (command (catas_for b.wire) (filled_at 63 256 c h.inbox) b.wire.toggle (with_in_of b (op_for a) (length (first_blocks 63 256 c) % 2 ^ 32))) _ _ b _
      (λ x d j. ap (λ (t : Course Rest). pick (is_done x.result) t (fails_by x.result n (wired d (after d.wire x)) j)) (e (wired d (after d.wire x)) j))

  step_any : (f g : Books → Here → Course Rest) (c : Cutter) (b : Books) (h : Here) (t : Bool) → eqb c.left 0 ≡ t
      → ((c.left ≡ 0 → ⊥) → (d : Books) (j : Here) → f d j ≡ g d j) → pick t (next b h) (onward f c b h) ≡ pick t (next b h) (onward g c b h)
  step_any f g c b h true e k = refl
  step_any f g c b h false e k = onward_same f g c b h (k (eqb-false c.left 0 e))

  pub mapping_any : (k j : ℕ) (c : Cutter) (b : Books) (h : Here) → c.left ≤ k → c.left ≤ j → mapping a next k c n b h ≡ mapping a next j c n b h
  unfolding mapping
  mapping_any zero j c b h p q = let e : c.left ≡ 0 = omega arith in sym (mapping_none j c b h e)
  mapping_any (suc k) zero c b h p q = let e : c.left ≡ 0 = omega arith in mapping_none (suc k) c b h e
  mapping_any (suc k) (suc j) c b h p q =
      step_any (λ e i. mapping a next k (behind 63 256 c) n e i) (λ e i. mapping a next j (behind 63 256 c) n e i) c b h (eqb c.left 0) refl
      (λ z d i. mapping_any k j (behind 63 256 c) d i
      (let l = behind_less 255 c z in let g : (behind 63 256 c).left ≤ k = omega arith in g)
      (let l = behind_less 255 c z in let g : (behind 63 256 c).left ≤ j = omega arith in g))

  pub mapping_suc : (k : ℕ) (c : Cutter) (b : Books) (h : Here) → eqb c.left 0 ≡ false
      → onward (λ e i. mapping a next k (behind 63 256 c) n e i) c b h ≡ mapping a next (suc k) c n b h
  unfolding mapping
  mapping_suc k c b h d = rw d refl
