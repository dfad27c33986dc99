use Prim.Native.Nat.{ℕ}
use mathlib.Core.Bool.{Bool, true, false}
use mathlib.Core.Path.{◌≡◌, refl, ap, sym, subst, ◌∙◌}
use mathlib.Core.List.{List, []}
use native.Mathlib.Omega.{arith}
use native.Mathlib.Nat.{mod-eq_of_lt}
use lib.Dec.{eqb, ltb}
use Rattle.fields.specs.Outcome.{Outcome, value, refused, pick}
use Rattle.hcr.specs.Words.{swap_of}
use Rattle.pci.specs.declared.Answer.{Answer}
use Rattle.pci.specs.declared.Answer.TheVariants as a
use Rattle.words.specs.Words.{at}
use Rattle.words_calls.specs.Calls.{heard_of}
use Rattle.in_place.specs.InPlace.{after_read, after_done, after_heard, next_heard}
use Rattle.in_place.specs.declared.Next.{Next}
use Rattle.in_place.specs.declared.Next.TheVariants as n
use borrow.Author.Tests.{eq-eqb, ne_eqb, lt-ltb, le-ltb}
use Rattle.in_place.proofs.next_of.Goals as goal

-- there is no command
no_command : (w : List ℕ) (h : Outcome Answer) → (at w 0 ≡ 8 → ⊥) → n.Other ≡ next_heard w h
no_command w h e = rw (ne_eqb (at w 0) 8 e) refl

-- by the kind of the answer: done, a dword, a dword that is too wide, and all else
module _ (w : List ℕ) (k v : ℕ) (command : at w 0 ≡ 8) where
  known : (z : Next) (h : Outcome Answer) → z ≡ after_heard w h → z ≡ next_heard w h
  known z h e = rw (eq-eqb (at w 0) 8 command) e

  done_is : k ≡ 4 → (x : ℕ) → after_done w ≡ next_heard w (heard_of k v x)
  done_is e x = known (after_done w) (heard_of k v x) (subst (λ (j : ℕ). after_done w ≡ after_heard w (heard_of j v x)) (sym e) refl)

  dword : (z : Next) (b : Bool) → ltb v 4294967296 ≡ b → z ≡ after_heard w (pick b (value (a.Dword v)) (refused 20 [])) → k ≡ 2 → (x : ℕ) → z ≡ next_heard w (heard_of k v x)
  dword z b e h d x =
      known z (heard_of k v x)
      (subst (λ (j : ℕ). z ≡ after_heard w (heard_of j v x)) (sym d) (subst (λ (y : Bool). z ≡ after_heard w (pick y (value (a.Dword v)) (refused 20 []))) (sym e) h))

  other_is : (k ≡ 4 → ⊥) → (k ≡ 2 → ⊥) → (x : ℕ) → n.Other ≡ next_heard w (heard_of k v x)
  other_is no-done no-dword x =
      known n.Other (heard_of k v x) (by (eqb k 1) (ltb v 65536) (eqb k 2) (ltb v 4294967296) (eqb k 3) (eqb k 4) (eqb k 5) (eqb k 6) (eqb k 7) (eqb k 8) (ne_eqb k 2 no-dword) (ne_eqb k 4 no-done))
    where
      not_so : {A : Type 0} → true ≡ false → A
      not_so e = absurd (let z : ◌≡◌ {A = ℕ} 1 0 = ap (λ (b : Bool). pick b 1 0) e in omega arith)

      by : (b₁ n₁ b₂ n₂ b₃ b₄ b₅ b₆ b₇ b₈ : Bool) → b₂ ≡ false → b₄ ≡ false
          → n.Other ≡ after_heard w (pick b₁ (pick n₁ (value (a.Word v)) (refused 20 [])) (pick b₂ (pick n₂ (value (a.Dword v)) (refused 20 [])) (pick b₃ (value (a.Qword v)) (pick b₄ (value a.Done)
          (pick b₅ (value a.Failed) (pick b₆ (value (a.Handle v)) (pick b₇ (value (a.Mapped v x)) (pick b₈ (value a.List) (refused 20 [])))))))))
      by true true b₂ n₂ b₃ b₄ b₅ b₆ b₇ b₈ e d = refl
      by true false b₂ n₂ b₃ b₄ b₅ b₆ b₇ b₈ e d = refl
      by false n₁ true n₂ b₃ b₄ b₅ b₆ b₇ b₈ e d = not_so e
      by false n₁ false n₂ true b₄ b₅ b₆ b₇ b₈ e d = refl
      by false n₁ false n₂ false true b₅ b₆ b₇ b₈ e d = not_so d
      by false n₁ false n₂ false false true b₆ b₇ b₈ e d = refl
      by false n₁ false n₂ false false false true b₇ b₈ e d = refl
      by false n₁ false n₂ false false false false true b₈ e d = refl
      by false n₁ false n₂ false false false false false true e d = refl
      by false n₁ false n₂ false false false false false false e d = refl

pub returns-then-w-ne8 : goal.returns-then-w-ne8
returns-then-w-ne8 c = λ x. no_command c.args.w (heard_of c.args.kind c.args.a x) c.if-w-ne8.true

pub returns-then-kind-eq4 : goal.returns-then-kind-eq4
returns-then-kind-eq4 c = let p = c.args in λ x. c.after_done.ensures ∙ done_is p.w p.kind p.a c.if-w-ne8.false c.if-kind-eq4.true x

pub returns-then-kind-ne2 : goal.returns-then-kind-ne2
returns-then-kind-ne2 c = let p = c.args in other_is p.w p.kind p.a c.if-w-ne8.false c.if-kind-eq4.false c.if-kind-ne2.true

pub returns-then-a-lt4294967296 : goal.returns-then-a-lt4294967296
returns-then-a-lt4294967296 c = let p = c.args in λ x.
    c.after_read.ensures ∙ ap (after_read p.w) (c.swap.ensures ∙ ap swap_of (c.narrow32.ensures ∙ mod-eq_of_lt c.if-a-lt4294967296.true))
    ∙ dword p.w p.kind p.a c.if-w-ne8.false (after_read p.w (swap_of p.a)) true (lt-ltb _ _ c.if-a-lt4294967296.true) refl c.if-kind-ne2.false x

pub returns : goal.returns
returns c = let p = c.args in dword p.w p.kind p.a c.if-w-ne8.false n.Other false (le-ltb _ _ c.if-a-lt4294967296.false) refl c.if-kind-ne2.false
