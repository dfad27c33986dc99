-- Buffers: what the session has of the host in any order, and giving it back.
use Prim.Native.Nat.{ℕ}
use mathlib.Core.Bool.{Bool, true, false}
use mathlib.Core.List.{List, [], ◌∷◌, ◌++◌}
use mathlib.Core.Logic.{◌⊎◌, inl, inr}
use mathlib.Core.Option.{Option, some, none, none-ne-some}
use mathlib.Core.Path.{◌≡◌, refl, sym, ◌∙◌, ap, subst}
use lib.Dec.{eqb}
use borrow.Author.Tests.{eq-eqb, ne_eqb, eqb-true, eqb-false}
use Rattle.fields.specs.Outcome.{pick}
use Rattle.dma.specs.declared.Buffer.{Buffer}
use Rattle.buffer.specs.Buffer.{freeing}
use Rattle.card.specs.Card.{put, Hold, Deal, out, back, standing, Host, Meets, InUse, Ours, unmap_all, unmap_in, hand_back, World}
use Rattle.card.specs.Safe.{Safe}
use Rattle.card.specs.Owns.{Each, Pairwise, spot_of, hold_of, InBooks, Apart, Owns}
use Rattle.card.proofs.Command.{quiet_stable}
use Rattle.card.proofs.View.{empty_uses}
use Rattle.card.specs.Known.{Empty, Quiet}

pub put_same : {A : Type 0} (f : ℕ → A) (n : ℕ) (x : A) (m : ℕ) → m ≡ n → put f n x m ≡ x
put_same f n x m e = ap (λ (b : Bool). pick b x (f m)) (eq-eqb m n e)

pub put_other : {A : Type 0} (f : ℕ → A) (n : ℕ) (x : A) (m : ℕ) → (m ≡ n → ⊥) → put f n x m ≡ f m
put_other f n x m e = ap (λ (b : Bool). pick b x (f m)) (ne_eqb m n e)

pub each_map : {A : Type 0} (P R : A → Type 0) → ((a : A) → P a → R a) → (xs : List A) → Each P xs → Each R xs
each_map P R f [] h = tt
each_map P R f (x ∷ xs) h = (f x h.0, each_map P R f xs h.1)

pub each_both : {A : Type 0} (P Q R : A → Type 0) → ((a : A) → P a → Q a → R a) → (xs : List A) → Each P xs → Each Q xs → Each R xs
each_both P Q R f [] h k = tt
each_both P Q R f (x ∷ xs) h k = (f x h.0 k.0, each_both P Q R f xs h.1 k.1)

-- ANOTHER ORDER

pub data Perm {A : Type 0} : List A → List A → Type 0 where
  stop : Perm [] []
  keep : (x : A) (xs ys : List A) → Perm xs ys → Perm (x ∷ xs) (x ∷ ys)
  swap : (x y : A) (xs : List A) → Perm (x ∷ y ∷ xs) (y ∷ x ∷ xs)
  join : (xs ys zs : List A) → Perm xs ys → Perm ys zs → Perm xs zs

pub perm_self : {A : Type 0} (xs : List A) → Perm xs xs
perm_self [] = stop
perm_self (x ∷ xs) = keep x xs xs (perm_self xs)

pub perm_sym : {A : Type 0} (xs ys : List A) → Perm xs ys → Perm ys xs
perm_sym _ _ stop = stop
perm_sym _ _ (keep x xs ys p) = keep x ys xs (perm_sym xs ys p)
perm_sym _ _ (swap x y xs) = swap y x xs
perm_sym _ _ (join xs ys zs p q) = join zs ys xs (perm_sym ys zs q) (perm_sym xs ys p)

-- the first goes to the middle
pub perm_mid : {A : Type 0} (x : A) (xs ys : List A) → Perm (x ∷ (xs ++ ys)) (xs ++ (x ∷ ys))
perm_mid x [] ys = perm_self (x ∷ ys)
perm_mid x (y ∷ xs) ys = join (x ∷ y ∷ (xs ++ ys)) (y ∷ x ∷ (xs ++ ys)) (y ∷ (xs ++ (x ∷ ys))) (swap x y (xs ++ ys)) (keep y (x ∷ (xs ++ ys)) (xs ++ (x ∷ ys)) (perm_mid x xs ys))

each_perm : {A : Type 0} (P : A → Type 0) (xs ys : List A) → Perm xs ys → Each P xs → Each P ys
each_perm P _ _ stop h = h
each_perm P _ _ (keep x xs ys p) h = (h.0, each_perm P xs ys p h.1)
each_perm P _ _ (swap x y xs) h = (h.1.0, (h.0, h.1.1))
each_perm P _ _ (join xs ys zs p q) h = each_perm P ys zs q (each_perm P xs ys p h)

pairwise_perm : {A : Type 0} (R : A → A → Type 0) → ((a b : A) → R a b → R b a) → (xs ys : List A) → Perm xs ys → Pairwise R xs → Pairwise R ys
pairwise_perm R s _ _ stop h = h
pairwise_perm R s _ _ (keep x xs ys p) h = (each_perm (R x) xs ys p h.0, pairwise_perm R s xs ys p h.1)
pairwise_perm R s _ _ (swap x y xs) h = ((s x y h.0.0, h.1.0), (h.0.1, h.1.1))
pairwise_perm R s _ _ (join xs ys zs p q) h = pairwise_perm R s ys zs q (pairwise_perm R s xs ys p h)

apart_sym : (a b : Buffer) → Apart a b → Apart b a
apart_sym a b x = (λ e. x.0 (sym e), λ d m n. x.1 d n m)

pub owns_perm : (base : ℕ → Option Hold) (bs cs : List Buffer) (k : Host) → Perm bs cs → Owns base bs k → Owns base cs k
owns_perm base bs cs k p x = record {
  own = each_perm _ bs cs p x.own;
  dealt = each_perm _ bs cs p x.dealt;
  new = each_perm _ bs cs p x.new;
  apart = pairwise_perm Apart apart_sym bs cs p x.apart;
  others = λ h away. x.others h (each_perm _ cs bs (perm_sym bs cs p) away);
}

-- ONE OF THEM
abbrev pub In : {A : Type 0} → A → List A → Type 0
In a [] = ⊥
In a (x ∷ xs) = (a ≡ x) ⊎ In a xs

pub in_left : {A : Type 0} (a : A) (xs ys : List A) → In a xs → In a (xs ++ ys)
in_left a (x ∷ xs) ys (inl e) = inl e
in_left a (x ∷ xs) ys (inr e) = inr (in_left a xs ys e)
in_left {A = A} a [] ys x' = elim x' [ ]

pub in_right : {A : Type 0} (a : A) (xs ys : List A) → In a ys → In a (xs ++ ys)
in_right a [] ys e = e
in_right a (x ∷ xs) ys e = inr (in_right a xs ys e)

pub in_books : (b : Buffer) (bs : List Buffer) (d : ℕ) → In b bs → Meets (spot_of b) d → InBooks bs d
in_books b (x ∷ xs) d (inl e) m = inl (subst (λ (c : Buffer). Meets (spot_of c) d) e m)
in_books b (x ∷ xs) d (inr e) m = inr (in_books b xs d e m)
in_books b [] d x'' m = elim x'' [ ]

-- its addresses are in use
pub owns_use : (bs : List Buffer) (k : Host) → Each (λ b. k.hand b.handle ≡ some (hold_of b)) bs → (d : ℕ) → InBooks bs d → InUse k d
owns_use (b ∷ bs) k x d (inl m) = (b.handle, hold_of b, x.0, inl m)
owns_use (b ∷ bs) k x d (inr m) = owns_use bs k x.1 d m
owns_use [] k x d x3 = elim x3 [ ]

-- and are the session's own
pub owns_ours : (bs : List Buffer) (k : Host) → Each (λ b. k.hand b.handle ≡ some (hold_of b)) bs → Each (λ b. standing b.handle k.log ≡ some b.pages) bs → (d : ℕ) → InBooks bs d → Ours k d
owns_ours (b ∷ bs) k x y d (inl m) = (b.handle, hold_of b, x.0, y.0, inl m)
owns_ours (b ∷ bs) k x y d (inr m) = owns_ours bs k x.1 y.1 d m
owns_ours [] k x y d x4 = elim x4 [ ]

-- where nothing was dealt there is none
pub owns_none : (bs : List Buffer) (k : Host) → Each (λ b. standing b.handle k.log ≡ some b.pages) bs → k.log ≡ [] → (d : ℕ) → InBooks bs d → ⊥
owns_none (b ∷ bs) k x e d m = none-ne-some b.pages (ap (standing b.handle) (sym e) ∙ x.0)
owns_none [] k x e d m = elim m [ ]

-- a deal under one handle leaves the others
pub out_other : (h x n : ℕ) (l : List Deal) → (h ≡ x → ⊥) → standing h (out x n ∷ l) ≡ standing h l
out_other h x n l e = ap (λ (b : Bool). pick b (some n) (standing h l)) (ne_eqb h x e)

pub out_same : (h n : ℕ) (l : List Deal) → standing h (out h n ∷ l) ≡ some n
out_same h n l = ap (λ (b : Bool). pick b (some n) (standing h l)) (eq-eqb h h refl)

pub back_other : (h x n : ℕ) (l : List Deal) → (h ≡ x → ⊥) → standing h (back x n ∷ l) ≡ standing h l
back_other h x n l e = ap (λ (b : Bool). pick b none (standing h l)) (ne_eqb h x e)

pub back_same : (h x n : ℕ) (l : List Deal) → h ≡ x → standing h (back x n ∷ l) ≡ none
back_same h x n l e = ap (λ (b : Bool). pick b none (standing h l)) (eq-eqb h x e)

-- GIVING BACK
freed_hand : (k : Host) (h n m : ℕ) → (m ≡ h → ⊥) → (hand_back (unmap_in k h) h n).hand m ≡ k.hand m
freed_hand k h n m e = put_other (unmap_in k h).hand h none m e ∙ put_other k.hand h (unmap_all (k.hand h)) m e

owns_free : (base : ℕ → Option Hold) (b : Buffer) (bs : List Buffer) (k : Host) → Owns base (b ∷ bs) k → Owns base bs (hand_back (unmap_in k b.handle) b.handle b.pages)
owns_free base b bs k x = record {
  own = each_both (Apart b) (λ c. k.hand c.handle ≡ some (hold_of c)) _ (λ c a e. freed_hand k b.handle b.pages c.handle (λ q. a.0 (sym q)) ∙ e) bs x.apart.0 x.own.1;
  dealt = each_both (Apart b) (λ c. standing c.handle k.log ≡ some c.pages) _ (λ c a e. back_other c.handle b.handle b.pages k.log (λ q. a.0 (sym q)) ∙ e) bs x.apart.0 x.dealt.1;
  new = x.new.1;
  apart = x.apart.1;
  others = λ h away. rest h away (eqb h b.handle) refl;
}
  where
    rest : (h : ℕ) → Each (λ c. h ≡ c.handle → ⊥) bs → (t : Bool) → eqb h b.handle ≡ t
        → ((hand_back (unmap_in k b.handle) b.handle b.pages).hand h ≡ base h) × (standing h (back b.handle b.pages ∷ k.log) ≡ none)
    rest h away true e =
        let q = eqb-true h b.handle e in
        (put_same (unmap_in k b.handle).hand b.handle none h q ∙ sym (ap base q ∙ x.new.0), back_same h b.handle b.pages k.log q)
    rest h away false e =
        let q = eqb-false h b.handle e in
        let o = x.others h (q, away) in
        (freed_hand k b.handle b.pages h q ∙ o.0, back_other h b.handle b.pages k.log q ∙ o.1)

-- the card uses nothing: a buffer is given back
pub safe_freeing : (i : List ℕ) (base : ℕ → Option Hold) (b : Buffer) (bs : List Buffer) (w : World) → Owns base (b ∷ bs) w.host → Quiet Empty w.card
    → Safe i w (freeing b.handle b.pages) (λ v r. Owns base bs v.host × Quiet Empty v.card)
safe_freeing i base b bs w x q = (
  record { hold = hold_of b; handed = x.own.0; own = x.dealt.0; unused = λ d s u. empty_uses w.card q d u },
  λ r v st.
      let q1 = quiet_stable Empty w.card v.card st.0 q in
      let e1 : v.host.hand b.handle ≡ unmap_all (some (hold_of b)) =
      ap (λ (k : Host). k.hand b.handle) st.1 ∙ put_same w.host.hand b.handle (unmap_all (w.host.hand b.handle)) b.handle refl ∙ ap unmap_all x.own.0 in (
        (
          record {
            hold = record { pages = b.pages; mapped = []; unmapped = spot_of b ∷ [] };
            handed = e1;
            own = ap (λ (k : Host). standing b.handle k.log) st.1 ∙ x.dealt.0;
            unused = λ d s u. empty_uses v.card q1 d u;
          },
          refl,
        ),
        λ s u st2. (
          subst (Owns base bs) (sym (st2.1 ∙ ap (λ (k : Host). hand_back k b.handle b.pages) st.1)) (owns_free base b bs w.host x),
          quiet_stable Empty v.card u.card st2.0 q1,
        ),
      ),
)
