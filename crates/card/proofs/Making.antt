-- A buffer is made: allocated and mapped, or given back at once.
use Prim.Native.Nat.{ℕ, ◌+◌, ◌-◌, ◌*◌, ◌%◌, ◌^◌, ◌≤◌}
use mathlib.Core.Bool.{Bool, true, false, ◌&&◌}
use mathlib.Core.List.{List, [], ◌∷◌}
use mathlib.Core.Logic.{inl, inr}
use mathlib.Core.Option.{Option, some, none, none-ne-some}
use mathlib.Core.Path.{◌≡◌, refl, sym, ◌∙◌, ap, subst}
use lib.Dec.{eqb, leb}
use borrow.Author.Tests.{eqb-true, eqb-false, leb-true}
use Rattle.fields.specs.Outcome.{Outcome, value, refused, pick}
use Rattle.dma.specs.Buffers.{pages_for, is_page, ends_within}
use Rattle.dma.specs.declared.Buffer.{Buffer}
use Rattle.pci.specs.Script.{ret, allocate, mapped, Bus, good, failed, Spot}
use Rattle.buffer.specs.Buffer.{by_outcome, release, on_map, on_allocate, allocating, making}
use Rattle.buffer.specs.declared.Fault.{Fault}
use Rattle.buffer.specs.declared.Fault.TheVariants as f
use Rattle.buffer.specs.declared.Made.{Made}
use Rattle.buffer.specs.declared.Made.TheVariants as m
use Rattle.card.specs.Card.{Card, put, Hold, Deal, back, standing, Host, Meets, On, or_else, second, map_at, unmap_all, hand_out, hand_back, MayUse, World, WorldStep}
use Rattle.card.specs.Safe.{Safe}
use Rattle.card.specs.Owns.{Each, Pairwise, spot_of, hold_of, InBooks, Apart, Owns}
use Rattle.card.proofs.Sequence.{safe_weaken, safe_pick}
use Rattle.card.proofs.Owns.{put_same, put_other, each_map, each_both, owns_use, owns_none, out_same, out_other, back_same, back_other}
use Rattle.card.specs.Known.{Stable}
use Rattle.card.proofs.Bools.{and_left, and_right}

-- what a buffer that was made is: as many pages as asked for, at an address that 18 does not refuse
pub record Sound (n : ℕ) (b : Buffer) : Type 0 where
  pub pages : b.pages ≡ n
  pub aligned : b.dev % 4096 ≡ 0
  pub fits : b.dev + n * 4096 ≤ 2 ^ 64

-- The card's facts I stand whatever a pending command does, and all that it may use is among the buffers that are there.
module _ (i : List ℕ) (base : ℕ → Option Hold) (bs : List Buffer) (I : Card → Type 1) (stable : Stable I) (bound : (c : Card) → I c → (d : ℕ) → MayUse c d → InBooks bs d) (l : Host) where
  -- the mailboxes are the first two buffers mapped
  abbrev pub Boxed : Buffer → Host → Type 0
  Boxed b k = (k.inbox ≡ or_else l.inbox (spot_of b)) × (k.outbox ≡ second l.inbox l.outbox (spot_of b))

  abbrev Unboxed : Host → Type 0
  Unboxed k = (k.inbox ≡ l.inbox) × (k.outbox ≡ l.outbox)

  abbrev pub Some : ℕ → World → Made → Type 1
  Some n w (m.Ready b) = Owns base (b ∷ bs) w.host × I w.card × Sound n b × Boxed b w.host
  Some n w (m.Refused x) = Owns base bs w.host × I w.card

  -- the handle is new, and behind it are pages that are mapped so
  record Extra (h n : ℕ) (ss us : List Spot) (k : Host) : Type 0 where
    pub this : k.hand h ≡ some (record { pages = n; mapped = ss; unmapped = us })
    pub given : standing h k.log ≡ some n
    pub own : Each (λ b. k.hand b.handle ≡ some (hold_of b)) bs
    pub dealt : Each (λ b. standing b.handle k.log ≡ some b.pages) bs
    pub new : Each (λ b. base b.handle ≡ none) bs
    pub apart : Pairwise Apart bs
    pub differ : Each (λ b. h ≡ b.handle → ⊥) bs
    pub fresh : base h ≡ none
    pub others : (x : ℕ) → (x ≡ h → ⊥) → Each (λ b. x ≡ b.handle → ⊥) bs → (k.hand x ≡ base x) × (standing x k.log ≡ none)

  -- what stands behind that handle is changed
  change : (h n : ℕ) (ss us ss' us' : List Spot) (k : Host) (y : Option Hold) (j : Host) → Extra h n ss us k → y ≡ some (record { pages = n; mapped = ss'; unmapped = us' })
      → j.hand ≡ put k.hand h y → j.log ≡ k.log → Extra h n ss' us' j
  change h n ss us ss' us' k y j x e q l = record {
    given = ap (standing h) l ∙ x.given;
    dealt = subst (λ (z : List Deal). Each (λ b. standing b.handle z ≡ some b.pages) bs) (sym l) x.dealt;
    this = ap (λ (f : ℕ → Option Hold). f h) q ∙ put_same k.hand h y h refl ∙ e;
    own = each_both (λ b. h ≡ b.handle → ⊥) (λ b. k.hand b.handle ≡ some (hold_of b)) _
        (λ b d z. ap (λ (f : ℕ → Option Hold). f b.handle) q ∙ put_other k.hand h y b.handle (λ t. d (sym t)) ∙ z) bs x.differ x.own;
    new = x.new;
    apart = x.apart;
    differ = x.differ;
    fresh = x.fresh;
    others = λ a d z. let o = x.others a d z in (ap (λ (f : ℕ → Option Hold). f a) q ∙ put_other k.hand h y a d ∙ o.0, ap (standing a) l ∙ o.1);
  }

  -- and it is given back
  dropped : (h n : ℕ) (ss us : List Spot) (k : Host) → Extra h n ss us k → Owns base bs (hand_back k h n)
  dropped h n ss us k x = record {
    own = each_both (λ b. h ≡ b.handle → ⊥) (λ b. k.hand b.handle ≡ some (hold_of b)) _ (λ b d z. put_other k.hand h none b.handle (λ t. d (sym t)) ∙ z) bs
        x.differ x.own;
    dealt = each_both (λ b. h ≡ b.handle → ⊥) (λ b. standing b.handle k.log ≡ some b.pages) _ (λ b d z. back_other b.handle h n k.log (λ t. d (sym t)) ∙ z) bs x.differ x.dealt;
    new = x.new;
    apart = x.apart;
    others = λ a away. rest a away (eqb a h) refl;
  }
    where
      rest : (a : ℕ) → Each (λ b. a ≡ b.handle → ⊥) bs → (t : Bool) → eqb a h ≡ t → ((hand_back k h n).hand a ≡ base a) × (standing a (back h n ∷ k.log) ≡ none)
      rest a away true e = let q = eqb-true a h e in (put_same k.hand h none a q ∙ sym (ap base q ∙ x.fresh), back_same a h n k.log q)
      rest a away false e = let q = eqb-false a h e in let o = x.others a q away in (put_other k.hand h none a q ∙ o.0, back_other a h n k.log q ∙ o.1)

  -- the card may not use an address that the host gave while the buffers were in use
  abbrev New : Spot → Type 0
  New s = (d : ℕ) → Meets s d → InBooks bs d → ⊥

  safe_give_up : (h n : ℕ) (x : Fault) (s : Spot) (w : World) → Extra h n (s ∷ []) [] w.host → New s → I w.card → Safe i w (release h n (m.Refused x)) (Some n)
  safe_give_up h n x s w held new j = (
    record { hold = record { pages = n; mapped = s ∷ []; unmapped = [] }; handed = held.this; own = held.given; unused = λ d z u. no w.card j d z u },
    λ r v st.
        let held1 = change h n (s ∷ []) [] [] (s ∷ []) w.host (unmap_all (w.host.hand h)) v.host held (ap unmap_all held.this) (ap (λ (k : Host). k.hand) st.1) (ap (λ (k : Host). k.log) st.1) in
        let j1 = stable w.card v.card st.0 j in (
          (record { hold = record { pages = n; mapped = []; unmapped = s ∷ [] }; handed = held1.this; own = held1.given; unused = λ d z u. no v.card j1 d z u }, refl),
          λ r2 u st2. (
            subst (Owns base bs) (sym st2.1) (dropped h n [] (s ∷ []) v.host held1),
            stable v.card u.card st2.0 j1,
          ),
        ),
  )
    where
      no : (c : Card) → I c → (d : ℕ) → On (s ∷ []) d → MayUse c d → ⊥
      no c y d (inl z) u = new d z (bound c y d u)
      no c y d (inr x3) u = elim x3 [ ]

  spot_is : (h n : ℕ) (s : Spot) → s.bytes ≡ n * 4096 → spot_of (record { handle = h; dev = s.address; pages = n }) ≡ s
  spot_is h n s e = λ t. record { address = s.address; bytes = sym e t }

  booked : (h n : ℕ) (s : Spot) (k : Host) → Extra h n (s ∷ []) [] k → New s → s.bytes ≡ n * 4096 → Owns base (record { handle = h; dev = s.address; pages = n } ∷ bs) k
  booked h n s k x new e = record {
    own = (x.this ∙ ap (λ (z : Spot). some (record { pages = n; mapped = z ∷ []; unmapped = [] })) (sym (spot_is h n s e)), x.own);
    dealt = (x.given, x.dealt);
    new = (x.fresh, x.new);
    apart = (far bs (λ d z. z) x.differ, x.apart);
    others = λ a away. x.others a away.0 away.1;
  }
    where
      far : (cs : List Buffer) → ((d : ℕ) → InBooks cs d → InBooks bs d) → Each (λ b. h ≡ b.handle → ⊥) cs → Each (Apart (record { handle = h; dev = s.address; pages = n })) cs
      far [] f d = tt
      far (c ∷ cs) f d = (
        (d.0, λ y q z. new y (subst (λ (t : Spot). Meets t y) (spot_is h n s e) q) (f y (inl z))),
        far cs (λ y z. f y (inr z)) d.1,
      )

  safe_spot : (h n : ℕ) (w : World) → Extra h n [] [] w.host → Unboxed w.host → I w.card → (r : Bus Spot) (v : World) → WorldStep w (mapped h (n * 4096)) r v → Safe i v (on_map h n r) (Some n)
  safe_spot h n w held x j failed v st = (
    (
      record {
        hold = record { pages = n; mapped = []; unmapped = [] };
        handed = ap (λ (k : Host). k.hand h) st.1 ∙ held.this;
        own = ap (λ (k : Host). standing h k.log) st.1 ∙ held.given;
        unused = λ d z u. z;
      },
      refl,
    ),
    λ r u st2. (
      subst (Owns base bs) (sym (st2.1 ∙ ap (λ (k : Host). hand_back k h n) st.1)) (dropped h n [] [] w.host held),
      stable v.card u.card st2.0 (stable w.card v.card st.0 j),
    ),
  )
  safe_spot h n w held x j (good s) v st = accepts (is_page s.address && ends_within s.address (n * 4096)) refl
    where
      held1 : Extra h n (s ∷ []) [] v.host
      held1 = change h n [] [] (s ∷ []) [] w.host (map_at s (w.host.hand h)) v.host held (ap (map_at s) held.this) (ap (λ (k : Host). k.hand) st.1.1) (ap (λ (k : Host). k.log) st.1.1)

      j1 : I v.card
      j1 = stable w.card v.card st.0 j

      new : New s
      new d a z = st.1.0 d a (owns_use bs w.host held.own d z)

      boxed : s.bytes ≡ n * 4096 → Boxed (record { handle = h; dev = s.address; pages = n }) v.host
      boxed e =
          subst (λ (z : Spot). (v.host.inbox ≡ or_else l.inbox z) × (v.host.outbox ≡ second l.inbox l.outbox z)) (sym (spot_is h n s e)) (
            ap (λ (k : Host). k.inbox) st.1.1 ∙ ap (λ (z : Option Spot). or_else z s) x.0,
            ap (λ (k : Host). k.outbox) st.1.1 ∙ ap (λ (z : Option Spot). second z w.host.outbox s) x.0 ∙ ap (λ (z : Option Spot). second l.inbox z s) x.1,
          )

      accepts : (b : Bool) → (is_page s.address && ends_within s.address (n * 4096)) ≡ b
          → Safe i v
          (by_outcome (pick {A = Outcome (Unit {0})} b (value tt) (refused 18 []))
          (λ u. pick (eqb s.bytes (n * 4096)) (ret (m.Ready (record { handle = h; dev = s.address; pages = n }))) (release h n (m.Refused f.Memory)))
          (release h n (m.Refused f.Address))) (Some n)
      accepts true q =
          safe_pick i (eqb s.bytes (n * 4096)) _ _ v (Some n)
          (λ e. (
            booked h n s v.host held1 new (eqb-true s.bytes (n * 4096) e),
            j1,
            let l = and_left (eqb (s.address % 4096) 0) (ends_within s.address (n * 4096)) q in
                let r = and_right (leb (n * 4096) (2 ^ 64 - 4096)) (leb (s.address + n * 4096) (2 ^ 64)) (and_right (eqb (s.address % 4096) 0) (ends_within s.address (n * 4096)) q) in
                record { pages = refl; aligned = eqb-true (s.address % 4096) 0 l; fits = leb-true (s.address + n * 4096) (2 ^ 64) r },
            boxed (eqb-true s.bytes (n * 4096) e),
          ))
          (λ e. safe_give_up h n f.Memory s v held1 new j1)
      accepts false q = safe_give_up h n f.Address s v held1 new j1

  handed : (h n : ℕ) (k : Host) → Owns base bs k → k.hand h ≡ none → Extra h n [] [] (hand_out k h n)
  handed h n k x e = record {
    this = put_same k.hand h _ h refl;
    given = out_same h n k.log;
    own = each_both (λ b. h ≡ b.handle → ⊥) (λ b. k.hand b.handle ≡ some (hold_of b)) _ (λ b d z. put_other k.hand h _ b.handle (λ t. d (sym t)) ∙ z) bs differ x.own;
    dealt = each_both (λ b. h ≡ b.handle → ⊥) (λ b. standing b.handle k.log ≡ some b.pages) _ (λ b d z. out_other b.handle h n k.log (λ t. d (sym t)) ∙ z) bs differ x.dealt;
    new = x.new;
    apart = x.apart;
    differ = differ;
    fresh = sym (x.others h differ).0 ∙ e;
    others = λ a d away. let o = x.others a away in (put_other k.hand h _ a d ∙ o.0, out_other a h n k.log d ∙ o.1);
  }
    where
      differ : Each (λ b. h ≡ b.handle → ⊥) bs
      differ = each_map (λ b. k.hand b.handle ≡ some (hold_of b)) _ (λ b z t. none-ne-some (hold_of b) (sym e ∙ ap k.hand t ∙ z)) bs x.own

  safe_allocating : (n : ℕ) (w : World) → w.host ≡ l → Owns base bs w.host → I w.card → Safe i w (allocating n) (Some n)
  safe_allocating n w q x j = (λ e d u. owns_none bs w.host x.dealt e d (bound w.card j d u), at)
    where
      at : (r : Bus ℕ) (v : World) → WorldStep w (allocate n) r v → Safe i v (on_allocate n r) (Some n)
      at failed v st = (subst (Owns base bs) (sym st.1) x, stable w.card v.card st.0 j)
      at (good h) v st =
          let held : Extra h n [] [] v.host = subst (Extra h n [] []) (sym st.1.1) (handed h n w.host x st.1.0) in
          let j1 = stable w.card v.card st.0 j in
          let boxes : Unboxed v.host = (ap (λ (k : Host). k.inbox) st.1.1 ∙ ap (λ (k : Host). k.inbox) q, ap (λ (k : Host). k.outbox) st.1.1 ∙ ap (λ (k : Host). k.outbox) q) in
          ((record { pages = n; mapped = []; unmapped = [] }, held.this, held.given, refl), λ r u st2. safe_spot h n v held boxes j1 r u st2)

  -- for so many bytes, which 18 may refuse before any question
  abbrev pub MadePost : (bytes : ℕ) → World → Made → Type 1
  MadePost bytes w (m.Ready b) = Owns base (b ∷ bs) w.host × I w.card × (pages_for bytes ≡ value b.pages) × Sound b.pages b × Boxed b w.host
  MadePost bytes w (m.Refused x) = Owns base bs w.host × I w.card

  made : (bytes n : ℕ) (v : World) (x : Made) → pages_for bytes ≡ value n → Some n v x → MadePost bytes v x
  made bytes n v (m.Ready b) e z = (
    z.0,
    z.1,
    e ∙ ap value (sym z.2.pages),
    record { pages = refl; aligned = z.2.aligned; fits = subst (λ (k : ℕ). b.dev + k * 4096 ≤ 2 ^ 64) (sym z.2.pages) z.2.fits },
    z.3,
  )
  made bytes n v (m.Refused x) e z = z

  pub safe_making : (bytes : ℕ) (w : World) → w.host ≡ l → Owns base bs w.host → I w.card → Safe i w (making bytes) (MadePost bytes)
  safe_making bytes w q x j = by_pages (pages_for bytes) refl
    where
      by_pages : (o : Outcome ℕ) → pages_for bytes ≡ o → Safe i w (by_outcome o allocating (ret (m.Refused f.Address))) (MadePost bytes)
      by_pages (value n) e = safe_weaken i (allocating n) w (Some n) (MadePost bytes) (safe_allocating n w q x j) (λ v a z. made bytes n v a e z)
      by_pages (refused k vs) e = (x, j)
