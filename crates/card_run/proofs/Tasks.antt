-- The other tasks can end well: on a card that does nothing of itself, and a host that hands out one handle and one page after the other.
use Rattle.std.specs.Prelude.{None, Ok}
use Prim.Native.Nat.{ℕ, zero, suc, ◌+◌, ◌-◌, ◌*◌, ◌/◌, ◌%◌, ◌^◌, ◌≤◌, ◌<◌, max}
use native.Mathlib.Nat.{le-max_left}
use native.Mathlib.Omega.{arith}
use mathlib.Core.Bool.{Bool, true, false, ◌&&◌, false≢true}
use mathlib.Core.List.{List, [], ◌∷◌}
use mathlib.Core.Logic.{◌⊎◌, inl, inr, ⊎_elim}
use mathlib.Core.Option.{some, none, some-injective, none-ne-some}
use mathlib.Core.Path.{◌≡◌, refl, sym, ◌∙◌, ap, subst}
use lib.Dec.{eqb, leb}
use borrow.Author.Tests.{eq-eqb, le-leb, eqb-true, eqb-false}
use lib.ListN.{set, replicate}
use Rattle.fields.specs.Outcome.{Outcome, value, refused, pick}
use Rattle.fields.proofs.Outcomes.{same_value, never_refused}
use Rattle.bars.specs.Bars.{bars}
use Rattle.bars.specs.declared.Pick.{Pick}
use Rattle.dma.specs.Buffers.{pages_for, is_page, ends_within}
use Rattle.hcr.specs.Words.{first_toggle}
use Rattle.pci.specs.Script.{Script, ret, good, failed, Spot, mapped}
use Rattle.pci.specs.declared.Answer.TheVariants as an
use Rattle.reset.specs.Reset.{dword_at, restore, vendor, written, semaphore, save, reset}
use Rattle.reset.specs.declared.ResetEnd.{ResetEnd}
use Rattle.reset.specs.declared.ResetEnd.TheVariants as e
use Rattle.reset.specs.declared.Control.TheVariants as c
use Rattle.buffer.specs.Buffer.{by_outcome, release, allocating, making}
use Rattle.buffer.specs.declared.Fault.TheVariants as f
use Rattle.buffer.specs.declared.Made.{Made}
use Rattle.buffer.specs.declared.Made.TheVariants as m
use Rattle.tasks.specs.Attributes.{attributing}
use Rattle.tasks.specs.declared.Attributes.TheVariants as t
use Rattle.tasks.specs.Claim.{claiming}
use Rattle.tasks.specs.declared.Claimed.TheVariants as l
use Rattle.uar.specs.Uar as u
use Rattle.uar.specs.Uar.{Found}
use Rattle.work.specs.Work.{looking}
use Rattle.card.specs.Card.{same, after_reset, Hold, Host, Meets, On, InUse, map_at, map_in, hand_out, World}
use Rattle.card.proofs.Owns.{put_same, put_other}
use Rattle.card_calls.proofs.Areas.{pages_few}
use Rattle.card_run.specs.Can.{Can}
use Rattle.card_run.proofs.Steps.{no_bytes, says_read, can_true}
use Rattle.card.proofs.Bools.{and_true}

-- the task ended so, and the world is as it was
pub record So {A : Type 0} (a : A) (w v : World) (x : A) : Type 1 where
  pub so : x ≡ a
  pub world : v ≡ w

-- ATTRIBUTES AND CLAIM
pub can_attributing : (w : World) → Can w attributing (So (t.Enabled 0) w)
can_attributing w = (
  good 0,
  w,
  (an.Qword 0, [], refl, omega arith, no_bytes),
  (same, refl),
  (good 0, w, (an.Qword 0, [], refl, omega arith, no_bytes), (same, refl), (good 0, w, (an.Qword 0, [], refl, omega arith, no_bytes), (same, refl), record { so = refl; world = refl })),
)

pub can_claiming : (w : World) → Can w claiming (So l.Good w)
can_claiming w = (
  failed,
  w,
  (an.Failed, [], refl, tt, no_bytes),
  (same, refl),
  (good 0, w, says_read 0 0x8069c 0 (omega arith), ((same, λ a b. absurd (false≢true (eq-eqb 0x8069c 0x80698 b))), refl), record { so = refl; world = refl }),
)

-- THE RESET
abbrev pub cleared : World → World
cleared w = record { card = after_reset w.card; host = w.host }

module _ (w : World) where
  abbrev Reset : World → ResetEnd → Type 1
  Reset = So e.Good (cleared w)

  can_restore : (n : ℕ) (ds : List ℕ) → Can (cleared w) (restore n ds) Reset
  unfolding restore
  can_restore zero ds = record { so = refl; world = refl }
  can_restore (suc n) ds = (good tt, cleared w, (an.Done, [], refl, tt, no_bytes), (same, refl), can_restore n ds)

  can_vendor : (n : ℕ) (next : Script ResetEnd) → Can (cleared w) next Reset → Can (cleared w) (vendor (suc n) next) Reset
  unfolding vendor
  can_vendor n next h = (good 0, cleared w, (an.Word 0, [], refl, omega arith, no_bytes), (same, refl), h)

  can_written : (ds : List ℕ) → Can w (written ds c.Absent) Reset
  can_written ds =
      (good tt, cleared w, (an.Done, [], refl, tt, no_bytes), ((w.card, same, same), refl), (tt, cleared w, (an.Done, [], refl, tt, no_bytes), (same, refl), can_vendor 1999 (restore 16 ds) (can_restore 16 ds)))

  can_semaphore : (n : ℕ) (next : Script ResetEnd) → Can w next Reset → Can w (semaphore n next) Reset
  unfolding semaphore
  can_semaphore zero next h = (good 0, w, says_read 0 0xf03fc 0 (omega arith), ((same, λ a b. absurd (false≢true (eq-eqb 0xf03fc 0x80698 b))), refl), h)
  can_semaphore (suc n) next h = (good 0, w, says_read 0 0xf03fc 0 (omega arith), ((same, λ a b. absurd (false≢true (eq-eqb 0xf03fc 0x80698 b))), refl), h)

  can_save : (n : ℕ) (ds : List ℕ) → Can w (save n ds) Reset
  unfolding save
  can_save zero ds = (failed, w, (an.Failed, [], refl, tt, no_bytes), (same, refl), can_semaphore 10000 (written ds c.Absent) (can_written ds))
  can_save (suc n) ds = (good 0, w, (an.Dword 0, [], refl, omega arith, no_bytes), (same, refl), can_save n (set ds (dword_at n) 0))

  pub can_reset : Can w reset Reset
  can_reset = can_save 16 (replicate 16 0)

-- THE UAR BAR: no BAR is there and no index answers, so the first candidate has no size
pub record Barless (w v : World) (x : Found) : Type 1 where
  pub bar : Pick
  pub so : x ≡ Ok bar
  pub size : bar.size ≡ None
  pub world : v ≡ w

pub can_finding : (w : World) → Can w u.finding (Barless w)
unfolding u.reading bars
can_finding w = (
  good 0,
  w,
  (an.Dword 0, [], refl, omega arith, no_bytes),
  (same, refl),
  (
    good 0,
    w,
    (an.Dword 0, [], refl, omega arith, no_bytes),
    (same, refl),
    (
      good 0,
      w,
      (an.Dword 0, [], refl, omega arith, no_bytes),
      (same, refl),
      (
        good 0,
        w,
        (an.Dword 0, [], refl, omega arith, no_bytes),
        (same, refl),
        (
          good 0,
          w,
          (an.Dword 0, [], refl, omega arith, no_bytes),
          (same, refl),
          (
            good 0,
            w,
            (an.Dword 0, [], refl, omega arith, no_bytes),
            (same, refl),
            (failed, w, (an.Failed, [], refl, tt, no_bytes), (same, refl), record { bar = _; so = refl; size = refl; world = refl }),
          ),
        ),
      ),
    ),
  ),
)

-- THE FIRST LOOK
pub can_looking : (w : World) → w.card.pending ≡ none → w.card.last ≡ none → Can w looking (So (first_toggle 0) w)
can_looking w p l = (
  good 0,
  w,
  says_read 0 0x80698 0 (omega arith),
  ((same, λ a b. record { while_pending = λ c e. absurd (none-ne-some c (sym p ∙ e)); when_done = λ t e f. absurd (none-ne-some t (sym l ∙ f)) }), refl),
  record { so = refl; world = refl },
)

-- A BUFFER. The handles from n on are free, no page from a on is in use, and each buffer has a page
pub record Room (n a : ℕ) (k : Host) : Type 0 where
  pub handles : (h : ℕ) → n ≤ h → k.hand h ≡ none
  pub pages : (d : ℕ) → InUse k d → d < a
  pub fewer : n ≤ a

pages_some : (bytes n : ℕ) → pages_for bytes ≡ value n → 1 ≤ n
pages_some bytes n e = by (leb bytes (2 ^ 64 - 4096)) e
  where
    by : (t : Bool) → pick t (value (max 1 ((bytes + 4095) / 4096))) (refused 18 []) ≡ value n → 1 ≤ n
    by true q = let s : max 1 ((bytes + 4095) / 4096) ≡ n = same_value q in let m = le-max_left 1 ((bytes + 4095) / 4096) in omega (arith, s, m)
    by false q = absurd (never_refused q)

pub record Grew (pages n a : ℕ) (w v : World) (x : Made) : Type 1 where
  pub made : x ≡ m.Ready (record { handle = n; dev = a * 4096; pages = pages })
  pub card : v.card ≡ w.card
  pub room : Room (suc n) (a + pages) v.host

module _ (n a pages : ℕ) (some_page : 1 ≤ pages) (few : pages < 2 ^ 52) (fits : a + pages ≤ 2 ^ 52) (w : World) (r : Room n a w.host) where
  abbrev spot : Spot
  spot = record { address = a * 4096; bytes = pages * 4096 }

  abbrev given : Host
  given = hand_out w.host n pages

  abbrev placed : Host
  placed = map_in given n spot

  new_handle : (h : ℕ) → suc n ≤ h → placed.hand h ≡ none
  new_handle h l =
      put_other given.hand n _ h (λ e. let z : ⊥ = omega (arith, l, e) in z) ∙ put_other w.host.hand n _ h (λ e. let z : ⊥ = omega (arith, l, e) in z) ∙ r.handles h (omega (arith, l))

  -- what is in use was so before, or is the new buffer
  given_use : (d : ℕ) → InUse given d → InUse w.host d
  given_use d (h, x, e, o) = by-handle (eqb h n) refl
    where
      by-handle : (b : Bool) → eqb h n ≡ b → InUse w.host d
      by-handle true q =
          let s : x ≡ record { pages = pages; mapped = []; unmapped = [] } =
          some-injective x _ (sym e ∙ put_same w.host.hand n (some (record { pages = pages; mapped = []; unmapped = [] })) h (eqb-true h n q)) in
          absurd (subst (λ (y : Hold). On y.mapped d) s o)
      by-handle false q = (h, x, sym (put_other w.host.hand n (some (record { pages = pages; mapped = []; unmapped = [] })) h (eqb-false h n q)) ∙ e, o)

  placed_use : (d : ℕ) → InUse placed d → (InUse given d) ⊎ Meets spot d
  placed_use d (h, x, e, o) = by-handle (eqb h n) refl
    where
      by-handle : (b : Bool) → eqb h n ≡ b → (InUse given d) ⊎ Meets spot d
      by-handle true q =
          let s : some x ≡ some (record { pages = pages; mapped = spot ∷ []; unmapped = [] }) =
          sym e ∙ put_same given.hand n (map_at spot (given.hand n)) h (eqb-true h n q) ∙ ap (map_at spot) (put_same w.host.hand n _ n refl) in
          ⊎_elim (λ m. inr m) (λ m. absurd m) (subst (λ (y : Hold). On y.mapped d) (some-injective x _ s) o)
      by-handle false q = inl (h, x, sym (put_other given.hand n (map_at spot (given.hand n)) h (eqb-false h n q)) ∙ e, o)

  page_below : (d : ℕ) → InUse placed d → d < a + pages
  page_below d z = ⊎_elim (λ y. let q = r.pages d (given_use d y) in omega (arith, q)) (λ y. let q = y.1 in omega (arith, q)) (placed_use d z)

  unused : (d : ℕ) → Meets spot d → InUse given d → ⊥
  unused d y z = let q = r.pages d (given_use d z) in let s = y.0 in let t : ⊥ = omega (arith, q, s) in t

  accepted : (is_page (a * 4096) && ends_within (a * 4096) (pages * 4096)) ≡ true
  accepted = and_true _ _ (eq-eqb (a * 4096 % 4096) 0 (omega arith)) (and_true _ _ (le-leb (pages * 4096) (2 ^ 64 - 4096) (omega (arith, few))) (le-leb (a * 4096 + pages * 4096) (2 ^ 64) (omega (arith, fits))))

  pub can_allocating : Can w (allocating pages) (Grew pages n a w)
  can_allocating = (
    good n,
    record { card = w.card; host = given },
    (an.Handle n, [], refl, (let q = r.fewer in omega (arith, fits, q)), no_bytes),
    (same, (r.handles n (omega arith), refl)),
    (
      good spot,
      record { card = w.card; host = placed },
      (an.Mapped (a * 4096) (pages * 4096), [], refl, (omega (arith, fits, some_page), omega (arith, few)), no_bytes),
      (same, (unused, refl)),
      subst (λ (b : Bool).
          Can (record { card = w.card; host = placed })
          (by_outcome (pick {A = Outcome (Unit {0})} b (value tt) (refused 18 []))
          (λ x. pick (eqb (pages * 4096) (pages * 4096)) (ret (m.Ready (record { handle = n; dev = a * 4096; pages = pages }))) (release n pages (m.Refused f.Memory)))
          (release n pages (m.Refused f.Address))) (Grew pages n a w)) (sym accepted)
          (can_true (record { card = w.card; host = placed }) (Grew pages n a w) (eqb (pages * 4096) (pages * 4096)) _ _ (eq-eqb (pages * 4096) (pages * 4096) refl)
          (record { made = refl; card = refl; room = record { handles = new_handle; pages = page_below; fewer = (let q = r.fewer in omega (arith, q, some_page)) } })),
    ),
  )

pub can_making : (bytes pages n a : ℕ) → pages_for bytes ≡ value pages → a + pages ≤ 2 ^ 52 → (w : World) → Room n a w.host → Can w (making bytes) (Grew pages n a w)
can_making bytes pages n a e fits w r =
    subst (λ (o : Outcome ℕ). Can w (by_outcome o allocating (ret (m.Refused f.Address))) (Grew pages n a w)) (sym e) (can_allocating n a pages (pages_some bytes pages e) (pages_few bytes pages e).0 fits w r)
