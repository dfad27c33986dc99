-- A client's calls can end well: a command, a lend, and an undo of one record.
use Prim.Native.Nat.{ℕ, zero, suc, ◌+◌, ◌-◌, ◌*◌, ◌^◌, ◌≤◌, ◌<◌}
use native.Mathlib.Omega.{arith}
use mathlib.Core.Bool.{Bool, true, false, false≢true}
use mathlib.Core.List.{List, [], ◌∷◌}
use mathlib.Core.Path.{◌≡◌, refl, sym, ap, subst}
use lib.Dec.{leb, ltb}
use lib.ListN.{length}
use Rattle.fields.specs.Outcome.{value, pick}
use Rattle.dma.specs.Buffers.{pages_for}
use Rattle.dma.specs.declared.Buffer.{Buffer}
use Rattle.hcr.specs.Words.{is_reserved}
use Rattle.pci.specs.declared.Refusal.TheVariants as x
use Rattle.buffer.specs.Buffer.{making}
use Rattle.buffer.specs.declared.Made.{Made}
use Rattle.buffer.specs.declared.Made.TheVariants as m
use Rattle.session.specs.Session.{wired, broken, listing, slot_at, in_slot, puts, lent_to}
use Rattle.session.specs.Failures.{broken_by}
use Rattle.session.specs.Course.{Here, here, slot, run}
use Rattle.session.specs.declared.Top.{Top}
use Rattle.session.specs.declared.Books.{Books}
use Rattle.session.specs.declared.Info.{Info}
use Rattle.session.specs.declared.Gave.{Gave}
use Rattle.session.specs.declared.Gave.TheVariants as gv
use Rattle.session.specs.declared.Failure.{Failure}
use Rattle.session.specs.declared.Closing.{Closing}
use Rattle.closing_plan.specs.Closing.{is_done, undo_post, popped}
use Rattle.client_plan.specs.Client.{post_of, readied, gave_by, gives, commanding, lend_at, lent_by, lending, undoing, undoing_to}
use Rattle.client_plan.specs.declared.Request.{Request}
use Rattle.card.specs.Card.{Card, World}
use Rattle.card_calls.specs.Holding.{Entries}
use Rattle.card_calls.proofs.Slots.{MadeIn, full, making_ends, put_here}
use Rattle.card_run.specs.Can.{no_undo, CanCourse}
use Rattle.card_run.proofs.Tasks.{Grew, can_making}
use Rattle.card_run.proofs.Courses.{empty, going, At, Spare, IsOpen, course_false, can-ends, can-sent}
use Rattle.card_run.proofs.Opening.{IsNothing}

-- WHAT IS GIVEN: by a lend a slot, which has a buffer of so many pages
abbrev pub IsCommand : Books → Gave → Type 0
IsCommand b y = (value us : ℕ) × (y ≡ gv.Command value us)

abbrev pub IsLent : ℕ → Books → Gave → Type 0
IsLent n b y = (i : ℕ) × (z : Buffer) × (y ≡ gv.Lent i) × (in_slot (slot_at b.lists.slots i) ≡ z ∷ []) × (z.pages ≡ n)

-- one lent buffer more, where there was none
module _ (z : Buffer) (b : Books) (k : Card) (room : length b.lists.slots ≡ 82) (u : At (going 0) b k) where
  abbrev put : Books
  put = puts 0 (full 0 z) b

  abbrev more : Books
  more = listing put (record { slots = put.lists.slots; ranges = put.lists.ranges; lends = put.lists.lends + 1 })

  lent_up : At (going 1) (lent_to put) k × (in_slot (slot_at (lent_to put).lists.slots 0) ≡ z ∷ [])
  lent_up = by (ltb b.lists.lends 64) (ap (λ (l : ℕ). ltb l 64) u.lends)
    where
      by : (t : Bool) → t ≡ true → At (going 1) (pick t more put) k × (in_slot (slot_at (pick t more put).lists.slots 0) ≡ z ∷ [])
      by true e = (
        record { idle = u.idle; running = u.running; broken = u.broken; silent = u.silent; lends = ap (λ (l : ℕ). l + 1) u.lends; started = u.started },
        ap in_slot (put_here b.lists.slots 0 (full 0 z) (omega (arith, room))),
      )
      by false e = absurd (false≢true e)

module _ (n : Info) (f : Failure) (c : Closing) where
  -- A COMMAND
  pub commands : (l : ℕ) (y : Request) (input : List ℕ) (b : Books) (h : Here) (w : World) → y.op < 0x1000 → y.op_mod < 0x100 → At (going l) b w.card
      → CanCourse w (commanding n f c y input b h) (IsOpen IsCommand l)
  unfolding commanding
  commands l y input b h w o q u =
      can-sent (IsOpen IsCommand l) b (post_of b y) (λ a d j. gives n f c (gave_by y.form a) (broken_by a d) j) (readied y.form input h) w (going l) o q u
      (λ us d v e s. record { gave = _; so = (_, us, refl); stage = refl; up = e })

  -- A LEND, in the first slot
  pub lends : (bytes pages : ℕ) (b : Books) (h : Here) (w : World) → pages_for bytes ≡ value pages → pages ≤ 2 ^ 51 → Spare w.host → Entries b → At (going 0) b w.card
      → CanCourse w (lending n f c bytes b h) (IsOpen (IsLent pages) 1)
  unfolding lending
  lends bytes pages b h w e p s a u =
      let few = s.few in
      let none = u.lends in
      let size = a.room in
      let z : Buffer = record { handle = s.at; dev = s.page * 4096; pages = pages } in
      subst (λ (i : ℕ). CanCourse w (run (lend_at i) (making bytes) (λ y d j. lent_by n f c i y d j) b h) (IsOpen (IsLent pages) 1)) (sym none)
      (can-ends (IsOpen (IsLent pages) 1) (λ y d j. lent_by n f c 0 y d j) (Grew pages s.at s.page w) (slot 0 0) (making bytes) b (MadeIn 0 0 b) h w
      (can_making bytes pages s.at s.page e (omega (arith, few, p)) w s.room)
      (making_ends 0 0 b (omega (arith, size)) (a.unlent 0 (omega (arith, none)) (omega arith)) bytes)
      (λ v y d j x o.
      let made : d ≡ puts 0 (full 0 z) b = subst (λ (m : Made). MadeIn 0 0 b m d) x.made o in
      let up = lent_up z b v.card size (subst (At (going 0) b) (sym x.card) u) in
      subst (λ (m : Made). CanCourse v (lent_by n f c 0 m d j) (IsOpen (IsLent pages) 1)) (sym x.made)
      (subst (λ (q : Books). CanCourse v (lent_by n f c 0 (m.Ready z) q j) (IsOpen (IsLent pages) 1)) (sym made) (record { gave = gv.Lent 0; so = (0, z, refl, up.1, refl); stage = refl; up = up.0 }))))

  -- AN UNDO OF ONE RECORD: behind it none is left
  undone : (l k : ℕ) (b : Books) (i o : List ℕ) (w : World) → At (going l) b w.card → CanCourse w (undoing n f c 0 k b (here i o no_undo)) (IsOpen IsNothing l)
  unfolding undoing
  undone l zero b i o w u = record { gave = gv.Nothing; so = refl; stage = refl; up = u }
  undone l (suc k) b i o w u = record { gave = gv.Nothing; so = refl; stage = refl; up = u }

  undoes_one : (l k : ℕ) (b : Books) (i o : List ℕ) (t : Top) (w : World) → leb t.count 0 ≡ false → is_reserved t.op ≡ false → t.op < 0x1000 → t.op_mod < 0x100 → At (going l) b w.card
      → CanCourse w (undoing n f c 0 (suc k) b (here i o t)) (IsOpen IsNothing l)
  unfolding undoing
  undoes_one l k b i o t w e r p q u =
      let Q = IsOpen IsNothing l in
      course_false Q (leb t.count 0) _ _ w e (course_false Q b.wire.broken _ _ w u.broken (course_false Q (is_reserved t.op) _ _ w r
      (can-sent Q b (undo_post t) (λ a d j. pick (is_done a) (undoing n f c 0 k d j) (gives n f c (gv.Failed x.Undo) (wired d (broken d.wire)) j)) (here i o (popped t)) w (going l) p q u
      (λ us d v a s. undone l k d i empty v a))))

  pub undoes : (l : ℕ) (b : Books) (i o : List ℕ) (t : Top) (w : World) → leb t.count 0 ≡ false → is_reserved t.op ≡ false → t.op < 0x1000 → t.op_mod < 0x100 → At (going l) b w.card
      → CanCourse w (undoing_to n f c 0 b (here i o t)) (IsOpen IsNothing l)
  undoes l b i o t w e r p q u = undoes_one l (2 ^ 32 - 2) b i o t w e r p q u
