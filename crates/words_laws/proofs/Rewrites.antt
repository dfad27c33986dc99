-- WHAT IS WRITTEN BEHIND THE HEAD is read there, for bytes of any kind; and bytes that held a session hold it with what was written.
use Rattle.std.specs.Prelude.{Option}
use Prim.Native.Nat.{ℕ, zero, suc, ◌+◌, ◌*◌, ◌≤◌, ◌<◌, ◌^◌}
use mathlib.Core.Bool.{Bool, true, false}
use mathlib.Core.Path.{◌≡◌, refl, ap, sym, ◌∙◌}
use mathlib.Core.List.{List}
use native.Mathlib.Omega.{arith}
use borrow.Author.Tests.{lt-ltb, le-leb}
use lib.Dec.{ltb, leb, eqb}
use lib.ListN.{length, set, replicate}
use Rattle.fields.specs.Outcome.{value, pick}
use Rattle.words.specs.Places.{CAP, PORT, RESET, FIND, SLOT, SLOTS, cap_at, port1_at, port2_at, reset_at, find_at, slots_at, state_bytes}
use Rattle.words.specs.Words.{at, Below, words_in, put_words, rows_in}
use Rattle.words_books.specs.Coding.{slot_words, slot_of}
use Rattle.words_books.specs.Fits.{SlotFits}
use Rattle.words_books.proofs.Trip.{slot_back, slot_small}
use Rattle.words_info.specs.Coding.{cap_words, cap_of, port_words, port_of}
use Rattle.words_info.specs.Fits.{CapFits, PortFits}
use Rattle.words_info.proofs.Trip.{cap_back, cap_small, port_back, port_small}
use Rattle.words_beside.specs.Coding.{reset_words, reset_of, find_words, find_of}
use Rattle.words_beside.specs.Fits.{ResetFits, FindFits}
use Rattle.words_beside.proofs.Trip.{reset_back, reset_small, find_back, find_small}
use Rattle.reply.specs.declared.DevCap.{DevCap}
use Rattle.reply.specs.declared.PortInfo.{PortInfo}
use Rattle.reset.specs.Steps as rs
use Rattle.reset.specs.declared.Reset.{Reset}
use Rattle.uar.specs.Steps as us
use Rattle.uar.specs.declared.FindBar.{FindBar}
use Rattle.work.specs.declared.Task.{Task}
use Rattle.work.specs.declared.Task.TheVariants as t
use Rattle.session.specs.Core.{Behind, behind, full, noted, begun, is_reset, is_find, cap_in, port_in}
use Rattle.session.specs.declared.Core.{Core}
use Rattle.session.specs.declared.Slot.{Slot}
use Rattle.session.specs.declared.Stage.{Stage}
use Rattle.session.specs.declared.Note.{Note}
use Rattle.session.specs.declared.Note.TheVariants as n
use Rattle.behind.specs.Behind.{behind_from, behind_in, put_part, slot_put, noted_in, begun_in}
use Rattle.behind.proofs.Laws.{long, put_long, rows_set}
use Rattle.words_laws.specs.Kept.{NoteFits, Rewritten, Rewrites}
use Rattle.words_laws.proofs.Parts.{parts_decode, decode_parts}
use Rattle.words_laws.proofs.Put.{Apart, left, rows_left, part_length, here, put_cap, put_port1, put_port2, put_reset, put_find}
use Rattle.words_laws.proofs.Slots.{apart_before, put_slot}

-- nothing was written; one thing after another was
pub rewrites_none : (s : List ℕ) (b : Behind) → behind_in s ≡ b → Rewrites s s b
rewrites_none s b e r = record { enough = r; reads = e; holds = λ c d. d ∙ ap (λ (y : Behind). value (full c y)) e }

pub rewrites_then : (s z w : List ℕ) (b d : Behind) → Rewrites s z b → Rewrites z w d → Rewrites s w d
rewrites_then s z w b d f g r =
    let p = f r in
    let q = g p.enough in
    record { enough = q.enough; reads = q.reads; holds = λ c e. q.holds c (p.holds c e ∙ ap (λ (y : Behind). value (full c y)) (sym p.reads)) }

-- parts that are equal, one by one
same : {r r' : Reset} {f f' : FindBar} {c c' : DevCap} {p p' q q' : PortInfo} {l l' : List Slot}
    → r ≡ r' → f ≡ f' → c ≡ c' → p ≡ p' → q ≡ q' → l ≡ l' → behind r f c p q l ≡ behind r' f' c' p' q' l'
same a b d e g h = rw (a, b, d, e, g, h) refl

module _ (s : List ℕ) (r : state_bytes ≤ length s) where
  -- the part at j stays where m words are written at k
  kept : {A : Type 0} (g : List ℕ → A) (ws : List ℕ) (k m j n : ℕ) → length ws ≡ m → Apart k m j n → g (words_in (put_part k ws s) j n) ≡ g (words_in s j n)
  kept g ws k m j n l h = ap g (left s ws k m j n l r h)

  from : (ws : List ℕ) (k : ℕ) (b : Behind) → behind_from (put_part k ws s) ≡ b → behind_in (put_part k ws s) ≡ b
  from ws k b e = long (put_part k ws s) (part_length s ws k r) ∙ e

  is_there_lem : behind_from s ≡ behind_in s
  is_there_lem = sym (long s r)

-- EACH PART
pub rewrites_reset : (s : List ℕ) (v : Reset) → ResetFits v → let b = behind_in s in Rewrites s (put_part reset_at (reset_words v) s) (behind v b.find b.cap b.port1 b.port2 b.slots)
rewrites_reset s v fit r =
    let ws = reset_words v in
    let b = behind_in s in
    record {
      enough = part_length s ws reset_at r;
      reads = from s r ws reset_at (behind v b.find b.cap b.port1 b.port2 b.slots) (
          same (here reset_words reset_of reset_at RESET s v refl (reset_small v fit) (reset_back v fit) r (omega arith)).1
          (kept s r find_of ws reset_at RESET find_at FIND refl refl)
          (kept s r cap_of ws reset_at RESET cap_at CAP refl refl)
          (kept s r port_of ws reset_at RESET port1_at PORT refl refl)
          (kept s r port_of ws reset_at RESET port2_at PORT refl refl)
          (rows_left s ws reset_at RESET refl r (omega arith))
          ∙ ap (λ (y : Behind). behind v y.find y.cap y.port1 y.port2 y.slots) (is_there_lem s r));
      holds = λ c e. parts_decode _ _ (put_reset s c b v fit (decode_parts s (full c b) e));
    }

pub rewrites_find : (s : List ℕ) (v : FindBar) → FindFits v → let b = behind_in s in Rewrites s (put_part find_at (find_words v) s) (behind b.reset v b.cap b.port1 b.port2 b.slots)
rewrites_find s v fit r =
    let ws = find_words v in
    let b = behind_in s in
    record {
      enough = part_length s ws find_at r;
      reads = from s r ws find_at (behind b.reset v b.cap b.port1 b.port2 b.slots) (
          same (kept s r reset_of ws find_at FIND reset_at RESET refl refl)
          (here find_words find_of find_at FIND s v refl (find_small v fit) (find_back v fit) r (omega arith)).1
          (kept s r cap_of ws find_at FIND cap_at CAP refl refl)
          (kept s r port_of ws find_at FIND port1_at PORT refl refl)
          (kept s r port_of ws find_at FIND port2_at PORT refl refl)
          (rows_left s ws find_at FIND refl r (omega arith))
          ∙ ap (λ (y : Behind). behind y.reset v y.cap y.port1 y.port2 y.slots) (is_there_lem s r));
      holds = λ c e. parts_decode _ _ (put_find s c b v fit (decode_parts s (full c b) e));
    }

pub rewrites_cap : (s : List ℕ) (v : DevCap) → CapFits v → let b = behind_in s in Rewrites s (put_part cap_at (cap_words v) s) (behind b.reset b.find v b.port1 b.port2 b.slots)
rewrites_cap s v fit r =
    let ws = cap_words v in
    let b = behind_in s in
    record {
      enough = part_length s ws cap_at r;
      reads = from s r ws cap_at (behind b.reset b.find v b.port1 b.port2 b.slots) (
          same (kept s r reset_of ws cap_at CAP reset_at RESET refl refl)
          (kept s r find_of ws cap_at CAP find_at FIND refl refl)
          (here cap_words cap_of cap_at CAP s v refl (cap_small v fit) (cap_back v fit) r (omega arith)).1
          (kept s r port_of ws cap_at CAP port1_at PORT refl refl)
          (kept s r port_of ws cap_at CAP port2_at PORT refl refl)
          (rows_left s ws cap_at CAP refl r (omega arith))
          ∙ ap (λ (y : Behind). behind y.reset y.find v y.port1 y.port2 y.slots) (is_there_lem s r));
      holds = λ c e. parts_decode _ _ (put_cap s c b v fit (decode_parts s (full c b) e));
    }

pub rewrites_port1 : (s : List ℕ) (v : PortInfo) → PortFits v → let b = behind_in s in Rewrites s (put_part port1_at (port_words v) s) (behind b.reset b.find b.cap v b.port2 b.slots)
rewrites_port1 s v fit r =
    let ws = port_words v in
    let b = behind_in s in
    record {
      enough = part_length s ws port1_at r;
      reads = from s r ws port1_at (behind b.reset b.find b.cap v b.port2 b.slots) (
          same (kept s r reset_of ws port1_at PORT reset_at RESET refl refl)
          (kept s r find_of ws port1_at PORT find_at FIND refl refl)
          (kept s r cap_of ws port1_at PORT cap_at CAP refl refl)
          (here port_words port_of port1_at PORT s v refl (port_small v fit) (port_back v fit) r (omega arith)).1
          (kept s r port_of ws port1_at PORT port2_at PORT refl refl)
          (rows_left s ws port1_at PORT refl r (omega arith))
          ∙ ap (λ (y : Behind). behind y.reset y.find y.cap v y.port2 y.slots) (is_there_lem s r));
      holds = λ c e. parts_decode _ _ (put_port1 s c b v fit (decode_parts s (full c b) e));
    }

pub rewrites_port2 : (s : List ℕ) (v : PortInfo) → PortFits v → let b = behind_in s in Rewrites s (put_part port2_at (port_words v) s) (behind b.reset b.find b.cap b.port1 v b.slots)
rewrites_port2 s v fit r =
    let ws = port_words v in
    let b = behind_in s in
    record {
      enough = part_length s ws port2_at r;
      reads = from s r ws port2_at (behind b.reset b.find b.cap b.port1 v b.slots) (
          same (kept s r reset_of ws port2_at PORT reset_at RESET refl refl)
          (kept s r find_of ws port2_at PORT find_at FIND refl refl)
          (kept s r cap_of ws port2_at PORT cap_at CAP refl refl)
          (kept s r port_of ws port2_at PORT port1_at PORT refl refl)
          (here port_words port_of port2_at PORT s v refl (port_small v fit) (port_back v fit) r (omega arith)).1
          (rows_left s ws port2_at PORT refl r (omega arith))
          ∙ ap (λ (y : Behind). behind y.reset y.find y.cap y.port1 v y.slots) (is_there_lem s r));
      holds = λ c e. parts_decode _ _ (put_port2 s c b v fit (decode_parts s (full c b) e));
    }

pub rewrites_slot : (s : List ℕ) (i : ℕ) (v : Slot) → SlotFits v → i < SLOTS
    → let b = behind_in s in Rewrites s (slot_put i v s) (behind b.reset b.find b.cap b.port1 b.port2 (set b.slots i v))
rewrites_slot s i v fit h r =
    let ws = slot_words v in
    let k = slots_at + i * SLOT in
    let b = behind_in s in
    let d = behind b.reset b.find b.cap b.port1 b.port2 (set b.slots i v) in
    let is : slot_put i v s ≡ put_part (slots_at + i * SLOT) (slot_words v) s = rw (lt-ltb i SLOTS h) refl in
    let rows : rows_in slot_of SLOT (put_part (slots_at + i * SLOT) (slot_words v) s) slots_at SLOTS ≡ set (rows_in slot_of SLOT s slots_at SLOTS) i v =
    ap (λ (ys : List ℕ). rows_in slot_of SLOT ys slots_at SLOTS) (sym (put_long k ws s r)) ∙ rows_set slot_of SLOT slot_words v refl (slot_back v) (slot_small v fit) s slots_at SLOTS i h (omega arith) in
    record {
      enough = let e = ap length is in let l = part_length s ws k r in omega arith;
      reads = ap behind_in is ∙ from s r ws k d (
          same (kept s r reset_of ws k SLOT reset_at RESET refl (apart_before k SLOT reset_at RESET (omega arith)))
          (kept s r find_of ws k SLOT find_at FIND refl (apart_before k SLOT find_at FIND (omega arith)))
          (kept s r cap_of ws k SLOT cap_at CAP refl (apart_before k SLOT cap_at CAP (omega arith)))
          (kept s r port_of ws k SLOT port1_at PORT refl (apart_before k SLOT port1_at PORT (omega arith)))
          (kept s r port_of ws k SLOT port2_at PORT refl (apart_before k SLOT port2_at PORT (omega arith)))
          rows
          ∙ ap (λ (y : Behind). behind y.reset y.find y.cap y.port1 y.port2 (set y.slots i v)) (is_there_lem s r));
      holds = λ c e. parts_decode _ _ (put_slot s c b i v fit h (decode_parts s (full c b) e));
    }

-- A PLAN'S TASK BEGINS: a reset and a search that have not begun fit
pub none_below : (m n i : ℕ) → 0 < m → at (replicate n 0) i < m
none_below m zero i h = h
none_below m (suc n) zero h = h
none_below m (suc n) (suc i) h = none_below m n i h

pub reset_fits : ResetFits rs.started
reset_fits = record { phase = omega arith; control = tt; dwords = (refl, λ i. none_below (2 ^ 32) 16 i (omega arith)) }

pub find_fits : FindFits us.started
find_fits = record { phase = omega arith; dwords = (refl, λ i. none_below (2 ^ 32) 6 i (omega arith)) }

resets : (g : Bool) (s : List ℕ) → let b = behind_in s in
    Rewrites s (pick g (put_part reset_at (reset_words rs.started) s) s) (pick g (behind rs.started b.find b.cap b.port1 b.port2 b.slots) b)
resets true s = rewrites_reset s rs.started reset_fits
resets false s = rewrites_none s (behind_in s) refl

finds : (g : Bool) (s : List ℕ) → let b = behind_in s in
    Rewrites s (pick g (put_part find_at (find_words us.started) s) s) (pick g (behind b.reset us.started b.cap b.port1 b.port2 b.slots) b)
finds true s = rewrites_find s us.started find_fits
finds false s = rewrites_none s (behind_in s) refl

pub rewrites_begun : (g : Stage) (k : Task) (s : List ℕ) → Rewrites s (begun_in g k s) (begun g k (behind_in s))
rewrites_begun g t.Rest s = rewrites_none s (behind_in s) refl
rewrites_begun g (t.Attr y) s = rewrites_none s (behind_in s) refl
rewrites_begun g (t.Claim y) s = rewrites_none s (behind_in s) refl
rewrites_begun g t.Reset s = resets (is_reset g) s
rewrites_begun g t.Bar s = finds (is_find g) s
rewrites_begun g (t.Make y) s = rewrites_none s (behind_in s) refl
rewrites_begun g (t.Free y) s = rewrites_none s (behind_in s) refl
rewrites_begun g t.Look s = rewrites_none s (behind_in s) refl
rewrites_begun g (t.Cmd y) s = rewrites_none s (behind_in s) refl
rewrites_begun g (t.Part y) s = rewrites_none s (behind_in s) refl

-- A REPLY IS NOTED
ports : (g : Bool) (v : PortInfo) (s : List ℕ) → PortFits v → let b = behind_in s in
    Rewrites s (put_part (pick g port1_at port2_at) (port_words v) s) (behind b.reset b.find b.cap (pick g v b.port1) (pick g b.port2 v) b.slots)
ports true v s fit = rewrites_port1 s v fit
ports false v s fit = rewrites_port2 s v fit

pub rewrites_noted : (y : Note) (z : Option ℕ) (o s : List ℕ) → NoteFits y z o → Rewrites s (noted_in y z o s) (noted y z o (behind_in s))
rewrites_noted n.Nothing z o s fit = rewrites_none s (behind_in s) refl
rewrites_noted n.Cap z o s fit = rewrites_cap s (cap_in o z) fit
rewrites_noted (n.Port i) z o s fit = ports (eqb i 1) (port_in o i) s fit
